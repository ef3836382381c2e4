-- The plain state that a machine's state stands for.
use Rattle.std.specs.Prelude.{◌≡◌, List, [], ◌∷◌, reverse, Option, Some, None, Result, Ok, Err, ⊤}
use Rattle.fst_program.specs.Plain.{plain_comp, plain_dm}
use Rattle.fst_program.specs.Runs.{Outcome, Done, Out, Wide, Stuck}
use Rattle.fst_program.specs.Texts.{Prog}
use Rattle.fst_cells.specs.declared.cell.Cell.{Cell}
use Rattle.fst_machine.specs.declared.memory.Memory.{Memory}
use Rattle.fst_machine.specs.declared.stop.Stop.{Stop}
use Rattle.fst_machine.specs.declared.stop.Stop.TheVariants as stop
use Rattle.fst_machine.specs.declared.state.Header as H
use Rattle.fst_machine.specs.declared.state.Header.TheVariants as header
use Rattle.fst_machine.specs.declared.state.Task as T
use Rattle.fst_machine.specs.declared.state.Task.TheVariants as task
use Rattle.fst_machine.specs.declared.state.Frame as F
use Rattle.fst_machine.specs.declared.state.Frame.TheVariants as frame
use Rattle.fst_machine.specs.declared.state.State.{State}
use Rattle.fst_machine.specs.Memories.{IsCell, InputIs, IsChain}
use Rattle.fst_machine.specs.Turns.{Hdr, no_header, lift_header, bind_header, Tsk, run_text, run_def, Frm, let_rest, def_rest, return_rest, Turn, next, over, stopped, CodeTask, CodeFrames}

abbrev pub HeaderIs : Memory → H.Header → Hdr → Type 0
HeaderIs m header.None no_header = ⊤
HeaderIs m (header.Lift c env) (lift_header d e) = (plain_comp c.now ≡ d) × IsChain m env e
HeaderIs m (header.Bind c1 c2 env) (bind_header d1 d2 e) = (plain_comp c1.now ≡ d1) × (plain_comp c2.now ≡ d2) × IsChain m env e
HeaderIs m _ _ = ⊥

abbrev pub TaskIs : Memory → T.Task → Tsk → Type 0
TaskIs m (task.Text c env input) (run_text d e s) = (plain_comp c.now ≡ d) × IsChain m env e × InputIs m input s
TaskIs m (task.Definition c env h) (run_def d e k) = (plain_dm c.now ≡ d) × IsChain m env e × HeaderIs m h k
TaskIs m _ _ = ⊥

abbrev pub FrameIs : Memory → F.Frame → Frm → Type 0
FrameIs m (frame.Let c env input) (let_rest d e s) = (plain_comp c.now ≡ d) × IsChain m env e × InputIs m input s
FrameIs m (frame.Definition c env h) (def_rest d e k) = (plain_dm c.now ≡ d) × IsChain m env e × HeaderIs m h k
FrameIs m (frame.Return c input) (return_rest d s) = (plain_dm c.now ≡ d) × InputIs m input s
FrameIs m _ _ = ⊥

-- these frames stand for those, in the same order
abbrev pub FramesAre : Memory → List F.Frame → List Frm → Type 0
FramesAre m [] [] = ⊤
FramesAre m (f ∷ fs) (g ∷ gs) = FrameIs m f g × FramesAre m fs gs
FramesAre m _ _ = ⊥

abbrev pub StateIs : State → Tsk → List Frm → Type 0
StateIs s t fs = TaskIs s.memory s.task t × FramesAre s.memory (reverse s.frames) fs

-- what a unit leads to: the next state, the run's value, or its fault; want of memory may come in place of each
abbrev pub TurnIs : State → Result (Option Cell) Stop → Turn → Type 0
TurnIs s (Ok None) (next t fs) = StateIs s t fs
TurnIs s (Ok (Some c)) (over v) = IsCell s.memory c v
TurnIs s (Err stop.PastRange) (stopped Wide) = ⊤
TurnIs s (Err (stop.Stuck p)) (stopped (Stuck at)) = p.at ≡ at
TurnIs s (Err stop.NoMemory) t = ⊤
TurnIs s _ _ = ⊥

-- what the state stands for is code
abbrev pub StateIsFit : Prog → State → Type 0
StateIsFit P s = (t : Tsk) × ((fs : List Frm) × (StateIs s t fs × CodeTask P t × CodeFrames P fs))

-- what a run of the machine gives: the value, no more than out of fuel, or its fault; want of memory may come in place of each
abbrev pub RunIs : Memory → Result (Option Cell) Stop → Outcome → Type 0
RunIs m (Ok None) Out = ⊤
RunIs m (Ok (Some c)) (Done v left) = IsCell m c v
RunIs m (Err stop.PastRange) Wide = ⊤
RunIs m (Err (stop.Stuck p)) (Stuck at) = p.at ≡ at
RunIs m (Err stop.NoMemory) o = ⊤
RunIs m _ _ = ⊥
