-- Runs of the machine's state.
use Rattle.std.proofs.Common.{◌≡◌, ℕ, suc, List, reverse, Result, Ok, Err, Option, Some, None, sym, subst, IsTrue}
use Rattle.fst_program.specs.Plain.{plain_comp, plain_dm}
use Rattle.fst_program.specs.Texts.{Prog}
use Rattle.fst_program.specs.Runs.{Outcome, Done, Out, Wide, Stuck, GhostOut}
use Rattle.fst_cells.specs.declared.cell.Cell.{Cell}
use Rattle.fst_machine.specs.declared.stop.Stop.{Stop}
use Rattle.fst_machine.specs.declared.stop.Stop.TheVariants as stop
use Rattle.fst_machine.specs.declared.state.Task.TheVariants as task
use Rattle.fst_machine.specs.declared.state.State.{State}
use Rattle.fst_terms.specs.Meaning.{Env}
use Rattle.fst_machine.specs.Memories.{IsChain}
use Rattle.fst_machine.specs.States.{HeaderIs, FramesAre, TaskIs, StateIs, TurnIs, StateIsFit, RunIs}
use Rattle.fst_machine.specs.Turns.{IsCode, CodeTask, Hdr, def_turn, Tsk, run_text, run_def, Frm, Turn, next, over, stopped, turn, go_on, machine_run}
use Rattle.fst_code.specs.Sound.{is_sound}
use Rattle.fst_machine.proofs.SoundLemmas.{sound-code}
use Rattle.fst_machine.proofs.TurnLemmas.{CodeTurn, turn-code}

-- the text that runs in a state of code is code
pub state-text : (P : Prog) (s : State) (text : _) (env : _) (input : _) → s.task ≡ task.Text text env input → StateIsFit P s → IsCode P (plain_comp text.now)
state-text P s text env input q h = go h.0 (subst (λ x. TaskIs s.memory x h.0) q h.1.1.0.0) h.1.1.1
  where
    go : (t : Tsk) → TaskIs s.memory (task.Text text env input) t → CodeTask P t → IsCode P (plain_comp text.now)
    go (run_text d e i) k f = subst (IsCode P) (sym k.0) f
    go (run_def d e x) k f = absurd k

-- after a unit that goes on the state is one of code
pub turned-fit : (P : Prog) (s s' : State) → IsTrue (is_sound P) → StateIsFit P s → ((t : Tsk) (fs : List Frm) → StateIs s t fs → TurnIs s' (Ok None) (turn P t fs)) → StateIsFit P s'
turned-fit P s s' sound h k = go (turn P h.0 h.1.0) (k h.0 h.1.0 h.1.1.0) (turn-code P (sound-code P sound) h.0 h.1.0 h.1.1.1 h.1.1.2)
  where
    go : (n : Turn) → TurnIs s' (Ok None) n → CodeTurn P n → StateIsFit P s'
    go (next t fs) is fits = (t, (fs, (is, fits.0, fits.1)))
    go (over v) is fits = absurd is
    go (stopped o) is fits = absurd is

-- the state reached gives what the first one gives
abbrev pub Reaches : Prog → State → (fuel : ℕ) → Outcome → Type 0
Reaches P s F o = (t : Tsk) × ((fs : List Frm) × (StateIs s t fs × (machine_run P F t fs ≡ o)))

pub reached-next : (P : Prog) (s s' : State) (F : ℕ) (o : Outcome) → Reaches P s (suc F) o → ((t : Tsk) (fs : List Frm) → StateIs s t fs → TurnIs s' (Ok None) (turn P t fs)) → Reaches P s' F o
reached-next P s s' F o h k = go (turn P h.0 h.1.0) (k h.0 h.1.0 h.1.1.0) h.1.1.1
  where
    go : (n : Turn) → TurnIs s' (Ok None) n → go_on P (machine_run P F) F n ≡ o → Reaches P s' F o
    go (next t fs) is q = (t, (fs, (is, q)))
    go (over v) is q = absurd is
    go (stopped p) is q = absurd is

pub reached-end : (P : Prog) (s s' : State) (F : ℕ) (o : Outcome) (r : Result (Option Cell) Stop) (c : Cell) → r ≡ Ok (Some c) → Reaches P s (suc F) o → ((t : Tsk) (fs : List Frm) → StateIs s t fs → TurnIs s' r (turn P t fs)) → RunIs s'.memory r o
reached-end P s s' F o r c e h k = subst (λ r. RunIs s'.memory r o) (sym e) (go (turn P h.0 h.1.0) (subst (λ r. TurnIs s' r (turn P h.0 h.1.0)) e (k h.0 h.1.0 h.1.1.0)) h.1.1.1)
  where
    go : (n : Turn) → TurnIs s' (Ok (Some c)) n → go_on P (machine_run P F) F n ≡ o → RunIs s'.memory (Ok (Some c)) o
    go (next t fs) is q = absurd is
    go (over v) is q = subst (RunIs s'.memory (Ok (Some c))) q is
    go (stopped p) is q = absurd is

pub reached-stop : (P : Prog) (s s' : State) (F : ℕ) (o : Outcome) (r : Result (Option Cell) Stop) (x : Stop) → r ≡ Err x → Reaches P s (suc F) o → ((t : Tsk) (fs : List Frm) → StateIs s t fs → TurnIs s' (Err x) (turn P t fs)) → RunIs s'.memory r o
reached-stop P s s' F o r x e h k = subst (λ r. RunIs s'.memory r o) (sym e) (go x (turn P h.0 h.1.0) (k h.0 h.1.0 h.1.1.0) h.1.1.1)
  where
    go : (x : Stop) (n : Turn) → TurnIs s' (Err x) n → go_on P (machine_run P F) F n ≡ o → RunIs s'.memory (Err x) o
    go stop.NoMemory n is q = tt
    go stop.PastRange (stopped Wide) is q = subst (RunIs s'.memory (Err stop.PastRange)) q tt
    go stop.PastRange (stopped (Done v l)) is q = absurd is
    go stop.PastRange (stopped Out) is q = absurd is
    go stop.PastRange (stopped (Stuck at)) is q = absurd is
    go stop.PastRange (stopped GhostOut) is q = absurd is
    go stop.PastRange (next t fs) is q = absurd is
    go stop.PastRange (over v) is q = absurd is
    go (stop.Stuck p) (stopped (Stuck at)) is q = subst (RunIs s'.memory (Err (stop.Stuck p))) q is
    go (stop.Stuck p) (stopped (Done v l)) is q = absurd is
    go (stop.Stuck p) (stopped Out) is q = absurd is
    go (stop.Stuck p) (stopped Wide) is q = absurd is
    go (stop.Stuck p) (stopped GhostOut) is q = absurd is
    go (stop.Stuck p) (next t fs) is q = absurd is
    go (stop.Stuck p) (over v) is q = absurd is

pub reached-out : (P : Prog) (s : State) (F : ℕ) (o : Outcome) → F ≡ 0 → Reaches P s F o → RunIs s.memory (Ok None) o
reached-out P s F o q h = subst (RunIs s.memory (Ok None)) (subst (λ n. machine_run P n h.0 h.1.0 ≡ o) q h.1.1.1) tt

pub turned-def : (P : Prog) (s s' : State) (r : Result (Option Cell) Stop) (text : _) (env : _) (x : _) → s.task ≡ task.Definition text env x
    → ((e : Env) (h : Hdr) (fs : List Frm) → IsChain s.memory env e → HeaderIs s.memory x h → FramesAre s.memory (reverse s.frames) fs → TurnIs s' r (def_turn P (plain_dm text.now) e h fs))
    → (t : Tsk) (fs : List Frm) → StateIs s t fs → TurnIs s' r (turn P t fs)
turned-def P s s' r text env x q k t fs h = go t (subst (λ x. TaskIs s.memory x t) q h.0)
  where
    go : (t : Tsk) → TaskIs s.memory (task.Definition text env x) t → TurnIs s' r (turn P t fs)
    go (run_text d e i) n = absurd n
    go (run_def d e y) n = subst (λ d. TurnIs s' r (def_turn P d e y fs)) n.0 (k e y fs n.1 n.2 h.1)
