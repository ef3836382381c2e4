use Rattle.std.proofs.Common.{◌≡◌, List, drop}
use Rattle.fst_base.specs.Values.{Val}
use Rattle.fst_terms.specs.Meaning.{Env}
use Rattle.fst_machine.specs.Arms.{plain_arms}
use Rattle.fst_machine.specs.Memories.{Keeps, IsCell, IsChain}
use Rattle.fst_machine.specs.Turns.{Frm, arm_turn}
use Rattle.fst_machine.proofs.state.State.arm.Given as goal

abbrev pub invariant-loop-arm : goal.invariant-loop-arm
invariant-loop-arm l = (l.self.frames ≡ l.fn.self.frames) × Keeps l.fn.self.memory l.self.memory × ((v : Val) (e : Env) (s : Val) (fs : List Frm) → IsCell l.fn.self.memory l.cell v → IsChain l.fn.self.memory l.env e
    → arm_turn (plain_arms l.arms) l.at.at v e s fs ≡ arm_turn (plain_arms (drop l.arm-index l.arms)) l.at.at v e s fs)
