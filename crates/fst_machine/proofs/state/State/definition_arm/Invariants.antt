use Rattle.std.proofs.Common.{◌≡◌, List, drop}
use Rattle.fst_base.specs.Values.{Val}
use Rattle.fst_terms.specs.Meaning.{Env}
use Rattle.fst_machine.specs.Arms.{plain_dm_arms}
use Rattle.fst_machine.specs.Memories.{Keeps, IsCell, IsChain}
use Rattle.fst_machine.specs.Turns.{Hdr, Frm, def_arm_turn}
use Rattle.fst_machine.proofs.state.State.definition_arm.Given as goal

abbrev pub invariant-loop-arm : goal.invariant-loop-arm
invariant-loop-arm l = (l.self.frames ≡ l.fn.self.frames) × Keeps l.fn.self.memory l.self.memory × ((v : Val) (e : Env) (h : Hdr) (fs : List Frm) → IsCell l.fn.self.memory l.cell v → IsChain l.fn.self.memory l.env e
    → def_arm_turn (plain_dm_arms l.arms) v e h fs ≡ def_arm_turn (plain_dm_arms (drop l.arm-index l.arms)) v e h fs)
