use Rattle.std.proofs.Common.{◌-◌, List}
use Rattle.fst_code.specs.Plain.{plain_code}
use Rattle.fst_machine.specs.States.{StateIs, StateIsFit}
use Rattle.fst_machine.specs.Turns.{Tsk, Frm, machine_run}
use Rattle.fst_machine.proofs.RunLemmas.{Reaches}
use Rattle.fst_machine.proofs.state.State.run.Given as goal

abbrev pub invariant-loop-unit : goal.invariant-loop-unit
invariant-loop-unit l = let P = plain_code l.code in StateIsFit P l.self × ((t : Tsk) (fs : List Frm) → StateIs l.fn.self t fs → Reaches P l.self (l.fuel - l._unit) (machine_run P l.fuel t fs))
