use Rattle.std.proofs.Common.{◌≡◌, ◌-◌, ◌++◌, length}
use Rattle.fst_cases.specs.Cited.{core_list}
use Rattle.fst_cases.proofs.cores.core_of.Given as goal

abbrev pub invariant-loop-done : goal.invariant-loop-done
invariant-loop-done l = core_list l.wants l.marks (length l.marks) ≡ l.core ++ core_list l.wants l.marks (length l.marks - l.done)
