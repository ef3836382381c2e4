use Rattle.std.proofs.Common.{◌≡◌, length}
use Rattle.fst_cases.proofs.cores.nothing.Given as goal

abbrev pub invariant-loop-at : goal.invariant-loop-at
invariant-loop-at l = length l.wants.items ≡ l._at
