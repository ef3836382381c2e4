use Rattle.std.proofs.Common.{◌≡◌, ◌+◌, ◌++◌, length}
use Rattle.fst_cases.specs.Knowing.{joined}
use Rattle.fst_cases.proofs.merging.joined.Given as goal

abbrev pub invariant-loop-known : goal.invariant-loop-known
invariant-loop-known l = joined l.initial.left l.initial.right ≡ l.all ++ joined l.left l.right

abbrev pub decreases-loop-known : goal.decreases-loop-known
decreases-loop-known l = length l.left + length l.right
