use Rattle.std.proofs.Common.{◌≡◌, ◌≤◌, length, drop}
use Rattle.fst_terms.specs.Rows.{divisor}
use Rattle.fst_rows.specs.Plain.{coefficients}
use Rattle.fst_rows.proofs.divide.divisor.Given as goal

abbrev pub invariant-loop-at : goal.invariant-loop-at
invariant-loop-at l = (l.at ≤ length l.coefs) × (l.so_far ≡ divisor (drop l.at (coefficients l.coefs)))

abbrev pub decreases-loop-at : goal.decreases-loop-at
decreases-loop-at l = l.at
