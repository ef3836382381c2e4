use Rattle.std.proofs.Common.{◌+◌, length}
use Rattle.fst_rows.specs.Exact.{sign}
use Rattle.fst_rows.specs.Plain.{coefficients}
use Rattle.fst_rows.proofs.ExactLemmas.{Adding}
use Rattle.fst_rows.proofs.exact.added.Given as goal

abbrev pub invariant-loop-c : goal.invariant-loop-c
invariant-loop-c l = Adding (sign l.minus) (coefficients l.fn.a) (coefficients l.fn.b) (coefficients l.a) (coefficients l.b) (coefficients l.sum.items)

abbrev pub decreases-loop-c : goal.decreases-loop-c
decreases-loop-c l = length l.a + length l.b
