use Rattle.std.proofs.Common.{length, ◌↔◌}
use Rattle.fst_terms.specs.Rows.{Rise}
use Rattle.fst_rows.specs.Plain.{coefficients}
use Rattle.fst_rows.proofs.ordered.is_rising.Given as goal

abbrev pub invariant-loop-rest : goal.invariant-loop-rest
invariant-loop-rest l = Rise l.from (coefficients l.rest) ↔ Rise 0 (coefficients l.coefs)

abbrev pub decreases-loop-rest : goal.decreases-loop-rest
decreases-loop-rest l = length l.rest
