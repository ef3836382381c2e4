use Rattle.std.proofs.Common.{◌≡◌, drop}
use Rattle.fst_rows.specs.Plain.{coefficients}
use Rattle.fst_terms.specs.Elimination.{coef_in}
use Rattle.fst_linear.proofs.pairs.coef.Given as goal

abbrev pub invariant-loop-coef : goal.invariant-loop-coef
invariant-loop-coef l = coef_in (coefficients l.row.coefs) l.unknown ≡ coef_in (coefficients (drop l.coef-index l.coef-items)) l.unknown
