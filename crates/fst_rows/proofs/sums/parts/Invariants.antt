use Rattle.std.proofs.Common.{◌≡◌, take}
use Rattle.fst_terms.specs.Rows.{parts}
use Rattle.fst_rows.specs.Plain.{coefficients}
use Rattle.fst_rows.proofs.sums.parts.Given as goal

abbrev pub invariant-loop-coef : goal.invariant-loop-coef
invariant-loop-coef l = coefficients l.out.items ≡ parts l.g (coefficients (take l.coef-index l.coefs))
