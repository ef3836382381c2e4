use Rattle.std.proofs.Common.{◌≡◌, take, pos, ◌+ℤ◌, ◌*ℤ◌}
use Rattle.fst_rows.specs.Plain.{coefficients}
use Rattle.fst_terms.specs.Rows.{sum_at}
use Rattle.fst_linear.specs.Values.{values_of}
use Rattle.fst_linear.proofs.solution.value.Given as goal

abbrev pub invariant-loop-coef : goal.invariant-loop-coef
invariant-loop-coef l = l.total ≡ pos l.scale *ℤ l.row.constant +ℤ sum_at (values_of l.values) (coefficients (take l.coef-index l.coef-items))
