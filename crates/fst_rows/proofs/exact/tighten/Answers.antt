use Rattle.std.proofs.Common.{ap}
use Rattle.std.proofs.lemmas.Result.{IfOk-weaker}
use Rattle.fst_rows.specs.Plain.{plain_row, coefficients}
use Rattle.fst_rows.proofs.ExactLemmas.{tight-row}
use Rattle.fst_rows.proofs.exact.tighten.Goals as goal

pub returns-clause-ordered : goal.returns-clause-ordered
returns-clause-ordered c h = IfOk-weaker c.tightened.result _ _ (λ r e. tight-row _ _ _ (plain_row r) e (ap coefficients c.into_vec.ensures) h) c.tightened.ensures
