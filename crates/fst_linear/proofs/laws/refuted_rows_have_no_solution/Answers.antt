use Rattle.fst_linear.proofs.StepLemmas.{refuted-unsolved}
use Rattle.fst_linear.proofs.laws.refuted_rows_have_no_solution.Goals as goal

pub returns : goal.returns
returns c = refuted-unsolved
