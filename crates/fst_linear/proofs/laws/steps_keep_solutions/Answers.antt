use Rattle.fst_linear.proofs.StepLemmas.{replay-solved}
use Rattle.fst_linear.proofs.laws.steps_keep_solutions.Goals as goal

pub returns : goal.returns
returns c = replay-solved
