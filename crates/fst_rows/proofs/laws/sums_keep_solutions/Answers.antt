use Rattle.fst_rows.proofs.CombinedLemmas.{combined-solved}
use Rattle.fst_rows.proofs.laws.sums_keep_solutions.Goals as goal

pub returns : goal.returns
returns c = combined-solved
