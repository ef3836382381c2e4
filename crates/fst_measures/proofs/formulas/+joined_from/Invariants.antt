use Rattle.std.proofs.Common.{length}
use Rattle.fst_measures.proofs.formulas.+joined_from.Given as goal

abbrev pub decreases-joined_from : goal.decreases-joined_from
decreases-joined_from l = length l.rest.now
