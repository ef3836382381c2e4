use Rattle.std.proofs.Common.{length}
use Rattle.fst_measures.proofs.measures.+descends_from.Given as goal

abbrev pub decreases-descends_from : goal.decreases-descends_from
decreases-descends_from l = length l.rest.now
