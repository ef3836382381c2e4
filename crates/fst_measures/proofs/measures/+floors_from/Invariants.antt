use Rattle.std.proofs.Common.{length}
use Rattle.fst_measures.proofs.measures.+floors_from.Given as goal

abbrev pub decreases-floors_from : goal.decreases-floors_from
decreases-floors_from l = length l.rest.now
