use Rattle.std.proofs.Common.{length}
use Rattle.fst_star.proofs.dividing.+nonzero.Given as goal

abbrev pub decreases-nonzero : goal.decreases-nonzero
decreases-nonzero l = length l.conditions.now
