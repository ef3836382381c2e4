use Rattle.std.proofs.Common.{length}
use Rattle.fst_star.proofs.dividing.+divisor_needs.Given as goal

abbrev pub decreases-divisor_needs : goal.decreases-divisor_needs
decreases-divisor_needs l = length l.divisions.now
