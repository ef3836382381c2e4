use Rattle.std.proofs.Common.{length}
use Rattle.fst_star.proofs.starting.+add_refinements.Given as goal

abbrev pub decreases-add_refinements : goal.decreases-add_refinements
decreases-add_refinements l = length l.params.now
