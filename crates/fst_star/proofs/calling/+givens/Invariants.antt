use Rattle.std.proofs.Common.{length}
use Rattle.fst_star.proofs.calling.+givens.Given as goal

abbrev pub decreases-givens : goal.decreases-givens
decreases-givens l = length l.formulas.now
