use Rattle.std.proofs.Common.{◌∙◌}
use Rattle.fst_star.proofs.DecidingLemmas.{two-equated, not-two}
use Rattle.fst_star.proofs.deciding.sides_equated.Goals as goal

pub returns-then-sides-eq2 : goal.returns-then-sides-eq2
returns-then-sides-eq2 c = c.both_cons.ensures ∙ two-equated c.args.sides.now _ _ c.if-sides-eq2.true c.index-sides-0.is c.index-sides-1.is

pub returns-else-sides-eq2 : goal.returns-else-sides-eq2
returns-else-sides-eq2 c = not-two c.args.sides.now c.if-sides-eq2.false
