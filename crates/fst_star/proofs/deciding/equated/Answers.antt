use Rattle.fst_star.proofs.DecidingLemmas.{Prim-equated, Prim-other}
use Rattle.fst_star.proofs.deciding.equated.Goals as goal

pub returns-then-eq : goal.returns-then-eq
returns-then-eq c = Prim-equated _ _ _ _ _ _ _ _ c.in-Prim.is c.eq.ensures c.if-eq.true c.as_slice.ensures c.sides_equated.ensures

pub returns-else-eq : goal.returns-else-eq
returns-else-eq c = Prim-other _ _ _ _ _ _ c.in-Prim.is c.eq.ensures c.if-eq.false
