use Rattle.std.proofs.Common.{sym, ◌∙◌}
use Rattle.fst_shapes.proofs.ArgumentLemmas.{parts-from-Prim}
use Rattle.fst_shapes.proofs.making.parts_of.Goals as goal

pub returns-in-Prim : goal.returns-in-Prim
returns-in-Prim c = parts-from-Prim _ _ _ _ _ _ _ c.in-Prim.is (sym c.eq.ensures ∙ c.if-eq.true) c.as_slice.ensures
