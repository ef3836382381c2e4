use Rattle.fst_shapes.proofs.ShapeLemmas.{before-begun, before-more, before-done}
use Rattle.std.proofs.Common.{refl}
use Rattle.fst_shapes.proofs.reading.before.Goals as goal

pub loop-head-init : goal.loop-head-init
loop-head-init c = λ n k h. before-begun n k c.args.heads c.args.end _ refl h

pub loop-head-preserved : goal.loop-head-preserved
loop-head-preserved c = λ n k h. before-more n c.loop-head.heads _ _ _ c.loop-head.all c.truth.result c.choice-all.result c.in-Some.ensures (c.loop-head.invariant n k h) (c.truth.ensures n) c.choice-all.ensures.made

pub returns : goal.returns
returns c = λ n k h. before-done n k c.args.heads _ _ c.in_default.ensures.0 (c.loop-head.invariant n k h)
