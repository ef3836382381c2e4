use Rattle.std.proofs.lemmas.Result.{IfOk-weaker}
use Rattle.fst_shapes.proofs.BuildingLemmas.{boxed-is}
use Rattle.fst_shapes.proofs.meeting.components.Goals as goal

pub returns-clause-left : goal.returns-clause-left
returns-clause-left c = IfOk-weaker c.pair.result _ _ (λ parts e. boxed-is c.selector.result c.boxed-first.result _ _ e.0 c.boxed-first.ensures c.selector.ensures) c.pair.ensures.ok

pub returns-clause-right : goal.returns-clause-right
returns-clause-right c = IfOk-weaker c.pair.result _ _ (λ parts e. boxed-is c.selector-2.result c.boxed.result _ _ e.1 c.boxed.ensures c.selector-2.ensures) c.pair.ensures.ok
