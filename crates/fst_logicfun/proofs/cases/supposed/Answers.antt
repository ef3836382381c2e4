use Rattle.std.proofs.lemmas.Result.{IfOk-weaker, IfOk-at_ok}
use Rattle.fst_logicfun.proofs.BuildingLemmas.{made-is}
use Rattle.fst_logicfun.proofs.WayLemmas.{supposed-by}
use Rattle.fst_logicfun.proofs.cases.supposed.Goals as goal

pub returns : goal.returns
returns c e m =
    IfOk-weaker c.pushed.result _ _
    (λ made p. supposed-by _ _ made _ e p (IfOk-at_ok _ c.in_ok-hyps.ensures.ok.0 c.copy_terms.ensures) (made-is c.args.formula _ e c.in_ok-hyps.ensures.ok.1 m))
    c.pushed.ensures
