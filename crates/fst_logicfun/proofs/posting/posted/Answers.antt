use Rattle.std.proofs.lemmas.Result.{IfOk-weaker}
use Rattle.fst_logicfun.proofs.BuildingLemmas.{made-is}
use Rattle.fst_logicfun.proofs.ClauseLemmas.{posted-by}
use Rattle.fst_logicfun.proofs.posting.posted.Goals as goal

pub returns : goal.returns
returns c =
    IfOk-weaker c.one.result _ _
    (λ made e. posted-by c.args.application.now c.args.fun.now c.in-Some.gives c.args.args.now c.args.input.now _ _ _ _ _ made _ _ c.in-Some.is c.in_ok-demands.ensures c.as_slice.ensures c.in_ok-scope.ensures
    c.in_ok-copy.ensures c.in_ok-scope-2.ensures c.as_slice-2.ensures (made-is c.under.result _ _ c.in_ok-under.was c.under.ensures) e)
    c.one.ensures
