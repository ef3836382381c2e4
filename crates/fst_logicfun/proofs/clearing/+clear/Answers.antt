use Rattle.std.proofs.Common.{◌∙◌}
use Rattle.std.proofs.lemmas.Result.{IfOk-weaker}
use Rattle.fst_scopes.specs.Scopes.{terms_for}
use Rattle.fst_logicfun.proofs.ClearLemmas.{clear-Prim-by, clear-App-by, clear-Let-by}
use Rattle.fst_logicfun.proofs.clearing.+clear.Goals as goal

pub clear-returns-in_ok-args-in-Prim-clause-made :
    goal.clear-returns-in_ok-args-in-Prim-clause-made
clear-returns-in_ok-args-in-Prim-clause-made t c =
    IfOk-weaker c.make.result _ _ (λ made e. e ∙ clear-Prim-by (terms_for c.args.scope.now) _ _ _ _ _ _ _ c.in-Prim.is c.as_slice-in-Prim.ensures c.in_ok-args-in-Prim.ensures.made) c.make.ensures

pub clear-returns-in_ok-sort-in-App-clause-made : goal.clear-returns-in_ok-sort-in-App-clause-made
clear-returns-in_ok-sort-in-App-clause-made t c =
    clear-App-by (terms_for c.args.scope.now) _ _ _ _ _ _ _ c.in-App.is c.in_ok-sort-in-App.ensures c.as_slice-in-App.ensures c.in_ok-args-in-App.ensures.made

pub clear-returns-in_ok-made-in-Let-clause-made : goal.clear-returns-in_ok-made-in-Let-clause-made
clear-returns-in_ok-made-in-Let-clause-made t c =
    clear-Let-by _ _ _ _ _ _ _ _ c.args.scope.now _ _ c.in-Let.is c.get-in-Let.ensures c.get-in-Let-2.ensures c.in_ok-bound-in-Let.ensures.made c.in_ok-bound-in-Let.ensures.kept c.in_ok-push-in-Let.ensures.ok c.in_ok-made-in-Let.ensures.made
