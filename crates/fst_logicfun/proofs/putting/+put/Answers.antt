use Rattle.std.proofs.Common.{◌∙◌}
use Rattle.std.proofs.lemmas.Result.{IfOk-weaker}
use Rattle.fst_scopes.specs.Scopes.{terms_for}
use Rattle.fst_logicfun.proofs.PutLemmas.{put-Prim-by, put-App-by}
use Rattle.fst_logicfun.proofs.putting.+put.Goals as goal

pub put-returns-in_ok-args-in-Prim : goal.put-returns-in_ok-args-in-Prim
put-returns-in_ok-args-in-Prim t c =
    IfOk-weaker c.make.result _ _ (λ made e. e ∙ put-Prim-by (terms_for c.args.scope.now) _ _ _ _ _ _ _ c.in-Prim.is c.as_slice.ensures c.in_ok-args-in-Prim.ensures) c.make.ensures

pub put-returns-in_ok-copy-in-App : goal.put-returns-in_ok-copy-in-App
put-returns-in_ok-copy-in-App t c = put-App-by (terms_for c.args.scope.now) _ _ _ _ _ _ _ c.in-App.is c.in_ok-copy-in-App.ensures c.as_slice-in-App.ensures c.in_ok-args-in-App.ensures
