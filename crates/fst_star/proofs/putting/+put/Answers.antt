use Rattle.std.proofs.lemmas.Result.{IfOk-weaker}
use Rattle.fst_terms.proofs.PrepareLemmas.{given}
use Rattle.fst_scopes.specs.Scopes.{terms_for}
use Rattle.fst_star.proofs.PutParts.{put-Prim-by, put-App-by}
use Rattle.fst_star.proofs.putting.+put.Goals as goal

pub put-returns-in_ok-args-in-App : goal.put-returns-in_ok-args-in-App
put-returns-in_ok-args-in-App t c =
    let ok = c.in_ok-args-in-App.ensures.ok in
    put-App-by (terms_for c.args.terms.now) _ _ _ _ _ _ _ c.in-App.is (given _ c.copy-in-App.result _ c.copy-in-App.ensures ok.1) c.as_slice-in-App.ensures (given _ c.put_all-in-App.result _ c.put_all-in-App.ensures ok.0)

pub put-returns-in_ok-args-in-Prim : goal.put-returns-in_ok-args-in-Prim
put-returns-in_ok-args-in-Prim t c =
    let ok = c.in_ok-args-in-Prim.ensures.ok in
    IfOk-weaker c.make.result _ _
    (λ made h. put-Prim-by (terms_for c.args.terms.now) _ _ _ _ _ _ _ _ _ c.in-Prim.is (given _ c.copy.result _ c.copy.ensures ok.1) c.as_slice.ensures (given _ c.put_all.result _ c.put_all.ensures ok.0) h) c.make.ensures
