use Rattle.std.proofs.Common.{refl}
use Rattle.std.proofs.lemmas.Result.{IfOk-weaker}
use Rattle.fst_terms.proofs.PrepareLemmas.{given}
use Rattle.fst_star.proofs.EventLemmas.{after-made}
use Rattle.fst_star.proofs.gathering.after.Goals as goal

pub returns : goal.returns
returns c =
    let ok = c.in_ok-raised.ensures.ok in
    IfOk-weaker c.with_last.result _ _
    (λ made e. after-made c.args.trail.now c.args.terms.now c.in_ok-raised.raised c.in_ok-raised.raised made c.args.last.now c.in_ok-raised.last c.args.count _ _
    e refl (given _ c.copy.result _ c.copy.ensures ok.1) (given _ c.raise_terms.result _ c.raise_terms.ensures ok.0) c.in_ok-count.ensures c.saturating_sub-by.ensures) c.with_last.ensures
