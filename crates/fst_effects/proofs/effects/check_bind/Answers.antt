use Rattle.fst_effects.specs.Headers.{sorts_in}
use Rattle.fst_effects.proofs.HeaderLemmas.{turned, bind-breaks}
use Rattle.fst_effects.proofs.effects.check_bind.Goals as goal

pub returns : goal.returns
returns c =
    let p = bind-breaks (sorts_in c.args.sorts.now) c.args.text.now c.in_ok-runs.runs c.in_ok-runs.ensures.first c.in_ok-runs.ensures.second in
    turned (λ x. x) c.check_dm.result _ _ c.check_dm.ensures.broken
    (let q = c.in_ok-context.ensures in let r = c.in_ok-carried.ensures in let s = c.as_slice.ensures in let t = c.get-2.ensures in cc)
