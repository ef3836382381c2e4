use Rattle.fst_effects.specs.Headers.{sorts_in}
use Rattle.fst_effects.proofs.HeaderLemmas.{turned, text-breaks}
use Rattle.fst_effects.proofs.effects.check_text.Goals as goal

pub returns : goal.returns
returns c =
    let p = text-breaks (sorts_in c.args.upper.now) c.args.text.now (sorts_in c.args.lower.now) c.in_ok-runs.runs c.in_ok-runs.ensures.first c.in_ok-runs.ensures.second in
    turned (λ x. x) c.check_dm.result _ _ c.check_dm.ensures.broken
    (let q = c.in_ok-context.ensures in let s = c.as_slice.ensures in let t = c.get.ensures in cc)
