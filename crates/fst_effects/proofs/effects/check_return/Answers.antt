use Rattle.fst_effects.specs.Headers.{sorts_in}
use Rattle.fst_effects.proofs.HeaderLemmas.{turned, return-breaks}
use Rattle.fst_effects.proofs.effects.check_return.Goals as goal

pub returns : goal.returns
returns c =
    let p = return-breaks (sorts_in c.args.sorts.now) c.args.text.now in
    turned (λ x. x) c.check_dm.result _ _ c.check_dm.ensures.broken (let q = c.in_ok-context.ensures in let r = c.get.ensures in cc)
