use Rattle.fst_program.specs.Plain.{plain_dm}
use Rattle.fst_effects.specs.Headers.{sorts_in}
use Rattle.fst_effects.proofs.HeaderLemmas.{turned, return-core}
use Rattle.fst_effects.proofs.effects.core_return.Goals as goal

pub returns : goal.returns
returns c =
    let p = return-core (sorts_in c.args.sorts.now) c.args.text.now in
    turned plain_dm c.core_dm.result _ _ c.core_dm.ensures.text (let q = c.in_ok-context.ensures in let r = c.get.ensures in cc)
