use Rattle.fst_program.specs.Plain.{plain_dm}
use Rattle.fst_effects.specs.Headers.{sorts_in}
use Rattle.fst_effects.proofs.HeaderLemmas.{turned, bind-core}
use Rattle.fst_effects.proofs.effects.core_bind.Goals as goal

pub returns : goal.returns
returns c =
    let p = bind-core (sorts_in c.args.sorts.now) c.args.text.now c.in_ok-runs.runs c.in_ok-runs.ensures.first c.in_ok-runs.ensures.second in
    turned plain_dm c.core_dm.result _ _ c.core_dm.ensures.text
    (let q = c.in_ok-context.ensures in let r = c.in_ok-carried.ensures in let s = c.as_slice.ensures in let t = c.get-2.ensures in cc)
