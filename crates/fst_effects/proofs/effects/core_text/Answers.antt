use Rattle.fst_program.specs.Plain.{plain_dm}
use Rattle.fst_effects.specs.Headers.{sorts_in}
use Rattle.fst_effects.proofs.HeaderLemmas.{turned, text-core}
use Rattle.fst_effects.proofs.effects.core_text.Goals as goal

pub returns : goal.returns
returns c =
    let p = text-core (sorts_in c.args.upper.now) c.args.text.now (sorts_in c.args.lower.now) c.in_ok-runs.runs c.in_ok-runs.ensures.first c.in_ok-runs.ensures.second in
    turned plain_dm c.core_dm.result _ _ c.core_dm.ensures.text
    (let q = c.in_ok-context.ensures in let s = c.as_slice.ensures in let t = c.get.ensures in cc)
