use Rattle.std.proofs.Common.{◌∙◌, ap, refl}
use Rattle.fst_terms.proofs.PrepareLemmas.{given}
use Rattle.fst_star.specs.Plain.{plain_wp}
use Rattle.fst_star.proofs.WayLemmas.{shift-ways-more}
use Rattle.fst_star.proofs.raising.+raise_wp.Goals as goal

pub raise_ways-loop-way-preserved : goal.raise_ways-loop-way-preserved
raise_ways-loop-way-preserved t c =
    let ok = c.in_ok-given.ensures.ok in
    shift-ways-more c.args.from c.args.by c.loop-way.raised c.push.new.self c.args.ways.now c.loop-way.way-index c.way-item.result _
    c.loop-way-test.true c.way-item.is c.loop-way.invariant c.in_ok-push.ensures.ok refl (given _ c.raise-given.result _ c.raise-given.ensures ok.0)
    (ap plain_wp c.into_inner-rest.ensures ∙ given _ c.raise_wp.result _ c.raise_wp.ensures ok.1)
