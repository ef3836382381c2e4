use Rattle.std.proofs.Common.{◌≡◌, ◌∙◌, ◌∷◌, [], ◌++◌, map, ap, refl, sym, subst}
use Rattle.std.proofs.lemmas.Result.{on_ok_weaker}
use Rattle.fst_base.specs.Sorts.{plain_sort}
use Rattle.fst_program.specs.Paths.{fresh}
use Rattle.fst_terms.specs.Formulas.{put}
use Rattle.fst_terms.specs.Terms.{plain_term}
use Rattle.fst_star.specs.Met.{Enters, after_ends, met_events, plain_event, plain_trail}
use Rattle.fst_star.specs.Plain.{plain_wp}
use Rattle.fst_scopes.specs.Scopes.{terms_for}
use Rattle.fst_star.proofs.EventLemmas.{met-Post, met-Need, met-Given, met-Fresh, met-Ways, met-Hole, met-HoleTail, met-Then, ways-init, after-init, after-more, after-site, after-end, way-same, way-none, way-inner, count-plain}
use Rattle.fst_terms.proofs.PrepareLemmas.{given}
use Rattle.fst_star.specs.declared.gathering.Entry.{Entry}
use Rattle.fst_star.proofs.gathering.+gather.Goals as goal
use Rattle.fst_star.proofs.gathering.+gather.Goals.{gather_after-in-Site+in_ok-add_site-in-Site, gather_after-in-End+in_ok-inner-in-End+in_ok-gather-in-End, gather_ways-in-Same+in_ok-gather-in-Same, gather_ways-in-None, gather_ways-in-Inner+in_ok-gather-in-Inner}

pub gather-returns-in-Post : goal.gather-returns-in-Post
gather-returns-in-Post t c = on_ok_weaker c.add_end.result (met-Post _ _ _ _ _ _ _ c.in-Post.is refl) c.add_end.ensures

pub gather-returns-in_ok-put_need-in-Need : goal.gather-returns-in_ok-put_need-in-Need
gather-returns-in_ok-put_need-in-Need t c = on_ok_weaker c.gather.result (met-Need _ _ _ _ _ _ _ _ _ _ _ _ c.in-Need.is refl c.get.ensures c.in_ok-put_need-in-Need.ensures) c.gather.ensures

pub gather-returns-in_ok-inner-in-Given : goal.gather-returns-in_ok-inner-in-Given
gather-returns-in_ok-inner-in-Given t c = on_ok_weaker c.gather-in-Given.result (met-Given _ _ _ _ _ _ _ _ _ _ c.in-Given.is refl c.get-in-Given.ensures c.in_ok-inner-in-Given.ensures) c.gather-in-Given.ensures

pub gather-returns-in_ok-inner-in-Fresh : goal.gather-returns-in_ok-inner-in-Fresh
gather-returns-in_ok-inner-in-Fresh t c =
    let ok = c.in_ok-inner-in-Fresh.ensures.ok in
    on_ok_weaker c.gather-in-Fresh.result
    (met-Fresh _ _ _ _ c.in-Fresh.name c.in-Fresh.name c.in-Fresh.sort c.in-Fresh.sort _ _ _ _ _ c.in-Fresh.is refl refl c.get-in-Fresh.ensures (given (λ w. plain_trail w ≡ fresh c.in-Fresh.name (plain_sort c.in-Fresh.sort) (plain_trail c.args.trail.now)) c.fresh-inner.result _ c.fresh-inner.ensures ok.0)
    (ap terms_for c.as_slice.ensures ∙ given _ c.under.result _ c.under.ensures ok.1))
    c.gather-in-Fresh.ensures

pub gather-returns-in-Ways : goal.gather-returns-in-Ways
gather-returns-in-Ways t c = on_ok_weaker c.gather_ways.result (met-Ways _ _ _ _ _ _ _ c.in-Ways.is c.as_slice-in-Ways.ensures) c.gather_ways.ensures

pub gather-returns-in-Hole : goal.gather-returns-in-Hole
gather-returns-in-Hole t c = met-Hole _ _ _ _ _ _ _ _ c.in-Hole.is

pub gather-returns-in-HoleTail : goal.gather-returns-in-HoleTail
gather-returns-in-HoleTail t c = met-HoleTail _ _ _ _ _ _ c.in-HoleTail.is

pub gather-returns-in_ok-gather-in-Then : goal.gather-returns-in_ok-gather-in-Then
gather-returns-in_ok-gather-in-Then t c = on_ok_weaker c.gather_after.result
    (met-Then _ _ _ _ _ _ _ _ _ _ _ _ c.in-Then.is c.get-in-Then.ensures c.get-in-Then-2.ensures (c.in_ok-count-in-Then.ensures ∙ sym (count-plain c.args.trail.now))
    (ap (map plain_event) c.as_slice-in-Then.ensures ∙ c.in_ok-gather-in-Then.ensures ∙ ap (λ es. map plain_event es ++ met_events (plain_wp c.get-in-Then.result.now) (terms_for c.args.terms.now) (plain_trail c.args.trail.now)) c.new-ends.ensures))
    c.gather_after.ensures

pub gather_after-loop-event-init : goal.gather_after-loop-event-init
gather_after-loop-event-init t c = after-init _ _ _ _

pub gather_after-loop-event-preserved : goal.gather_after-loop-event-preserved
gather_after-loop-event-preserved t c =
    let v = plain_wp c.args.rest.now in
    let us = terms_for c.args.terms.now in
    let now = map plain_event c.loop-event.met in
    after-more v us c.args.count (map plain_event c.args.met.now) now (map plain_event c.match-event.met) c.args.first.now c.loop-event.event-index c.event-item.result c.loop-event-test.true c.event-item.is c.loop-event.invariant
    (elim c.match-event.branch [
      | gather_after-in-Site+in_ok-add_site-in-Site w ↦
          ap (map plain_event) w.met-is ∙ w.in_ok-add_site-in-Site.ensures
          ∙ ap (λ l. now ++ l) (sym (ap (λ x. after_ends v us c.args.count (plain_event x ∷ [])) w.in-Site.is ∙ after-site v us c.args.count _ _ _ _))
      | gather_after-in-End+in_ok-inner-in-End+in_ok-gather-in-End w ↦
          ap (map plain_event) w.met-is ∙ w.in_ok-gather-in-End.ensures
          ∙ ap (λ us. now ++ met_events v us (plain_trail w.in-End.trail)) (ap terms_for w.as_slice.ensures ∙ w.in_ok-inner-in-End.ensures)
          ∙ ap (λ l. now ++ l) (sym (ap (λ x. after_ends v us c.args.count (plain_event x ∷ [])) w.in-End.is ∙ after-end v us c.args.count _ _))
    ])

pub gather_ways-loop-way-init : goal.gather_ways-loop-way-init
gather_ways-loop-way-init t c = ways-init _ _ _

pub gather_ways-loop-way-preserved : goal.gather_ways-loop-way-preserved
gather_ways-loop-way-preserved t c =
    let us = terms_for c.args.terms.now in
    let w = plain_trail c.args.trail.now in
    let x = c.way-item.result in
    let phi = put us (plain_term x.given) in
    let entering : Entry → Type 0 = λ e. Enters e x.choice phi w in
    elim c.match-branch-2.branch [
      | gather_ways-in-Same+in_ok-gather-in-Same b ↦
          way-same us w (map plain_event c.args.met.now) (map plain_event c.loop-way.met) (map plain_event c.match-branch-2.met) c.args.ways.now c.loop-way.way-index x c.loop-way-test.true c.way-item.is c.loop-way.invariant
          (subst entering b.in-Same.is c.in_ok-enter.ensures) (ap (map plain_event) b.met-is ∙ b.in_ok-gather-in-Same.ensures)
      | gather_ways-in-None b ↦
          way-none us w (map plain_event c.args.met.now) (map plain_event c.loop-way.met) (map plain_event c.match-branch-2.met) c.args.ways.now c.loop-way.way-index x c.loop-way-test.true c.way-item.is c.loop-way.invariant
          (subst entering b.in-None.is c.in_ok-enter.ensures) (ap (map plain_event) b.met-is)
      | gather_ways-in-Inner+in_ok-gather-in-Inner b ↦
          let both = subst entering b.in-Inner.is c.in_ok-enter.ensures in
          way-inner us w (map plain_event c.args.met.now) (map plain_event c.loop-way.met) (map plain_event c.match-branch-2.met) c.args.ways.now c.loop-way.way-index x c.loop-way-test.true c.way-item.is c.loop-way.invariant
          _ both.0 both.1 (ap (map plain_event) b.met-is ∙ b.in_ok-gather-in-Inner.ensures)
    ]
