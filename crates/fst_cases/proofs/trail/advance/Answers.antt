use Rattle.std.proofs.Common.{◌∷◌, sym, subst}
use Rattle.fst_terms.specs.Flats.{plain_flat}
use Rattle.fst_cases.specs.Trails.{Standing, RefutesAt, marks_in}
use Rattle.fst_cases.proofs.TrailLemmas.{standing-last, advance-next, advance-back, rest-is}
use Rattle.fst_cases.proofs.trail.advance.Goals as goal

pub go_back-requires-clause-standing : goal.go_back-requires-clause-standing
go_back-requires-clause-standing c =
    subst (λ ss. Standing (plain_flat c.args.flat.now) c.loop-last.arena ss c.in-Some.last c.loop-last.refuted) (sym c.as_slice.ensures)
    (standing-last (plain_flat c.args.flat.now) c.loop-last.arena c.loop-last.trail c.pop.new.self c.in-Some.last c.loop-last.refuted c.loop-last.invariant.trail c.loop-last.invariant.node c.in-Some.ensures)

pub returns-in-Next : goal.returns-in-Next
returns-in-Next c =
    advance-next (plain_flat c.args.flat.now) c.args.arena.now c.loop-last.arena c.go_back.new.arena c.args.trail.now c.loop-last.trail c.as_slice.result.now c.pop.new.self c.loop-last.invariant.rest c.in-Some.last c.in_ok-step.field-0
    c.loop-last.invariant.grown c.loop-last.invariant.trail c.loop-last.invariant.first c.in-Some.ensures c.as_slice.ensures c.in_ok-step.ensures c.push.new.self c.in-Next.step c.in-Next.is c.in_ok-push-in-Next.ensures.ok

pub loop-last-preserved : goal.loop-last-preserved
loop-last-preserved c =
    let t = advance-back (plain_flat c.args.flat.now) c.args.arena.now c.loop-last.arena c.go_back.new.arena c.args.trail.now c.loop-last.trail c.as_slice.result.now c.pop.new.self c.loop-last.invariant.rest c.in-Some.last c.in_ok-step.field-0
    c.loop-last.invariant.grown c.loop-last.invariant.trail c.loop-last.invariant.first c.in-Some.ensures c.as_slice.ensures c.in_ok-step.ensures c.in-Refuted.at c.in-Refuted.is in
    record {
      grown = t.grown;
      trail = t.trail_left;
      node = t.refuted;
      rest = c.in-Some.last ∷ c.loop-last.invariant.rest;
      first = rest-is (plain_flat c.args.flat.now) c.args.arena.now c.loop-last.arena c.go_back.new.arena c.args.trail.now c.loop-last.trail c.as_slice.result.now c.pop.new.self c.loop-last.invariant.rest c.in-Some.last c.in_ok-step.field-0
          c.loop-last.invariant.grown c.loop-last.invariant.trail c.loop-last.invariant.first c.in-Some.ensures c.as_slice.ensures c.in_ok-step.ensures;
    }

pub returns : goal.returns
returns c = (
  c.loop-last.invariant.grown,
  subst (λ ss. RefutesAt (plain_flat c.args.flat.now) c.loop-last.arena (marks_in ss) c.loop-last.refuted) c.in_default.ensures.0 c.loop-last.invariant.node,
)
