use Rattle.std.proofs.Common.{arith}
use Rattle.std.proofs.lemmas.List.{length-map}
use Rattle.fst_terms.specs.Flats.{plain_flat}
use Rattle.fst_terms.specs.Terms.{plain_term}
use Rattle.fst_cases.proofs.SearchLemmas.{fill-more, fill-fewer, trail-short}
use Rattle.fst_cases.proofs.search.fill.Goals as goal

pub loop-trail-preserved : goal.loop-trail-preserved
loop-trail-preserved c =
    let l = length-map c.args.flat.now.atoms plain_term in
    let less = c.loop-trail-test.true in record {
      trail_stands = fill-more (plain_flat c.args.flat.now) c.args.arena.now c.loop-trail.trail c.push.new.self c.loop-trail.invariant.trail_stands (omega (arith, l, less, c.len.ensures, c.len-in-loop-trail.ensures)) c.in_ok-push.ensures.ok;
      fewer = fill-fewer (plain_flat c.args.flat.now) c.args.arena.now c.loop-trail.trail c.push.new.self _ (omega (arith, l, less, c.len.ensures, c.len-in-loop-trail.ensures)) c.in_ok-push.ensures.ok c.loop-trail.invariant.fewer;
    }

pub returns : goal.returns
returns c =
    let l = length-map c.args.flat.now.atoms plain_term in
    let short = trail-short (plain_flat c.args.flat.now) c.args.arena.now c.loop-trail.trail c.loop-trail.invariant.trail_stands in
    let end = c.loop-trail-test.false in record {
      trail = c.loop-trail.invariant.trail_stands;
      full = omega (arith, l, short, end, c.len.ensures, c.len-in-loop-trail.ensures);
      fewer = c.loop-trail.invariant.fewer;
    }
