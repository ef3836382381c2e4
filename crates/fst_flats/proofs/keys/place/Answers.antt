use Rattle.std.proofs.Common.{arith}
use Rattle.fst_flats.proofs.KeyLemmas.{place-here, place-more}
use Rattle.fst_terms.specs.Terms.{plain_term}
use Rattle.fst_flats.proofs.keys.place.Goals as goal

pub returns-then-matches : goal.returns-then-matches
returns-then-matches c =
    let here = place-here (plain_term c.args.term.now) c.args.terms.now c.loop-at.at c.index-terms-at.result c.loop-at-test.true (cc (c.matches.ensures, c.if-matches.true, c.index-terms-at.is)) in
    omega (arith, here, c.loop-at.invariant)

pub loop-at-preserved : goal.loop-at-preserved
loop-at-preserved c =
    place-more (plain_term c.args.term.now) c.args.terms.now c.loop-at.at _ c.index-terms-at.result c.loop-at-test.true c.loop-at.invariant (cc (c.matches.ensures, c.if-matches.false, c.index-terms-at.is))
