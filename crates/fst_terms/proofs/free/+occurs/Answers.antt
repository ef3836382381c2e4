use Rattle.std.proofs.Common.{ap, sym}
use Rattle.fst_terms.specs.Terms.{free_in, plain_term}
use Rattle.fst_terms.proofs.RowLemmas.{free_in_some-at, free_in_some-more}
use Rattle.fst_terms.proofs.free.+occurs.Goals as goal

pub occurs_in_some-returns-then-occurs : goal.occurs_in_some-returns-then-occurs
occurs_in_some-returns-then-occurs t c = λ index s.
    let e = c.occurs.ensures index s in
    let i = ap (λ t. free_in index (plain_term t)) c.term-item.is in
    sym (free_in_some-at index c.args.terms.now c.loop-term.term-index c.term-item.result c.loop-term-test.true (cc (e, i)))

pub occurs_in_some-loop-term-preserved : goal.occurs_in_some-loop-term-preserved
occurs_in_some-loop-term-preserved t c = λ index s.
    let e = c.occurs.ensures index s in
    let i = ap (λ t. free_in index (plain_term t)) c.term-item.is in
    free_in_some-more index c.args.terms.now c.loop-term.term-index c.term-item.result c.loop-term-test.true (c.loop-term.invariant index s) (cc (e, i))
