use Rattle.std.proofs.Common.{sym}
use Rattle.fst_terms.proofs.FirstsLemmas.{same-plain, is_among-at, is_among-more}
use Rattle.fst_logicfun.proofs.applying.is_among.Goals as goal

pub returns-then-same : goal.returns-then-same
returns-then-same c =
    let test = same-plain c.args.term.now c.other-item.result c.same.result c.same.ensures in
    sym (is_among-at c.args.term.now c.args.terms.now c.loop-other.other-index c.other-item.result c.loop-other-test.true (cc (test, c.if-same.true)))

pub loop-other-preserved : goal.loop-other-preserved
loop-other-preserved c =
    let test = same-plain c.args.term.now c.other-item.result c.same.result c.same.ensures in
    is_among-more c.args.term.now c.args.terms.now c.loop-other.other-index c.other-item.result c.loop-other-test.true c.loop-other.invariant (cc (test, c.if-same.false))
