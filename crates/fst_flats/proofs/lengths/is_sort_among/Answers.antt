use Rattle.std.proofs.Common.{sym}
use Rattle.fst_flats.proofs.ArgumentLemmas.{same-plain-sort, sort-at, sort-more}
use Rattle.fst_flats.proofs.lengths.is_sort_among.Goals as goal

pub returns-then-same : goal.returns-then-same
returns-then-same c =
    let test = same-plain-sort c.args.sort.now c.other-item.result c.same.result c.same.ensures in
    sym (sort-at c.args.sort.now c.args.sorts.now c.loop-other.other-index c.other-item.result c.loop-other-test.true (cc (test, c.if-same.true)))

pub loop-other-preserved : goal.loop-other-preserved
loop-other-preserved c =
    let test = same-plain-sort c.args.sort.now c.other-item.result c.same.result c.same.ensures in
    sort-more c.args.sort.now c.args.sorts.now c.loop-other.other-index c.other-item.result c.loop-other-test.true c.loop-other.invariant (cc (test, c.if-same.false))
