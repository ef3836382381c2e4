use Rattle.std.proofs.Common.{◌∙◌, map, drop, get_or, Some, ap, sym}
use Rattle.fst_terms.specs.Terms.{plain_term}
use Rattle.fst_terms.specs.declared.flat.Mark.TheVariants as mark
use Rattle.fst_terms.proofs.FirstsLemmas.{same-plain}
use Rattle.fst_terms.proofs.ReadingLemmas.{truth-test, mark-past, mark-found, mark-passed}
use Rattle.fst_terms.proofs.reading.mark_of.Goals as goal

pub returns-then-at-marks : goal.returns-then-at-marks
returns-then-at-marks c = sym (c.loop-at.invariant ∙ mark-past (map plain_term (drop c.loop-at.at c.args.atoms.now)) c.args.marks.now (plain_term c.args.term.now) c.loop-at.at c.if-at-marks.true)

pub returns-then-same : goal.returns-then-same
returns-then-same c =
    let test = same-plain c.args.term.now c.index-atoms-at.result c.same.result c.same.ensures in
    let found = mark-found c.args.atoms.now c.args.marks.now c.args.term.now c.index-atoms-at.result mark.True c.loop-at.at c.loop-at-test.true c.if-at-marks.false (cc (test, c.if-same.true)) in
    ap Some (c.eq.ensures ∙ truth-test (get_or c.args.marks.now c.loop-at.at mark.True)) ∙ sym (c.loop-at.invariant ∙ found)

pub loop-at-preserved : goal.loop-at-preserved
loop-at-preserved c =
    let test = same-plain c.args.term.now c.index-atoms-at.result c.same.result c.same.ensures in
    c.loop-at.invariant ∙ mark-passed c.args.atoms.now c.args.marks.now c.args.term.now c.index-atoms-at.result mark.True c.loop-at.at c.loop-at-test.true c.if-at-marks.false (cc (test, c.if-same.false))
