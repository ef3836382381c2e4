use Rattle.std.proofs.Common.{Some, sym, ap, ◌∙◌}
use Rattle.fst_cases.proofs.ValueLemmas.{want-truth, want-atom, want-same, want-left, want-right, want-sides}
use Rattle.fst_cases.proofs.values.+want.Goals as goal

pub returns-in-Truth-clause-shows : goal.returns-in-Truth-clause-shows
returns-in-Truth-clause-shows t c = want-truth c.args.marks.now _ c.args.shape.now _ c.in-Truth.is

pub returns-in-Atom-clause-shows : goal.returns-in-Atom-clause-shows
returns-in-Atom-clause-shows t c = want-atom c.args.marks.now _ c.args.shape.now _ c.in-Atom.is c.note.ensures.wanted

pub returns-in-Some-true-clause-shows : goal.returns-in-Some-true-clause-shows
returns-in-Some-true-clause-shows t c =
    want-left c.args.marks.now c.want.new.wants _ c.args.shape.now _ _ _ _ _ _ c.in-If.is c.get.ensures c.get-in-If.ensures c.get-in-Some-true.ensures (sym c.value.ensures ∙ c.in-Some-true.is ∙ ap Some c.in-Some-true.field-0-test) c.want.ensures.shows
    c.want-in-Some-true.ensures.kept c.want-in-Some-true.ensures.shows

pub returns-in-Some-false-clause-shows : goal.returns-in-Some-false-clause-shows
returns-in-Some-false-clause-shows t c =
    want-right c.args.marks.now c.want.new.wants _ c.args.shape.now _ _ _ _ _ _ c.in-If.is c.get.ensures c.get-in-If.ensures c.get-in-Some-false.ensures (sym c.value.ensures ∙ c.in-Some-false.is ∙ ap Some c.in-Some-false.field-0-test) c.want.ensures.shows
    c.want-in-Some-false.ensures.kept c.want-in-Some-false.ensures.shows

pub returns-in-None-clause-shows : goal.returns-in-None-clause-shows
returns-in-None-clause-shows t c =
    want-sides c.args.marks.now c.want-in-None.new.wants _ c.args.shape.now _ _ _ _ _ _ c.in-If.is c.get-in-If.ensures c.get-in-None.ensures c.get-in-None-2.ensures (sym c.value.ensures ∙ c.in-None.is) c.want-in-None.ensures.shows
    c.want-in-None-2.ensures.kept c.want-in-None-2.ensures.shows

pub returns-in-Same-clause-shows : goal.returns-in-Same-clause-shows
returns-in-Same-clause-shows t c =
    want-same c.args.marks.now c.want-in-Same.new.wants _ c.args.shape.now _ _ _ _ c.in-Same.is c.get-in-Same.ensures c.get-in-Same-2.ensures c.want-in-Same.ensures.shows c.want-in-Same-2.ensures.kept c.want-in-Same-2.ensures.shows
