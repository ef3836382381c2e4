use Rattle.std.proofs.Common.{length, ap, ◌∙◌}
use Rattle.fst_terms.specs.Marks.{marks_of}
use Rattle.fst_cases.proofs.RefuteLemmas.{differ-closes}
use Rattle.fst_cases.proofs.clashes.refute_different.Goals as goal

pub returns : goal.returns
returns c = λ f ex d.
    c.refuted_by.ensures f
    (differ-closes f (marks_of c.args.marks.now) c.in_ok-count.field-0 _ _ c.in_ok-lines.lines c.new.result (c.in_ok-lines.ensures.terms f (marks_of c.args.marks.now) ex.nodes ex.complete ex.given) d c.new.ensures
    (c.in_ok-count.ensures ∙ ap length c.as_slice.ensures))
