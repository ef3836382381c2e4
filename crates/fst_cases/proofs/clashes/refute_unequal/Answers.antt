use Rattle.std.proofs.Common.{length, sym, ap, subst, ◌∙◌}
use Rattle.fst_terms.specs.Marks.{marks_of}
use Rattle.fst_terms.specs.Branches.{HasMark}
use Rattle.fst_cases.proofs.RefuteLemmas.{unequal-closes}
use Rattle.fst_cases.proofs.clashes.refute_unequal.Goals as goal

pub returns : goal.returns
returns c = λ f t m ex h eq off l r.
    c.refuted_by.ensures f
    (unequal-closes f (marks_of c.args.marks.now) c.in_ok-number.field-0 c.in_ok-count.field-0 t _ _ m c.in_ok-lines.lines c.new.result (subst (λ a. HasMark f (marks_of c.args.marks.now) a t m) (sym c.in_ok-number.ensures) h) eq off
    (c.in_ok-lines.ensures.terms f (marks_of c.args.marks.now) ex.nodes ex.complete ex.given) l r c.new.ensures (c.in_ok-count.ensures ∙ ap length c.as_slice.ensures))
