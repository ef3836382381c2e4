use Rattle.std.proofs.Common.{sym, ◌∙◌}
use Rattle.fst_terms.specs.Skeletons.{made_by}
use Rattle.fst_terms.specs.Terms.{plain_term}
use Rattle.fst_shapes.specs.Shapes.{number_in}
use Rattle.fst_shapes.proofs.ShapeLemmas.{shapes-as, ends-other, ends-nil, ends-rest}
use Rattle.fst_shapes.proofs.reading.ends.Goals as goal

pub returns-then-not-is_list_term : goal.returns-then-not-is_list_term
returns-then-not-is_list_term c =
    let t = plain_term c.args.left.now in
    let u = plain_term c.args.right.now in
    shapes-as _ c.whole.result _ _ (ends-other t u (made_by u) (sym c.is_list_term.ensures ∙ c.if-not-is_list_term.true)) c.whole.ensures

pub returns-then-are_by : goal.returns-then-are_by
returns-then-are_by c =
    let t = plain_term c.args.left.now in
    let u = plain_term c.args.right.now in
    shapes-as _ c.truth.result _ _ (ends-nil t u (made_by u) (sym c.is_list_term.ensures ∙ c.if-not-is_list_term.false) (sym c.are_by.ensures ∙ c.if-are_by.true)) (c.truth.ensures (number_in c.args.atoms.now))

pub returns : goal.returns
returns c =
    let t = plain_term c.args.left.now in
    let u = plain_term c.args.right.now in
    shapes-as _ c.unless_made.result _ _ (ends-rest t u (made_by u) (sym c.is_list_term.ensures ∙ c.if-not-is_list_term.false) (sym c.are_by.ensures ∙ c.if-are_by.false)) c.unless_made.ensures
