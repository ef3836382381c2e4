use Rattle.std.proofs.Common.{◌||◌, sym, ap, ◌∙◌}
use Rattle.fst_terms.proofs.FirstsLemmas.{same-plain}
use Rattle.fst_terms.specs.Same.{same_term}
use Rattle.fst_terms.specs.Terms.{plain_term}
use Rattle.fst_shapes.proofs.shapes.is_either.Goals as goal

pub returns-then-same : goal.returns-then-same
returns-then-same c = ap (λ b. b || same_term (plain_term c.args.other.now) (plain_term c.args.atom.now)) (sym c.if-same.true ∙ same-plain _ _ c.same.result c.same.ensures)

pub returns : goal.returns
returns c =
    same-plain _ _ c.same-2.result c.same-2.ensures
    ∙ ap (λ b. b || same_term (plain_term c.args.other.now) (plain_term c.args.atom.now)) (sym c.if-same.false ∙ same-plain _ _ c.same.result c.same.ensures)
