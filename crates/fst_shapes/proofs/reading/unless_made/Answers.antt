use Rattle.std.proofs.Common.{◌∙◌, sym, ap, if◌then◌else◌}
use Rattle.fst_terms.specs.Formulas.{equation}
use Rattle.fst_terms.specs.Skeletons.{k_truth, k_atom}
use Rattle.std.proofs.Common.{false}
use Rattle.fst_terms.specs.Terms.{plain_term}
use Rattle.fst_shapes.specs.Shapes.{number_in}
use Rattle.fst_shapes.proofs.ShapeLemmas.{shapes-as}
use Rattle.fst_shapes.proofs.reading.unless_made.Goals as goal

pub returns-then-are_made : goal.returns-then-are_made
returns-then-are_made c = shapes-as _ c.truth.result _ _
    (ap (λ b. if b then k_truth false else k_atom (equation (plain_term c.args.left.now) (plain_term c.args.right.now))) (sym c.if-are_made.true ∙ c.are_made.ensures))
    (c.truth.ensures (number_in c.args.atoms.now))

pub returns : goal.returns
returns c = shapes-as _ c.whole.result _ _
    (ap (λ b. if b then k_truth false else k_atom (equation (plain_term c.args.left.now) (plain_term c.args.right.now))) (sym c.if-are_made.false ∙ c.are_made.ensures))
    c.whole.ensures
