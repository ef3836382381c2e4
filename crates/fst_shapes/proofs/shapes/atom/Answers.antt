use Rattle.fst_terms.specs.Terms.{plain_term}
use Rattle.fst_shapes.proofs.ShapeLemmas.{atom-made, shapes-residual}
use Rattle.fst_shapes.proofs.shapes.atom.Goals as goal

pub returns-in_err-number_of : goal.returns-in_err-number_of
returns-in_err-number_of c = shapes-residual _ _ c.from_residual.result _ c.from_residual.ensures.1

pub returns : goal.returns
returns c = atom-made c.args.atoms.now (plain_term c.args.term.now) _ c.in_ok-number_of.ensures
