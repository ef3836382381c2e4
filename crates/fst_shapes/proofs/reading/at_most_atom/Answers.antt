use Rattle.std.proofs.Common.{ap, ◌∙◌}
use Rattle.fst_shapes.proofs.BuildingLemmas.{made-is}
use Rattle.fst_shapes.proofs.ShapeLemmas.{atom-of, shapes-residual}
use Rattle.fst_terms.specs.Terms.{plain_term}
use Rattle.fst_shapes.proofs.reading.at_most_atom.Goals as goal

pub returns-in_err-made : goal.returns-in_err-made
returns-in_err-made c = shapes-residual _ _ c.from_residual.result _ c.from_residual.ensures.1

pub returns : goal.returns
returns c =
    atom-of c.args.atoms.now c.atom.result _ _
    (ap plain_term c.get.ensures ∙ made-is c.at_most.result _ _ c.in_ok-made.ensures (c.at_most.ensures _ _ c.copied.ensures c.copied-2.ensures))
    c.atom.ensures
