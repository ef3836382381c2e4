use Rattle.fst_shapes.specs.Shapes.{number_in}
use Rattle.fst_shapes.proofs.reading.not_at_most.Goals as goal

pub returns : goal.returns
returns c = c.choice.ensures.shapes (number_in c.args.atoms.now) _ _ _ c.at_most_atom-test.ensures (c.truth.ensures (number_in c.args.atoms.now)) (c.truth-2.ensures (number_in c.args.atoms.now))
