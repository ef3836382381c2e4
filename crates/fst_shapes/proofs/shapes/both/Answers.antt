use Rattle.fst_shapes.proofs.shapes.both.Goals as goal

pub returns : goal.returns
returns c = λ n p q h i. c.choice.ensures.shapes n p q _ h i (c.truth.ensures n)
