use Rattle.fst_shapes.specs.Preparing.{sorts_in}
use Rattle.fst_shapes.specs.Shapes.{number_in}
use Rattle.fst_shapes.proofs.ShapeLemmas.{shapes-as, shapes-residual, bools-none}
use Rattle.fst_shapes.proofs.reading.+formula.Goals as goal

pub bools-returns-then-args-ne2 : goal.bools-returns-then-args-ne2
bools-returns-then-args-ne2 t c = shapes-as _ c.truth.result _ _ (bools-none (sorts_in c.args.sorts.now) c.args.args.now c.if-args-ne2.true) (c.truth.ensures (number_in c.args.atoms.now))

pub shape_of-returns-in_err-is_same-in-Prim : goal.shape_of-returns-in_err-is_same-in-Prim
shape_of-returns-in_err-is_same-in-Prim t c = shapes-residual _ _ c.from_residual.result _ c.from_residual.ensures.1
