use Rattle.fst_shapes.proofs.ShapeLemmas.{shapes-residual}
use Rattle.fst_shapes.proofs.reading.equation_at.Goals as goal

pub returns-in_err-sort : goal.returns-in_err-sort
returns-in_err-sort c = shapes-residual _ _ c.from_residual.result _ c.from_residual.ensures.1

pub returns-in_err-unit : goal.returns-in_err-unit
returns-in_err-unit c = shapes-residual _ _ c.from_residual-in_err-unit.result _ c.from_residual-in_err-unit.ensures.1
