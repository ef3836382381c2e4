use Rattle.fst_shapes.proofs.BuildingLemmas.{makes-residual}
use Rattle.fst_shapes.proofs.pairs.components.Goals as goal

pub returns-in_err-sort : goal.returns-in_err-sort
returns-in_err-sort c = makes-residual _ c.from_residual.result _ c.from_residual.ensures.1
