use Rattle.fst_shapes.proofs.BuildingLemmas.{makes-residual, binary-by}
use Rattle.fst_shapes.proofs.building.binary.Goals as goal

pub returns-in_err-left : goal.returns-in_err-left
returns-in_err-left c = λ d e g h. makes-residual _ c.from_residual.result _ c.from_residual.ensures.1

pub returns-in_err-args : goal.returns-in_err-args
returns-in_err-args c = λ d e g h. makes-residual _ c.from_residual-in_err-args.result _ c.from_residual-in_err-args.ensures.1

pub returns : goal.returns
returns c = binary-by c.prim.result _ _ c.args.left c.args.right _ _ _ c.in_ok-left.ensures.ok.0 c.in_ok-left.ensures.ok.1 c.in_ok-args.ensures c.prim.ensures
