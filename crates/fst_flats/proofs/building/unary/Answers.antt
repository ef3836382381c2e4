use Rattle.fst_flats.proofs.BuildingLemmas.{makes-residual, unary-by}
use Rattle.fst_flats.proofs.building.unary.Goals as goal

pub returns-in_err-arg : goal.returns-in_err-arg
returns-in_err-arg c = λ e h. makes-residual _ c.from_residual.result _ c.from_residual.ensures.1

pub returns-in_err-args : goal.returns-in_err-args
returns-in_err-args c = λ e h. makes-residual _ c.from_residual-in_err-args.result _ c.from_residual-in_err-args.ensures.1

pub returns : goal.returns
returns c = unary-by c.prim.result _ _ c.args.arg _ _ c.in_ok-arg.was c.in_ok-args.ensures c.prim.ensures
