use Rattle.fst_logicfun.proofs.WayLemmas.{con-args-Prim}
use Rattle.fst_logicfun.proofs.cases.con_args.Goals as goal

pub returns-in-Prim : goal.returns-in-Prim
returns-in-Prim c = con-args-Prim _ _ _ _ _ _ c.in-Prim.is c.as_slice.ensures
