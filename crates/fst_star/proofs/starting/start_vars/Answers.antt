use Rattle.fst_star.proofs.StartingLemmas.{vars-none}
use Rattle.fst_star.proofs.starting.start_vars.Goals as goal

pub returns-in-None : goal.returns-in-None
returns-in-None c = vars-none c.args.program.now c.args.fun.now c.in-User.effect c.in_ok-vars.vars c.as_slice.result.now c.in_ok-vars.ensures c.as_slice.ensures c.in-User.is c.in-None.ensures.value
