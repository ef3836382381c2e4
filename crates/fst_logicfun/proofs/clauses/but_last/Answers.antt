use Rattle.std.proofs.Common.{arith}
use Rattle.fst_logicfun.proofs.ClauseLemmas.{but-last}
use Rattle.fst_logicfun.proofs.clauses.but_last.Goals as goal

pub returns : goal.returns
returns c = but-last c.args.args.now c.front.result.now _ (omega arith) (omega arith) c.front.ensures
