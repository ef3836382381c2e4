use Rattle.std.proofs.Common.{arith}
use Rattle.fst_linear.proofs.StartLemmas.{steps-push}
use Rattle.fst_linear.proofs.elimination.steps_of.Goals as goal

pub loop-one-preserved : goal.loop-one-preserved
loop-one-preserved c = steps-push c.args.made.now c.loop-one.one-index c.one-item.result c.loop-one.steps c.push.new.self (omega arith) c.one-item.is c.loop-one.invariant c.in_ok-push.ensures.ok
