use Rattle.fst_machine.proofs.EvalLemmas.{true-node}
use Rattle.fst_machine.proofs.eval.is_true.Goals as goal

pub returns : goal.returns
returns c = λ v k. true-node c.args.memory.now c.in-Some.node c.is_true_node.result c.is_true_node.ensures v (c.in-Some.ensures.value v k)

pub returns-in_default : goal.returns-in_default
returns-in_default c = λ v k. absurd (c.in_default.ensures.value v k)
