use Rattle.std.proofs.Common.{drop}
use Rattle.fst_terms.specs.Meaning.{Env}
use Rattle.fst_machine.specs.Memories.{Keeps, IsChain}
use Rattle.fst_machine.proofs.OperandLemmas.{Given}
use Rattle.fst_machine.proofs.eval.+eval.Given as goal

abbrev pub invariant-operands-loop-arg : goal.invariant-operands-loop-arg
invariant-operands-loop-arg l = Keeps l.fn.memory l.memory × ((e : Env) → IsChain l.fn.memory l.env e → Given l.memory l.operands e l.args (drop l.arg-index l.args))
