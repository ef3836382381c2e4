use Rattle.std.proofs.Common.{drop}
use Rattle.fst_terms.specs.Meaning.{Env}
use Rattle.fst_machine.specs.Memories.{Keeps, IsChain}
use Rattle.fst_machine.proofs.ArgumentLemmas.{Given}
use Rattle.fst_machine.proofs.eval.arguments.Given as goal

abbrev pub invariant-loop-arg : goal.invariant-loop-arg
invariant-loop-arg l = Keeps l.fn.memory l.memory × ((e : Env) → IsChain l.fn.memory l.env e → Given l.memory l.inner e l.args (drop l.arg-index l.args))
