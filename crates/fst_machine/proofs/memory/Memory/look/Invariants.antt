use Rattle.std.proofs.Common.{drop}
use Rattle.fst_terms.specs.Meaning.{Env}
use Rattle.fst_machine.specs.Memories.{IsChain}
use Rattle.fst_machine.proofs.memory.Memory.look.Given as goal

abbrev pub invariant-loop-variable : goal.invariant-loop-variable
invariant-loop-variable l = (e : Env) → IsChain l.self l.fn.chain e → IsChain l.self l.chain (drop l._variable e)
