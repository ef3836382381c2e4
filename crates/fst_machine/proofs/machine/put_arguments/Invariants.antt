use Rattle.std.proofs.Common.{drop}
use Rattle.fst_machine.specs.Memories.{Keeps}
use Rattle.fst_machine.proofs.MachineLemmas.{Linked}
use Rattle.fst_machine.proofs.machine.put_arguments.Given as goal

abbrev pub invariant-loop-arg : goal.invariant-loop-arg
invariant-loop-arg l = Keeps l.fn.memory l.memory × Linked l.memory l.env l.args (drop l.arg-index l.args)
