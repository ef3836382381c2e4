use Rattle.std.proofs.Common.{refl}
use Rattle.fst_machine.proofs.MemoryLemmas.{store-kept}
use Rattle.fst_machine.proofs.memory.Memory.add.Goals as goal

pub returns-clause-kept : goal.returns-clause-kept
returns-clause-kept c = store-kept c.args.self.now (record { store = c.add.new.self; links = c.args.self.now.links }) c.add.ensures.kept refl
