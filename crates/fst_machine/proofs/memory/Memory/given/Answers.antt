use Rattle.std.proofs.Common.{refl}
use Rattle.fst_machine.proofs.MemoryLemmas.{store-kept}
use Rattle.fst_machine.proofs.memory.Memory.given.Goals as goal

pub returns-clause-kept : goal.returns-clause-kept
returns-clause-kept c = store-kept c.args.self.now (record { store = c.given.new.self; links = c.args.self.now.links }) c.given.ensures.kept refl
