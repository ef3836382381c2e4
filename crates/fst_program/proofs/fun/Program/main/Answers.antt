use Rattle.fst_program.proofs.EntryLemmas.{position-plain}
use Rattle.fst_program.proofs.fun.Program.main.Goals as goal

pub returns-in-Some : goal.returns-in-Some
returns-in-Some c = let plain = position-plain c.args.self.now.funs in cc

pub returns-in-None : goal.returns-in-None
returns-in-None c = let plain = position-plain c.args.self.now.funs in cc
