use Rattle.fst_program.proofs.ProgramLemmas.{program-injective}
use Rattle.fst_program.proofs.plain.plain_programs_lose_nothing.Goals as goal

pub returns : goal.returns
returns c = program-injective c.args.a.now c.args.b.now
