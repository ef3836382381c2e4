use Rattle.fst_program.proofs.DmInduction.{dm-injective}
use Rattle.fst_program.proofs.plain.plain_definitions_lose_nothing.Goals as goal

pub returns : goal.returns
returns c = dm-injective c.args.a.now c.args.b.now
