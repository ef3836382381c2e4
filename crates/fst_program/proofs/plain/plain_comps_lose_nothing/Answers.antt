use Rattle.fst_program.proofs.CompInduction.{comp-injective}
use Rattle.fst_program.proofs.plain.plain_comps_lose_nothing.Goals as goal

pub returns : goal.returns
returns c = comp-injective c.args.a.now c.args.b.now
