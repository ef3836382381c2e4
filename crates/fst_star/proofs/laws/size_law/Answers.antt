use Rattle.fst_program.specs.Plain.{plain_program}
use Rattle.fst_star.proofs.InferSizes.{small}
use Rattle.fst_star.proofs.laws.size_law.Goals as goal

pub returns : goal.returns
returns c = small (plain_program c.args.program.now)
