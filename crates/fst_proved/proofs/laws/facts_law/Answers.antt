use Rattle.fst_program.specs.Plain.{plain_program}
use Rattle.fst_proved.proofs.ProofShown.{facts-extend}
use Rattle.fst_proved.proofs.laws.facts_law.Goals as goal

pub returns : goal.returns
returns c = facts-extend (plain_program c.args.program.now)
