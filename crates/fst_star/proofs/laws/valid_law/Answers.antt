use Rattle.fst_program.specs.Plain.{plain_program}
use Rattle.fst_star.proofs.LawLemmas.{safe-valid}
use Rattle.fst_star.proofs.laws.valid_law.Goals as goal

pub returns : goal.returns
returns c = safe-valid (plain_program c.args.program.now)
