use Rattle.fst_program.specs.Plain.{plain_program}
use Rattle.fst_star.proofs.LawLemmas.{goals-meet}
use Rattle.fst_star.proofs.laws.goals_law.Goals as goal

pub returns : goal.returns
returns c = goals-meet (plain_program c.args.program.now)
