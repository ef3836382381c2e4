use Rattle.fst_program.specs.Plain.{plain_program}
use Rattle.fst_star.proofs.GoalKinds.{goals-tell}
use Rattle.fst_star.proofs.laws.each_law.Goals as goal

pub returns : goal.returns
returns c = goals-tell (plain_program c.args.program.now)
