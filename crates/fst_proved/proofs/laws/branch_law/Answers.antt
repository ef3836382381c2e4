use Rattle.fst_program.specs.Plain.{plain_program}
use Rattle.fst_goodness.specs.FunctionSentences.{AppliesBelow}
use Rattle.fst_proved.proofs.OneBranch.{branch-there}
use Rattle.fst_proved.proofs.laws.branch_law.Goals as goal

pub returns : goal.returns
returns c = λ n. branch-there (AppliesBelow (plain_program c.args.program.now) n)
