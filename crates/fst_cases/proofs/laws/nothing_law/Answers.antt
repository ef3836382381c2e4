use Rattle.fst_cases.proofs.RefutationRules.{refuted-proves}
use Rattle.fst_cases.proofs.laws.nothing_law.Goals as goal

pub returns : goal.returns
returns c = λ f ls h. refuted-proves f ls h
