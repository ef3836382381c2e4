use Rattle.fst_congruence.proofs.JoinedLemmas.{joined-terms}
use Rattle.fst_congruence.proofs.laws.joined_law.Goals as goal

pub returns : goal.returns
returns c = λ f look es is equations i j p q. joined-terms f look es is equations i j p q
