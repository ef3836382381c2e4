use Rattle.fst_values.proofs.CompleteLemmas.{one_value}
use Rattle.fst_values.proofs.laws.a_text_has_one_value.Goals as goal

pub returns : goal.returns
returns c = one_value
