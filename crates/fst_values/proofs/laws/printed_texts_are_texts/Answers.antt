use Rattle.fst_values.proofs.PrintedLemmas.{printed_is_text}
use Rattle.fst_values.proofs.laws.printed_texts_are_texts.Goals as goal

pub returns : goal.returns
returns c = printed_is_text
