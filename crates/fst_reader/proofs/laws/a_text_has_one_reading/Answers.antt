use Rattle.fst_syntax.proofs.OneReadingLemmas.{one-reading}
use Rattle.fst_reader.proofs.laws.a_text_has_one_reading.Goals as goal

pub returns : goal.returns
returns c = one-reading
