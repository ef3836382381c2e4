use Rattle.fst_top.proofs.CheckedLemmas.{reads-one}
use Rattle.fst_top.proofs.laws.a_text_is_at_most_one_program.Goals as goal

pub returns : goal.returns
returns c = reads-one
