use Rattle.std.proofs.Common.{rules}
use Rattle.fst_prims.proofs.AnswerLemmas.{len_answers}
use Rattle.fst_prims.proofs.selectors.len.Goals as goal

pub returns : goal.returns
returns c = len_answers _ _ _ _ (search rules) (search rules) c.one_list.ensures
