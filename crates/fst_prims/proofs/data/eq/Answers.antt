use Rattle.fst_prims.proofs.AnswerLemmas.{eq_answers}
use Rattle.fst_prims.proofs.data.eq.Goals as goal

pub returns : goal.returns
returns c = eq_answers _ _ _ _ _ c.same.ensures c.two.ensures
