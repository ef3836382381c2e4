use Rattle.std.proofs.lemmas.Result.{IfOk-weaker}
use Rattle.fst_star.proofs.WayLemmas.{raised-terms}
use Rattle.fst_star.proofs.spots.raised.Goals as goal

pub returns : goal.returns
returns c = IfOk-weaker c.raise_terms.result _ _ (λ made e. raised-terms c.args.terms.now made e) c.raise_terms.ensures
