use Rattle.std.proofs.Common.{◌∙◌}
use Rattle.std.proofs.lemmas.Result.{IfOk-weaker}
use Rattle.fst_terms.specs.Formulas.{put}
use Rattle.fst_terms.specs.Terms.{plain_term}
use Rattle.fst_scopes.specs.Scopes.{terms_for}
use Rattle.fst_star.proofs.WayLemmas.{map-twice}
use Rattle.fst_star.proofs.calling.put_each.Goals as goal

pub returns : goal.returns
returns c = IfOk-weaker c.put_all.result _ _ (λ made e. e ∙ map-twice plain_term (put (terms_for c.args.terms.now)) c.args.args.now) c.put_all.ensures
