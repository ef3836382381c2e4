use Rattle.std.proofs.Common.{map, ap, ◌∙◌}
use Rattle.std.proofs.lemmas.Result.{IfOk-weaker}
use Rattle.fst_terms.specs.Formulas.{put}
use Rattle.fst_terms.specs.Terms.{plain_term}
use Rattle.fst_scopes.specs.Scopes.{terms_for}
use Rattle.fst_star.proofs.InferringLemmas.{measured}
use Rattle.fst_star.proofs.calling.measures_at.Goals as goal

pub returns : goal.returns
returns c =
    IfOk-weaker c.put_all.result _ _
    (λ made e. measured c.args.fun.now c.args.args.now made (e ∙ ap (map (λ t. put (terms_for c.args.args.now) (plain_term t))) c.as_slice.ensures)) c.put_all.ensures
