use Rattle.std.proofs.Common.{[], ◌∙◌, ap}
use Rattle.std.proofs.lemmas.Result.{IfOk-weaker}
use Rattle.fst_terms.proofs.PrepareLemmas.{given}
use Rattle.fst_terms.specs.Terms.{plain_term, plain_terms}
use Rattle.fst_program.specs.Paths.{all_divisions}
use Rattle.fst_program.specs.Plain.{plain_fun, plain_program}
use Rattle.fst_scopes.specs.Scopes.{terms_for}
use Rattle.fst_star.specs.Inferring.{scope_at}
use Rattle.fst_star.specs.Plain.{plain_wp}
use Rattle.fst_star.specs.Translation.{divisor_needs}
use Rattle.fst_star.proofs.InferringLemmas.{called-by}
use Rattle.fst_star.proofs.calling.called.Goals as goal

pub returns : goal.returns
returns c =
    let owner = c.args.owner.now in
    let spot = c.args.spot.now in
    let args = c.args.args.now in
    IfOk-weaker c.args_needs.result _ _
    (λ made h.
    h.1.1 ∙ ap (λ us. divisor_needs (all_divisions [] (plain_terms args)) (terms_for us) (plain_wp h.0)) c.as_slice.ensures
    ∙ called-by (plain_program owner.program.now) (plain_fun owner.fun.now) (scope_at spot) (terms_for spot.terms) (plain_term spot.input) c.args.function args c.args.at.at (plain_wp h.0)
    (given _ c.call_there-rest.result _ c.call_there-rest.ensures h.1.0))
    c.args_needs.ensures
