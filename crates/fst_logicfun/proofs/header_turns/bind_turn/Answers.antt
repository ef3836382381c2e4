use Rattle.std.proofs.Common.{[], ◌∷◌, Some, ◌∙◌}
use Rattle.std.proofs.lemmas.Result.{IfOk-weaker}
use Rattle.fst_program.specs.Plain.{plain_comp, plain_program}
use Rattle.fst_program.specs.Texts.{bind_text}
use Rattle.fst_terms.specs.Terms.{plain_term}
use Rattle.fst_scopes.specs.Scopes.{terms_for}
use Rattle.fst_logicfun.specs.Turns.{next_sort, value_sort}
use Rattle.fst_logicfun.proofs.HeaderLemmas.{header-by}
use Rattle.fst_logicfun.proofs.header_turns.bind_turn.Goals as goal

pub returns : goal.returns
returns c =
    let at = c.args.at.now in
    let bound = plain_comp c.args.bound.now in
    let rest = plain_comp c.args.rest.now in
    IfOk-weaker c.through.result _ _
    (λ made e. e ∙ header-by at c.in_ok-header.header (Some bound) (Some rest) (terms_for at.scope.now) (value_sort bound at) (next_sort (value_sort bound at) rest at) _ (bind_text (plain_program at.program.now) c.args.effect)
    (plain_term at.input.now ∷ []) (terms_for at.hyps.now) c.in_ok-header.ensures c.bind_text.ensures)
    c.through.ensures
