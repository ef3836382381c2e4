use Rattle.std.proofs.Common.{[], ◌∷◌, Some, None, ◌∙◌}
use Rattle.std.proofs.lemmas.Result.{IfOk-weaker}
use Rattle.fst_program.specs.Plain.{plain_comp, plain_program}
use Rattle.fst_program.specs.Texts.{lift_text}
use Rattle.fst_terms.specs.Terms.{plain_term}
use Rattle.fst_scopes.specs.Scopes.{terms_for}
use Rattle.fst_logicfun.specs.Turns.{value_sort}
use Rattle.fst_logicfun.proofs.HeaderLemmas.{header-by}
use Rattle.fst_logicfun.proofs.header_turns.lift_turn.Goals as goal

pub returns : goal.returns
returns c =
    let at = c.args.at.now in
    let part = plain_comp c.args.part.now in
    IfOk-weaker c.through.result _ _
    (λ made e. e ∙ header-by at c.in_ok-header.header (Some part) None (terms_for at.scope.now) (value_sort part at) (value_sort part at) _ (lift_text (plain_program at.program.now) c.args.lift) (plain_term at.input.now ∷ [])
    (terms_for at.hyps.now) c.in_ok-header.ensures c.lift_text.ensures)
    c.through.ensures
