use Rattle.std.proofs.Common.{[], map, ap, ◌∙◌}
use Rattle.std.proofs.lemmas.Result.{IfOk-weaker}
use Rattle.fst_program.specs.FunctionFacts.{of_application, posted}
use Rattle.fst_program.specs.Plain.{plain_program}
use Rattle.fst_terms.specs.DataFacts.{again}
use Rattle.fst_terms.specs.Formulas.{vars_from}
use Rattle.fst_terms.specs.Terms.{plain_term}
use Rattle.fst_logicfun.specs.Rounds.{next}
use Rattle.fst_logicfun.proofs.RoundLemmas.{posts-by}
use Rattle.fst_logicfun.proofs.rounds.postconditions.Goals as goal

pub returns : goal.returns
returns c =
    IfOk-weaker c.rounds.result _ _
    (λ facts e. e ∙ ap (λ ts. again c.len-functions.result (next (vars_from 0 c.in_ok-n.n) (of_application (plain_program c.args.program.now) posted) (map plain_term ts)) []) c.as_slice.ensures
    ∙ posts-by c.args.program.now c.args.sequent.now c.in_ok-n.n c.len-functions.result (map plain_term c.args.formulas.now) (c.in_ok-n.ensures ∙ c.len-vars.ensures) c.len-functions.ensures)
    c.rounds.ensures
