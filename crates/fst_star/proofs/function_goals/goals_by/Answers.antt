use Rattle.std.proofs.Common.{◌∙◌, ◌++◌, map, ap, sym}
use Rattle.std.proofs.lemmas.Result.{IfOk-weaker}
use Rattle.fst_terms.specs.Formulas.{vars_from}
use Rattle.fst_terms.proofs.PrepareLemmas.{given}
use Rattle.fst_program.specs.Paths.{count}
use Rattle.fst_program.specs.Plain.{plain_fun, plain_program}
use Rattle.fst_star.specs.Met.{met_events, plain_event, plain_trail}
use Rattle.fst_star.specs.Plain.{plain_wp}
use Rattle.fst_scopes.specs.Scopes.{terms_for}
use Rattle.fst_star.proofs.EventLemmas.{count-plain}
use Rattle.fst_star.proofs.GoalLemmas.{met-all}
use Rattle.fst_star.proofs.function_goals.goals_by.Goals as goal

pub returns : goal.returns
returns c =
    let ok = c.in_ok-terms.ensures.ok in
    let begun = c.in_ok-trail.ensures in
    let counted = c.in_ok-count.ensures ∙ sym (count-plain c.in_ok-trail.trail) in
    let own = ap terms_for c.as_slice-2.ensures ∙ given _ c.own_terms.result _ c.own_terms.ensures ok.1 in
    let vars = ap terms_for c.as_slice.ensures ∙ given _ c.vars_from.result _ c.vars_from.ensures ok.0 ∙ ap (vars_from 0) (counted ∙ ap count begun) in
    let met = ap (map plain_event) c.as_slice-3.ensures ∙ c.in_ok-gather.ensures
    ∙ ap (λ es. map plain_event es ++ met_events (plain_wp c.args.wp.now) (terms_for c.as_slice.result.now) (plain_trail c.in_ok-trail.trail)) c.new-met.ensures in
    IfOk-weaker c.goals_met.result _ _
    (λ made e. e ∙ met-all (plain_program c.args.program.now) c.args.number (plain_fun c.args.fun.now) (plain_wp c.args.wp.now) _ _ (terms_for c.as_slice.result.now) (plain_trail c.in_ok-trail.trail) _ begun counted own vars met)
    c.goals_met.ensures
