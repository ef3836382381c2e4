use Rattle.std.proofs.Common.{◌≡◌, subst, ◌∙◌}
use Rattle.fst_program.specs.declared.goal.Choice.TheVariants as choice
use Rattle.fst_program.specs.Plain.{plain_fun}
use Rattle.fst_terms.specs.Formulas.{negation, put}
use Rattle.fst_terms.specs.Terms.{plain_term}
use Rattle.fst_top.specs.Goals.{end_of, supposed}
use Rattle.fst_top.specs.Ways.{Asks, state_of}
use Rattle.fst_top.proofs.WayLemmas.{ends-open}
use Rattle.fst_top.proofs.goals.walker.Walker.+walk.Goals as goal

pub returns-in_ok-walk-in-Let-clause-way : goal.returns-in_ok-walk-in-Let-clause-way
returns-in_ok-walk-in-Let-clause-way t c = c.unbind.ensures _ (state_of c.args.way.now) (c.in_ok-walk-in-Let.ensures.way ∙ c.in_ok-bind-in-Let.ensures)

pub returns-in_ok-walk-in-Open-2-clause-goals : goal.returns-in_ok-walk-in-Open-2-clause-goals
returns-in_ok-walk-in-Open-2-clause-goals t c =
    let s = state_of c.args.way.now in
    let turned : state_of c.turn.new.self ≡ supposed (negation (plain_term c.in-Open.formula)) choice.Else s =
    c.in_ok-turn-in-Open.ensures (plain_term c.in-Open.formula) choice.Then s (c.in_ok-walk-in-Open.ensures.way ∙ c.in_ok-suppose-in-Open.ensures) in
    ends-open (end_of c.args.self.now.number (plain_fun c.args.self.now.fun.now)) c.args.text.now c.in-If.left c.in-If.right c.get-in-Open.result.now c.get-in-Open-2.result.now c.in-If.test c.in-Open.formula s _ _ _ _ _
    c.in-If.is c.get-in-Open.ensures c.get-in-Open-2.ensures (subst (λ t. Asks t (put s.terms (plain_term c.in-If.test))) c.in-Open.is c.in_ok-test-in-If.ensures)
    c.in_ok-suppose-in-Open.ensures turned c.in_ok-walk-in-Open.ensures.goals c.in_ok-walk-in-Open-2.ensures.goals

pub returns-in_ok-walk-in-Open-2-clause-way : goal.returns-in_ok-walk-in-Open-2-clause-way
returns-in_ok-walk-in-Open-2-clause-way t c =
    let s = state_of c.args.way.now in
    let turned : state_of c.turn.new.self ≡ supposed (negation (plain_term c.in-Open.formula)) choice.Else s =
    c.in_ok-turn-in-Open.ensures (plain_term c.in-Open.formula) choice.Then s (c.in_ok-walk-in-Open.ensures.way ∙ c.in_ok-suppose-in-Open.ensures) in
    c.leave.ensures (negation (plain_term c.in-Open.formula)) choice.Else s (c.in_ok-walk-in-Open-2.ensures.way ∙ turned)
