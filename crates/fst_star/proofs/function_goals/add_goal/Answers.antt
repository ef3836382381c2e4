use Rattle.fst_terms.proofs.PrepareLemmas.{given}
use Rattle.fst_star.proofs.GoalLemmas.{goal-added}
use Rattle.fst_star.proofs.function_goals.add_goal.Goals as goal

pub returns : goal.returns
returns c =
    let ok = c.in_ok-goal.ensures.ok in
    goal-added c.args.number c.args.kind c.args.at c.args.formula.now c.in_ok-goal.goal c.args.trail.now c.in_ok-goal.trail c.args.made.now c.push.new.self
    c.in_ok-push.ensures.ok (given _ c.copy.result _ c.copy.ensures ok.0) (given _ c.copy-2.result _ c.copy-2.ensures ok.1)
