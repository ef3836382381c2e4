use Rattle.std.proofs.Common.{◌∙◌, ◌∷◌, [], ◌++◌, map, ap, sym}
use Rattle.fst_program.specs.Paths.{plain_goal}
use Rattle.fst_program.specs.Plain.{plain_fun}
use Rattle.fst_star.specs.Met.{plain_event}
use Rattle.fst_scopes.specs.Scopes.{terms_for}
use Rattle.fst_star.specs.Starting.{goals_met}
use Rattle.fst_star.proofs.GoalLemmas.{met-none, met-more, met-site, met-end}
use Rattle.fst_star.proofs.function_goals.goals_met.Goals as goal
use Rattle.fst_star.proofs.function_goals.goals_met.Goals.{in-Site+in_ok-add_goal-in-Site, in-End+in_ok-add_end-in-End}

pub loop-event-init : goal.loop-event-init
loop-event-init c = ap (map plain_goal) c.new-made.ensures ∙ met-none c.args.number (plain_fun c.args.fun.now) c.args.count (terms_for c.args.own.now)

pub loop-event-preserved : goal.loop-event-preserved
loop-event-preserved c =
    let f = plain_fun c.args.fun.now in
    let own = terms_for c.args.own.now in
    let now = map plain_goal c.loop-event.made in
    met-more c.args.number f c.args.count own c.args.met.now c.loop-event.event-index c.event-item.result now (map plain_goal c.match-event.made) c.loop-event-test.true c.event-item.is c.loop-event.invariant
    (elim c.match-event.branch [
      | in-Site+in_ok-add_goal-in-Site w ↦
          ap (map plain_goal) w.made-is ∙ w.in_ok-add_goal-in-Site.ensures
          ∙ ap (λ l. now ++ l) (sym (ap (λ x. goals_met c.args.number f c.args.count own (plain_event x ∷ [])) w.in-Site.is ∙ met-site c.args.number f c.args.count own _ _ _ _))
      | in-End+in_ok-add_end-in-End w ↦
          ap (map plain_goal) w.made-is ∙ w.in_ok-add_end-in-End.ensures
          ∙ ap (λ l. now ++ l) (sym (ap (λ x. goals_met c.args.number f c.args.count own (plain_event x ∷ [])) w.in-End.is ∙ met-end c.args.number f c.args.count own _ _))
    ])
