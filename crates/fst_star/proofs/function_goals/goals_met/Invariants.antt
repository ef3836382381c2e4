use Rattle.std.proofs.Common.{◌≡◌, map, take}
use Rattle.fst_program.specs.Paths.{plain_goal}
use Rattle.fst_program.specs.Plain.{plain_fun}
use Rattle.fst_star.specs.Met.{plain_event}
use Rattle.fst_scopes.specs.Scopes.{terms_for}
use Rattle.fst_star.specs.Starting.{goals_met}
use Rattle.fst_star.proofs.function_goals.goals_met.Given as goal

abbrev pub invariant-loop-event : goal.invariant-loop-event
invariant-loop-event l = map plain_goal l.made ≡ goals_met l.number (plain_fun l.fun) l.count (terms_for l.own) (map plain_event (take l.event-index l.met))
