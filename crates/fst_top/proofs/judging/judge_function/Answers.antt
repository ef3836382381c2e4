use Rattle.std.proofs.Common.{◌∙◌, ap, map, sym, subst}
use Rattle.fst_program.specs.Paths.{plain_goal}
use Rattle.fst_program.specs.Plain.{plain_program}
use Rattle.fst_top.specs.Goals.{GoalsPropositional}
use Rattle.fst_top.proofs.PropositionalGoals.{built-propositional}
use Rattle.fst_top.proofs.judging.judge_function.Goals as goal

pub judge_goals-requires-clause-built : goal.judge_goals-requires-clause-built
judge_goals-requires-clause-built c = subst GoalsPropositional (sym (ap (map plain_goal) c.as_slice.ensures ∙ c.in_ok-goals.ensures)) (built-propositional (plain_program c.args.program.now) c.requires.built c.args.fun)
