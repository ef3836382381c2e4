use Rattle.std.proofs.Common.{map, length}
use Rattle.fst_program.specs.Paths.{plain_goal}
use Rattle.fst_program.specs.Plain.{plain_program}
use Rattle.fst_top.specs.Goals.{GoalsPropositional}
use Rattle.fst_top.proofs.JoinLemmas.{Tells}
use Rattle.fst_top.proofs.judging.judge_goals.Given as goal

abbrev pub invariant-goals : goal.invariant-goals
invariant-goals l = record {
  tells : Tells (plain_program l.program) l.text (map plain_goal l.rest) (map plain_goal l.goals);
  propositional : GoalsPropositional (map plain_goal l.rest);
}

abbrev pub decreases-goals : goal.decreases-goals
decreases-goals l = length l.rest
