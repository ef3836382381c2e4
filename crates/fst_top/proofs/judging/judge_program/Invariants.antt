use Rattle.std.proofs.Common.{◌≡◌, ◌≤◌, ◌*◌, ◌^◌, length}
use Rattle.fst_terms.specs.Meaning.{Meaning}
use Rattle.fst_program.specs.Paths.{goals_from, GoalsValid}
use Rattle.fst_program.specs.Plain.{plain_program}
use Rattle.fst_top.proofs.judging.judge_program.Given as goal

abbrev pub invariant-loop-fun : goal.invariant-loop-fun
invariant-loop-fun l = record {
  goals : l.goals ≡ length (goals_from (plain_program l.program) 0 l.fun);
  valid : (M : Meaning) → GoalsValid M (goals_from (plain_program l.program) 0 l.fun);
  bound : l.goals ≤ l.fun * 2 ^ 64;
}
