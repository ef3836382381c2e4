use Rattle.fst_cases.proofs.WritingLemmas.{Writing, weight}
use Rattle.fst_cases.proofs.writing.write.Given as goal

abbrev pub invariant-loop-at : goal.invariant-loop-at
invariant-loop-at l = Writing l.arena l.root l.written l.todo

abbrev pub decreases-loop-at : goal.decreases-loop-at
decreases-loop-at l = weight l.todo
