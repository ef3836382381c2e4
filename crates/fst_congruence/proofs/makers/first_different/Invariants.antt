use Rattle.fst_congruence.specs.Makers.{FirstsKnown}
use Rattle.fst_congruence.proofs.makers.first_different.Given as goal

abbrev pub invariant-loop-term : goal.invariant-loop-term
invariant-loop-term l = FirstsKnown l.closure l.truth l.firsts l.term
