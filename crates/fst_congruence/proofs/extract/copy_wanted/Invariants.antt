use Rattle.fst_congruence.specs.Extracts.{Copied}
use Rattle.fst_congruence.proofs.extract.copy_wanted.Given as goal

abbrev pub invariant-loop-at : goal.invariant-loop-at
invariant-loop-at l = Copied l.log l.new l.wanted l.numbers l.at
