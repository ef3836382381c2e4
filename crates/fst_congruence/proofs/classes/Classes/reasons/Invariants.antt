use Rattle.fst_congruence.specs.Classes.{Sound, After}
use Rattle.fst_congruence.specs.Lines.{SliceReasons}
use Rattle.fst_congruence.proofs.classes.Classes.reasons.Given as goal

abbrev pub invariant-loop-at : goal.invariant-loop-at
invariant-loop-at l = record {
  sound : Sound l.self;
  done : SliceReasons l.self.log l.lefts l.rights l.at l.reasons;
  after : After l.initial.self l.self;
}
