use Rattle.std.proofs.Common.{◌≡◌, ◌+◌, false, if◌then◌else◌}
use Rattle.fst_congruence.specs.Classes.{IsClosed, roots}
use Rattle.fst_congruence.specs.Lines.{Grown}
use Rattle.fst_congruence.specs.Steps.{Fits}
use Rattle.fst_congruence.proofs.closing.settle.Given as goal

abbrev pub invariant-loop-again : goal.invariant-loop-again
invariant-loop-again l = record {
  fits : Fits l.nodes l.classes;
  grown : Grown l.nodes l.equations l.initial.classes.log l.classes.log;
  closed : l.again ≡ false → IsClosed l.nodes l.equations l.classes.labels;
}

abbrev pub decreases-loop-again : goal.decreases-loop-again
decreases-loop-again l = roots l.classes.labels + (if l.again then 1 else 0)
