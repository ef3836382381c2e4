use Rattle.std.proofs.Common.{◌≡◌, ◌<◌, false, [], length}
use Rattle.fst_congruence.specs.Classes.{PartsClosed}
use Rattle.fst_congruence.specs.Steps.{Step, AreTerms, Swept, parts_key}
use Rattle.fst_congruence.proofs.sweeps.sweep_parts.Given as goal

abbrev pub invariant-loop-term : goal.invariant-loop-term
invariant-loop-term l = record {
  step : Step l.nodes [] l.initial.classes l.classes l.joined;
  terms : AreTerms (length l.nodes) l.firsts;
  swept : l.joined ≡ false → Swept (parts_key l.nodes l.classes.labels) (PartsClosed l.nodes l.classes.labels) l.firsts (λ i. i < l.term);
}
