use Rattle.std.proofs.Common.{◌≡◌, ℕ, ◌<◌, false, []}
use Rattle.fst_congruence.specs.Steps.{Step, PartClosed}
use Rattle.fst_congruence.proofs.joining.join_parts.Given as goal

abbrev pub invariant-loop-at : goal.invariant-loop-at
invariant-loop-at l = record {
  step : Step l.nodes [] l.initial.classes l.classes l.joined;
  found : l.joined ≡ false → (k : ℕ) → k < l.at → PartClosed l.nodes l.classes.labels l.left l.right k;
}
