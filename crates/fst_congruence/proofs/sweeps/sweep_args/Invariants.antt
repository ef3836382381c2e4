use Rattle.std.proofs.Common.{◌≡◌, ◌+◌, ◌<◌, ◌≤◌, false, [], length}
use Rattle.fst_congruence.specs.Classes.{ArgsClosed}
use Rattle.fst_congruence.specs.Steps.{Step, AreTerms, Swept, args_key}
use Rattle.fst_congruence.proofs.sweeps.sweep_args.Given as goal

abbrev pub invariant-loop-done : goal.invariant-loop-done
invariant-loop-done l = record {
  step : Step l.nodes [] l.initial.classes l.classes l.joined;
  terms : AreTerms (length l.nodes) l.firsts;
  swept : l.joined ≡ false → Swept (args_key l.nodes l.classes.labels) (ArgsClosed l.nodes l.classes.labels) l.firsts (λ i. (i < length l.nodes) × (length l.nodes ≤ i + l.done));
}
