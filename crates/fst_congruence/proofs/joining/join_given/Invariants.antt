use Rattle.std.proofs.Common.{◌≡◌, ℕ, ◌<◌, false, List, get_or}
use Rattle.fst_congruence.specs.declared.equation.Equation.{Equation}
use Rattle.fst_congruence.specs.declared.node.Node.{Node}
use Rattle.fst_congruence.specs.Steps.{Step, SidesLabelled}
use Rattle.fst_congruence.proofs.joining.join_given.Given as goal

abbrev pub invariant-loop-equation : goal.invariant-loop-equation
invariant-loop-equation l = record {
  step : (ns : List Node) → Step ns l.equations l.initial.classes l.classes l.joined;
  found : l.joined ≡ false → (k : ℕ) → k < l.equation-index → (d : Equation) → SidesLabelled l.classes.labels (get_or l.equations k d);
}
