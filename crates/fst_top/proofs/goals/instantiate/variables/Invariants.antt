use Rattle.std.proofs.Common.{◌≡◌, ◌-◌, ◌≤◌, map, reverse}
use Rattle.fst_terms.specs.Formulas.{vars_from}
use Rattle.fst_terms.specs.Terms.{plain_term}
use Rattle.fst_top.proofs.goals.instantiate.variables.Given as goal

abbrev pub invariant-loop-index : goal.invariant-loop-index
invariant-loop-index l = record {
  made : reverse (map plain_term l.made) ≡ vars_from l.index (l.count - l.index);
  within : l.index ≤ l.count;
}

abbrev pub decreases-loop-index : goal.decreases-loop-index
decreases-loop-index l = l.index
