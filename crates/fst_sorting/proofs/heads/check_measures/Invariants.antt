use Rattle.std.proofs.Common.{◌≡◌, take}
use Rattle.fst_effects.specs.Scopes.{scope_in}
use Rattle.fst_sorting.specs.Listed.{measures_break}
use Rattle.fst_sorting.specs.Sites.{known_at}
use Rattle.fst_sorting.proofs.heads.check_measures.Given as goal

abbrev pub invariant-loop-index : goal.invariant-loop-index
invariant-loop-index l = record {
  found : l.found ≡ measures_break (known_at l.known) (scope_in l.fn.context) (take l.index l.measures);
  scope : scope_in l.context ≡ scope_in l.fn.context;
}
