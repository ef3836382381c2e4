use Rattle.std.proofs.Common.{◌≡◌, map, take}
use Rattle.fst_terms.specs.Terms.{plain_term}
use Rattle.fst_effects.specs.Scopes.{scope_in}
use Rattle.fst_sorting.specs.Listed.{measures_core}
use Rattle.fst_sorting.specs.Sites.{known_at}
use Rattle.fst_sorting.proofs.heads.core_measures.Given as goal

abbrev pub invariant-loop-index : goal.invariant-loop-index
invariant-loop-index l = record {
  terms : map plain_term l.terms ≡ measures_core (known_at l.known) (scope_in l.fn.context) (take l.index l.measures);
  scope : scope_in l.context ≡ scope_in l.fn.context;
}
