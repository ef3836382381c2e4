use Rattle.std.proofs.Common.{◌≡◌, reverse, take}
use Rattle.fst_effects.specs.Scopes.{scope_in}
use Rattle.fst_sorting.specs.Listed.{entries_of, params_break}
use Rattle.fst_sorting.specs.Sites.{known_at}
use Rattle.fst_sorting.proofs.heads.check_params.Given as goal

abbrev pub invariant-loop-param : goal.invariant-loop-param
invariant-loop-param l = record {
  found : l.found ≡ params_break (known_at l.known) (take l.param-index l.params);
  scope : scope_in l.context ≡ reverse (entries_of (take l.param-index l.params));
}
