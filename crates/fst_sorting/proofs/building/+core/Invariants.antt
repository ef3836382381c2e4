use Rattle.std.proofs.Common.{◌≡◌, take}
use Rattle.fst_base.specs.Sorts.{plain_sort}
use Rattle.fst_effects.specs.Scopes.{scope_in, sort_at}
use Rattle.fst_sorting.specs.Sites.{known_at}
use Rattle.fst_sorting.specs.Bodies.{arms_core, made_arms}
use Rattle.fst_sorting.proofs.building.+core.Given as goal

abbrev pub invariant-core_arms-loop-index : goal.invariant-core_arms-loop-index
invariant-core_arms-loop-index l = record {
  so_far : made_arms l.made ≡ arms_core (known_at l.known) l.place (scope_in l.fn.context) (plain_sort l.sort) (take l.index l.arms) (sort_at l.want);
  scope : scope_in l.context ≡ scope_in l.fn.context;
}
