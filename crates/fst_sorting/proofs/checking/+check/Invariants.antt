use Rattle.std.proofs.Common.{◌≡◌, take}
use Rattle.fst_base.specs.Sorts.{plain_sort}
use Rattle.fst_effects.specs.Scopes.{scope_in, sort_at}
use Rattle.fst_sorting.specs.Sites.{known_at}
use Rattle.fst_sorting.specs.Bodies.{arms_break}
use Rattle.fst_sorting.proofs.checking.+check.Given as goal

abbrev pub invariant-check_arms-loop-index : goal.invariant-check_arms-loop-index
invariant-check_arms-loop-index l = record {
  so_far : l.found ≡ arms_break (known_at l.known) l.site.effect l.site.is_ghost (scope_in l.fn.context) (plain_sort l.sort) (take l.index l.arms) (sort_at l.want);
  scope : scope_in l.context ≡ scope_in l.fn.context;
}
