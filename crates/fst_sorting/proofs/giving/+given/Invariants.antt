use Rattle.std.proofs.Common.{◌≡◌, take, None}
use Rattle.fst_base.specs.Sorts.{plain_sort}
use Rattle.fst_effects.specs.Scopes.{scope_in}
use Rattle.fst_sorting.specs.Sites.{known_at}
use Rattle.fst_sorting.specs.Bodies.{arms_give}
use Rattle.fst_sorting.proofs.giving.+given.Given as goal

abbrev pub invariant-given_arms-loop-index : goal.invariant-given_arms-loop-index
invariant-given_arms-loop-index l = record {
  so_far : arms_give (known_at l.known) (scope_in l.fn.context) (plain_sort l.sort) (take l.index l.arms) ≡ None;
  scope : scope_in l.context ≡ scope_in l.fn.context;
}
