use Rattle.std.proofs.Common.{◌≡◌, take}
use Rattle.fst_base.specs.Sorts.{plain_sort}
use Rattle.fst_effects.specs.DefinitionTexts.{dm_arms_core, made_arms}
use Rattle.fst_effects.specs.Scopes.{scope_in, sort_at}
use Rattle.fst_effects.proofs.core_texts.+core.Given as goal

abbrev pub invariant-core_arms-loop-index : goal.invariant-core_arms-loop-index
invariant-core_arms-loop-index l = record {
  so_far : made_arms l.made ≡ dm_arms_core l.runs (scope_in l.fn.context) (plain_sort l.sort) (take l.index l.arms) (sort_at l.want);
  scope : scope_in l.context ≡ scope_in l.fn.context;
}
