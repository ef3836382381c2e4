use Rattle.std.proofs.Common.{◌≡◌, take}
use Rattle.fst_base.specs.Sorts.{plain_sort}
use Rattle.fst_effects.specs.DefinitionTexts.{dm_arms_give}
use Rattle.fst_effects.specs.Scopes.{known_sort, scope_in}
use Rattle.fst_effects.proofs.given_texts.+given.Given as goal

abbrev pub invariant-given_arms-loop-index : goal.invariant-given_arms-loop-index
invariant-given_arms-loop-index l = record {
  so_far : known_sort l.found ≡ dm_arms_give l.runs (scope_in l.fn.context) (plain_sort l.sort) (take l.index l.arms);
  scope : scope_in l.context ≡ scope_in l.fn.context;
}
