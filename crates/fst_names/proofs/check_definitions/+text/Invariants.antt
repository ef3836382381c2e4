use Rattle.std.proofs.Common.{◌≡◌, take}
use Rattle.fst_names.specs.Checks.{dm_arms_break}
use Rattle.fst_names.specs.Looked.{tables_in}
use Rattle.fst_names.specs.Scopes.{names_in}
use Rattle.fst_names.proofs.check_definitions.+text.Given as goal

abbrev pub invariant-check_dm_arms-loop-index : goal.invariant-check_dm_arms-loop-index
invariant-check_dm_arms-loop-index l = record {
  so_far : l.found ≡ dm_arms_break (tables_in l.tables) (names_in l.fn.scope) (take l.index l.arms);
  scope : names_in l.scope ≡ names_in l.fn.scope;
}
