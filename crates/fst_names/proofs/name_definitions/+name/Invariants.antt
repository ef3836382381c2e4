use Rattle.std.proofs.Common.{◌≡◌, take}
use Rattle.fst_names.specs.Namings.{dm_arms_named, ref_at}
use Rattle.fst_names.specs.Looked.{tables_in}
use Rattle.fst_names.specs.Scopes.{names_in}
use Rattle.fst_names.specs.Trees.{plain_dm_arms}
use Rattle.fst_names.proofs.name_definitions.+name.Given as goal

abbrev pub invariant-name_dm_arms-loop-arm : goal.invariant-name_dm_arms-loop-arm
invariant-name_dm_arms-loop-arm l = record {
  so_far : plain_dm_arms ref_at l.named ≡ dm_arms_named (tables_in l.tables) (names_in l.fn.scope) (take l.arm-index l.arms);
  scope : names_in l.scope ≡ names_in l.fn.scope;
}
