use Rattle.std.proofs.Common.{◌≡◌, take}
use Rattle.fst_names.specs.Namings.{arms_named}
use Rattle.fst_names.specs.Looked.{tables_in}
use Rattle.fst_names.specs.Scopes.{names_in}
use Rattle.fst_names.specs.Trees.{plain_arms}
use Rattle.fst_names.proofs.name_texts.+name.Given as goal

abbrev pub invariant-name_arms-loop-arm : goal.invariant-name_arms-loop-arm
invariant-name_arms-loop-arm l = record {
  so_far : plain_arms l.named ≡ arms_named (tables_in l.tables) (names_in l.fn.scope) (take l.arm-index l.arms);
  scope : names_in l.scope ≡ names_in l.fn.scope;
}
