use Rattle.std.proofs.Common.{◌≡◌, take}
use Rattle.fst_names.specs.Namings.{forms_named}
use Rattle.fst_names.specs.Looked.{tables_in}
use Rattle.fst_names.specs.Scopes.{names_in}
use Rattle.fst_names.specs.Trees.{plain_forms}
use Rattle.fst_names.proofs.name_forms.+name.Given as goal

abbrev pub invariant-name_forms-loop-form : goal.invariant-name_forms-loop-form
invariant-name_forms-loop-form l = record {
  so_far : plain_forms l.named ≡ forms_named (tables_in l.tables) (names_in l.fn.scope) (take l.form-index l.forms);
  scope : names_in l.scope ≡ names_in l.fn.scope;
}
