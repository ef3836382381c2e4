use Rattle.std.proofs.Common.{◌≡◌, take}
use Rattle.fst_names.specs.Checks.{forms_break}
use Rattle.fst_names.specs.Looked.{tables_in}
use Rattle.fst_names.specs.Scopes.{names_in}
use Rattle.fst_names.proofs.check_forms.+form.Given as goal

abbrev pub invariant-check_forms-loop-form : goal.invariant-check_forms-loop-form
invariant-check_forms-loop-form l = record {
  so_far : l.found ≡ forms_break (tables_in l.tables) (names_in l.fn.scope) (take l.form-index l.forms);
  scope : names_in l.scope ≡ names_in l.fn.scope;
}
