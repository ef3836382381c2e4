use Rattle.std.proofs.Common.{◌≡◌, [], map, take}
use Rattle.fst_names.specs.Names.{binding}
use Rattle.fst_names.specs.NamedDeclarations.{params_named}
use Rattle.fst_names.specs.Declarations.{param_names}
use Rattle.fst_names.specs.Looked.{tables_in}
use Rattle.fst_names.specs.Scopes.{names_in}
use Rattle.fst_names.specs.Trees.{plain_wparam}
use Rattle.fst_names.proofs.name_heads.name_params.Given as goal

abbrev pub invariant-loop-param : goal.invariant-loop-param
invariant-loop-param l = record {
  so_far : map plain_wparam l.named ≡ params_named (tables_in l.tables) (take l.param-index l.params);
  scope : names_in l.scope ≡ binding (param_names (take l.param-index l.params)) [];
}
