use Rattle.std.proofs.Common.{◌≡◌, [], take}
use Rattle.fst_names.specs.Broken.{first_broken}
use Rattle.fst_names.specs.Names.{broken_words, binding}
use Rattle.fst_names.specs.Declarations.{param_names, params_break}
use Rattle.fst_names.specs.Looked.{tables_in}
use Rattle.fst_names.specs.Scopes.{names_in}
use Rattle.fst_names.proofs.check_functions.check_params.Given as goal

abbrev pub invariant-loop-param : goal.invariant-loop-param
invariant-loop-param l = record {
  twice : l.twice ≡ first_broken (broken_words [] (param_names (take l.param-index l.params)));
  found : l.found ≡ params_break (tables_in l.tables) (take l.param-index l.params);
  scope : names_in l.scope ≡ binding (param_names (take l.param-index l.params)) [];
}
