-- The variables of a scope, the last first.
use Rattle.std.specs.Prelude.{List, map, reverse}
use Rattle.fst_terms.specs.Meaning.{Vr}
use Rattle.fst_top.specs.declared.elaborate.scope.Scope.{Scope}
use Rattle.fst_top.specs.Elaborating.{binding_var}

abbrev pub vars_in : Scope → List Vr
vars_in s = reverse (map binding_var s.bindings.items)
