-- The names that a scope of the code holds, the last first.
use Rattle.std.specs.Prelude.{map, reverse}
use Rattle.fst_names.specs.declared.scope.Scope.{Scope}
use Rattle.fst_names.specs.Names.{Names}

abbrev pub names_in : Scope → Names
names_in s = reverse (map (λ x. x.now) s.names.items)
