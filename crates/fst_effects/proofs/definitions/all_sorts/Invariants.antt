use Rattle.std.proofs.Common.{◌≡◌, map, take}
use Rattle.fst_effects.specs.Headers.{sorts_in, sorts_of}
use Rattle.fst_effects.proofs.definitions.all_sorts.Given as goal

abbrev pub invariant-loop-decl : goal.invariant-loop-decl
invariant-loop-decl l = map sorts_in l.sorts ≡ sorts_of (take l.decl-index l.decls)
