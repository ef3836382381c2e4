use Rattle.std.proofs.Common.{◌≡◌, map, take}
use Rattle.fst_effects.specs.Headers.{places_of}
use Rattle.fst_effects.proofs.definitions.all_places.Given as goal

abbrev pub invariant-loop-decl : goal.invariant-loop-decl
invariant-loop-decl l = map (λ p. p.at) l.places ≡ places_of (take l.decl-index l.decls)
