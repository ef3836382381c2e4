use Rattle.std.proofs.Common.{◌≡◌, map, take}
use Rattle.fst_program.specs.Plain.{plain_effect}
use Rattle.fst_effects.specs.Headers.{effects_core}
use Rattle.fst_effects.proofs.definitions.core_effects.Given as goal

abbrev pub invariant-loop-decl : goal.invariant-loop-decl
invariant-loop-decl l = map plain_effect l.effects ≡ effects_core (take l.decl-index l.decls)
