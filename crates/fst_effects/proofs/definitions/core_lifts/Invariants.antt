use Rattle.std.proofs.Common.{◌≡◌, map, take}
use Rattle.fst_program.specs.Plain.{plain_lift}
use Rattle.fst_effects.specs.Headers.{lifts_core, sorts_in}
use Rattle.fst_effects.proofs.definitions.core_lifts.Given as goal

abbrev pub invariant-loop-decl : goal.invariant-loop-decl
invariant-loop-decl l = map plain_lift l.lifts ≡ lifts_core (map sorts_in l.sorts) (take l.decl-index l.decls)
