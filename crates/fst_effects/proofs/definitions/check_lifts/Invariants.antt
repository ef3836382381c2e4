use Rattle.std.proofs.Common.{◌≡◌, map, take}
use Rattle.fst_effects.specs.Headers.{lifts_break, sorts_in}
use Rattle.fst_effects.proofs.definitions.check_lifts.Given as goal

abbrev pub invariant-loop-decl : goal.invariant-loop-decl
invariant-loop-decl l = l.found ≡ lifts_break (map sorts_in l.sorts) (take l.decl-index l.decls)
