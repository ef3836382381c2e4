use Rattle.std.proofs.Common.{◌≡◌, take}
use Rattle.fst_effects.specs.Headers.{effects_break}
use Rattle.fst_effects.proofs.definitions.check_effects.Given as goal

abbrev pub invariant-loop-decl : goal.invariant-loop-decl
invariant-loop-decl l = l.found ≡ effects_break (take l.decl-index l.decls)
