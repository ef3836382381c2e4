use Rattle.std.proofs.Common.{◌≡◌, true, take}
use Rattle.std.specs.List.{list_all}
use Rattle.fst_program.specs.Plain.{plain_effect}
use Rattle.fst_code.specs.Plain.{plain_code}
use Rattle.fst_code.specs.Sound.{effect_sound}
use Rattle.fst_code.proofs.code.Code.effects_sound.Given as goal

abbrev pub invariant-loop-definition : goal.invariant-loop-definition
invariant-loop-definition l = list_all (λ d. effect_sound (plain_code l.self) (plain_effect d)) (take l.definition-index l.definition-items) ≡ true
