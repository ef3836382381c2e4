use Rattle.std.proofs.Common.{◌≡◌, map, reverse, take}
use Rattle.fst_program.specs.Plain.{plain_program}
use Rattle.fst_erase.specs.Parts.{plain_arm, erased_arm}
use Rattle.fst_erase.proofs.texts.+erase.Given as goal

abbrev pub invariant-erase_arms-loop-arm : goal.invariant-erase_arms-loop-arm
invariant-erase_arms-loop-arm l = (l.scope ≡ l.fn.scope) × (map plain_arm l.made ≡ map (λ a. erased_arm (plain_program l.program) (reverse l.fn.scope) (plain_arm a)) (take l.arm-index l.arms))
