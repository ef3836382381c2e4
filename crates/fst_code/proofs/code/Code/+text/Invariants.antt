use Rattle.std.proofs.Common.{◌≡◌, ◌+◌, ℕ, length, true, take}
use Rattle.std.specs.List.{list_all}
use Rattle.fst_terms.specs.Indices.{Stands}
use Rattle.fst_program.specs.Plain.{plain_comp}
use Rattle.fst_code.specs.Plain.{plain_code}
use Rattle.fst_code.specs.Sound.{text_sound}
use Rattle.fst_code.proofs.code.Code.+text.Given as goal

abbrev pub invariant-arms_sound-loop-arm : goal.invariant-arms_sound-loop-arm
invariant-arms_sound-loop-arm l = (n : ℕ) → Stands l.vars n → list_all (λ arm. text_sound (plain_code l.self) (length arm.names + n) (plain_comp arm.body)) (take l.arm-index l.arms) ≡ true
