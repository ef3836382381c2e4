use Rattle.std.proofs.Common.{◌≡◌, true, take}
use Rattle.std.specs.List.{list_all}
use Rattle.fst_program.specs.Plain.{plain_lift}
use Rattle.fst_code.specs.Plain.{plain_code}
use Rattle.fst_code.specs.Sound.{lift_sound}
use Rattle.fst_code.proofs.code.Code.lifts_sound.Given as goal

abbrev pub invariant-loop-lift : goal.invariant-loop-lift
invariant-loop-lift l = list_all (λ d. lift_sound (plain_code l.self) (plain_lift d)) (take l.lift-index l.lift-items) ≡ true
