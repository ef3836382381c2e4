use Rattle.std.proofs.Common.{◌≡◌, map, drop}
use Rattle.fst_program.specs.Plain.{plain_param}
use Rattle.fst_code.specs.Plain.{plain_code}
use Rattle.fst_code.specs.Sound.{params_sound}
use Rattle.fst_code.proofs.code.Code.params_sound.Given as goal

abbrev pub invariant-loop-at : goal.invariant-loop-at
invariant-loop-at l = params_sound (plain_code l.self) 0 (map plain_param l.params) ≡ params_sound (plain_code l.self) l.at (map plain_param (drop l.at l.params))
