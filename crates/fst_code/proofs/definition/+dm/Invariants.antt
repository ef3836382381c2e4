use Rattle.std.proofs.Common.{◌≡◌, ◌+◌, ℕ, length, true, take}
use Rattle.std.specs.List.{list_all}
use Rattle.fst_terms.specs.Indices.{Stands}
use Rattle.fst_program.specs.Plain.{plain_dm}
use Rattle.fst_code.specs.Within.{dm_within}
use Rattle.fst_code.proofs.definition.+dm.Given as goal

abbrev pub invariant-dm_arms_within-loop-arm : goal.invariant-dm_arms_within-loop-arm
invariant-dm_arms_within-loop-arm l = (n : ℕ) → Stands l.vars n → list_all (λ arm. dm_within (length arm.names + n) (plain_dm arm.body)) (take l.arm-index l.arms) ≡ true
