use Rattle.std.proofs.Common.{◌+◌, ◌∙◌, ℕ, Bool, ap, sym, length}
use Rattle.fst_program.specs.declared.comp.Arm.{Arm}
use Rattle.fst_program.specs.declared.definition.DmTerm.{DmTerm}
use Rattle.fst_program.specs.Plain.{plain_dm}
use Rattle.fst_code.specs.Within.{dm_within}
use Rattle.fst_code.proofs.ListLemmas.{all-fails, all-more, Stands-plus}
use Rattle.fst_code.proofs.definition.+dm.Goals as goal

abbrev arm_within : ℕ → Arm DmTerm → Bool
arm_within n arm = dm_within (length arm.names + n) (plain_dm arm.body)

pub dm_arms_within-returns-then-not-dm_within : goal.dm_arms_within-returns-then-not-dm_within
dm_arms_within-returns-then-not-dm_within t c = λ n s.
    let tested = c.dm_within.ensures _ (Stands-plus _ _ _ _ s c.saturating_add.ensures) in
    let fails = ap (λ k. dm_within (k + n) (plain_dm c.arm-item.result.body)) (sym c.len-bound.ensures) ∙ sym tested ∙ c.if-not-dm_within.true in
    sym (all-fails (arm_within n) c.args.arms.now c.loop-arm.arm-index c.arm-item.result c.loop-arm-test.true (sym (ap (arm_within n) c.arm-item.is) ∙ fails))

pub dm_arms_within-loop-arm-preserved : goal.dm_arms_within-loop-arm-preserved
dm_arms_within-loop-arm-preserved t c = λ n s.
    let tested = c.dm_within.ensures _ (Stands-plus _ _ _ _ s c.saturating_add.ensures) in
    let passes = ap (λ k. dm_within (k + n) (plain_dm c.arm-item.result.body)) (sym c.len-bound.ensures) ∙ sym tested ∙ c.if-not-dm_within.false in
    all-more (arm_within n) c.args.arms.now c.loop-arm.arm-index c.arm-item.result c.loop-arm-test.true (c.loop-arm.invariant n s) (sym (ap (arm_within n) c.arm-item.is) ∙ passes)
