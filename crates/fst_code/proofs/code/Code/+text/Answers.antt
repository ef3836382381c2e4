use Rattle.std.proofs.Common.{◌+◌, ◌∙◌, ℕ, Bool, ap, sym, length}
use Rattle.fst_program.specs.declared.comp.Arm.{Arm}
use Rattle.fst_program.specs.declared.comp.Comp.{Comp}
use Rattle.fst_program.specs.Plain.{plain_comp}
use Rattle.fst_program.specs.Texts.{Prog}
use Rattle.fst_code.specs.Plain.{plain_code}
use Rattle.fst_code.specs.Sound.{text_sound}
use Rattle.fst_code.proofs.ListLemmas.{all-fails, all-more, Stands-plus, call-by}
use Rattle.fst_code.proofs.code.Code.+text.Goals as goal

abbrev arm_sound : Prog → ℕ → Arm Comp → Bool
arm_sound P n arm = text_sound P (length arm.names + n) (plain_comp arm.body)

pub text_sound-returns-then-is_there : goal.text_sound-returns-then-is_there
text_sound-returns-then-is_there t c = λ n s. call-by (plain_code c.args.self.now) n _ _ _ _ _ _ c.in-Call.is c.as_slice-then-is_there.ensures (sym c.is_there.ensures ∙ c.if-is_there.true) (c.terms_within.ensures n s)

pub arms_sound-returns-then-not-text_sound : goal.arms_sound-returns-then-not-text_sound
arms_sound-returns-then-not-text_sound t c = λ n s.
    let tested = c.text_sound.ensures _ (Stands-plus _ _ _ _ s c.saturating_add.ensures) in
    let fails = ap (λ k. text_sound (plain_code c.args.self.now) (k + n) (plain_comp c.arm-item.result.body)) (sym c.len-bound.ensures) ∙ sym tested ∙ c.if-not-text_sound.true in
    sym (all-fails (arm_sound (plain_code c.args.self.now) n) c.args.arms.now c.loop-arm.arm-index c.arm-item.result c.loop-arm-test.true (sym (ap (arm_sound (plain_code c.args.self.now) n) c.arm-item.is) ∙ fails))

pub arms_sound-loop-arm-preserved : goal.arms_sound-loop-arm-preserved
arms_sound-loop-arm-preserved t c = λ n s.
    let tested = c.text_sound.ensures _ (Stands-plus _ _ _ _ s c.saturating_add.ensures) in
    let passes = ap (λ k. text_sound (plain_code c.args.self.now) (k + n) (plain_comp c.arm-item.result.body)) (sym c.len-bound.ensures) ∙ sym tested ∙ c.if-not-text_sound.false in
    all-more (arm_sound (plain_code c.args.self.now) n) c.args.arms.now c.loop-arm.arm-index c.arm-item.result c.loop-arm-test.true (c.loop-arm.invariant n s) (sym (ap (arm_sound (plain_code c.args.self.now) n) c.arm-item.is) ∙ passes)
