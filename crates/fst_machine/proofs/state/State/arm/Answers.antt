use Rattle.std.proofs.Common.{◌∙◌, sym, ap, subst, reverse}
use Rattle.fst_program.specs.Runs.{parts}
use Rattle.fst_machine.specs.declared.state.State.{State}
use Rattle.fst_machine.specs.declared.state.Task.TheVariants as task
use Rattle.fst_machine.specs.Memories.{PartsGive}
use Rattle.fst_machine.specs.States.{FramesAre}
use Rattle.fst_machine.proofs.MemoryLemmas.{value-kept, chain-kept, input-kept, kept-then}
use Rattle.fst_program.specs.Plain.{plain_comp}
use Rattle.fst_machine.proofs.StateLemmas.{frames-kept}
use Rattle.fst_machine.proofs.ArmLemmas.{arm-next, arm-taken}
use Rattle.fst_machine.proofs.state.State.arm.Goals as goal

pub returns-in-Some : goal.returns-in-Some
returns-in-Some c = λ v e s fs k r i gs.
    let m0 = c.args.self.now.memory in
    let m = c.loop-arm.self.memory in
    let m1 = c.parts.new.self in
    let inv = c.loop-arm.invariant in
    let kept = kept-then m0 m m1 inv.1 c.in_ok-inner.ensures.kept in
    let st : State = record { memory = m1; task = task.Text c.arm_body.result c.in-Some.inner c.args.input; frames = c.loop-arm.self.frames } in
    arm-taken c.args.at.at v e s fs c.args.arms.now c.loop-arm.arm-index c.arm-item.result c.loop-arm-test.true c.arm-item.is st m1 c.in-Some.inner (inv.2 v e s fs k r)
    (subst (λ o. PartsGive m1 o (parts c.arm-item.result.con v) e) c.in-Some.is (c.in_ok-inner.ensures.chain v e (value-kept m0 m c.args.cell v inv.1 k) (chain-kept m0 m c.args.env e inv.1 r)))
    (λ vs h. ((ap plain_comp c.arm_body.ensures, h, input-kept m0 m1 c.args.input s kept i), subst (λ xs. FramesAre m1 (reverse xs) fs) (sym inv.0) (frames-kept m0 m1 (reverse c.args.self.now.frames) fs kept gs)))

pub loop-arm-preserved : goal.loop-arm-preserved
loop-arm-preserved c =
    let m0 = c.args.self.now.memory in
    let m = c.loop-arm.self.memory in
    let m1 = c.parts.new.self in
    let inv = c.loop-arm.invariant in (
      inv.0,
      kept-then m0 m m1 inv.1 c.in_ok-inner.ensures.kept,
      λ v e s fs k r. inv.2 v e s fs k r ∙ arm-next c.args.at.at v e s fs c.args.arms.now c.loop-arm.arm-index c.arm-item.result c.loop-arm-test.true c.arm-item.is m1
          (subst (λ o. PartsGive m1 o (parts c.arm-item.result.con v) e) c.in_default.is (c.in_ok-inner.ensures.chain v e (value-kept m0 m c.args.cell v inv.1 k) (chain-kept m0 m c.args.env e inv.1 r))),
    )
