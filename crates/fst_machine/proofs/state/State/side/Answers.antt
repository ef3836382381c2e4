use Rattle.std.proofs.Common.{◌≡◌, ◌∙◌, ap, sym, true, Ok, Err, None, if◌then◌else◌, Bor}
use Rattle.std.proofs.lemmas.Result.{err_from_is_err_and}
use Rattle.fst_base.specs.Primitives.{is_true}
use Rattle.fst_terms.specs.Terms.{plain_term}
use Rattle.fst_program.specs.Plain.{plain_comp}
use Rattle.fst_program.specs.declared.comp.Comp.{Comp}
use Rattle.fst_program.specs.Evaluation.{eval}
use Rattle.fst_machine.specs.declared.state.State.{State}
use Rattle.fst_machine.specs.declared.state.Task.TheVariants as task
use Rattle.fst_machine.specs.Turns.{next, run_text}
use Rattle.fst_machine.proofs.MemoryLemmas.{chain-kept, input-kept}
use Rattle.fst_machine.proofs.StateLemmas.{value-turn, stop-turn, frames-kept}
use Rattle.fst_machine.proofs.state.State.side.Goals.{then-is_true, else-is_true}
use Rattle.fst_machine.proofs.state.State.side.Goals as goal

pub returns-in_err-test : goal.returns-in_err-test
returns-in_err-test c = λ P e s fs k i gs.
    let r = c.from_residual.result in
    let st : State = record { memory = c.eval.new.memory; task = c.args.self.now.task; frames = c.args.self.now.frames } in
    let p = err_from_is_err_and r c.from_residual.ensures.1 in
    let c1 = plain_comp c.args.left.now in
    let c2 = plain_comp c.args.right.now in
    (stop-turn st r c.in_err-test.field-0.0 (eval true (plain_term c.args.test.now) e) (λ v. next (run_text (if is_true v then c1 else c2) e s) fs) (p.1 ∙ ap Err p.2) (c.in_err-test.ensures.value e k))

pub returns : goal.returns
returns c = λ P e s fs k i gs.
    let m0 = c.args.self.now.memory in
    let m = c.eval.new.memory in
    let kept = c.in_ok-test.ensures.kept in
    let st : State = record { memory = m; task = task.Text c.if-is_true.side c.args.env c.args.input; frames = c.args.self.now.frames } in
    let c1 = plain_comp c.args.left.now in
    let c2 = plain_comp c.args.right.now in
    let side : plain_comp c.if-is_true.side.now ≡ (if c.is_true.result then c1 else c2) = elim c.if-is_true.branch as (λ _. plain_comp c.if-is_true.side.now ≡ (if c.is_true.result then c1 else c2)) [
      | then-is_true w ↦ ap (λ (b : Bor Comp). plain_comp b.now) w.side-is ∙ ap (λ b. if b then c1 else c2) (sym w.if-is_true.true)
      | else-is_true w ↦ ap (λ (b : Bor Comp). plain_comp b.now) w.side-is ∙ ap (λ b. if b then c1 else c2) (sym w.if-is_true.false)
    ] in
    (value-turn st (Ok None) m c.in_ok-test.test (eval true (plain_term c.args.test.now) e) (λ v. next (run_text (if is_true v then c1 else c2) e s) fs) (c.in_ok-test.ensures.value e k)
    (λ v j. ((side ∙ ap (λ b. if b then c1 else c2) (c.is_true.ensures v j), chain-kept m0 m c.args.env e kept k, input-kept m0 m c.args.input s kept i), frames-kept m0 m _ fs kept gs)))
