use Rattle.std.proofs.Common.{◌≡◌, ◌∙◌, refl, ap, sym, subst, true, Ok, Err, None, if◌then◌else◌, Bor}
use Rattle.std.proofs.lemmas.Result.{err_from_is_err_and}
use Rattle.fst_base.specs.Primitives.{is_true}
use Rattle.fst_terms.specs.Terms.{plain_term}
use Rattle.fst_program.specs.Plain.{plain_dm}
use Rattle.fst_program.specs.Texts.{d_ret, d_if, d_run_f, d_run_g, d_match}
use Rattle.fst_program.specs.declared.definition.DmTerm.{DmTerm}
use Rattle.fst_program.specs.Evaluation.{eval}
use Rattle.fst_program.proofs.PlainLemmas.{plain-dm-Ret, plain-dm-Let, plain-dm-If, plain-dm-RunF, plain-dm-RunG, plain-dm-Match}
use Rattle.fst_machine.specs.declared.state.State.{State}
use Rattle.fst_machine.specs.declared.state.Frame.TheVariants as frame
use Rattle.fst_machine.specs.declared.state.Task.TheVariants as task
use Rattle.fst_machine.specs.States.{TurnIs}
use Rattle.fst_machine.specs.Turns.{give, next, run_def, def_rest, f_turn, g_turn, with_got, def_turn, def_arm_turn}
use Rattle.fst_machine.specs.Arms.{plain_dm_arms}
use Rattle.fst_machine.proofs.MemoryLemmas.{chain-kept, value-kept}
use Rattle.fst_machine.proofs.StateLemmas.{value-turn, stop-turn, def-stop, frames-kept, frames-push, header-kept}
use Rattle.fst_machine.proofs.state.State.definition.Goals.{then-is_true, else-is_true}
use Rattle.fst_machine.proofs.state.State.definition.Goals as goal

pub returns-in_err-cell-in-Ret : goal.returns-in_err-cell-in-Ret
returns-in_err-cell-in-Ret c = λ P e h fs k n gs.
    let s = c.args.self.now in
    let t : State = record { memory = c.eval.new.memory; task = s.task; frames = s.frames } in
    let p = err_from_is_err_and c.from_residual.result c.from_residual.ensures.1 in
    def-stop P t c.from_residual.result c.in_err-cell-in-Ret.field-0.0 (plain_dm c.args.text.now) (d_ret (plain_term c.in-Ret.term)) e h fs (eval true (plain_term c.in-Ret.term) e) (λ v. give v fs)
    (ap plain_dm c.in-Ret.is ∙ plain-dm-Ret c.in-Ret.term) refl (p.1 ∙ ap Err p.2) (c.in_err-cell-in-Ret.ensures.value e k)

pub returns-in_ok-cell-in-Ret : goal.returns-in_ok-cell-in-Ret
returns-in_ok-cell-in-Ret c = λ P e h fs k n gs.
    let s = c.args.self.now in
    let m = c.eval.new.memory in
    let u = plain_term c.in-Ret.term in
    subst (λ d. TurnIs c.give.new.self c.give.result (def_turn P d e h fs)) (sym (ap plain_dm c.in-Ret.is ∙ plain-dm-Ret c.in-Ret.term))
    (value-turn c.give.new.self c.give.result m c.in_ok-cell-in-Ret.cell (eval true u e) (λ v. give v fs) (c.in_ok-cell-in-Ret.ensures.value e k)
    (λ v i. c.give.ensures v fs i (frames-kept s.memory m _ fs c.in_ok-cell-in-Ret.ensures.kept gs)))

pub returns-in_ok-push-in-Let : goal.returns-in_ok-push-in-Let
returns-in_ok-push-in-Let c = λ P e h fs k n gs.
    let s = c.args.self.now in
    let t : State = record { memory = s.memory; task = task.Definition c.get-in-Let.result c.args.env c.args.header; frames = c.push.new.self } in
    let d1 = plain_dm c.in-Let.bound in
    let d2 = plain_dm c.in-Let.rest in
    subst (λ d. TurnIs t (Ok None) (def_turn P d e h fs)) (sym (ap plain_dm c.in-Let.is ∙ plain-dm-Let c.in-Let.field-0 c.in-Let.bound c.in-Let.rest))
    ((ap plain_dm c.get-in-Let.ensures, k, n), frames-push s.memory s.frames t.frames (frame.Definition c.get.result c.args.env c.args.header) (def_rest d2 e h) fs c.in_ok-push-in-Let.ensures.ok (ap plain_dm c.get.ensures, k, n) gs)

pub returns-in_err-test-in-If : goal.returns-in_err-test-in-If
returns-in_err-test-in-If c = λ P e h fs k n gs.
    let s = c.args.self.now in
    let t : State = record { memory = c.eval-in-If.new.memory; task = s.task; frames = s.frames } in
    let p = err_from_is_err_and c.from_residual-in_err-test-in-If.result c.from_residual-in_err-test-in-If.ensures.1 in
    let u = plain_term c.in-If.test in
    let d1 = plain_dm c.in-If.left in
    let d2 = plain_dm c.in-If.right in
    def-stop P t c.from_residual-in_err-test-in-If.result c.in_err-test-in-If.field-0.0 (plain_dm c.args.text.now) (d_if u d1 d2) e h fs (eval true u e) (λ v. next (run_def (if is_true v then d1 else d2) e h) fs)
    (ap plain_dm c.in-If.is ∙ plain-dm-If c.in-If.test c.in-If.left c.in-If.right) refl (p.1 ∙ ap Err p.2) (c.in_err-test-in-If.ensures.value e k)

pub returns-in_err-input-in-RunF : goal.returns-in_err-input-in-RunF
returns-in_err-input-in-RunF c = λ P e h fs k n gs.
    let s = c.args.self.now in
    let t : State = record { memory = c.eval-in-RunF.new.memory; task = s.task; frames = s.frames } in
    let p = err_from_is_err_and c.from_residual-in_err-input-in-RunF.result c.from_residual-in_err-input-in-RunF.ensures.1 in
    let u = plain_term c.in-RunF.term in
    def-stop P t c.from_residual-in_err-input-in-RunF.result c.in_err-input-in-RunF.field-0.0 (plain_dm c.args.text.now) (d_run_f u) e h fs (eval true u e) (λ v. f_turn h v fs)
    (ap plain_dm c.in-RunF.is ∙ plain-dm-RunF c.in-RunF.term) refl (p.1 ∙ ap Err p.2) (c.in_err-input-in-RunF.ensures.value e k)

pub returns-in_ok-input-in-RunF : goal.returns-in_ok-input-in-RunF
returns-in_ok-input-in-RunF c = λ P e h fs k n gs.
    let s = c.args.self.now in
    let m = c.eval-in-RunF.new.memory in
    let u = plain_term c.in-RunF.term in
    let kept = c.in_ok-input-in-RunF.ensures.kept in
    subst (λ d. TurnIs c.run_f.new.self c.run_f.result (def_turn P d e h fs)) (sym (ap plain_dm c.in-RunF.is ∙ plain-dm-RunF c.in-RunF.term))
    (value-turn c.run_f.new.self c.run_f.result m c.in_ok-input-in-RunF.input (eval true u e) (λ v. f_turn h v fs) (c.in_ok-input-in-RunF.ensures.value e k)
    (λ v i. c.run_f.ensures h v fs (header-kept s.memory m c.args.header h kept n) i (frames-kept s.memory m _ fs kept gs)))

pub returns-in_err-cell-in-RunG : goal.returns-in_err-cell-in-RunG
returns-in_err-cell-in-RunG c = λ P e h fs k n gs.
    let s = c.args.self.now in
    let t : State = record { memory = c.eval-in-RunG.new.memory; task = s.task; frames = s.frames } in
    let p = err_from_is_err_and c.from_residual-in_err-cell-in-RunG.result c.from_residual-in_err-cell-in-RunG.ensures.1 in
    let u1 = plain_term c.in-RunG.term in
    let u2 = plain_term c.in-RunG.input in
    def-stop P t c.from_residual-in_err-cell-in-RunG.result c.in_err-cell-in-RunG.field-0.0 (plain_dm c.args.text.now) (d_run_g u1 u2) e h fs (eval true u1 e) (λ v. with_got (eval true u2 e) (λ i. g_turn h v i fs))
    (ap plain_dm c.in-RunG.is ∙ plain-dm-RunG c.in-RunG.term c.in-RunG.input) refl (p.1 ∙ ap Err p.2) (c.in_err-cell-in-RunG.ensures.value e k)

pub returns-in_err-input-in-RunG : goal.returns-in_err-input-in-RunG
returns-in_err-input-in-RunG c = λ P e h fs k n gs.
    let s = c.args.self.now in
    let m = c.eval-in-RunG.new.memory in
    let kept = c.in_ok-cell-in-RunG.ensures.kept in
    let t : State = record { memory = c.eval-in-RunG-2.new.memory; task = s.task; frames = s.frames } in
    let r = c.from_residual-in_err-input-in-RunG.result in
    let p = err_from_is_err_and r c.from_residual-in_err-input-in-RunG.ensures.1 in
    let u1 = plain_term c.in-RunG.term in
    let u2 = plain_term c.in-RunG.input in
    subst (λ d. TurnIs t r (def_turn P d e h fs)) (sym (ap plain_dm c.in-RunG.is ∙ plain-dm-RunG c.in-RunG.term c.in-RunG.input))
    (value-turn t r m c.in_ok-cell-in-RunG.cell (eval true u1 e) (λ v. with_got (eval true u2 e) (λ i. g_turn h v i fs)) (c.in_ok-cell-in-RunG.ensures.value e k)
    (λ v i. stop-turn t r c.in_err-input-in-RunG.field-0.0 (eval true u2 e) (λ j. g_turn h v j fs) (p.1 ∙ ap Err p.2) (c.in_err-input-in-RunG.ensures.value e (chain-kept s.memory m c.args.env e kept k))))

pub returns-in_ok-input-in-RunG : goal.returns-in_ok-input-in-RunG
returns-in_ok-input-in-RunG c = λ P e h fs k n gs.
    let s = c.args.self.now in
    let m = c.eval-in-RunG.new.memory in
    let m2 = c.eval-in-RunG-2.new.memory in
    let kept = c.in_ok-cell-in-RunG.ensures.kept in
    let kept2 = c.in_ok-input-in-RunG.ensures.kept in
    let t = c.run_g.new.self in
    let r = c.run_g.result in
    let u1 = plain_term c.in-RunG.term in
    let u2 = plain_term c.in-RunG.input in
    subst (λ d. TurnIs t r (def_turn P d e h fs)) (sym (ap plain_dm c.in-RunG.is ∙ plain-dm-RunG c.in-RunG.term c.in-RunG.input))
    (value-turn t r m c.in_ok-cell-in-RunG.cell (eval true u1 e) (λ v. with_got (eval true u2 e) (λ i. g_turn h v i fs)) (c.in_ok-cell-in-RunG.ensures.value e k)
    (λ v i. value-turn t r m2 c.in_ok-input-in-RunG.input (eval true u2 e) (λ j. g_turn h v j fs) (c.in_ok-input-in-RunG.ensures.value e (chain-kept s.memory m c.args.env e kept k))
    (λ j l. c.run_g.ensures h v j fs (header-kept m m2 c.args.header h kept2 (header-kept s.memory m c.args.header h kept n)) (value-kept m m2 c.in_ok-cell-in-RunG.cell v kept2 i) l (frames-kept m m2 _ fs kept2 (frames-kept s.memory m _ fs kept gs)))))

pub returns-after-is_true : goal.returns-after-is_true
returns-after-is_true c = λ P e h fs k n gs.
    let s = c.args.self.now in
    let m = c.eval-in-If.new.memory in
    let kept = c.in_ok-test-in-If.ensures.kept in
    let t : State = record { memory = m; task = task.Definition c.if-is_true.side c.args.env c.args.header; frames = s.frames } in
    let u = plain_term c.in-If.test in
    let d1 = plain_dm c.in-If.left in
    let d2 = plain_dm c.in-If.right in
    let side : plain_dm c.if-is_true.side.now ≡ (if c.is_true.result then d1 else d2) = elim c.if-is_true.branch as (λ _. plain_dm c.if-is_true.side.now ≡ (if c.is_true.result then d1 else d2)) [
      | then-is_true w ↦ ap (λ (b : Bor DmTerm). plain_dm b.now) w.side-is ∙ ap plain_dm w.get-side.ensures ∙ ap (λ b. if b then d1 else d2) (sym w.if-is_true.true)
      | else-is_true w ↦ ap (λ (b : Bor DmTerm). plain_dm b.now) w.side-is ∙ ap plain_dm w.get-side-else-is_true.ensures ∙ ap (λ b. if b then d1 else d2) (sym w.if-is_true.false)
    ] in
    subst (λ d. TurnIs t (Ok None) (def_turn P d e h fs)) (sym (ap plain_dm c.in-If.is ∙ plain-dm-If c.in-If.test c.in-If.left c.in-If.right))
    (value-turn t (Ok None) m c.in_ok-test-in-If.test (eval true u e) (λ v. next (run_def (if is_true v then d1 else d2) e h) fs) (c.in_ok-test-in-If.ensures.value e k)
    (λ v i. ((side ∙ ap (λ b. if b then d1 else d2) (c.is_true.ensures v i), chain-kept s.memory m c.args.env e kept k, header-kept s.memory m c.args.header h kept n), frames-kept s.memory m _ fs kept gs)))

pub returns-in_err-cell-in-Match : goal.returns-in_err-cell-in-Match
returns-in_err-cell-in-Match c = λ P e h fs k n gs.
    let s = c.args.self.now in
    let t : State = record { memory = c.eval-in-Match.new.memory; task = s.task; frames = s.frames } in
    let p = err_from_is_err_and c.from_residual-in_err-cell-in-Match.result c.from_residual-in_err-cell-in-Match.ensures.1 in
    let u = plain_term c.in-Match.term in
    def-stop P t c.from_residual-in_err-cell-in-Match.result c.in_err-cell-in-Match.field-0.0 (plain_dm c.args.text.now) (d_match u (plain_dm_arms c.in-Match.arms)) e h fs (eval true u e) (λ v. def_arm_turn (plain_dm_arms c.in-Match.arms) v e h fs)
    (ap plain_dm c.in-Match.is ∙ plain-dm-Match c.in-Match.term c.in-Match.arms) refl (p.1 ∙ ap Err p.2) (c.in_err-cell-in-Match.ensures.value e k)

pub returns-in_ok-cell-in-Match : goal.returns-in_ok-cell-in-Match
returns-in_ok-cell-in-Match c = λ P e h fs k n gs.
    let s = c.args.self.now in
    let m = c.eval-in-Match.new.memory in
    let u = plain_term c.in-Match.term in
    let kept = c.in_ok-cell-in-Match.ensures.kept in
    let st = c.definition_arm.new.self in
    let r = c.definition_arm.result in
    subst (λ d. TurnIs st r (def_turn P d e h fs)) (sym (ap plain_dm c.in-Match.is ∙ plain-dm-Match c.in-Match.term c.in-Match.arms))
    (value-turn st r m c.in_ok-cell-in-Match.cell (eval true u e) (λ v. def_arm_turn (plain_dm_arms c.in-Match.arms) v e h fs) (c.in_ok-cell-in-Match.ensures.value e k)
    (λ v i. subst (λ arms. TurnIs st r (def_arm_turn (plain_dm_arms arms) v e h fs)) c.as_slice.ensures (c.definition_arm.ensures v e h fs i (chain-kept s.memory m c.args.env e kept k) (header-kept s.memory m c.args.header h kept n) (frames-kept s.memory m _ fs kept gs))))
