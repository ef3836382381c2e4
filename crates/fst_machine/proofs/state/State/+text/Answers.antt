use Rattle.std.proofs.Common.{◌∙◌, refl, ap, sym, subst, subst₂, true, Some, Ok, Err, None, [], ◌∷◌}
use Rattle.std.proofs.lemmas.Result.{err_from_is_err_and}
use Rattle.fst_base.specs.Values.{v_unit}
use Rattle.fst_terms.specs.Terms.{plain_term, plain_terms}
use Rattle.fst_code.specs.Plain.{plain_code}
use Rattle.fst_program.specs.Plain.{plain_comp, plain_dm}
use Rattle.fst_program.specs.Texts.{return_text, c_bind, c_if, c_call}
use Rattle.fst_program.specs.Evaluation.{eval}
use Rattle.fst_program.proofs.PlainLemmas.{plain-comp-Ret, plain-comp-Let, plain-comp-Bind, plain-comp-If, plain-comp-Call, plain-comp-Match, plain-comp-Reify, plain-comp-Reflect, plain-comp-Return, plain-comp-Lift}
use Rattle.fst_machine.specs.declared.state.State.{State}
use Rattle.fst_machine.specs.declared.state.Frame.TheVariants as frame
use Rattle.fst_machine.specs.declared.state.Task.TheVariants as task
use Rattle.fst_machine.specs.States.{TurnIs}
use Rattle.fst_machine.specs.Turns.{IsCode, give, next, run_text, let_rest, return_rest, lift_header, text_turn, def_turn, arm_turn}
use Rattle.fst_machine.specs.Arms.{plain_arms}
use Rattle.fst_machine.proofs.MemoryLemmas.{chain-kept, input-kept, kept-then}
use Rattle.fst_machine.proofs.StateLemmas.{value-turn, stop-turn, frames-kept, frames-push, given-linked, return-there, lift-there, return-is, lift-is}
use Rattle.fst_machine.proofs.state.State.+text.Goals as goal

pub returns-in_err-cell-in-Ret : goal.returns-in_err-cell-in-Ret
returns-in_err-cell-in-Ret t c = λ e s fs k i gs.
    let P = plain_code c.args.code.now in
    let r = c.from_residual.result in
    let st : State = record { memory = c.eval.new.memory; task = c.args.self.now.task; frames = c.args.self.now.frames } in
    let p = err_from_is_err_and r c.from_residual.ensures.1 in
    subst (λ d. TurnIs st r (text_turn P d e s fs)) (sym (ap plain_comp c.in-Ret.is ∙ plain-comp-Ret c.in-Ret.term))
    (stop-turn st r c.in_err-cell-in-Ret.field-0.0 (eval true (plain_term c.in-Ret.term) e) (λ v. give v fs) (p.1 ∙ ap Err p.2) (c.in_err-cell-in-Ret.ensures.value e k))

pub returns-in_ok-cell-in-Ret : goal.returns-in_ok-cell-in-Ret
returns-in_ok-cell-in-Ret t c = λ e s fs k i gs.
    let P = plain_code c.args.code.now in
    let m = c.eval.new.memory in
    let u = plain_term c.in-Ret.term in
    subst (λ d. TurnIs c.give.new.self c.give.result (text_turn P d e s fs)) (sym (ap plain_comp c.in-Ret.is ∙ plain-comp-Ret c.in-Ret.term))
    (value-turn c.give.new.self c.give.result m c.in_ok-cell-in-Ret.cell (eval true u e) (λ v. give v fs) (c.in_ok-cell-in-Ret.ensures.value e k)
    (λ v j. c.give.ensures v fs j (frames-kept c.args.self.now.memory m _ fs c.in_ok-cell-in-Ret.ensures.kept gs)))

pub returns-in_ok-push-in-Let : goal.returns-in_ok-push-in-Let
returns-in_ok-push-in-Let t c = λ e s fs k i gs.
    let P = plain_code c.args.code.now in
    let m = c.args.self.now.memory in
    let st : State = record { memory = m; task = task.Text c.get-in-Let.result c.args.env None; frames = c.push.new.self } in
    subst (λ d. TurnIs st (Ok None) (text_turn P d e s fs)) (sym (ap plain_comp c.in-Let.is ∙ plain-comp-Let c.in-Let.field-0 c.in-Let.bound c.in-Let.rest))
    ((ap plain_comp c.get-in-Let.ensures, k, refl), frames-push m c.args.self.now.frames st.frames (frame.Let c.get.result c.args.env c.args.input) (let_rest (plain_comp c.in-Let.rest) e s) fs c.in_ok-push-in-Let.ensures.ok (ap plain_comp c.get.ensures, k, i) gs)

pub returns-in_ok-input-in-Reify : goal.returns-in_ok-input-in-Reify
returns-in_ok-input-in-Reify t c = λ e s fs k i gs.
    let P = plain_code c.args.code.now in
    let m0 = c.args.self.now.memory in
    let m = c.eval-in-Reify.new.memory in
    let kept = c.in_ok-input-in-Reify.ensures.kept in
    let part = plain_comp c.in-Reify.part in
    let st : State = record { memory = m; task = task.Text c.get-in-Reify.result c.args.env (Some c.in_ok-input-in-Reify.input); frames = c.args.self.now.frames } in
    subst (λ d. TurnIs st (Ok None) (text_turn P d e s fs)) (sym (ap plain_comp c.in-Reify.is ∙ plain-comp-Reify c.in-Reify.field-0 c.in-Reify.field-1 c.in-Reify.part c.in-Reify.term))
    (value-turn st (Ok None) m c.in_ok-input-in-Reify.input (eval true (plain_term c.in-Reify.term) e) (λ v. next (run_text part e v) fs) (c.in_ok-input-in-Reify.ensures.value e k)
    (λ v j. ((ap plain_comp c.get-in-Reify.ensures, chain-kept m0 m c.args.env e kept k, j), frames-kept m0 m _ fs kept gs)))

pub returns-in_ok-inner-in-Reflect : goal.returns-in_ok-inner-in-Reflect
returns-in_ok-inner-in-Reflect t c = λ e s fs k i gs.
    let P = plain_code c.args.code.now in
    let m = c.args.self.now.memory in
    let m1 = c.given.new.self in
    let m2 = c.link.new.self in
    let n1 = c.in_ok-given-in-Reflect.ensures.kept in
    let kept = kept-then m m1 m2 n1 c.in_ok-inner-in-Reflect.ensures.kept in
    let st : State = record { memory = m2; task = task.Text c.get-in-Reflect.result c.in_ok-inner-in-Reflect.inner None; frames = c.args.self.now.frames } in
    subst (λ d. TurnIs st (Ok None) (text_turn P d e s fs)) (sym (ap plain_comp c.in-Reflect.is ∙ plain-comp-Reflect c.in-Reflect.field-0 c.in-Reflect.field-1 c.in-Reflect.field-2 c.in-Reflect.part)) (
      (
        ap plain_comp c.get-in-Reflect.ensures,
        given-linked m m1 m2 c.in_ok-given-in-Reflect.given c.args.env c.in_ok-inner-in-Reflect.inner c.args.input s e n1 c.in_ok-given-in-Reflect.ensures.cell c.in_ok-inner-in-Reflect.ensures.chain i k,
        refl,
      ),
      frames-kept m m2 _ fs kept gs,
    )

pub returns-in_ok-push-in-Return : goal.returns-in_ok-push-in-Return
returns-in_ok-push-in-Return t c = λ e s fs k i gs.
    let P = plain_code c.args.code.now in
    let m = c.args.self.now.memory in
    let d = plain_dm c.in-Some.text.now in
    let g = return_rest (return_text P c.in-Return.effect) s in
    subst (λ d. TurnIs c.text.new.self c.text.result (text_turn P d e s fs)) (sym (ap plain_comp c.in-Return.is ∙ plain-comp-Return c.in-Return.effect c.in-Return.part))
    (subst (λ u. TurnIs c.text.new.self c.text.result (text_turn P (plain_comp u) e v_unit (g ∷ fs))) c.get-in-Return.ensures
    (c.text.ensures e v_unit (g ∷ fs) k refl (frames-push m c.args.self.now.frames c.push-in-Return.new.self (frame.Return c.in-Some.text c.args.input) g fs c.in_ok-push-in-Return.ensures.ok
    (return-is P c.in-Return.effect d c.in-Some.ensures, i) gs)))

pub returns-in_ok-inner-in-Lift : goal.returns-in_ok-inner-in-Lift
returns-in_ok-inner-in-Lift t c = λ e s fs k i gs.
    let P = plain_code c.args.code.now in
    let m = c.args.self.now.memory in
    let m1 = c.given-in-Lift.new.self in
    let m2 = c.link-in-Lift.new.self in
    let n1 = c.in_ok-given-in-Lift.ensures.kept in
    let kept = kept-then m m1 m2 n1 c.in_ok-inner-in-Lift.ensures.kept in
    let h = lift_header (plain_comp c.in-Lift.part) e in
    let st = c.definition.new.self in
    let r = c.definition.result in
    let inner = given-linked m m1 m2 c.in_ok-given-in-Lift.given c.empty.result c.in_ok-inner-in-Lift.inner c.args.input s [] n1 c.in_ok-given-in-Lift.ensures.cell c.in_ok-inner-in-Lift.ensures.chain i c.empty.ensures in
    subst (λ d. TurnIs st r (text_turn P d e s fs)) (sym (ap plain_comp c.in-Lift.is ∙ plain-comp-Lift c.in-Lift.lift c.in-Lift.part))
    (subst (λ d. TurnIs st r (def_turn P d (s ∷ []) h fs)) (lift-is P c.in-Lift.lift (plain_dm c.in-Some-lift_text.text.now) c.in-Some-lift_text.ensures)
    (c.definition.ensures P (s ∷ []) h fs inner (ap plain_comp c.get-in-Lift.ensures, chain-kept m m2 c.args.env e kept k) (frames-kept m m2 _ fs kept gs)))

pub returns-in_err-cell-in-Match : goal.returns-in_err-cell-in-Match
returns-in_err-cell-in-Match t c = λ e s fs k i gs.
    let P = plain_code c.args.code.now in
    let r = c.from_residual-in_err-cell-in-Match.result in
    let st : State = record { memory = c.eval-in-Match.new.memory; task = c.args.self.now.task; frames = c.args.self.now.frames } in
    let p = err_from_is_err_and r c.from_residual-in_err-cell-in-Match.ensures.1 in
    subst (λ d. TurnIs st r (text_turn P d e s fs)) (sym (ap plain_comp c.in-Match.is ∙ plain-comp-Match c.in-Match.term c.in-Match.at c.in-Match.arms))
    (stop-turn st r c.in_err-cell-in-Match.field-0.0 (eval true (plain_term c.in-Match.term) e) (λ v. arm_turn (plain_arms c.in-Match.arms) c.in-Match.at.at v e s fs) (p.1 ∙ ap Err p.2) (c.in_err-cell-in-Match.ensures.value e k))

pub returns-in_ok-cell-in-Match : goal.returns-in_ok-cell-in-Match
returns-in_ok-cell-in-Match t c = λ e s fs k i gs.
    let P = plain_code c.args.code.now in
    let m0 = c.args.self.now.memory in
    let m = c.eval-in-Match.new.memory in
    let kept = c.in_ok-cell-in-Match.ensures.kept in
    let st = c.arm.new.self in
    let r = c.arm.result in
    subst (λ d. TurnIs st r (text_turn P d e s fs)) (sym (ap plain_comp c.in-Match.is ∙ plain-comp-Match c.in-Match.term c.in-Match.at c.in-Match.arms))
    (value-turn st r m c.in_ok-cell-in-Match.cell (eval true (plain_term c.in-Match.term) e) (λ v. arm_turn (plain_arms c.in-Match.arms) c.in-Match.at.at v e s fs) (c.in_ok-cell-in-Match.ensures.value e k)
    (λ v j. subst (λ arms. TurnIs st r (arm_turn (plain_arms arms) c.in-Match.at.at v e s fs)) c.as_slice.ensures (c.arm.ensures v e s fs j (chain-kept m0 m c.args.env e kept k) (input-kept m0 m c.args.input s kept i) (frames-kept m0 m _ fs kept gs))))

pub unreachable-requires : goal.unreachable-requires
unreachable-requires t c =
    let P = plain_code c.args.code.now in
    return-there P c.in-Return.effect (plain_comp c.in-Return.part) (subst (IsCode P) (ap plain_comp c.in-Return.is ∙ plain-comp-Return c.in-Return.effect c.in-Return.part) c.requires.fit) c.in_default.ensures

pub unreachable-requires-in_default-lift_text : goal.unreachable-requires-in_default-lift_text
unreachable-requires-in_default-lift_text t c =
    let P = plain_code c.args.code.now in
    lift-there P c.in-Lift.lift (plain_comp c.in-Lift.part) (subst (IsCode P) (ap plain_comp c.in-Lift.is ∙ plain-comp-Lift c.in-Lift.lift c.in-Lift.part) c.requires.fit) c.in_default-lift_text.ensures

pub returns-in-Bind : goal.returns-in-Bind
returns-in-Bind t c = λ e s fs k i gs.
    let P = plain_code c.args.code.now in
    subst (λ d. TurnIs c.bind.new.self c.bind.result (text_turn P d e s fs)) (sym (ap plain_comp c.in-Bind.is ∙ plain-comp-Bind c.in-Bind.effect c.in-Bind.field-1 c.in-Bind.first c.in-Bind.second))
    (subst₂ (λ a b. TurnIs c.bind.new.self c.bind.result (text_turn P (c_bind c.in-Bind.effect [] (plain_comp a) (plain_comp b)) e s fs)) c.get-in-Bind.ensures c.get-in-Bind-2.ensures (c.bind.ensures e s fs k i gs))

pub returns-in-If : goal.returns-in-If
returns-in-If t c = λ e s fs k i gs.
    let P = plain_code c.args.code.now in
    subst (λ d. TurnIs c.side.new.self c.side.result (text_turn P d e s fs)) (sym (ap plain_comp c.in-If.is ∙ plain-comp-If c.in-If.test c.in-If.left c.in-If.right))
    (subst₂ (λ a b. TurnIs c.side.new.self c.side.result (text_turn P (c_if (plain_term c.in-If.test) (plain_comp a) (plain_comp b)) e s fs)) c.get-in-If.ensures c.get-in-If-2.ensures (c.side.ensures P e s fs k i gs))

pub returns-in-Call : goal.returns-in-Call
returns-in-Call t c = λ e s fs k i gs.
    let P = plain_code c.args.code.now in
    subst (λ d. TurnIs c.call.new.self c.call.result (text_turn P d e s fs)) (sym (ap plain_comp c.in-Call.is ∙ plain-comp-Call c.in-Call.number c.in-Call.args c.in-Call.field-2))
    (subst (λ us. TurnIs c.call.new.self c.call.result (text_turn P (c_call c.in-Call.number (plain_terms us) 0) e s fs)) c.as_slice-in-Call.ensures (c.call.ensures e s fs k i gs))

pub bind-requires : goal.bind-requires
bind-requires t c =
    let P = plain_code c.args.code.now in
    record { there = (subst (IsCode P) (ap plain_comp c.in-Bind.is ∙ plain-comp-Bind c.in-Bind.effect c.in-Bind.field-1 c.in-Bind.first c.in-Bind.second) c.requires.fit).2 }

pub call-requires-clause-there : goal.call-requires-clause-there
call-requires-clause-there t c =
    let P = plain_code c.args.code.now in
    subst (IsCode P) (ap plain_comp c.in-Call.is ∙ plain-comp-Call c.in-Call.number c.in-Call.args c.in-Call.field-2) c.requires.fit
