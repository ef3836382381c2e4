use Rattle.std.proofs.Common.{◌≡◌, ◌∙◌, List, ◌-◌, ◌+◌, suc, ap, subst, refl, Ok, Err, Some, None, arith}
use Rattle.std.proofs.lemmas.Result.{err_from_is_err_and}
use Rattle.fst_code.specs.Plain.{plain_code}
use Rattle.fst_machine.specs.States.{TurnIs, StateIs}
use Rattle.fst_machine.specs.Turns.{Tsk, Frm, turn, machine_run}
use Rattle.fst_machine.proofs.RunLemmas.{Reaches, turned-fit, reached-next, reached-end, reached-stop}
use Rattle.fst_machine.proofs.state.State.run.Goals as goal

pub returns-in_err-cell : goal.returns-in_err-cell
returns-in_err-cell c = λ t fs k.
    let P = plain_code c.args.code.now in
    let n : c.args.fuel - c.loop-unit._unit ≡ suc (c.args.fuel - (c.loop-unit._unit + 1)) = omega (arith, c.loop-unit-test.true) in
    let o = machine_run P c.args.fuel t fs in
    let p = err_from_is_err_and c.from_residual.result c.from_residual.ensures.1 in
    reached-stop P c.loop-unit.self c.turn.new.self (c.args.fuel - (c.loop-unit._unit + 1)) o c.from_residual.result c.in_err-cell.field-0.0 (p.1 ∙ ap Err p.2) (subst (λ n. Reaches P c.loop-unit.self n o) n (c.loop-unit.invariant.1 t fs k)) c.in_err-cell.ensures

pub returns-in-Some : goal.returns-in-Some
returns-in-Some c = λ t fs k.
    let P = plain_code c.args.code.now in
    let n : c.args.fuel - c.loop-unit._unit ≡ suc (c.args.fuel - (c.loop-unit._unit + 1)) = omega (arith, c.loop-unit-test.true) in
    let o = machine_run P c.args.fuel t fs in
    reached-end P c.loop-unit.self c.turn.new.self (c.args.fuel - (c.loop-unit._unit + 1)) o (Ok (Some c.in-Some.cell)) c.in-Some.cell refl (subst (λ n. Reaches P c.loop-unit.self n o) n (c.loop-unit.invariant.1 t fs k))
    (λ u gs i. subst (λ r. TurnIs c.turn.new.self (Ok r) (turn P u gs)) c.in-Some.is (c.in_ok-cell.ensures u gs i))

pub loop-unit-preserved : goal.loop-unit-preserved
loop-unit-preserved c =
    let P = plain_code c.args.code.now in
    let n : c.args.fuel - c.loop-unit._unit ≡ suc (c.args.fuel - (c.loop-unit._unit + 1)) = omega (arith, c.loop-unit-test.true) in
    let went : (u : Tsk) (gs : List Frm) → StateIs c.loop-unit.self u gs → TurnIs c.turn.new.self (Ok None) (turn P u gs) = λ u gs i. subst (λ r. TurnIs c.turn.new.self (Ok r) (turn P u gs)) c.in_default.is (c.in_ok-cell.ensures u gs i) in (
      turned-fit P c.loop-unit.self c.turn.new.self c.requires.sound c.loop-unit.invariant.0 went,
      λ t fs k. reached-next P c.loop-unit.self c.turn.new.self (c.args.fuel - (c.loop-unit._unit + 1)) (machine_run P c.args.fuel t fs) (subst (λ n. Reaches P c.loop-unit.self n (machine_run P c.args.fuel t fs)) n (c.loop-unit.invariant.1 t fs k)) went,
    )
