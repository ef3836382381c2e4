use Rattle.std.proofs.Common.{◌≡◌, ◌∙◌, [], map, reverse, Ok, Err, ap, subst}
use Rattle.std.proofs.lemmas.Result.{err_from_is_err_and}
use Rattle.fst_base.specs.Values.{plain_value}
use Rattle.fst_code.specs.Plain.{plain_code, plain_code_fun}
use Rattle.fst_program.specs.Plain.{plain_comp}
use Rattle.fst_machine.specs.CodeRuns.{code_run, input_value}
use Rattle.fst_machine.specs.States.{StateIs, RunIs}
use Rattle.fst_machine.specs.Turns.{run_text, machine_run}
use Rattle.fst_machine.proofs.MemoryLemmas.{chain-kept}
use Rattle.fst_machine.proofs.MachineLemmas.{ready-fit, ready-run, told-value, told-out, told-stop}
use Rattle.fst_machine.proofs.machine.run_function.Goals as goal

pub run-requires-clause-fit : goal.run-requires-clause-fit
run-requires-clause-fit c =
    let P = plain_code c.args.code.now in
    let vs = map plain_value c.args.args.now in
    let s = input_value c.args.input.now in
    let f = plain_code_fun c.in-Some.fun.now in
    let st = c.new-state.result in
    let m1 = c.put_arguments.new.memory in
    let m2 = c.put_input.new.memory in
    let is : StateIs st (run_text f.body (reverse vs) s) [] = subst (λ b. StateIs st (run_text (plain_comp b) (reverse vs) s) []) c.body_of.ensures
    (c.new-state.ensures (reverse vs) s (chain-kept m1 m2 c.in_ok-env.env (reverse vs) c.in_ok-input.ensures.kept c.in_ok-env.ensures.chain) c.in_ok-input.ensures.cell) in
    ready-fit P c.args.main c.requires f vs s st c.in-Some.ensures is

pub returns-in_err-cell : goal.returns-in_err-cell
returns-in_err-cell c =
    let P = plain_code c.args.code.now in
    let vs = map plain_value c.args.args.now in
    let s = input_value c.args.input.now in
    let f = plain_code_fun c.in-Some.fun.now in
    let st = c.new-state.result in
    let m1 = c.put_arguments.new.memory in
    let m2 = c.put_input.new.memory in
    let is : StateIs st (run_text f.body (reverse vs) s) [] = subst (λ b. StateIs st (run_text (plain_comp b) (reverse vs) s) []) c.body_of.ensures
    (c.new-state.ensures (reverse vs) s (chain-kept m1 m2 c.in_ok-env.env (reverse vs) c.in_ok-input.ensures.kept c.in_ok-env.ensures.chain) c.in_ok-input.ensures.cell) in
    let m = c.run.new.self.memory in
    let o = code_run P c.args.main c.args.fuel vs s in
    let q : machine_run P c.args.fuel (run_text f.body (reverse vs) s) [] ≡ o = ready-run P c.args.main c.requires f vs s c.args.fuel c.in-Some.ensures in
    let r = c.from_residual-in_err-cell.result in
    let x = c.in_err-cell.field-0.0 in
    let p = err_from_is_err_and r c.from_residual-in_err-cell.ensures.1 in
    told-stop m r x o (p.1 ∙ ap Err p.2) (subst (RunIs m (Err x)) q (c.in_err-cell.ensures (run_text f.body (reverse vs) s) [] is))

pub returns-in_default-2 : goal.returns-in_default-2
returns-in_default-2 c =
    let P = plain_code c.args.code.now in
    let vs = map plain_value c.args.args.now in
    let s = input_value c.args.input.now in
    let f = plain_code_fun c.in-Some.fun.now in
    let st = c.new-state.result in
    let m1 = c.put_arguments.new.memory in
    let m2 = c.put_input.new.memory in
    let is : StateIs st (run_text f.body (reverse vs) s) [] = subst (λ b. StateIs st (run_text (plain_comp b) (reverse vs) s) []) c.body_of.ensures
    (c.new-state.ensures (reverse vs) s (chain-kept m1 m2 c.in_ok-env.env (reverse vs) c.in_ok-input.ensures.kept c.in_ok-env.ensures.chain) c.in_ok-input.ensures.cell) in
    let m = c.run.new.self.memory in
    let o = code_run P c.args.main c.args.fuel vs s in
    let q : machine_run P c.args.fuel (run_text f.body (reverse vs) s) [] ≡ o = ready-run P c.args.main c.requires f vs s c.args.fuel c.in-Some.ensures in
    told-out m o (subst (λ r. RunIs m (Ok r) o) c.in_default-2.is (subst (RunIs m (Ok c.in_ok-cell.field-0)) q (c.in_ok-cell.ensures (run_text f.body (reverse vs) s) [] is)))

pub returns : goal.returns
returns c =
    let P = plain_code c.args.code.now in
    let vs = map plain_value c.args.args.now in
    let s = input_value c.args.input.now in
    let f = plain_code_fun c.in-Some.fun.now in
    let st = c.new-state.result in
    let m1 = c.put_arguments.new.memory in
    let m2 = c.put_input.new.memory in
    let is : StateIs st (run_text f.body (reverse vs) s) [] = subst (λ b. StateIs st (run_text (plain_comp b) (reverse vs) s) []) c.body_of.ensures
    (c.new-state.ensures (reverse vs) s (chain-kept m1 m2 c.in_ok-env.env (reverse vs) c.in_ok-input.ensures.kept c.in_ok-env.ensures.chain) c.in_ok-input.ensures.cell) in
    let m = c.run.new.self.memory in
    let o = code_run P c.args.main c.args.fuel vs s in
    let q : machine_run P c.args.fuel (run_text f.body (reverse vs) s) [] ≡ o = ready-run P c.args.main c.requires f vs s c.args.fuel c.in-Some.ensures in
    told-value m c.in-Some-2.cell c.in_ok-value.field-0 o (subst (λ r. RunIs m (Ok r) o) c.in-Some-2.is (subst (RunIs m (Ok c.in_ok-cell.field-0)) q (c.in_ok-cell.ensures (run_text f.body (reverse vs) s) [] is))) (λ v h. c.in_ok-value.ensures v h)
