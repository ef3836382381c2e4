use Rattle.std.proofs.Common.{◌∙◌, ap, sym, Err}
use Rattle.std.proofs.lemmas.Result.{err_from_is_err_and}
use Rattle.fst_terms.specs.Terms.{plain_terms}
use Rattle.fst_code.specs.Plain.{plain_code, plain_code_fun}
use Rattle.fst_program.specs.Plain.{plain_comp}
use Rattle.fst_machine.specs.declared.state.State.{State}
use Rattle.fst_machine.specs.declared.state.Task.TheVariants as task
use Rattle.fst_machine.proofs.ArgumentLemmas.{call-stop, call-turn}
use Rattle.fst_machine.proofs.MemoryLemmas.{input-kept}
use Rattle.fst_machine.proofs.SoundLemmas.{sound-code}
use Rattle.fst_machine.proofs.StateLemmas.{frames-kept, call-there}
use Rattle.fst_machine.proofs.state.State.call.Goals as goal

pub returns-in_err-inner : goal.returns-in_err-inner
returns-in_err-inner c = λ e s fs k i gs.
    let P = plain_code c.args.code.now in
    let r = c.from_residual.result in
    let st : State = record { memory = c.arguments.new.memory; task = c.args.self.now.task; frames = c.args.self.now.frames } in
    let p = err_from_is_err_and r c.from_residual.ensures.1 in
    let ts = plain_terms c.args.args.now in
    (call-stop P (sound-code P c.requires.sound) c.args.number 0 (plain_code_fun c.in-Some.fun.now) ts e s fs (sym c.in-Some.ensures) st r c.in_err-inner.field-0.0 (p.1 ∙ ap Err p.2)
    (c.in_err-inner.ensures.chain e k))

pub returns : goal.returns
returns c = λ e s fs k i gs.
    let P = plain_code c.args.code.now in
    let m0 = c.args.self.now.memory in
    let m = c.arguments.new.memory in
    let kept = c.in_ok-inner.ensures.kept in
    let st : State = record { memory = m; task = task.Text c.body_of.result c.in_ok-inner.inner c.input_for.result; frames = c.args.self.now.frames } in
    let ts = plain_terms c.args.args.now in
    let f = plain_code_fun c.in-Some.fun.now in
    (call-turn P (sound-code P c.requires.sound) c.args.number 0 f ts e s fs (sym c.in-Some.ensures) st c.in_ok-inner.inner
    (c.in_ok-inner.ensures.chain e k)
    (λ vs h. ((ap plain_comp c.body_of.ensures, h, c.input_for.ensures m s (input-kept m0 m c.args.input s kept i)), frames-kept m0 m _ fs kept gs)))

pub unreachable-requires : goal.unreachable-requires
unreachable-requires c = call-there (plain_code c.args.code.now) c.args.number c.requires.there c.in_default.ensures
