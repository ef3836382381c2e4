use Rattle.std.proofs.Common.{map, sym, subst, IsTrue}
use Rattle.fst_base.specs.Values.{plain_value, v_unit}
use Rattle.fst_code.specs.Plain.{plain_code}
use Rattle.fst_machine.specs.CodeRuns.{code_run}
use Rattle.fst_top.specs.First.{IsFirst, RunGives}
use Rattle.fst_program.specs.Plain.{plain_program}
use Rattle.fst_code.specs.Sound.{is_sound}
use Rattle.fst_top.proofs.SoundLemmas.{built-sound}
use Rattle.fst_top.proofs.RunLemmas.{main-there, erased-first}
use Rattle.fst_top.proofs.RunningLemmas.{if-ok, done-is-end, out-is-end}
use Rattle.fst_top.proofs.running.run_erased.Goals as goal

pub result_of-requires-clause-first : goal.result_of-requires-clause-first
result_of-requires-clause-first c =
    let P = plain_program c.args.program.now in
    let found = main-there P c.args.main c.requires.main in
    subst (λ Q. IsFirst Q c.args.main) (sym c.in_ok-code.ensures.erased) (erased-first P c.args.main found.1.0 c.requires.built found.1.1)

pub result_of-requires-clause-sound : goal.result_of-requires-clause-sound
result_of-requires-clause-sound c = subst (λ Q. IsTrue (is_sound Q)) (sym c.in_ok-code.ensures.erased) (built-sound (plain_program c.args.program.now) c.requires.built)

pub returns-in-Some : goal.returns-in-Some
returns-in-Some c =
    let Q = plain_code c.in_ok-code.code in
    let vs = map plain_value c.args.values.now in
    if-ok c.done.result _ _ (done-is-end (plain_program c.args.program.now) Q c.args.main c.args.fuel vs c.in_ok-code.ensures.erased (plain_value c.in-Some.value) (subst (RunGives (code_run Q c.args.main c.args.fuel vs v_unit)) c.in-Some.is c.in_ok-value.ensures)) c.done.ensures

pub returns : goal.returns
returns c =
    let Q = plain_code c.in_ok-code.code in
    let vs = map plain_value c.args.values.now in
    if-ok c.said.result _ _ (out-is-end (plain_program c.args.program.now) Q c.args.main c.args.fuel vs c.in_ok-code.ensures.erased (subst (RunGives (code_run Q c.args.main c.args.fuel vs v_unit)) c.in-None.is c.in_ok-value.ensures)) c.said.ensures
