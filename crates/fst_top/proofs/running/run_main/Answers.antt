use Rattle.std.proofs.Common.{map, subst}
use Rattle.fst_base.specs.Values.{plain_value}
use Rattle.fst_program.specs.Plain.{plain_fun, plain_param, plain_program}
use Rattle.fst_top.specs.declared.arguments.Arguments.TheVariants as taken
use Rattle.fst_top.specs.Answers.{Main, Entry}
use Rattle.fst_top.specs.Answering.{IsTaken}
use Rattle.fst_top.proofs.RunningLemmas.{if-ok, proved-is-answer, bad-is-answer}
use Rattle.fst_top.proofs.running.run_main.Goals as goal

pub returns-in-Values : goal.returns-in-Values
returns-in-Values c =
    let ws = c.args.words.now in
    let m : Main c.args.text.now = record { P = plain_program c.args.program.now; reads = c.requires.reads; number = c.args.main; is_main = c.requires.main; fun = plain_fun c.main_function-fun.result.now; there = c.main_function-fun.ensures } in
    let e : Entry c.args.text.now ws = record { main = m; values = map plain_value c.in-Values.values; arguments = subst (λ ps. IsTaken (map plain_param ps) ws (taken.Values c.in-Values.values)) c.as_slice.ensures (subst (IsTaken (map plain_param c.as_slice.result.now) ws) c.in-Values.is c.in_ok-values.ensures) } in
    if-ok c.prove_and_run.result _ _ (proved-is-answer c.args.text.now ws c.args.fuel e) c.prove_and_run.ensures

pub returns-in-Bad : goal.returns-in-Bad
returns-in-Bad c =
    let ws = c.args.words.now in
    let m : Main c.args.text.now = record { P = plain_program c.args.program.now; reads = c.requires.reads; number = c.args.main; is_main = c.requires.main; fun = plain_fun c.main_function-fun.result.now; there = c.main_function-fun.ensures } in
    let bad = subst (λ ps. IsTaken (map plain_param ps) ws (taken.Bad c.in-Bad.word)) c.as_slice.ensures (subst (IsTaken (map plain_param c.as_slice.result.now) ws) c.in-Bad.is c.in_ok-values.ensures) in
    if-ok c.bad_argument.result _ _ (bad-is-answer c.args.text.now ws c.args.fuel m c.in-Bad.word bad.0) c.bad_argument.ensures
