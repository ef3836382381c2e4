use Rattle.std.proofs.Common.{◌≡◌, ◌∙◌, ◌+◌, ◌<◌, ◌^◌, length, Some, sym, ap, ap₂, subst, arith}
use Rattle.std.proofs.lemmas.List.{length-append, length-map}
use Rattle.fst_program.specs.Paths.{fun_goals, goals_from, GoalsValid}
use Rattle.fst_program.specs.Plain.{plain_fun, plain_program}
use Rattle.fst_top.specs.Answering.{IsJudged, AreFewer}
use Rattle.fst_top.proofs.JoinLemmas.{goals-next, no-of-program, valid-next}
use Rattle.fst_top.proofs.judging.judge_program.Goals as goal

pub returns-in-No-clause-judged : goal.returns-in-No-clause-judged
returns-in-No-clause-judged c =
    let P = plain_program c.args.program.now in
    let t = c.loop-fun-test.true in
    let e = c.len-fun-end.ensures in
    let l = length-map c.args.program.now.funs (λ f. Some (plain_fun f)) in
    let less : c.loop-fun.fun < length P.funs = omega (arith, t, e, l) in
    no-of-program P c.loop-fun.fun c.args.text.now c.in-No.printed less c.loop-fun.invariant.valid (subst (IsJudged c.args.text.now P (fun_goals P c.loop-fun.fun)) c.in-No.is c.in_ok-count.ensures.judged)

pub loop-fun-preserved : goal.loop-fun-preserved
loop-fun-preserved c =
    let P = plain_program c.args.program.now in
    let j = subst (IsJudged c.args.text.now P (fun_goals P c.loop-fun.fun)) c.in-Valid.is c.in_ok-count.ensures.judged in
    let less : c.in-Valid.count < 2 ^ 64 = subst (AreFewer (2 ^ 64)) c.in-Valid.is c.in_ok-count.ensures.fewer in
    let so_far = c.loop-fun.invariant.bound in
    record {
      goals = ap₂ ◌+◌ c.loop-fun.invariant.goals j.0 ∙ sym (length-append (goals_from P 0 c.loop-fun.fun) (fun_goals P c.loop-fun.fun)) ∙ ap length (sym (goals-next P c.loop-fun.fun));
      valid = valid-next P c.loop-fun.fun c.loop-fun.invariant.valid j.1;
      bound = omega (arith, less, so_far);
    }

pub returns-clause-judged : goal.returns-clause-judged
returns-clause-judged c =
    let P = plain_program c.args.program.now in
    let t = c.loop-fun-test.false in
    let a = c.loop-fun.auto.fun-end in
    let e = c.len-fun-end.ensures in
    let l = length-map c.args.program.now.funs (λ f. Some (plain_fun f)) in
    let all : c.loop-fun.fun ≡ length P.funs = omega (arith, t, a, e, l) in
    (c.loop-fun.invariant.goals ∙ ap (λ n. length (goals_from P 0 n)) all, λ M. subst (λ n. GoalsValid M (goals_from P 0 n)) all (c.loop-fun.invariant.valid M))
