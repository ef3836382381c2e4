use Rattle.std.proofs.Common.{map, sym, subst}
use Rattle.std.proofs.lemmas.List.{length-map}
use Rattle.fst_program.specs.Paths.{plain_goal}
use Rattle.fst_program.specs.Plain.{plain_program}
use Rattle.fst_top.specs.Answers.{IsNoOf}
use Rattle.fst_top.specs.Answering.{IsJudgedGoal}
use Rattle.fst_top.specs.Goals.{GoalsPropositional}
use Rattle.fst_top.proofs.JoinLemmas.{Tells, no-here, none-valid, tells-more}
use Rattle.fst_top.proofs.judging.judge_goals.Goals as goal

pub returns-in-Some-2-clause-judged : goal.returns-in-Some-2-clause-judged
returns-in-Some-2-clause-judged c =
    let P = plain_program c.args.program.now in
    c.goals.invariant.tells.a_no c.in-Some-2.printed
    (subst (λ gs. IsNoOf P (map plain_goal gs) c.args.text.now c.in-Some-2.printed) (sym c.in-Some.ensures.cases.0)
    (no-here P (plain_goal c.in-Some.goal.now) (map plain_goal c.in-Some.more.now) c.args.text.now c.in-Some-2.printed
    (subst (IsJudgedGoal c.args.text.now P (plain_goal c.in-Some.goal.now)) c.in-Some-2.is c.in_ok-printed.ensures)))

pub goals-preserved : goal.goals-preserved
goals-preserved c =
    let P = plain_program c.args.program.now in
    record {
      tells = tells-more P c.args.text.now (plain_goal c.in-Some.goal.now) (map plain_goal c.in-Some.more.now) (map plain_goal c.args.goals.now)
          (subst (IsJudgedGoal c.args.text.now P (plain_goal c.in-Some.goal.now)) c.in_default-2.is c.in_ok-printed.ensures)
          (subst (λ gs. Tells P c.args.text.now (map plain_goal gs) (map plain_goal c.args.goals.now)) c.in-Some.ensures.cases.0 c.goals.invariant.tells);
      propositional = (subst (λ gs. GoalsPropositional (map plain_goal gs)) c.in-Some.ensures.cases.0 c.goals.invariant.propositional).1;
    }

pub returns-clause-judged : goal.returns-clause-judged
returns-clause-judged c = (sym (length-map c.args.goals.now plain_goal), c.goals.invariant.tells.a_yes (none-valid c.goals.rest.now c.in_default.ensures.cases))
