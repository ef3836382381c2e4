use Rattle.std.proofs.lemmas.Result.{IfOk-weaker}
use Rattle.fst_logicfun.specs.Turns.{arms_in}
use Rattle.fst_logicfun.specs.Ways.{plain_taken}
use Rattle.fst_logicfun.proofs.TurnLemmas.{arm-some, arm-none}
use Rattle.fst_logicfun.proofs.branch_turns.arm_way.Goals as goal

pub returns-in_ok-taken-in-Some : goal.returns-in_ok-taken-in-Some
returns-in_ok-taken-in-Some c =
    IfOk-weaker c.one.result _ _ (λ made e. arm-some c.args.at.now (arms_in c.args.arms.now) (plain_taken c.args.way.now) _ made _ e c.in_ok-taken-in-Some.ensures c.in-Some.ensures) c.one.ensures

pub returns-in-None : goal.returns-in-None
returns-in-None c = arm-none c.args.at.now (arms_in c.args.arms.now) (plain_taken c.args.way.now) _ c.new.ensures c.in-None.ensures
