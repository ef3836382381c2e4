use Rattle.fst_program.specs.Plain.{plain_program}
use Rattle.fst_scopes.specs.Scopes.{sorts_in}
use Rattle.fst_logicfun.specs.Turns.{arm_ends_at, arms_in, next_ends}
use Rattle.fst_logicfun.specs.Ways.{plain_taken}
use Rattle.fst_logicfun.proofs.TurnLemmas.{made-more}
use Rattle.fst_logicfun.proofs.branch_turns.arm_ways.Goals as goal

pub loop-way-preserved : goal.loop-way-preserved
loop-way-preserved c =
    made-more (next_ends (plain_program c.args.at.now.program.now) (sorts_in c.args.at.now.sorts.now)) plain_taken (arm_ends_at (arms_in c.args.arms.now) c.args.at.now) _ _ _ c.args.ways.now
    c.loop-way.way-index c.way-item.result _ c.loop-way-test.true c.way-item.is c.in_ok-append.ensures.ok c.loop-way.invariant c.in_ok-more.ensures
