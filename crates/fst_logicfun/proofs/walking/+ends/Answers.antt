use Rattle.fst_program.specs.Plain.{plain_program}
use Rattle.fst_scopes.specs.Scopes.{sorts_in}
use Rattle.fst_logicfun.specs.Turns.{next_ends, rest_ends}
use Rattle.fst_logicfun.specs.Ways.{plain_end}
use Rattle.fst_logicfun.proofs.TurnLemmas.{ends-more, ends-more-by}
use Rattle.fst_logicfun.proofs.walking.+ends.Goals as goal

pub ends_of-loop-way-preserved : goal.ends_of-loop-way-preserved
ends_of-loop-way-preserved t c =
    ends-more plain_end (next_ends (plain_program c.args.program.now) (sorts_in c.args.sorts.now)) _ _ _ c.args.ways.now
    c.loop-way.way-index c.way-item.result _ c.loop-way-test.true c.way-item.is c.in_ok-append.ensures.ok c.loop-way.invariant c.in_ok-more.ensures

pub ends_after-loop-first-preserved : goal.ends_after-loop-first-preserved
ends_after-loop-first-preserved t c =
    ends-more-by plain_end plain_end (rest_ends (plain_program c.args.program.now) (sorts_in c.args.sorts.now) c.args.rest.now) _ _ _ c.args.firsts.now
    c.loop-first.first-index c.first-item.result _ c.loop-first-test.true c.first-item.is c.in_ok-append.ensures.ok c.loop-first.invariant c.in_ok-more.ensures
