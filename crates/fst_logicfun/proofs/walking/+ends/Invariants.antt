use Rattle.std.proofs.Common.{◌≡◌, ◌+◌, ◌*◌, take, map}
use Rattle.fst_program.specs.Paths.{over}
use Rattle.fst_program.specs.Plain.{plain_program}
use Rattle.fst_scopes.specs.Scopes.{sorts_in}
use Rattle.fst_logicfun.specs.Turns.{next_ends, rest_ends}
use Rattle.fst_logicfun.specs.Ways.{plain_end}
use Rattle.fst_logicfun.proofs.walking.+ends.Given as goal

abbrev pub invariant-ends_of-loop-way : goal.invariant-ends_of-loop-way
invariant-ends_of-loop-way l = map plain_end l.made ≡ over (take l.way-index l.ways) (next_ends (plain_program l.program) (sorts_in l.sorts))

abbrev pub invariant-ends_after-loop-first : goal.invariant-ends_after-loop-first
invariant-ends_after-loop-first l = map plain_end l.made ≡ over (map plain_end (take l.first-index l.firsts)) (rest_ends (plain_program l.program) (sorts_in l.sorts) l.rest)

abbrev pub decreases-ends : goal.decreases-ends
decreases-ends l = 4 * l.levels

abbrev pub decreases-ends_of : goal.decreases-ends_of
decreases-ends_of l = 4 * l.levels + 1

abbrev pub decreases-ends_from : goal.decreases-ends_from
decreases-ends_from l = 4 * l.levels + 1

abbrev pub decreases-ends_after : goal.decreases-ends_after
decreases-ends_after l = 4 * l.levels + 2

abbrev pub decreases-then_ends : goal.decreases-then_ends
decreases-then_ends l = 4 * l.levels + 3
