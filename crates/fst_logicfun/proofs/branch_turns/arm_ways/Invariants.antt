use Rattle.std.proofs.Common.{◌≡◌, take, map}
use Rattle.fst_program.specs.Paths.{over}
use Rattle.fst_program.specs.Plain.{plain_program}
use Rattle.fst_scopes.specs.Scopes.{sorts_in}
use Rattle.fst_logicfun.specs.Turns.{arm_ends_at, arms_in, next_ends}
use Rattle.fst_logicfun.specs.Ways.{plain_taken}
use Rattle.fst_logicfun.proofs.branch_turns.arm_ways.Given as goal

abbrev pub invariant-loop-way : goal.invariant-loop-way
invariant-loop-way l = over l.made (next_ends (plain_program l.at.program.now) (sorts_in l.at.sorts.now)) ≡ over (map plain_taken (take l.way-index l.ways)) (arm_ends_at (arms_in l.arms) l.at)
