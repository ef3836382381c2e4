use Rattle.std.proofs.Common.{length}
use Rattle.fst_logicfun.proofs.definition_turns.+arm_of.Given as goal

abbrev pub decreases-arm_of : goal.decreases-arm_of
decreases-arm_of l = length l.arms.now
