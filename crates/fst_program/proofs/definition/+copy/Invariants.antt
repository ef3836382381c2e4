use Rattle.std.proofs.Common.{◌≡◌, take}
use Rattle.fst_program.proofs.definition.+copy.Given as goal

abbrev pub invariant-copy_arms-loop-arm : goal.invariant-copy_arms-loop-arm
invariant-copy_arms-loop-arm l = l.copies ≡ take l.arm-index l.arms
