use Rattle.std.proofs.Common.{◌≡◌, take}
use Rattle.fst_erase.proofs.functions.copy_lifts.Given as goal

abbrev pub invariant-loop-lift : goal.invariant-loop-lift
invariant-loop-lift l = l.copies ≡ take l.lift-index l.lifts
