use Rattle.std.proofs.Common.{◌≡◌, take, length}
use Rattle.fst_terms.proofs.term.+same.Given as goal

abbrev pub invariant-same_all-loop-at : goal.invariant-same_all-loop-at
invariant-same_all-loop-at l = (length l.a ≡ length l.b) × (take l.at l.a ≡ take l.at l.b)
