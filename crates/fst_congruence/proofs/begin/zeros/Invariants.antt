use Rattle.std.proofs.Common.{◌≡◌, ℕ, length, get_or}
use Rattle.fst_congruence.proofs.begin.zeros.Given as goal

abbrev pub invariant-loop-at : goal.invariant-loop-at
invariant-loop-at l = (length l.zeros ≡ l._at) × ((i : ℕ) → get_or l.zeros i 0 ≡ 0)
