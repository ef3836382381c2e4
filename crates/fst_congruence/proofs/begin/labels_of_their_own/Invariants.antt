use Rattle.std.proofs.Common.{◌≡◌, ◌<◌, ℕ, length, get_or}
use Rattle.fst_congruence.proofs.begin.labels_of_their_own.Given as goal

abbrev pub invariant-loop-at : goal.invariant-loop-at
invariant-loop-at l = (length l.labels ≡ l.at) × ((i : ℕ) → i < l.at → get_or l.labels i 0 ≡ i)
