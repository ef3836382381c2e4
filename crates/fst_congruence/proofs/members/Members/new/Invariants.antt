use Rattle.std.proofs.Common.{◌≡◌, ℕ, [], length, get_or}
use Rattle.fst_congruence.proofs.members.Members.new.Given as goal

abbrev pub invariant-loop-at : goal.invariant-loop-at
invariant-loop-at l = (length l.lists.items ≡ l._at) × ((i : ℕ) → get_or l.lists.items i [] ≡ [])
