use Rattle.std.proofs.Common.{◌≡◌, ℕ, length}
use Rattle.fst_congruence.specs.Classes.{why_at}
use Rattle.fst_congruence.proofs.begin.no_reasons.Given as goal

abbrev pub invariant-loop-at : goal.invariant-loop-at
invariant-loop-at l = (length l.whys ≡ l._at) × ((i : ℕ) → (why_at l.whys i).line ≡ 0)
