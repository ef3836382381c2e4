use Rattle.std.proofs.Common.{◌≡◌, ℕ, ◌<◌, slice_index}
use Rattle.fst_congruence.specs.Classes.{label_at}
use Rattle.fst_congruence.proofs.joining.same_labels.Given as goal

abbrev pub invariant-loop-at : goal.invariant-loop-at
invariant-loop-at l = (k : ℕ) → k < l.at → label_at l.labels (slice_index l.lefts k) ≡ label_at l.labels (slice_index l.rights k)
