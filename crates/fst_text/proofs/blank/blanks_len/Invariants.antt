use Rattle.std.proofs.Common.{◌≡◌, ◌≤◌, length, ◌+◌, ◌-◌, drop}
use Rattle.fst_text.specs.Blanks.{blanks_len}
use Rattle.fst_text.proofs.blank.blanks_len.Given as goal

abbrev pub invariant-loop-at : goal.invariant-loop-at
invariant-loop-at l = record {
  within : l.at ≤ length l.bytes;
  so_far : blanks_len l.bytes ≡ l.at + blanks_len (drop l.at l.bytes);
}

abbrev pub decreases-loop-at : goal.decreases-loop-at
decreases-loop-at l = length l.bytes - l.at
