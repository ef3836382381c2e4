use Rattle.std.proofs.Common.{◌≡◌, ◌≤◌, length, ◌+◌, ◌-◌, drop}
use Rattle.fst_text.specs.Characters.{test_of, run_len}
use Rattle.fst_text.proofs.character.Class.ascii_len.Given as goal

abbrev pub invariant-loop-at : goal.invariant-loop-at
invariant-loop-at l = record {
  within : l.at ≤ length l.bytes;
  so_far : run_len (test_of l.self) l.bytes ≡ l.at + run_len (test_of l.self) (drop l.at l.bytes);
}

abbrev pub decreases-loop-at : goal.decreases-loop-at
decreases-loop-at l = length l.bytes - l.at
