use Rattle.std.proofs.Common.{◌≡◌, ◌≤◌, length, ◌+◌, ◌-◌, drop}
use Rattle.fst_text.specs.Characters.{test_of, run_len}
use Rattle.fst_text.proofs.character.Class.decoded_len.Given as goal

abbrev pub invariant-loop-self : goal.invariant-loop-self
invariant-loop-self l = record {
  within : l.at ≤ length l.bytes;
  so_far : run_len (test_of l.self) l.bytes ≡ l.at + run_len (test_of l.self) (drop l.at l.bytes);
}

abbrev pub decreases-loop-self : goal.decreases-loop-self
decreases-loop-self l = length l.bytes - l.at
