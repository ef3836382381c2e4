use Rattle.std.proofs.Common.{◌≤◌, ◌+◌, ◌-◌, ◌^◌}
use Rattle.fst_cli.proofs.word.Given as goal

abbrev pub invariant-sizes : goal.invariant-sizes
invariant-sizes g l = record {
  least : 1 ≤ l.size;
  most : l.size ≤ 2 ^ 25;
}

abbrev pub decreases-sizes : goal.decreases-sizes
decreases-sizes g l = 2 ^ 25 + 1 - l.size
