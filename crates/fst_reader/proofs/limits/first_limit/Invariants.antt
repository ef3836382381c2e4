use Rattle.std.proofs.Common.{◌≡◌, ◌≤◌, ◌+◌, length, map}
use Rattle.fst_syntax.specs.Tokens.{token_of}
use Rattle.fst_syntax.specs.Limits.{first_limit, limit_from}
use Rattle.fst_reader.proofs.limits.first_limit.Given as goal

abbrev pub invariant-tokens : goal.invariant-tokens
invariant-tokens l = record {
  so_far : first_limit (map token_of l.tokens) ≡ limit_from l.seen l.index (map token_of l.left);
  brackets : l.seen.brackets ≤ 256;
  declared : l.seen.declared ≤ 2048;
  index : l.index + length l.left ≡ length l.tokens;
}

abbrev pub decreases-tokens : goal.decreases-tokens
decreases-tokens l = length l.left
