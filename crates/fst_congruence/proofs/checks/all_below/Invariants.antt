use Rattle.std.proofs.Common.{ℕ, ◌<◌, get_or}
use Rattle.fst_congruence.proofs.checks.all_below.Given as goal

abbrev pub invariant-loop-at : goal.invariant-loop-at
invariant-loop-at l = (k : ℕ) → k < l.at → get_or l.numbers k 0 < l.count
