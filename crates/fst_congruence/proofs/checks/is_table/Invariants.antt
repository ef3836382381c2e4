use Rattle.std.proofs.Common.{ℕ, ◌<◌, length}
use Rattle.fst_congruence.specs.Joined.{node_at}
use Rattle.fst_congruence.specs.Steps.{NodeFits}
use Rattle.fst_congruence.proofs.checks.is_table.Given as goal

abbrev pub invariant-loop-at : goal.invariant-loop-at
invariant-loop-at l = (i : ℕ) → i < l.at → NodeFits (node_at l.nodes i) (length l.nodes)
