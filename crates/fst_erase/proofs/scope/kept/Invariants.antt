use Rattle.std.proofs.Common.{◌≡◌, ◌+◌, ◌≤◌, take, reverse, length}
use Rattle.fst_program.specs.Erasure.{kept}
use Rattle.fst_erase.proofs.scope.kept.Given as goal

abbrev pub invariant-variables : goal.invariant-variables
invariant-variables l = (l.at ≤ length l.scope) × (l.shown + l.left ≤ l.index) × (l.shown + kept (reverse (take l.at l.scope)) l.left ≡ kept (reverse l.scope) l.index)

abbrev pub decreases-variables : goal.decreases-variables
decreases-variables l = l.left
