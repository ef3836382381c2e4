use Rattle.std.proofs.Common.{◌≡◌, ◌≤◌}
use Rattle.fst_base.specs.Values.{Val, same}
use Rattle.fst_cells.specs.Trees.{IsCell}
use Rattle.fst_cells.proofs.store.Store.+same.Given as goal

abbrev pub invariant-parts : goal.invariant-parts
invariant-parts l = (l.a.at ≤ l.fn.a.at) × ((v w : Val) → IsCell l.self l.fn.a v → IsCell l.self l.fn.b w → (x y : Val) × (IsCell l.self l.a x × IsCell l.self l.b y × (same v w ≡ same x y)))

abbrev pub decreases-parts : goal.decreases-parts
decreases-parts l = l.a.at

abbrev pub decreases-same : goal.decreases-same
decreases-same l = l.a.at
