use Rattle.std.proofs.Common.{◌≡◌, ◌+◌, ◌≤◌}
use Rattle.fst_base.specs.Values.{Val}
use Rattle.fst_base.specs.Primitives.{len_of}
use Rattle.fst_cells.specs.Trees.{IsCell}
use Rattle.fst_cells.proofs.store.Store.count.Given as goal

abbrev pub invariant-items : goal.invariant-items
invariant-items l = (l.count + l.cell.at ≤ l.fn.cell.at) × ((v : Val) → IsCell l.self l.fn.cell v → (w : Val) × (IsCell l.self l.cell w × (len_of v ≡ l.count + len_of w)))

abbrev pub decreases-items : goal.decreases-items
decreases-items l = l.cell.at
