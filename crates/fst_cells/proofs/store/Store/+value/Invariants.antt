use Rattle.std.proofs.Common.{◌≡◌, ◌≤◌, ◌+◌, ◌*◌, map}
use Rattle.fst_base.specs.Values.{Val, plain_value}
use Rattle.fst_cells.specs.Trees.{IsCell}
use Rattle.fst_cells.specs.Lists.{onto}
use Rattle.fst_cells.proofs.store.Store.+value.Given as goal

abbrev pub invariant-list-items : goal.invariant-list-items
invariant-list-items l = (l.cell.at ≤ l.fn.cell.at) × ((v : Val) → IsCell l.self l.fn.cell v → (w : Val) × (IsCell l.self l.cell w × (v ≡ onto (map plain_value l.items) w)))

abbrev pub decreases-list-items : goal.decreases-list-items
decreases-list-items l = l.cell.at

abbrev pub decreases-value : goal.decreases-value
decreases-value l = 2 * l.cell.at + 1

abbrev pub decreases-list : goal.decreases-list
decreases-list l = 2 * l.cell.at
