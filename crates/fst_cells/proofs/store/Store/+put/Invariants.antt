use Rattle.std.proofs.Common.{drop, map, ◌≤◌, length}
use Rattle.fst_base.specs.Values.{chain, plain_value}
use Rattle.fst_cells.specs.Trees.{Keeps, IsCell, AddsAtMost, nodes_of}
use Rattle.fst_cells.proofs.store.Store.+put.Given as goal

abbrev pub invariant-put_items-items : goal.invariant-put_items-items
invariant-put_items-items l = (l.left ≤ length l.items) × Keeps l.fn.self l.self × IsCell l.self l.rest (chain (map plain_value (drop l.left l.items))) × AddsAtMost (nodes_of (chain (map plain_value (drop l.left l.items)))) l.fn.self l.self

abbrev pub decreases-put_items-items : goal.decreases-put_items-items
decreases-put_items-items l = l.left
