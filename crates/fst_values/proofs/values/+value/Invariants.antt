use Rattle.std.proofs.Common.{◌+◌, ◌*◌, max, length}
use Rattle.fst_base.specs.Sorts.{plain_sort, depth}
use Rattle.fst_values.proofs.ItemLemmas.{SoFar}
use Rattle.fst_values.proofs.values.+value.Given as goal

abbrev pub decreases-value : goal.decreases-value
decreases-value l = 3 * depth (plain_sort l.sort.now)

abbrev pub decreases-pair : goal.decreases-pair
decreases-pair l = 3 * max (depth (plain_sort l.first.now)) (depth (plain_sort l.second.now)) + 1

abbrev pub decreases-option : goal.decreases-option
decreases-option l = 3 * depth (plain_sort l.item.now) + 1

abbrev pub decreases-either : goal.decreases-either
decreases-either l = 3 * max (depth (plain_sort l.left.now)) (depth (plain_sort l.right.now)) + 1

abbrev pub decreases-list : goal.decreases-list
decreases-list l = 3 * depth (plain_sort l.item.now) + 2

abbrev pub decreases-items : goal.decreases-items
decreases-items l = 3 * depth (plain_sort l.item.now) + 1

abbrev pub invariant-items-loop-items : goal.invariant-items-loop-items
invariant-items-loop-items l = SoFar (plain_sort l.item) l.fn.reader l.reader l.items

abbrev pub decreases-items-loop-items : goal.decreases-items-loop-items
decreases-items-loop-items l = length l.reader
