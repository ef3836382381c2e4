use Rattle.std.proofs.Common.{◌≡◌, ◌+◌, ◌*◌, max, map}
use Rattle.fst_base.specs.Sorts.{depth, plain_sort}
use Rattle.fst_shapes.specs.Shapes.{before_end, number_in, shaped}
use Rattle.fst_shapes.specs.Sides.{spine}
use Rattle.fst_terms.specs.Skeletons.{equal, lists_equal}
use Rattle.fst_terms.specs.Terms.{plain_term}
use Rattle.fst_shapes.proofs.reading.+shape.Given as goal

abbrev pub invariant-lists-loop-front : goal.invariant-lists-loop-front
invariant-lists-loop-front l =
    shaped (number_in l.atoms) (lists_equal (equal (plain_sort l.item)) (plain_term l.initial.left) (plain_term l.initial.right))
    ≡ before_end l.heads (shaped (number_in l.atoms) (lists_equal (equal (plain_sort l.item)) (plain_term l.left) (plain_term l.right)))

abbrev pub decreases-lists-loop-front : goal.decreases-lists-loop-front
decreases-lists-loop-front l = spine (plain_term l.left)

abbrev pub decreases-equal : goal.decreases-equal
decreases-equal l = depth (plain_sort l.sort.now) * 2

abbrev pub decreases-components_equal : goal.decreases-components_equal
decreases-components_equal l = depth (plain_sort l.sort.now) * 2 + 1

abbrev pub decreases-options : goal.decreases-options
decreases-options l = depth (plain_sort l.item.now) * 2 + 1

abbrev pub decreases-eithers : goal.decreases-eithers
decreases-eithers l = max (depth (plain_sort l.first.now)) (depth (plain_sort l.second.now)) * 2 + 1

abbrev pub decreases-lists : goal.decreases-lists
decreases-lists l = depth (plain_sort l.item.now) * 2 + 1
