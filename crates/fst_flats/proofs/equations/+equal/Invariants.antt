use Rattle.std.proofs.Common.{◌≡◌, ◌+◌, ◌*◌, max, map}
use Rattle.fst_base.specs.Sorts.{depth, plain_sort}
use Rattle.fst_flats.specs.Sides.{spine}
use Rattle.fst_terms.specs.Skeletons.{atoms_in, equal, first_atoms, lists_equal}
use Rattle.fst_terms.specs.Terms.{plain_term}
use Rattle.fst_flats.proofs.equations.+equal.Given as goal

abbrev pub invariant-collect_lists-loop-atoms : goal.invariant-collect_lists-loop-atoms
invariant-collect_lists-loop-atoms l =
    first_atoms (map plain_term l.atoms) (atoms_in (lists_equal (equal (plain_sort l.item)) (plain_term l.left) (plain_term l.right)))
    ≡ first_atoms (map plain_term l.initial.atoms) (atoms_in (lists_equal (equal (plain_sort l.item)) (plain_term l.initial.left) (plain_term l.initial.right)))

abbrev pub decreases-collect_lists-loop-atoms : goal.decreases-collect_lists-loop-atoms
decreases-collect_lists-loop-atoms l = spine (plain_term l.left)

abbrev pub decreases-collect_equal : goal.decreases-collect_equal
decreases-collect_equal l = depth (plain_sort l.sort.now) * 2

abbrev pub decreases-collect_options : goal.decreases-collect_options
decreases-collect_options l = depth (plain_sort l.item.now) * 2 + 1

abbrev pub decreases-collect_eithers : goal.decreases-collect_eithers
decreases-collect_eithers l = max (depth (plain_sort l.first.now)) (depth (plain_sort l.second.now)) * 2 + 1

abbrev pub decreases-collect_lists : goal.decreases-collect_lists
decreases-collect_lists l = depth (plain_sort l.item.now) * 2 + 1
