use Rattle.std.proofs.Common.{◌≡◌, false, take, map}
use Rattle.fst_base.specs.Sorts.{plain_sort}
use Rattle.fst_terms.specs.DataFacts.{is_sort_among}
use Rattle.fst_flats.proofs.lengths.is_sort_among.Given as goal

abbrev pub invariant-loop-other : goal.invariant-loop-other
invariant-loop-other l = is_sort_among (plain_sort l.sort) (map plain_sort (take l.other-index l.sorts)) ≡ false
