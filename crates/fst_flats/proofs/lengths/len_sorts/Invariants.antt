use Rattle.std.proofs.Common.{◌≡◌, take, map}
use Rattle.fst_base.specs.Sorts.{plain_sort}
use Rattle.fst_flats.specs.Preparing.{sorts_in}
use Rattle.fst_terms.specs.DataFacts.{len_sorts}
use Rattle.fst_terms.specs.Terms.{plain_term}
use Rattle.fst_flats.proofs.lengths.len_sorts.Given as goal

abbrev pub invariant-loop-term : goal.invariant-loop-term
invariant-loop-term l = map plain_sort l.lens ≡ len_sorts (sorts_in l.sorts) (map plain_term (take l.term-index l.terms))
