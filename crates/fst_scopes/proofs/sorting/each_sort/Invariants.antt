use Rattle.std.proofs.Common.{◌≡◌, map, take}
use Rattle.fst_base.specs.Sorts.{plain_sort}
use Rattle.fst_terms.specs.Formulas.{sort_of}
use Rattle.fst_terms.specs.Terms.{plain_term}
use Rattle.fst_scopes.specs.Scopes.{sorts_in}
use Rattle.fst_scopes.proofs.sorting.each_sort.Given as goal

abbrev pub invariant-loop-term : goal.invariant-loop-term
invariant-loop-term l = map plain_sort l.made ≡ map (λ t. sort_of (sorts_in l.sorts) (plain_term t)) (take l.term-index l.terms)
