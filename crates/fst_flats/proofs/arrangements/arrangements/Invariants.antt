use Rattle.std.proofs.Common.{◌≡◌, ◌++◌, drop, map}
use Rattle.fst_flats.specs.Preparing.{sorts_in}
use Rattle.fst_terms.specs.DataFacts.{arrangements}
use Rattle.fst_terms.specs.Terms.{plain_term}
use Rattle.fst_flats.proofs.arrangements.arrangements.Given as goal

abbrev pub invariant-loop-at : goal.invariant-loop-at
invariant-loop-at l = map plain_term l.made ++ arrangements (sorts_in l.sorts) (map plain_term (drop l.at l.terms)) ≡ arrangements (sorts_in l.sorts) (map plain_term l.terms)
