use Rattle.std.proofs.Common.{◌≡◌, ◌++◌, take, map}
use Rattle.fst_flats.specs.Preparing.{sorts_in}
use Rattle.fst_terms.specs.DataFacts.{positions}
use Rattle.fst_terms.specs.Terms.{plain_term, plain_terms}
use Rattle.fst_flats.proofs.arrangements.add_positions.Given as goal

abbrev pub invariant-loop-at : goal.invariant-loop-at
invariant-loop-at l = map plain_term l.made ≡ map plain_term l.initial.made ++ positions (sorts_in l.sorts) (plain_terms (take l.at l.left)) (plain_terms (take l.at l.right))
