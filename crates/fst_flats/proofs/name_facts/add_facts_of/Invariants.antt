use Rattle.std.proofs.Common.{◌≡◌, ◌++◌, take, map}
use Rattle.fst_flats.specs.Preparing.{sorts_in, fact_of_name}
use Rattle.fst_terms.specs.Terms.{plain_term}
use Rattle.fst_flats.proofs.name_facts.add_facts_of.Given as goal

abbrev pub invariant-loop-term : goal.invariant-loop-term
invariant-loop-term l = map plain_term l.facts ≡ map plain_term l.initial.facts ++ map (fact_of_name (sorts_in l.sorts) (map plain_term l.names)) (map plain_term (take l.term-index l.terms))
