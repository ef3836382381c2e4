use Rattle.std.proofs.Common.{◌≡◌, take, map, flat_map}
use Rattle.fst_base.specs.Sorts.{plain_sort}
use Rattle.fst_flats.specs.Preparing.{sorts_in}
use Rattle.fst_terms.specs.DataFacts.{facts_at}
use Rattle.fst_terms.specs.Same.{firsts}
use Rattle.fst_terms.specs.Terms.{plain_term}
use Rattle.fst_flats.proofs.data_facts.add_facts.Given as goal

abbrev pub invariant-loop-term : goal.invariant-loop-term
invariant-loop-term l = map plain_term l.facts ≡ firsts (map plain_term l.initial.facts) (flat_map (facts_at (sorts_in l.sorts) (map plain_sort l.lens)) (map plain_term (take l.term-index l.terms)))
