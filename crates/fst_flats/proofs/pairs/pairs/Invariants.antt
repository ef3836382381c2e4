use Rattle.std.proofs.Common.{◌≡◌, take, map, flat_map}
use Rattle.fst_flats.specs.Preparing.{sorts_in}
use Rattle.fst_terms.specs.Flats.{parts_of_each}
use Rattle.fst_terms.specs.FlatForms.{component_pair}
use Rattle.fst_terms.specs.Terms.{plain_term}
use Rattle.fst_flats.proofs.pairs.pairs.Given as goal

abbrev pub invariant-loop-term : goal.invariant-loop-term
invariant-loop-term l = parts_of_each (map plain_term l.pairs) ≡ flat_map (component_pair (sorts_in l.sorts)) (map plain_term (take l.term-index l.terms))
