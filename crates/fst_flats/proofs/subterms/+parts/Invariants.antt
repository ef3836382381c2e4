use Rattle.std.proofs.Common.{◌≡◌, take, map}
use Rattle.fst_terms.specs.Flats.{parts_of_each}
use Rattle.fst_terms.specs.Same.{firsts}
use Rattle.fst_terms.specs.Terms.{plain_term}
use Rattle.fst_flats.proofs.subterms.+parts.Given as goal

abbrev pub invariant-add_all_parts-loop-term : goal.invariant-add_all_parts-loop-term
invariant-add_all_parts-loop-term l = map plain_term l.met ≡ firsts (map plain_term l.initial.met) (parts_of_each (map plain_term (take l.term-index l.terms)))
