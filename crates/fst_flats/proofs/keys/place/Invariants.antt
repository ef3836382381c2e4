use Rattle.std.proofs.Common.{◌≡◌, ◌+◌, drop, map}
use Rattle.fst_flats.specs.Keys.{place_of}
use Rattle.fst_terms.specs.Terms.{plain_term}
use Rattle.fst_flats.proofs.keys.place.Given as goal

abbrev pub invariant-loop-at : goal.invariant-loop-at
invariant-loop-at l = place_of (plain_term l.term) (map plain_term l.terms) ≡ l.at + place_of (plain_term l.term) (map plain_term (drop l.at l.terms))
