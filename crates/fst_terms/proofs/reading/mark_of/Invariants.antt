use Rattle.std.proofs.Common.{◌≡◌, drop, map}
use Rattle.fst_terms.specs.Flats.{mark_of}
use Rattle.fst_terms.specs.Terms.{plain_term}
use Rattle.fst_terms.proofs.reading.mark_of.Given as goal

abbrev pub invariant-loop-at : goal.invariant-loop-at
invariant-loop-at l = mark_of (map plain_term l.atoms) l.marks (plain_term l.term) ≡ mark_of (map plain_term (drop l.at l.atoms)) (drop l.at l.marks) (plain_term l.term)
