use Rattle.std.proofs.Common.{◌≡◌, ◌++◌, take, map, flat_map}
use Rattle.fst_flats.specs.Arranged.{arranged_pair}
use Rattle.fst_flats.specs.Preparing.{sorts_in}
use Rattle.fst_terms.specs.Terms.{plain_term}
use Rattle.fst_flats.proofs.arrangements.arrange_each.Given as goal

abbrev pub invariant-loop-other : goal.invariant-loop-other
invariant-loop-other l = map plain_term l.made ≡ map plain_term l.initial.made ++ flat_map (arranged_pair (sorts_in l.sorts) (plain_term l.term)) (map plain_term (take l.other-index l.later))
