use Rattle.std.proofs.Common.{◌≡◌, map, reverse, take}
use Rattle.fst_terms.specs.Formulas.{put}
use Rattle.fst_terms.specs.Terms.{plain_term}
use Rattle.fst_top.proofs.goals.instantiate.+instantiate.Given as goal

abbrev pub invariant-instantiate_all-loop-side : goal.invariant-instantiate_all-loop-side
invariant-instantiate_all-loop-side l = map plain_term l.made ≡ map (λ t. put (reverse (map plain_term l.terms)) (plain_term t)) (take l.side-index l.sides)
