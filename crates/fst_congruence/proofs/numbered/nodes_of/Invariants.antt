use Rattle.std.proofs.Common.{◌≡◌, ◌∷◌, take, map}
use Rattle.fst_terms.specs.Terms.{plain_term}
use Rattle.fst_congruence.specs.Numbered.{node_of, no_node}
use Rattle.fst_congruence.proofs.numbered.nodes_of.Given as goal

abbrev pub invariant-loop-at : goal.invariant-loop-at
invariant-loop-at l = l.nodes ≡ no_node ∷ map (node_of (map plain_term l.terms)) (map plain_term (take l.at l.terms))
