use Rattle.std.proofs.Common.{◌≡◌, map, reverse, take}
use Rattle.fst_terms.specs.Terms.{plain_term}
use Rattle.fst_program.specs.Erasure.{erased_term}
use Rattle.fst_erase.proofs.terms.+erase.Given as goal

abbrev pub invariant-erase_terms-loop-term : goal.invariant-erase_terms-loop-term
invariant-erase_terms-loop-term l = (l.scope ≡ l.fn.scope) × (map plain_term l.made ≡ map (λ t. erased_term (reverse l.fn.scope) (plain_term t)) (take l.term-index l.terms))
