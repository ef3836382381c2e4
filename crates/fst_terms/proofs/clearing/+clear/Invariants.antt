use Rattle.std.proofs.Common.{◌≡◌, ℕ, take, map}
use Rattle.fst_terms.specs.Flats.{cleared}
use Rattle.fst_terms.specs.Terms.{plain_term}
use Rattle.fst_terms.proofs.clearing.+clear.Given as goal

abbrev pub invariant-clear_all-loop-term : goal.invariant-clear_all-loop-term
invariant-clear_all-loop-term l = (n : ℕ) → map plain_term l.made ≡ map (λ t. cleared n (plain_term t)) (take l.term-index l.terms)
