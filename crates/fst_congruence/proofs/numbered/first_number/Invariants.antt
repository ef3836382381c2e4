use Rattle.std.proofs.Common.{◌≡◌, ◌<◌, ℕ, false, get_or}
use Rattle.fst_terms.specs.declared.term.Term.{Term}
use Rattle.fst_terms.specs.Terms.{plain_term}
use Rattle.fst_terms.specs.Same.{same_term}
use Rattle.fst_congruence.proofs.numbered.first_number.Given as goal

abbrev pub invariant-loop-at : goal.invariant-loop-at
invariant-loop-at l = (m : ℕ) → m < l.at → (e : Term) → same_term (plain_term l.term) (plain_term (get_or l.terms m e)) ≡ false
