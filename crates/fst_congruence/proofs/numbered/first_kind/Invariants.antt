use Rattle.std.proofs.Common.{◌≡◌, ◌<◌, ℕ, false, get_or}
use Rattle.fst_terms.specs.declared.term.Term.{Term}
use Rattle.fst_terms.specs.Terms.{plain_term}
use Rattle.fst_congruence.specs.Numbered.{same_head}
use Rattle.fst_congruence.proofs.numbered.first_kind.Given as goal

abbrev pub invariant-loop-at : goal.invariant-loop-at
invariant-loop-at l = (m : ℕ) → m < l.at → (e : Term) → same_head (plain_term l.term) (plain_term (get_or l.terms m e)) ≡ false
