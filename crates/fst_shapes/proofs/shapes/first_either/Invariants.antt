use Rattle.std.proofs.Common.{◌≡◌, ◌<◌, ℕ, false, get_or}
use Rattle.fst_terms.specs.declared.term.Term.{Term}
use Rattle.fst_terms.specs.Terms.{plain_term}
use Rattle.fst_shapes.specs.Shapes.{is_either}
use Rattle.fst_shapes.proofs.shapes.first_either.Given as goal

abbrev pub invariant-loop-at : goal.invariant-loop-at
invariant-loop-at l = (m : ℕ) → m < l.at → (e : Term) → is_either (plain_term l.term) (plain_term l.other) (plain_term (get_or l.atoms m e)) ≡ false
