-- Whether an atom is among these, by it and by it turned round.
use Rattle.std.proofs.Common.{◌≡◌, Bool, true, false, ◌||◌, if◌then◌else◌, List, [], ◌∷◌, refl, ap, ◌∙◌}
use Rattle.fst_terms.specs.Terms.{Tm}
use Rattle.fst_terms.specs.Same.{same_term, is_among}
use Rattle.fst_terms.specs.Skeletons.{turned, is_atom_among}

either-test : (a b c d : Bool) → (if a || b then true else (c || d)) ≡ ((if a then true else c) || (if b then true else d))
either-test true b c d = refl
either-test false true true d = refl
either-test false true false d = refl
either-test false false c d = refl

pub atom-test : (t : Tm) (us : List Tm) → is_atom_among t us ≡ (is_among t us || is_among (turned t) us)
atom-test t [] = refl
atom-test t (u ∷ us) = ap (λ b. if same_term t u || same_term (turned t) u then true else b) (atom-test t us) ∙ either-test (same_term t u) (same_term (turned t) u) (is_among t us) (is_among (turned t) us)

pub ruleset atom_tests = (atom-test)
