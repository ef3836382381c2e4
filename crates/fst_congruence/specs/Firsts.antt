-- The first term of each key.
use Rattle.std.specs.Prelude.{◌≡◌, ◌⊎◌, ℕ, List, Option, Some, None, nat_eq}
use Rattle.std.specs.Cmp.Lexicographic.{pointwise}
use Rattle.std.specs.HashMap.{get_by}
use Rattle.fst_congruence.specs.declared.firsts.Firsts.{Firsts}

-- the first term that was met with this key
abbrev pub first_of : Firsts → List ℕ → Option ℕ
first_of f key = get_by (λ k. pointwise nat_eq key k.items) f.terms

-- after a term was met with a key
pub record FirstIs (old new : Firsts) (key : List ℕ) (term first : ℕ) : Type 0 where
  pub now : first_of new key ≡ Some first
  pub was : (first_of old key ≡ Some first) ⊎ ((first_of old key ≡ None) × (first ≡ term))
  pub others : (other : List ℕ) → (other ≡ key → ⊥) → first_of new other ≡ first_of old other
