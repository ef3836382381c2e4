-- What stands in a program.
use Rattle.std.proofs.Common.{◌≡◌, Option, Some, None, refl, sym, ◌∙◌, subst}
use Rattle.fst_program.specs.Texts.{if_there}

-- what is there
pub there : {A : Type 0} (o : Option A) (k : A → Type 0) → if_there o k ⊥ → (a : A) × ((o ≡ Some a) × k a)
there None k h = absurd h
there (Some a) k h = (a, (refl, h))

pub there-is : {A : Type 0} (o : Option A) (k : A → Type 0) (a : A) → o ≡ Some a → k a → if_there o k ⊥
there-is o k a e h = subst (λ o. if_there o k ⊥) (sym e) h

-- one thing stands at a place
pub same-there : {A : Type 0} (o : Option A) (a b : A) → o ≡ Some a → o ≡ Some b → a ≡ b
same-there o a b p q = let r : Some a ≡ Some b = sym p ∙ q in cc
