-- A step that may find nothing, and a choice.
use Rattle.std.proofs.Common.{◌≡◌, Bool, true, false, cond, ◌⊎◌, inl, inr, Option, Some, None, refl, ap}
use Rattle.fst_values.specs.Reading.{◌>>=◌}

pub some-is : {A : Type 0} (x y : A) → ◌≡◌ {A = Option A} (Some x) (Some y) → x ≡ y
some-is x y e = cc

-- a part is found, and the rest goes on from it to the end
pub record GoesOn {A B : Type 0} (o : Option A) (f : A → Option B) (end : B) : Type 0 where
  pub part : A
  pub found : o ≡ Some part
  pub rest : f part ≡ Some end

pub bound : {A B : Type 0} (o : Option A) (f : A → Option B) (x : B) → o >>= f ≡ Some x → GoesOn o f x
bound None f x e = cc
bound (Some a) f x e = record { part = a; found = refl; rest = e }

pub chosen : {A : Type 0} (t : Bool) (o : Option A) (x : A) → cond t o None ≡ Some x → (t ≡ true) × (o ≡ Some x)
chosen true o x e = (refl, e)
chosen false o x e = cc

pub either_chosen : {A : Type 0} (t : Bool) (o p : Option A) (x : A) → cond t o p ≡ Some x
    → ((t ≡ true) × (o ≡ Some x)) ⊎ ((t ≡ false) × (p ≡ Some x))
either_chosen true o p x e = inl (refl, e)
either_chosen false o p x e = inr (refl, e)

-- a found part goes on
pub goes : {A B : Type 0} (o : Option A) (f : A → Option B) (x : A) → o ≡ Some x → o >>= f ≡ f x
goes o f x e = ap (λ p. p >>= f) e

pub goes_none : {A B : Type 0} (o : Option A) (f : A → Option B) → o ≡ None → o >>= f ≡ None
goes_none o f e = ap (λ p. p >>= f) e

pub chooses : {A : Type 0} (t : Bool) (x y : A) → t ≡ true → cond t x y ≡ x
chooses t x y e = ap (λ u. cond u x y) e

pub passes : {A : Type 0} (t : Bool) (x y : A) → t ≡ false → cond t x y ≡ y
passes t x y e = ap (λ u. cond u x y) e
