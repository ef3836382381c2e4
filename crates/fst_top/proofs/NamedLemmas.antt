-- Whether a name is one of these, looked for from the first one on.
use Rattle.std.proofs.Common.{◌≡◌, ℕ, zero, suc, ◌+◌, ◌≤◌, Bool, true, false, if◌then◌else◌, List, [], ◌∷◌, map, length, drop, slice_get, Some, refl, sym, ap, ◌∙◌, arith, bytes_eq}
use Rattle.std.proofs.Common.{nat_eq, ◌&&◌}
use lib.Pointwise.{pointwise}
use Rattle.std.proofs.lemmas.Slice.Eq.{bytes_eq-Decides}
use Rattle.fst_top.specs.Elaboration.{is_named}

chosen-true : (b c : Bool) → b ≡ true → (if b then true else c) ≡ true
chosen-true b c e = rw e refl

chosen-false : (b c : Bool) → b ≡ false → (if b then true else c) ≡ c
chosen-false b c e = rw e refl

not-same : (x y : List ℕ) → (x ≡ y → ⊥) → bytes_eq x y ≡ false
not-same x y n = go (bytes_eq x y) refl
  where
    go : (b : Bool) → bytes_eq x y ≡ b → bytes_eq x y ≡ false
    go true e = absurd (n ((bytes_eq-Decides x y).0 e))
    go false e = e

-- two texts compared byte by byte
pub pointwise-same : (x y : List ℕ) → pointwise nat_eq x y ≡ bytes_eq x y
pointwise-same [] [] = refl
pointwise-same [] (b ∷ y) = refl
pointwise-same (a ∷ x) [] = refl
pointwise-same (a ∷ x) (b ∷ y) = ap (λ t. nat_eq a b && t) (pointwise-same x y)

-- the names of these
module _ {A : Type 0} (name : A → List ℕ) where
  pub named-here : (x : List ℕ) (ps : List A) (k : ℕ) (p : A) → slice_get ps k ≡ Some p → x ≡ name p → is_named x (map name (drop k ps)) ≡ true
  named-here x (q ∷ ps) zero p e s = let f : q ≡ p = cc in chosen-true _ _ ((bytes_eq-Decides x (name q)).1 (s ∙ ap name (sym f)))
  named-here x (q ∷ ps) (suc k) p e s = named-here x ps k p e s
  named-here x [] zero p e s = cc
  named-here x [] (suc k) p e s = cc

  later : (x : List ℕ) (ps : List A) (k : ℕ) (p : A) → slice_get ps k ≡ Some p → (x ≡ name p → ⊥) → is_named x (map name (drop k ps)) ≡ is_named x (map name (drop (suc k) ps))
  later x (q ∷ ps) zero p e n = let f : q ≡ p = cc in chosen-false _ _ (not-same x (name q) (λ s. n (s ∙ ap name f)))
  later x (q ∷ ps) (suc k) p e n = later x ps k p e n
  later x [] zero p e n = cc
  later x [] (suc k) p e n = cc

  pub named-later : (x : List ℕ) (ps : List A) (k : ℕ) (p : A) → slice_get ps k ≡ Some p → (x ≡ name p → ⊥) → is_named x (map name (drop k ps)) ≡ is_named x (map name (drop (k + 1) ps))
  named-later x ps k p e n = let one : suc k ≡ k + 1 = omega arith in later x ps k p e n ∙ ap (λ m. is_named x (map name (drop m ps))) one

  pub named-end : (x : List ℕ) (ps : List A) (k : ℕ) → length ps ≤ k → is_named x (map name (drop k ps)) ≡ false
  named-end x [] zero h = refl
  named-end x [] (suc k) h = refl
  named-end x (p ∷ ps) zero h = absurd (omega (arith, h))
  named-end x (p ∷ ps) (suc k) h = named-end x ps k (omega (arith, h))
