-- Sets of kinds.
use Rattle.std.proofs.Common.{◌≡◌, Bool, true, false, not, ◌||◌, ◌&&◌, List, [], ◌∷◌, ◌++◌, refl, sym, subst, ◌⊎◌, inl, inr}
use Rattle.fst_grammar.specs.Alphabet.{Alphabet, Sound, has, within, apart}

pub both_true : (a b : Bool) → a && b ≡ true → (a ≡ true) × (b ≡ true)
both_true true b e = (refl, e)
both_true false b e = absurd (cc)

pub either_true : (a b : Bool) → a || b ≡ true → (a ≡ true) ⊎ (b ≡ true)
either_true true b e = inl refl
either_true false b e = inr e

pub not_true : (a : Bool) → not a ≡ true → a ≡ false
not_true true e = cc
not_true false e = refl

or_true : (a b : Bool) → b ≡ true → a || b ≡ true
or_true true b e = refl
or_true false b e = e

module _ (K : Alphabet) where
  pub has_left : (js ks : List K.Kind) (x : K.Kind) → has K js x ≡ true → has K (js ++ ks) x ≡ true
  has_left [] ks x h = absurd (cc)
  has_left (j ∷ js) ks x h = elim (either_true (K.same x j) (has K js x) h) [ inl e ↦ rw e refl | inr e ↦ or_true (K.same x j) _ (has_left js ks x e) ]

  pub has_right : (js ks : List K.Kind) (x : K.Kind) → has K ks x ≡ true → has K (js ++ ks) x ≡ true
  has_right [] ks x h = h
  has_right (j ∷ js) ks x h = or_true (K.same x j) _ (has_right js ks x h)

  module _ (D : Sound K) where
    pub has_within : (js ks : List K.Kind) (x : K.Kind) → within K js ks ≡ true → has K js x ≡ true → has K ks x ≡ true
    has_within [] ks x w h = absurd (cc)
    has_within (j ∷ js) ks x w h = let p = both_true (has K ks j) (within K js ks) w in
        elim (either_true (K.same x j) (has K js x) h) [ inl e ↦ subst (λ y. has K ks y ≡ true) (sym (D.equal x j e)) p.0 | inr e ↦ has_within js ks x p.1 e ]

    pub has_apart : (js ks : List K.Kind) (x : K.Kind) → apart K js ks ≡ true → has K js x ≡ true → has K ks x ≡ false
    has_apart [] ks x w h = absurd (cc)
    has_apart (j ∷ js) ks x w h = let p = both_true (not (has K ks j)) (apart K js ks) w in
        elim (either_true (K.same x j) (has K js x) h) [ inl e ↦ subst (λ y. has K ks y ≡ false) (sym (D.equal x j e)) (not_true _ p.0) | inr e ↦ has_apart js ks x p.1 e ]
