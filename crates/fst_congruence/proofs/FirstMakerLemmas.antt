-- The first constructor terms of labels.
use Rattle.std.proofs.Common.{◌≡◌, ◌⊎◌, inl, inr, ℕ, zero, suc, ◌+◌, ◌<◌, ◌≤◌, Bool, true, false, List, [], ◌∷◌, length, get_or, nat_eq, Option, Some, None, refl, sym, ap, ◌∙◌, subst, arith}
use Rattle.std.specs.Prelude.{slice_set}
use Rattle.std.proofs.lemmas.Bool.{cases_lt, eqb-true, eq-eqb}
use Rattle.fst_congruence.specs.Classes.{label_at}
use Rattle.fst_congruence.specs.Closures.{ClosureView}
use Rattle.fst_congruence.specs.Makers.{maker_at, IsMade, AreDifferent, FirstsKnown, first_at}

set-here : (xs : List ℕ) (i x : ℕ) → i < length xs → get_or (slice_set xs i x) i 0 ≡ x
set-here [] i x h = absurd (omega (arith, h))
set-here (y ∷ ys) zero x h = refl
set-here (y ∷ ys) (suc i) x h = set-here ys i x (omega (arith, h))

set-other : (xs : List ℕ) (i j x : ℕ) → (i ≡ j → ⊥) → get_or (slice_set xs i x) j 0 ≡ get_or xs j 0
set-other [] i j x h = refl
set-other (y ∷ ys) zero zero x h = absurd (h refl)
set-other (y ∷ ys) zero (suc j) x h = refl
set-other (y ∷ ys) (suc i) zero x h = refl
set-other (y ∷ ys) (suc i) (suc j) x h = set-other ys i j x (λ e. h (ap suc e))

set-length : (xs : List ℕ) (i x : ℕ) → length (slice_set xs i x) ≡ length xs
set-length [] i x = refl
set-length (y ∷ ys) zero x = refl
set-length (y ∷ ys) (suc i) x = ap suc (set-length ys i x)

same-or : (i j : ℕ) → (i ≡ j) ⊎ (i ≡ j → ⊥)
same-or i j = go (nat_eq i j) refl
  where
    go : (b : Bool) → nat_eq i j ≡ b → (i ≡ j) ⊎ (i ≡ j → ⊥)
    go true q = inl (eqb-true i j q)
    go false q = inr (λ e. absurd (let r : nat_eq i j ≡ true = eq-eqb i j e in cc))

module _ (c : ClosureView) (b : Bool) (firsts : List ℕ) (n : ℕ) (known : FirstsKnown c b firsts n) where
  -- the next term begins with no constructor
  pub known-none : (IsMade c b n → ⊥) → FirstsKnown c b firsts (n + 1)
  known-none none = record { count = known.count; terms = known.terms; all = all }
    where
      all : (j : ℕ) → j < n + 1 → IsMade c b j → (0 < first_at firsts (label_at c.labels j)) × (maker_at c (first_at firsts (label_at c.labels j)) ≡ maker_at c j)
      all j l m = go (cases_lt j n)
        where
          go : (j < n) ⊎ (n ≤ j) → (0 < first_at firsts (label_at c.labels j)) × (maker_at c (first_at firsts (label_at c.labels j)) ≡ maker_at c j)
          go (inl h) = known.all j h m
          go (inr h) = absurd (none (subst (IsMade c b) (let e : j ≡ n = omega (arith, h, l) in e) m))

  -- it begins with the constructor of its label
  pub known-same : 0 < first_at firsts (label_at c.labels n) → maker_at c (first_at firsts (label_at c.labels n)) ≡ maker_at c n → FirstsKnown c b firsts (n + 1)
  known-same some same = record { count = known.count; terms = known.terms; all = all }
    where
      all : (j : ℕ) → j < n + 1 → IsMade c b j → (0 < first_at firsts (label_at c.labels j)) × (maker_at c (first_at firsts (label_at c.labels j)) ≡ maker_at c j)
      all j l m = go (cases_lt j n)
        where
          go : (j < n) ⊎ (n ≤ j) → (0 < first_at firsts (label_at c.labels j)) × (maker_at c (first_at firsts (label_at c.labels j)) ≡ maker_at c j)
          go (inl h) = known.all j h m
          go (inr h) = subst (λ k. (0 < first_at firsts (label_at c.labels k)) × (maker_at c (first_at firsts (label_at c.labels k)) ≡ maker_at c k)) (let e : n ≡ j = omega (arith, h, l) in e) (some, same)

  -- it is the first one of its label
  pub known-first : (new : List ℕ) → new ≡ slice_set firsts (label_at c.labels n) n → label_at c.labels n < length c.labels → first_at firsts (label_at c.labels n) ≡ 0 → IsMade c b n → FirstsKnown c b new (n + 1)
  known-first new is small none made = subst (λ fs. FirstsKnown c b fs (n + 1)) (sym is) (record { count = set-length firsts (label_at c.labels n) n ∙ known.count; terms = terms; all = all })
    where
      l : ℕ
      l = label_at c.labels n

      put : List ℕ
      put = slice_set firsts l n

      here : first_at put l ≡ n
      here = set-here firsts l n (let e = known.count in omega (arith, e, small))

      terms : (k : ℕ) → 0 < first_at put k → IsMade c b (first_at put k) × (label_at c.labels (first_at put k) ≡ k)
      terms k h = go (same-or l k)
        where
          go : (l ≡ k) ⊎ (l ≡ k → ⊥) → IsMade c b (first_at put k) × (label_at c.labels (first_at put k) ≡ k)
          go (inl e) = subst (λ k. IsMade c b (first_at put k) × (label_at c.labels (first_at put k) ≡ k)) e (subst (λ i. IsMade c b i × (label_at c.labels i ≡ l)) (sym here) (made, refl))
          go (inr d) =
              let o : first_at put k ≡ first_at firsts k = set-other firsts l k n d in
              subst (λ i. IsMade c b i × (label_at c.labels i ≡ k)) (sym o) (known.terms k (subst (λ i. 0 < i) o h))

      Right : ℕ → Type 0
      Right j = (0 < first_at put (label_at c.labels j)) × (maker_at c (first_at put (label_at c.labels j)) ≡ maker_at c j)

      all : (j : ℕ) → j < n + 1 → IsMade c b j → Right j
      all j q m = go (cases_lt j n)
        where
          other : j < n → (l ≡ label_at c.labels j) ⊎ (l ≡ label_at c.labels j → ⊥) → Right j
          other h (inl e) = absurd (let w = (known.all j h m).0 in let z : first_at firsts (label_at c.labels j) ≡ 0 = ap (first_at firsts) (sym e) ∙ none in omega (arith, w, z))
          other h (inr d) = subst (λ i. (0 < i) × (maker_at c i ≡ maker_at c j)) (sym (set-other firsts l (label_at c.labels j) n d)) (known.all j h m)

          go : (j < n) ⊎ (n ≤ j) → Right j
          go (inl h) = other h (same-or l (label_at c.labels j))
          go (inr h) = subst Right (let e : n ≡ j = omega (arith, h, q) in e) (subst (λ i. (0 < i) × (maker_at c i ≡ maker_at c n)) (sym here) (made.1.0, refl))

  -- it differs from the first one of its label
  pub known-differs : (first : ℕ) → first ≡ first_at firsts (label_at c.labels n) → 0 < first → IsMade c b n → (maker_at c first ≡ maker_at c n → ⊥) → AreDifferent c b first n
  known-differs first is some made d =
      let t = known.terms (label_at c.labels n) (subst (λ i. 0 < i) is some) in
      record { first = subst (IsMade c b) (sym is) t.0; second = made; different = d; same = ap (label_at c.labels) is ∙ t.1 }

-- where all terms are known, none differ
pub none-differ : (c : ClosureView) (b : Bool) (firsts : List ℕ) (n : ℕ) → FirstsKnown c b firsts n → length c.labels ≤ n → (i j : ℕ) → AreDifferent c b i j → ⊥
none-differ c b firsts n known full i j d =
    let p = d.first.0 in
    let q = d.second.0 in
    let a = (known.all i (omega (arith, p, full)) d.first).1 in
    let b = (known.all j (omega (arith, q, full)) d.second).1 in
    d.different (sym a ∙ ap (λ l. maker_at c (first_at firsts l)) d.same ∙ b)

pub none-known : (c : ClosureView) (b : Bool) (firsts : List ℕ) → length firsts ≡ length c.labels → ((i : ℕ) → get_or firsts i 0 ≡ 0) → FirstsKnown c b firsts 0
none-known c b firsts count zeros = record { count = count; terms = λ l h. absurd (let z = zeros l in omega (arith, h, z)); all = λ j h m. absurd (omega (arith, h)) }
