-- A solution after an elimination gives one before it, in the places of the rows.
use Rattle.std.proofs.Common.{◌≡◌, ℕ, zero, suc, ◌<◌, ◌⊎◌, inl, inr, List, [], ◌∷◌, map, length, get_or, pos, ◌<ℤ◌, ap, ◌∙◌, subst, arith}
use Rattle.std.specs.List.{All, Contains}
use Rattle.std.proofs.lemmas.Int.{ints}
use Rattle.std.proofs.lemmas.List.Elements.{All-nil, All-cons}
use Rattle.fst_rows.specs.declared.row.Row.{Row}
use Rattle.fst_terms.specs.Rows.{Rw, Rise, IsRow, tight}
use Rattle.fst_terms.specs.Elimination.{coef, cancelled, AreOpposite}
use Rattle.fst_rows.proofs.RiseLemmas.{Rise-later}
use Rattle.fst_rows.proofs.ExtensionLemmas.{extended}
use Rattle.fst_linear.specs.declared.derivation.Made.{Made}
use Rattle.fst_linear.specs.declared.sweep.Turn.{Turn}
use Rattle.fst_linear.specs.declared.sweep.Turn.TheVariants.{Done, Refuted, TooWide}
use Rattle.fst_linear.specs.Derivations.{at}
use Rattle.fst_linear.specs.Living.{Grows, Lives, Split, SweepsAll, Swept}
use Rattle.fst_linear.specs.Lifts.{rows_at, LiftsOut}

-- ---- members of a mapped list

pub contains-map : (f : ℕ → Rw) (xs : List ℕ) (r : Rw) → Contains (map f xs) r → (n : ℕ) × (n < length xs) × (f (get_or xs n 0) ≡ r)
contains-map f [] r (k, l, e) = absurd (omega arith)
contains-map f (x ∷ xs) r (zero, l, e) = (0, omega arith, e)
contains-map f (x ∷ xs) r (suc k, l, e) = go (contains-map f xs r (k, omega arith, e))
  where
    go : (n : ℕ) × (n < length xs) × (f (get_or xs n 0) ≡ r) → (n : ℕ) × (n < suc (length xs)) × (f (get_or (x ∷ xs) n 0) ≡ r)
    go (n, m, g) = (suc n, omega arith, g)

pub map-contains : (f : ℕ → Rw) (xs : List ℕ) (x : ℕ) → Contains xs x → Contains (map f xs) (f x)
map-contains f [] x (k, l, e) = absurd (omega arith)
map-contains f (y ∷ xs) x (zero, l, e) = (0, omega arith, ap f e)
map-contains f (y ∷ xs) x (suc k, l, e) = go (map-contains f xs x (k, omega arith, e))
  where
    go : Contains (map f xs) (f x) → Contains (map f (y ∷ xs)) (f x)
    go (n, m, g) = (suc n, omega arith, g)

pub all-map : (f : ℕ → Rw) (P : Rw → Type 0) (xs : List ℕ) → ((n : ℕ) → n < length xs → P (f (get_or xs n 0))) → All P (map f xs)
all-map f P [] h = All-nil P
all-map f P (x ∷ xs) h = All-cons P (f x) (map f xs) (h 0 (omega arith)) (all-map f P xs (λ n m. h (suc n) (omega arith)))

index-of : (xs : List ℕ) (x : ℕ) → Contains xs x → (n : ℕ) × (n < length xs) × (get_or xs n 0 ≡ x)
index-of [] x (k, l, e) = absurd (omega arith)
index-of (y ∷ xs) x (zero, l, e) = (0, omega arith, e)
index-of (y ∷ xs) x (suc k, l, e) = go (index-of xs x (k, omega arith, e))
  where
    go : (n : ℕ) × (n < length xs) × (get_or xs n 0 ≡ x) → (n : ℕ) × (n < suc (length xs)) × (get_or (y ∷ xs) n 0 ≡ x)
    go (n, m, g) = (suc n, omega arith, g)

-- ---- one elimination

module _ (given : List Row) (old new : List Made) (u : ℕ) (live without ups downs after : List ℕ) (g : Grows given old new) (v : Lives given old u live) (s : Split given old u live (length live) without ups downs) (w : SweepsAll given new u ups (length ups) downs without after) where
  in_up : (r : Rw) → (k : ℕ) → Contains ups k → at given old k ≡ r → pos 0 <ℤ coef r u
  in_up r k c e = subst (λ t. pos 0 <ℤ coef t u) e (subst (λ i. pos 0 <ℤ coef (at given old i) u) c.2 (s.ups_up c.0 k c.1))

  in_down : (r : Rw) → (k : ℕ) → Contains downs k → at given old k ≡ r → coef r u <ℤ pos 0
  in_down r k c e = subst (λ t. coef t u <ℤ pos 0) e (subst (λ i. coef (at given old i) u <ℤ pos 0) c.2 (s.downs_down c.0 k c.1))

  in_zero : (r : Rw) → (k : ℕ) → Contains without k → at given old k ≡ r → coef r u ≡ pos 0
  in_zero r k c e = subst (λ t. coef t u ≡ pos 0) e (subst (λ i. coef (at given old i) u ≡ pos 0) c.2 (s.without_zero c.0 k c.1))

  -- a row without the unknown
  kept : (r : Rw) → Contains (rows_at given old live) r → coef r u ≡ pos 0 → Contains (rows_at given new after) r
  kept r h z = go (contains-map (at given old) live r h)
    where
      go : (n : ℕ) × (n < length live) × (at given old (get_or live n 0) ≡ r) → Contains (rows_at given new after) r
      go (n, l, e) = by_sign (s.each n l)
        where
          by_sign : Contains without (get_or live n 0) ⊎ (Contains ups (get_or live n 0) ⊎ Contains downs (get_or live n 0)) → Contains (rows_at given new after) r
          by_sign (inl c) = subst (Contains (rows_at given new after)) (g.same (get_or live n 0) (v.within n 0 l) ∙ e) (map-contains (at given new) after (get_or live n 0) (w.kept (get_or live n 0) c))
          by_sign (inr (inl c)) = absurd (let f = in_up r (get_or live n 0) c e in omega (arith, ints, z, f))
          by_sign (inr (inr c)) = absurd (let f = in_down r (get_or live n 0) c e in omega (arith, ints, z, f))

  up-place : (r : Rw) → Contains (rows_at given old live) r → pos 0 <ℤ coef r u → (m : ℕ) × (m < length ups) × (at given old (get_or ups m 0) ≡ r)
  up-place r h p = go (contains-map (at given old) live r h)
    where
      go : (n : ℕ) × (n < length live) × (at given old (get_or live n 0) ≡ r) → (m : ℕ) × (m < length ups) × (at given old (get_or ups m 0) ≡ r)
      go (n, l, e) = by_sign (s.each n l)
        where
          by_sign : Contains without (get_or live n 0) ⊎ (Contains ups (get_or live n 0) ⊎ Contains downs (get_or live n 0)) → (m : ℕ) × (m < length ups) × (at given old (get_or ups m 0) ≡ r)
          by_sign (inl c) = absurd (let f = in_zero r (get_or live n 0) c e in omega (arith, ints, p, f))
          by_sign (inr (inl c)) = let i = index-of ups (get_or live n 0) c in (i.0, i.1, ap (at given old) i.2 ∙ e)
          by_sign (inr (inr c)) = absurd (let f = in_down r (get_or live n 0) c e in omega (arith, ints, p, f))

  down-place : (r : Rw) → Contains (rows_at given old live) r → coef r u <ℤ pos 0 → (m : ℕ) × (m < length downs) × (at given old (get_or downs m 0) ≡ r)
  down-place r h p = go (contains-map (at given old) live r h)
    where
      go : (n : ℕ) × (n < length live) × (at given old (get_or live n 0) ≡ r) → (m : ℕ) × (m < length downs) × (at given old (get_or downs m 0) ≡ r)
      go (n, l, e) = by_sign (s.each n l)
        where
          by_sign : Contains without (get_or live n 0) ⊎ (Contains ups (get_or live n 0) ⊎ Contains downs (get_or live n 0)) → (m : ℕ) × (m < length downs) × (at given old (get_or downs m 0) ≡ r)
          by_sign (inl c) = absurd (let f = in_zero r (get_or live n 0) c e in omega (arith, ints, p, f))
          by_sign (inr (inl c)) = absurd (let f = in_up r (get_or live n 0) c e in omega (arith, ints, p, f))
          by_sign (inr (inr c)) = let i = index-of downs (get_or live n 0) c in (i.0, i.1, ap (at given old) i.2 ∙ e)

  pairs : (a b : Rw) → Contains (rows_at given old live) a → Contains (rows_at given old live) b → AreOpposite u a b → Contains (rows_at given new after) (tight (cancelled u a b))
  pairs a b h k o = go (up-place a h o.up) (down-place b k o.down)
    where
      go : (m : ℕ) × (m < length ups) × (at given old (get_or ups m 0) ≡ a) → (n : ℕ) × (n < length downs) × (at given old (get_or downs n 0) ≡ b) → Contains (rows_at given new after) (tight (cancelled u a b))
      go (m, l, e) (n, k, f) =
          let p = w.pairs m n l k in
          let ea : at given new (get_or ups m 0) ≡ a = g.same (get_or ups m 0) (s.ups_live.within m 0 l) ∙ e in
          let eb : at given new (get_or downs n 0) ≡ b = g.same (get_or downs n 0) (s.downs_live.within n 0 k) ∙ f in
          subst (Contains (rows_at given new after)) (p.2 ∙ ap (λ t. tight (cancelled u t (at given new (get_or downs n 0)))) ea ∙ ap (λ t. tight (cancelled u a t)) eb) (map-contains (at given new) after p.0 p.1)

  pub lifted : LiftsOut given old new u live after
  lifted = record {
    lives = w.lives;
    back = extended u (rows_at given old live) (rows_at given new after)
        (all-map (at given old) IsRow live (λ n l. Rise-later 0 u _ (omega arith) (v.alive n 0 l).rises))
        (all-map (at given new) (λ r. Rise (suc u) r.coefs) after (λ n l. (w.lives.alive n 0 l).rises))
        (record { kept = kept; pairs = pairs });
  }

pub swept-lifted : (given : List Row) (old new : List Made) (u : ℕ) (live without ups downs after : List ℕ) → Grows given old new → Lives given old u live → Split given old u live (length live) without ups downs → (t : Turn) → Swept given new (SweepsAll given new u ups (length ups) downs without after) t → Swept given new (LiftsOut given old new u live after) t
swept-lifted given old new u live without ups downs after g v s Done h = lifted given old new u live without ups downs after g v s h
swept-lifted given old new u live without ups downs after g v s Refuted h = h
swept-lifted given old new u live without ups downs after g v s TooWide h = h
