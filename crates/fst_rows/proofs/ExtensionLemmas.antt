-- A solution of the rows after an elimination gives one of the rows before it.
use Rattle.std.proofs.Common.{◌≡◌, ℕ, zero, suc, ◌*◌, ◌/◌, ◌<◌, Bool, true, false, cond, eqb, ◌⊎◌, inl, inr, List, [], ◌∷◌, get_or, ℤ, pos, negsuc, neg_ℤ, ◌+ℤ◌, ◌*ℤ◌, ◌≤ℤ◌, ◌<ℤ◌, unsigned_abs, refl, sym, ap, ◌∙◌, subst, arith}
use Prim.Native.Nat.{◌∣◌}
use Rattle.std.specs.List.{All, Contains}
use Rattle.std.proofs.lemmas.Int.{ints, by_lt_z}
use Rattle.std.proofs.lemmas.Bool.{eqb-true, ne_eqb}
use Rattle.std.proofs.lemmas.List.Elements.{All-nil, All-cons, All-weaker, All-contains, Contains-get_or}
use Rattle.std.proofs.lemmas.Nat.Gcd.{IsGcd-swap, same_from_IsGcd, mod-eq-zero_of_dvd}
use Rattle.std.proofs.lemmas.Nat.{div-add-mod', mul-le}
use Rattle.fst_terms.specs.Gcd.{gcd}
use Rattle.fst_terms.specs.Rows.{Cf, Rw, Rise, IsRow, sum_at, value_at, SolvesOver, tight}
use Rattle.fst_terms.specs.Elimination.{coef_in, coef, least, share, cancelled, AreOpposite}
use Rattle.fst_terms.specs.Solutions.{Solvable}
use Rattle.fst_terms.proofs.Differences.{dif, dif_pos, dif_sum, dif_neg, dif_product, dif_same, mul-least, sum-least, natural}
use Rattle.fst_terms.proofs.GcdLemmas.{gcd-is}
use Rattle.fst_terms.proofs.SumLemmas.{summed-value}
use Rattle.fst_terms.proofs.TightLemmas.{solved-tight}

-- the values x, but v at unknown u
abbrev pub with_at : ℕ → ℤ → (ℕ → ℤ) → ℕ → ℤ
with_at u v x w = cond (eqb w u) v (x w)

-- what the first elimination keeps: the rows without the unknown, and the sums that cancel it
pub record Eliminates (u : ℕ) (rows after : List Rw) : Type 0 where
  pub kept : (r : Rw) → Contains rows r → coef r u ≡ pos 0 → Contains after r
  pub pairs : (a b : Rw) → Contains rows a → Contains rows b → AreOpposite u a b → Contains after (tight (cancelled u a b))

-- ---- values at one changed unknown

pub above-sum : (u m : ℕ) (v : ℤ) (x : ℕ → ℤ) (cs : List Cf) → u < m → Rise m cs → sum_at (with_at u v x) cs ≡ sum_at x cs
above-sum u m v x [] l h = refl
above-sum u m v x (c ∷ cs) l h =
    let e : eqb c.unknown u ≡ false = ne_eqb c.unknown u (λ f. omega (arith, f, h.0)) in
    rw (e, above-sum u (suc c.unknown) v x cs (omega (arith, h.0)) h.2) refl

scaled-sum : (b : ℤ) (x : ℕ → ℤ) (cs : List Cf) → sum_at (λ w. b *ℤ x w) cs ≡ b *ℤ sum_at x cs
scaled-sum b x [] = dif_same (dif_pos 0) (dif_product (dif b) (dif_pos 0)) (omega arith)
scaled-sum b x (c ∷ cs) = ap (λ n. c.by *ℤ (b *ℤ x c.unknown) +ℤ n) (scaled-sum b x cs) ∙ go b c.by (x c.unknown) (sum_at x cs)
  where
    go : (b c y n : ℤ) → c *ℤ (b *ℤ y) +ℤ b *ℤ n ≡ b *ℤ (c *ℤ y +ℤ n)
    go b c y n = dif_same (dif_sum (dif_product (dif c) (dif_product (dif b) (dif y))) (dif_product (dif b) (dif n))) (dif_product (dif b) (dif_sum (dif_product (dif c) (dif y)) (dif n))) (omega arith)

at-sum : (u m : ℕ) (v b : ℤ) (x : ℕ → ℤ) (cs : List Cf) → Rise m cs → sum_at (with_at u v (λ w. b *ℤ x w)) cs ≡ coef_in cs u *ℤ v +ℤ b *ℤ sum_at (with_at u (pos 0) x) cs
at-sum u m v b x [] h = dif_same (dif_pos 0) (dif_sum (dif_product (dif_pos 0) (dif v)) (dif_product (dif b) (dif_pos 0))) (omega arith)
at-sum u m v b x (c ∷ cs) h = go (eqb c.unknown u) refl (at-sum u (suc c.unknown) v b x cs h.2)
  where
    here : (b c v t : ℤ) → c *ℤ v +ℤ b *ℤ t ≡ c *ℤ v +ℤ b *ℤ (c *ℤ pos 0 +ℤ t)
    here b c v t = dif_same (dif_sum (dif_product (dif c) (dif v)) (dif_product (dif b) (dif t))) (dif_sum (dif_product (dif c) (dif v)) (dif_product (dif b) (dif_sum (dif_product (dif c) (dif_pos 0)) (dif t)))) (omega arith)

    there : (b c d v y t : ℤ) → c *ℤ (b *ℤ y) +ℤ (d *ℤ v +ℤ b *ℤ t) ≡ d *ℤ v +ℤ b *ℤ (c *ℤ y +ℤ t)
    there b c d v y t = dif_same (dif_sum (dif_product (dif c) (dif_product (dif b) (dif y))) (dif_sum (dif_product (dif d) (dif v)) (dif_product (dif b) (dif t)))) (dif_sum (dif_product (dif d) (dif v)) (dif_product (dif b) (dif_sum (dif_product (dif c) (dif y)) (dif t)))) (omega arith)

    go : (t : Bool) → eqb c.unknown u ≡ t → sum_at (with_at u v (λ w. b *ℤ x w)) cs ≡ coef_in cs u *ℤ v +ℤ b *ℤ sum_at (with_at u (pos 0) x) cs
        → c.by *ℤ cond t v (b *ℤ x c.unknown) +ℤ sum_at (with_at u v (λ w. b *ℤ x w)) cs ≡ cond t c.by (coef_in cs u) *ℤ v +ℤ b *ℤ (c.by *ℤ cond t (pos 0) (x c.unknown) +ℤ sum_at (with_at u (pos 0) x) cs)
    go true e back =
        let same : c.unknown ≡ u = eqb-true c.unknown u e in
        let f = above-sum u (suc c.unknown) v (λ w. b *ℤ x w) cs (omega arith) h.2 in
        let g = above-sum u (suc c.unknown) (pos 0) x cs (omega arith) h.2 in
        ap (λ n. c.by *ℤ v +ℤ n) (f ∙ scaled-sum b x cs) ∙ here b c.by v (sum_at x cs) ∙ ap (λ n. c.by *ℤ v +ℤ b *ℤ (c.by *ℤ pos 0 +ℤ n)) (sym g)
    go false e back = ap (λ n. c.by *ℤ (b *ℤ x c.unknown) +ℤ n) back ∙ there b c.by (coef_in cs u) v (x c.unknown) (sum_at (with_at u (pos 0) x) cs)

-- the value of a row where unknown u gets v and all else is scaled by k
at-value : (u m k s : ℕ) (v : ℤ) (x : ℕ → ℤ) (r : Rw) → Rise m r.coefs → value_at (k * s) (with_at u v (λ w. pos k *ℤ x w)) r ≡ coef r u *ℤ v +ℤ pos k *ℤ value_at s (with_at u (pos 0) x) r
at-value u m k s v x r h = ap (λ n. pos (k * s) *ℤ r.constant +ℤ n) (at-sum u m v (pos k) x r.coefs h) ∙ go (coef r u) r.constant (sum_at (with_at u (pos 0) x) r.coefs)
  where
    go : (d c t : ℤ) → pos (k * s) *ℤ c +ℤ (d *ℤ v +ℤ pos k *ℤ t) ≡ d *ℤ v +ℤ pos k *ℤ (pos s *ℤ c +ℤ t)
    go d c t = dif_same (dif_sum (dif_product (dif_pos (k * s)) (dif c)) (dif_sum (dif_product (dif d) (dif v)) (dif_product (dif_pos k) (dif t)))) (dif_sum (dif_product (dif d) (dif v)) (dif_product (dif_pos k) (dif_sum (dif_product (dif_pos s) (dif c)) (dif t)))) (omega arith)

-- ---- the greatest lower bound of the unknown

cancels : (a z : ℤ) → pos 0 <ℤ a → pos 0 ≤ℤ (a *ℤ z) → pos 0 ≤ℤ z
cancels (pos (suc a)) (pos z) h k = omega (arith, ints)
cancels (pos (suc a)) (negsuc z) h k = absurd (omega (arith, ints))
cancels (pos zero) z h k = absurd (omega (arith, ints))
cancels (negsuc a) z h k = absurd (omega (arith, ints))

-- b / c at a below that at r, and that at r below e's, so a's is below e's
passes : (ca la cr lr ce le : ℤ) → pos 0 <ℤ ca → pos 0 <ℤ cr → pos 0 <ℤ ce → (ca *ℤ lr) <ℤ (cr *ℤ la) → (ce *ℤ la) ≤ℤ (ca *ℤ le) → (ce *ℤ lr) ≤ℤ (cr *ℤ le)
passes ca la cr lr ce le pa pr pe f g =
    let m = mul-least cr (ca *ℤ le +ℤ neg_ℤ (ce *ℤ la)) (omega (arith, ints)) (omega (arith, ints, g)) in
    let n = mul-least ce (cr *ℤ la +ℤ neg_ℤ (ca *ℤ lr)) (omega (arith, ints)) (omega (arith, ints, f)) in
    let i : ca *ℤ (cr *ℤ le +ℤ neg_ℤ (ce *ℤ lr)) ≡ cr *ℤ (ca *ℤ le +ℤ neg_ℤ (ce *ℤ la)) +ℤ ce *ℤ (cr *ℤ la +ℤ neg_ℤ (ca *ℤ lr)) = dif_same
    (dif_product (dif ca) (dif_sum (dif_product (dif cr) (dif le)) (dif_neg (dif_product (dif ce) (dif lr)))))
    (dif_sum (dif_product (dif cr) (dif_sum (dif_product (dif ca) (dif le)) (dif_neg (dif_product (dif ce) (dif la))))) (dif_product (dif ce) (dif_sum (dif_product (dif cr) (dif la)) (dif_neg (dif_product (dif ca) (dif lr)))))) (omega arith) in
    let o = cancels ca (cr *ℤ le +ℤ neg_ℤ (ce *ℤ lr)) pa (rw i (sum-least _ _ m n)) in
    omega (arith, ints, o)

module _ (C L : Rw → ℤ) where
  abbrev Bounds : Rw → Rw → Type 0
  Bounds a r = pos 0 <ℤ C r → (C r *ℤ L a) ≤ℤ (C a *ℤ L r)

  record Best (rows : List Rw) : Type 0 where
    a : Rw
    among : Contains rows a
    up : pos 0 <ℤ C a
    bounds : All (Bounds a) rows

  Contains-later : (r a : Rw) (rs : List Rw) → Contains rs a → Contains (r ∷ rs) a
  Contains-later r a rs h = (suc h.0, omega (arith, h.1), h.2)

  best : (rows : List Rw) → All (λ r. C r ≤ℤ pos 0) rows ⊎ Best rows
  best [] = inl (All-nil _)
  best (r ∷ rs) = by_lt_z (pos 0) (C r) (λ up. is_up up (best rs)) (λ down. is_down down (best rs))
    where
      itself : Bounds r r
      itself = λ _. omega (arith, ints)

      is_down : C r ≤ℤ pos 0 → All (λ r. C r ≤ℤ pos 0) rs ⊎ Best rs → All (λ r. C r ≤ℤ pos 0) (r ∷ rs) ⊎ Best (r ∷ rs)
      is_down d (inl h) = inl (All-cons (λ r. C r ≤ℤ pos 0) r rs d h)
      is_down d (inr b) = inr (record { a = b.a; among = Contains-later r b.a rs b.among; up = b.up; bounds = All-cons (Bounds b.a) r rs (λ p. absurd (omega (arith, ints))) b.bounds })

      is_up : pos 0 <ℤ C r → All (λ r. C r ≤ℤ pos 0) rs ⊎ Best rs → All (λ r. C r ≤ℤ pos 0) (r ∷ rs) ⊎ Best (r ∷ rs)
      is_up p (inl h) = inr (record { a = r; among = (0, omega arith, refl); up = p; bounds = All-cons (Bounds r) r rs itself (All-weaker (λ e. C e ≤ℤ pos 0) (Bounds r) (λ e d q. absurd (omega (arith, ints))) rs h) })
      is_up p (inr b) = by_lt_z (C b.a *ℤ L r) (C r *ℤ L b.a)
          (λ f. inr (record { a = r; among = (0, omega arith, refl); up = p; bounds = All-cons (Bounds r) r rs itself (All-weaker (Bounds b.a) (Bounds r) (λ e g q. passes (C b.a) (L b.a) (C r) (L r) (C e) (L e) b.up p q f (g q)) rs b.bounds) }))
          (λ f. inr (record { a = b.a; among = Contains-later r b.a rs b.among; up = b.up; bounds = All-cons (Bounds b.a) r rs (λ _. f) b.bounds }))

  -- a number below 0 and below all L
  record Low (rows : List Rw) : Type 0 where
    v : ℤ
    down : v ≤ℤ pos 0
    below : All (λ r. v ≤ℤ L r) rows

  low : (rows : List Rw) → Low rows
  low [] = record { v = pos 0; down = omega (arith, ints); below = All-nil _ }
  low (r ∷ rs) = by_lt_z (low rs).v (L r)
      (λ f. record { v = (low rs).v; down = (low rs).down; below = All-cons (λ e. (low rs).v ≤ℤ L e) r rs (omega (arith, ints)) (low rs).below })
      (λ f. record { v = L r; down = (let d = (low rs).down in omega (arith, ints)); below = All-cons (λ e. L r ≤ℤ L e) r rs (omega (arith, ints)) (All-weaker (λ e. (low rs).v ≤ℤ L e) (λ e. L r ≤ℤ L e) (λ e g. omega (arith, ints)) rs (low rs).below) })

-- ---- the sum that cancels the unknown

abs_up : (c : ℤ) → pos 0 <ℤ c → pos (unsigned_abs c) ≡ c
abs_up (pos n) h = refl
abs_up (negsuc n) h = absurd (omega (arith, ints))

abs_down : (c : ℤ) → c <ℤ pos 0 → pos (unsigned_abs c) ≡ neg_ℤ c
abs_down (pos n) h = absurd (omega (arith, ints))
abs_down (negsuc n) h = refl

whole_part : (g n : ℕ) → g ∣ n → pos g *ℤ pos (n / g) ≡ pos n
whole_part g n d = omega (arith, ints, div-add-mod' n g, mod-eq-zero_of_dvd g d)

-- the two shares are the coefficients over their greatest common divisor
cancelled-weighs : (m n : ℕ) (la lr : ℤ) → pos 0 ≤ℤ (pos (least m n) *ℤ la +ℤ pos (least n m) *ℤ lr) → pos 0 ≤ℤ (pos n *ℤ la +ℤ pos m *ℤ lr)
cancelled-weighs m n la lr h =
    let g = gcd m n in
    let same : gcd n m ≡ g = same_from_IsGcd n m (gcd n m) g (gcd-is n m) (IsGcd-swap m n g (gcd-is m n)) in
    let e : pos g *ℤ pos (least m n) ≡ pos n = whole_part g n (gcd-is m n).1 in
    let f : pos g *ℤ pos (least n m) ≡ pos m = ap (λ t. pos t *ℤ pos (least n m)) (sym same) ∙ whole_part (gcd n m) m (gcd-is n m).1 in
    joined (pos g) (pos (least m n)) (pos (least n m)) (pos n) (pos m) (natural g) e f h
  where
    joined : (g a b n m : ℤ) → pos 0 ≤ℤ g → g *ℤ a ≡ n → g *ℤ b ≡ m → pos 0 ≤ℤ (a *ℤ la +ℤ b *ℤ lr) → pos 0 ≤ℤ (n *ℤ la +ℤ m *ℤ lr)
    joined g a b n m p e f h =
        let k = mul-least g _ p h in
        let i : g *ℤ (a *ℤ la +ℤ b *ℤ lr) ≡ n *ℤ la +ℤ m *ℤ lr = dif_same (dif_product (dif g) (dif_sum (dif_product (dif a) (dif la)) (dif_product (dif b) (dif lr)))) (dif_sum (dif_product (dif_product (dif g) (dif a)) (dif la)) (dif_product (dif_product (dif g) (dif b)) (dif lr))) (omega arith) ∙ ap (λ z. z *ℤ la +ℤ (g *ℤ b) *ℤ lr) e ∙ ap (λ z. n *ℤ la +ℤ z *ℤ lr) f in
        subst (λ z. pos 0 ≤ℤ z) i k

-- ---- the extension

module _ (u : ℕ) (rows after : List Rw) (ordered : All IsRow rows) (later : All (λ r. Rise (suc u) r.coefs) after) (elim' : Eliminates u rows after) (w : Solvable after) where
  abbrev C : Rw → ℤ
  C r = coef r u

  abbrev L : Rw → ℤ
  L r = value_at w.scale (with_at u (pos 0) w.values) r

  after-solved : (r : Rw) → Contains after r → pos 0 ≤ℤ L r
  after-solved r h =
      rw (above-sum u (suc u) (pos 0) w.values r.coefs (omega arith) (All-contains (λ r. Rise (suc u) r.coefs) after r later h)) (All-contains (SolvesOver w.scale w.values) after r w.solves h)

  -- a row without the unknown
  without-solved : (r : Rw) → Contains rows r → C r ≡ pos 0 → pos 0 ≤ℤ L r
  without-solved r h e = after-solved r (elim'.kept r h e)

  -- two rows with opposite signs
  pair-solved : (a r : Rw) → Contains rows a → Contains rows r → pos 0 <ℤ C a → C r <ℤ pos 0 → pos 0 ≤ℤ (neg_ℤ (C r) *ℤ L a +ℤ C a *ℤ L r)
  pair-solved a r h k p q =
      let s : pos 0 ≤ℤ L (cancelled u a r) = solved-tight w.scale (with_at u (pos 0) w.values) (cancelled u a r) (after-solved (tight (cancelled u a r)) (elim'.pairs a r h k (record { up = p; down = q }))) in
      let v = summed-value w.scale (with_at u (pos 0) w.values) (share u a r) a (share u r a) r in
      let t = cancelled-weighs (unsigned_abs (C a)) (unsigned_abs (C r)) (L a) (L r) (rw v at s) in
      rw (abs_up (C a) p, abs_down (C r) q) at t

  no_upper : All (λ r. C r ≤ℤ pos 0) rows → Low C L rows → Solvable rows
  no_upper d l = record { scale = 1 * w.scale; positive = (let p = w.positive in omega arith); values = with_at u l.v (λ i. pos 1 *ℤ w.values i); solves = λ k e i. at (get_or rows k e) (Contains-get_or rows k e i) }
    where
      sign : (c v n : ℤ) → c ≤ℤ pos 0 → v ≤ℤ pos 0 → v ≤ℤ n → (c ≡ pos 0 → pos 0 ≤ℤ n) → pos 0 ≤ℤ (c *ℤ v +ℤ pos 1 *ℤ n)
      sign (pos zero) v n f g h z = let m = z refl in let i : pos zero *ℤ v ≡ pos 0 = dif_same (dif_product (dif_pos 0) (dif v)) (dif_pos 0) (omega arith) in rw i (omega (arith, ints))
      sign (pos (suc c)) v n f g h z = absurd (omega (arith, ints))
      sign (negsuc c) v n f g h z =
          let m = mul-least (pos c) (neg_ℤ v) (natural c) (omega (arith, ints)) in
          let i : negsuc c *ℤ v +ℤ pos 1 *ℤ n ≡ pos c *ℤ neg_ℤ v +ℤ (n +ℤ neg_ℤ v) = dif_same (dif_sum (dif_product (dif (negsuc c)) (dif v)) (dif_product (dif_pos 1) (dif n))) (dif_sum (dif_product (dif_pos c) (dif_neg (dif v))) (dif_sum (dif n) (dif_neg (dif v)))) (omega arith) in
          rw i (sum-least _ _ m (omega (arith, ints)))

      at : (r : Rw) → Contains rows r → SolvesOver (1 * w.scale) (with_at u l.v (λ i. pos 1 *ℤ w.values i)) r
      at r h = rw (at-value u 0 1 w.scale l.v w.values r (All-contains IsRow rows r ordered h))
          (sign (C r) l.v (L r) (All-contains (λ r. C r ≤ℤ pos 0) rows r d h) l.down (All-contains (λ r. l.v ≤ℤ L r) rows r l.below h) (without-solved r h))

  with_upper : Best C L rows → Solvable rows
  with_upper b = go (C b.a) refl
    where
      turned : (ca la cr lr : ℤ) → cr *ℤ neg_ℤ la +ℤ ca *ℤ lr ≡ neg_ℤ cr *ℤ la +ℤ ca *ℤ lr
      turned ca la cr lr = dif_same (dif_sum (dif_product (dif cr) (dif_neg (dif la))) (dif_product (dif ca) (dif lr))) (dif_sum (dif_product (dif_neg (dif cr)) (dif la)) (dif_product (dif ca) (dif lr))) (omega arith)

      sign : (ca la cr lr : ℤ) → pos 0 <ℤ ca → (cr ≡ pos 0 → pos 0 ≤ℤ lr) → (pos 0 <ℤ cr → (cr *ℤ la) ≤ℤ (ca *ℤ lr)) → (cr <ℤ pos 0 → pos 0 ≤ℤ (neg_ℤ cr *ℤ la +ℤ ca *ℤ lr)) → pos 0 ≤ℤ (cr *ℤ neg_ℤ la +ℤ ca *ℤ lr)
      sign ca la (pos zero) lr p z up down =
          let m = mul-least ca lr (omega (arith, ints)) (z refl) in
          let i : pos zero *ℤ neg_ℤ la +ℤ ca *ℤ lr ≡ ca *ℤ lr = dif_same (dif_sum (dif_product (dif_pos 0) (dif_neg (dif la))) (dif_product (dif ca) (dif lr))) (dif_product (dif ca) (dif lr)) (omega arith) in
          rw i m
      sign ca la (pos (suc c)) lr p z up down = rw (turned ca la (pos (suc c)) lr) (let f = up (omega (arith, ints)) in omega (arith, ints, f))
      sign ca la (negsuc c) lr p z up down = rw (turned ca la (negsuc c) lr) (down (omega (arith, ints)))

      go : (c : ℤ) → C b.a ≡ c → Solvable rows
      go (negsuc k) e = absurd (let p = rw e at b.up in omega (arith, ints))
      go (pos k) e = record { scale = k * w.scale; positive = (let p = rw e at b.up in let q = w.positive in omega (arith, mul-le 1 1 k w.scale (omega (arith, ints)) (omega arith))); values = with_at u (neg_ℤ (L b.a)) (λ i. pos k *ℤ w.values i); solves = λ j d i. at (get_or rows j d) (Contains-get_or rows j d i) }
        where
          at : (r : Rw) → Contains rows r → SolvesOver (k * w.scale) (with_at u (neg_ℤ (L b.a)) (λ i. pos k *ℤ w.values i)) r
          at r h = rw (at-value u 0 k w.scale (neg_ℤ (L b.a)) w.values r (All-contains IsRow rows r ordered h)) (rw (← e) (sign (C b.a) (L b.a) (C r) (L r) b.up (λ z. without-solved r h z) (λ up. All-contains (Bounds C L b.a) rows r b.bounds h up) (λ down. pair-solved b.a r b.among h b.up down)))

  pub extended : Solvable rows
  extended = go (best C L rows)
    where
      go : All (λ r. C r ≤ℤ pos 0) rows ⊎ Best C L rows → Solvable rows
      go (inl d) = no_upper d (low C L rows)
      go (inr b) = with_upper b
