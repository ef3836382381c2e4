-- Tightening: what whole numbers solve a row solve the tightened one, and what solves the tightened row solves the row.
use Rattle.std.proofs.Common.{◌≡◌, ℕ, zero, suc, ◌+◌, ◌*◌, ◌/◌, ◌%◌, ◌<◌, Bool, true, false, cond, eqb, ◌⊎◌, inl, inr, neg_ℤ, List, [], ◌∷◌, ℤ, pos, negsuc, ◌+ℤ◌, ◌*ℤ◌, ◌≤ℤ◌, ◌<ℤ◌, unsigned_abs, refl, sym, ap, ◌∙◌, arith}
use Prim.Native.Nat.{◌∣◌}
use Rattle.std.specs.List.{All}
use Rattle.std.proofs.lemmas.Int.{ints}
use Rattle.std.proofs.lemmas.Bool.{eqb-false, cases_order}
use Rattle.std.proofs.lemmas.List.Elements.{All-nil, All-cons, All-head, All-tail, All-weaker}
use Rattle.std.proofs.lemmas.Nat.Gcd.{dvd_trans, mod-eq-zero_of_dvd}
use Rattle.std.proofs.lemmas.Nat.{div-add-mod', mod_below, mul-le}
use Rattle.fst_terms.specs.Gcd.{gcd}
use Rattle.fst_terms.specs.Rows.{Cf, Rw, sum_at, SolvesOver, Solves, divisor, part_of, parts, parted, tight}
use Rattle.fst_terms.proofs.Differences.{dif, dif_pos, dif_sum, dif_product, dif_same, dif_neg, mul-sum, mul-least, sum-least, natural}
use Rattle.fst_terms.proofs.GcdLemmas.{gcd-is}

-- the divisor divides each coefficient
pub divisor-divides : (cs : List Cf) → All (λ c. divisor cs ∣ unsigned_abs c.by) cs
divisor-divides [] = All-nil _
divisor-divides (c ∷ cs) =
    All-cons (λ d. gcd (unsigned_abs c.by) (divisor cs) ∣ unsigned_abs d.by) c cs (gcd-is (unsigned_abs c.by) (divisor cs)).0
    (All-weaker (λ d. divisor cs ∣ unsigned_abs d.by) (λ d. gcd (unsigned_abs c.by) (divisor cs) ∣ unsigned_abs d.by) (λ d h. dvd_trans _ (gcd-is (unsigned_abs c.by) (divisor cs)).1 h) cs (divisor-divides cs))

next_multiple : (q a g r : ℕ) → q * g ≡ a * g + r + 1 → r < g → q ≡ suc a
next_multiple q a g r e h = go (cases_order q (suc a))
  where
    go : (q ≡ suc a) ⊎ ((q < suc a) ⊎ (suc a < q)) → q ≡ suc a
    go (inl f) = f
    go (inr (inl l)) = absurd (omega (arith, e, mul-le q g a g (omega arith) (omega arith)))
    go (inr (inr l)) = absurd (omega (arith, e, h, mul-le (suc (suc a)) g q g (omega arith) (omega arith)))

-- the part of a multiple of g is whole
pub part-whole : (g : ℕ) (n : ℤ) → 0 < g → g ∣ unsigned_abs n → pos g *ℤ part_of g n ≡ n
part-whole g (pos n) p h = omega (arith, ints, div-add-mod' n g, mod-eq-zero_of_dvd g h)
part-whole g (negsuc n) p h =
    let q = next_multiple (suc n / g) (n / g) g (n % g) (omega (arith, div-add-mod' n g, div-add-mod' (suc n) g, mod-eq-zero_of_dvd g h)) (mod_below n g p) in
    let e : suc n / g * g ≡ suc n = omega (arith, div-add-mod' (suc n) g, mod-eq-zero_of_dvd g h) in
    let f : g * suc (n / g) ≡ suc n = omega (arith, rw q at e) in
    omega (arith, ints, f)

-- g times the part is the number or less, by less than g
pub part-below : (g : ℕ) (n : ℤ) → 0 < g → (pos g *ℤ part_of g n) ≤ℤ n
part-below g (pos n) p = omega (arith, ints, div-add-mod' n g)
part-below g (negsuc n) p = omega (arith, ints, div-add-mod' n g, mod_below n g p)

pub part-above : (g : ℕ) (n : ℤ) → 0 < g → n <ℤ (pos g *ℤ part_of g n +ℤ pos g)
part-above g (pos n) p = omega (arith, ints, div-add-mod' n g, mod_below n g p)
part-above g (negsuc n) p = omega (arith, ints, div-add-mod' n g)

parts-sum : (g : ℕ) (x : ℕ → ℤ) (cs : List Cf) → 0 < g → All (λ c. g ∣ unsigned_abs c.by) cs → sum_at x cs ≡ pos g *ℤ sum_at x (parts g cs)
parts-sum g x [] p h = dif_same (dif_pos 0) (dif_product (dif_pos g) (dif_pos 0)) (omega arith)
parts-sum g x (c ∷ cs) p h =
    let P : Cf → Type 0 = λ d. g ∣ unsigned_abs d.by in
    ap (λ n. n *ℤ x c.unknown +ℤ sum_at x cs) (sym (part-whole g c.by p (All-head P c cs h))) ∙ ap (λ n. pos g *ℤ part_of g c.by *ℤ x c.unknown +ℤ n) (parts-sum g x cs p (All-tail P c cs h))
    ∙ go (pos g) (part_of g c.by) (x c.unknown) (sum_at x (parts g cs))
  where
    go : (g a y t : ℤ) → g *ℤ a *ℤ y +ℤ g *ℤ t ≡ g *ℤ (a *ℤ y +ℤ t)
    go g a y t = dif_same (dif_sum (dif_product (dif_product (dif g) (dif a)) (dif y)) (dif_product (dif g) (dif t))) (dif_product (dif g) (dif_sum (dif_product (dif a) (dif y)) (dif t))) (omega arith)

-- a whole number is at least 0 where g times it is more than - g
rounds : (g : ℕ) (t : ℤ) → (pos 0) <ℤ (pos g *ℤ t +ℤ pos g) → pos 0 ≤ℤ t
rounds g (pos t) h = omega (arith, ints)
rounds g (negsuc t) h = absurd (omega (arith, ints))

parted-solved : (g : ℕ) (x : ℕ → ℤ) (r : Rw) → 0 < g → All (λ c. g ∣ unsigned_abs c.by) r.coefs → Solves x r → Solves x (parted g r)
parted-solved g x r p d h =
    rounds g _ (go (pos g) (part_of g r.constant) (sum_at x (parts g r.coefs)) r.constant (sum_at x r.coefs) (parts-sum g x r.coefs p d) (part-above g r.constant p) h)
  where
    go : (g a t c n : ℤ) → n ≡ g *ℤ t → c <ℤ (g *ℤ a +ℤ g) → pos 0 ≤ℤ (pos 1 *ℤ c +ℤ n) → pos 0 <ℤ (g *ℤ (pos 1 *ℤ a +ℤ t) +ℤ g)
    go g a t c n e l k = let f = mul-sum g (pos 1 *ℤ a) t in let m : pos 1 *ℤ a ≡ a = omega (arith, ints) in rw (f, m) (omega (arith, ints, e, l, k))

solved-parted : (g s : ℕ) (x : ℕ → ℤ) (r : Rw) → 0 < g → All (λ c. g ∣ unsigned_abs c.by) r.coefs → SolvesOver s x (parted g r) → SolvesOver s x r
solved-parted g s x r p d h =
    go (pos g) (pos s) (part_of g r.constant) (sum_at x (parts g r.coefs)) r.constant (sum_at x r.coefs) (natural g) (natural s) (parts-sum g x r.coefs p d) (part-below g r.constant p) h
  where
    go : (g s a t c n : ℤ) → pos 0 ≤ℤ g → pos 0 ≤ℤ s → n ≡ g *ℤ t → (g *ℤ a) ≤ℤ c → pos 0 ≤ℤ (s *ℤ a +ℤ t) → pos 0 ≤ℤ (s *ℤ c +ℤ n)
    go g s a t c n pg ps e l k =
        let m = mul-least g _ pg k in
        let o = mul-least s (c +ℤ neg_ℤ (g *ℤ a)) ps (omega (arith, ints, l)) in
        let i : s *ℤ c +ℤ n ≡ g *ℤ (s *ℤ a +ℤ t) +ℤ s *ℤ (c +ℤ neg_ℤ (g *ℤ a)) = ap (λ z. s *ℤ c +ℤ z) e ∙ dif_same
        (dif_sum (dif_product (dif s) (dif c)) (dif_product (dif g) (dif t)))
        (dif_sum (dif_product (dif g) (dif_sum (dif_product (dif s) (dif a)) (dif t))) (dif_product (dif s) (dif_sum (dif c) (dif_neg (dif_product (dif g) (dif a)))))) (omega arith) in
        rw i (sum-least _ _ m o)

pub positive : (n : ℕ) → eqb n 0 ≡ false → 0 < n
positive zero e = absurd (eqb-false 0 0 e refl)
positive (suc n) e = omega arith

-- whole numbers that solve a row solve the tightened row
pub tight-solved : (x : ℕ → ℤ) (r : Rw) → Solves x r → Solves x (tight r)
tight-solved x r h = go (eqb (divisor r.coefs) 0) refl
  where
    go : (t : Bool) → eqb (divisor r.coefs) 0 ≡ t → Solves x (cond t r (parted (divisor r.coefs) r))
    go true e = h
    go false e = parted-solved (divisor r.coefs) x r (positive _ e) (divisor-divides r.coefs) h

-- quotients that solve the tightened row solve the row
pub solved-tight : (s : ℕ) (x : ℕ → ℤ) (r : Rw) → SolvesOver s x (tight r) → SolvesOver s x r
solved-tight s x r = go (eqb (divisor r.coefs) 0) refl
  where
    go : (t : Bool) → eqb (divisor r.coefs) 0 ≡ t → SolvesOver s x (cond t r (parted (divisor r.coefs) r)) → SolvesOver s x r
    go true e h = h
    go false e h = solved-parted (divisor r.coefs) s x r (positive _ e) (divisor-divides r.coefs) h
