-- Rows stay alive, and the sum of two rows that are alive is alive once the unknown is gone.
use Rattle.std.proofs.Common.{◌≡◌, ◌≢◌, ℕ, zero, suc, ◌+◌, ◌-◌, ◌*◌, ◌≤◌, ◌<◌, ◌⊎◌, inl, inr, List, [], ◌∷◌, ℤ, pos, negsuc, neg_ℤ, ◌+ℤ◌, ◌*ℤ◌, ◌<ℤ◌, unsigned_abs, refl, sym, ap, ◌∙◌, subst, arith}
use Rattle.std.proofs.lemmas.Int.{ints}
use Rattle.std.proofs.lemmas.Bool.{ne_eqb, eq-eqb, cases_eq, le-ltb}
use Rattle.std.proofs.lemmas.Bool.Decides.{Decides-int_eq}
use Rattle.fst_terms.specs.Rows.{Cf, Rw, Rise, put, merged, tight, IsBelow}
use Rattle.fst_terms.specs.Elimination.{coef_in, coef, least, share, cancelled, AreOpposite, Derived}
use Rattle.fst_terms.proofs.Differences.{dif_pos, dif_sum, dif_neg, dif_product, dif_same}
use Rattle.fst_rows.proofs.RiseLemmas.{merged-Rise, tight-Rise}
use Rattle.fst_linear.specs.Living.{Alive}
use Rattle.fst_linear.proofs.PairLemmas.{least-same, abs_up}

pub coef-absent : (u m : ℕ) (cs : List Cf) → u < m → Rise m cs → coef_in cs u ≡ pos 0
coef-absent u m [] l h = refl
coef-absent u m (c ∷ cs) l h = let e = ne_eqb c.unknown u (λ f. omega (arith, f, h.0)) in rw e (coef-absent u (suc c.unknown) cs (omega (arith, h.0)) h.2)

-- a row without unknowns below u has u first, or not at all
pub head-of : (u : ℕ) (cs : List Cf) → Rise u cs → coef_in cs u ≢ pos 0 → (c : Cf) × ((rest : List Cf) × (cs ≡ c ∷ rest) × (c.unknown ≡ u) × Rise (suc u) rest)
head-of u [] h n = absurd (n refl)
head-of u (c ∷ cs) h n = go (cases_eq c.unknown u)
  where
    go : (c.unknown ≡ u) ⊎ (c.unknown ≡ u → ⊥) → (d : Cf) × ((rest : List Cf) × (c ∷ cs ≡ d ∷ rest) × (d.unknown ≡ u) × Rise (suc u) rest)
    go (inl e) = (c, (cs, refl, e, subst (λ k. Rise (suc k) cs) e h.2))
    go (inr e) = absurd (n (coef-absent u (suc u) (c ∷ cs) (omega arith) (omega (arith, h.0, e), h.1, h.2)))

pub without-rises : (u : ℕ) (cs : List Cf) → Rise u cs → coef_in cs u ≡ pos 0 → Rise (suc u) cs
without-rises u [] h e = tt
without-rises u (c ∷ cs) h e = go (cases_eq c.unknown u)
  where
    go : (c.unknown ≡ u) ⊎ (c.unknown ≡ u → ⊥) → Rise (suc u) (c ∷ cs)
    go (inl f) = absurd (h.1 (let g = eq-eqb c.unknown u f in rw g at e))
    go (inr f) = (omega (arith, h.0, f), h.1, h.2)

abs_down : (c : ℤ) → c <ℤ pos 0 → neg_ℤ (pos (unsigned_abs c)) ≡ c
abs_down (pos n) h = absurd (omega (arith, ints))
abs_down (negsuc n) h = refl

-- the two products cancel
pub products-cancel : (u : ℕ) (a b : Rw) → AreOpposite u a b → share u a b *ℤ coef a u +ℤ share u b a *ℤ coef b u ≡ pos 0
products-cancel u a b o =
    let m = unsigned_abs (coef a u) in
    let n = unsigned_abs (coef b u) in
    ap (λ z. share u a b *ℤ z +ℤ share u b a *ℤ coef b u) (sym (abs_up (coef a u) o.up)) ∙ ap (λ z. share u a b *ℤ pos m +ℤ share u b a *ℤ z) (sym (abs_down (coef b u) o.down))
    ∙ go (least m n) m (least n m) n (least-same m n)
  where
    go : (k m l n : ℕ) → k * m ≡ l * n → pos k *ℤ pos m +ℤ pos l *ℤ neg_ℤ (pos n) ≡ pos 0
    go k m l n e = dif_same (dif_sum (dif_product (dif_pos k) (dif_pos m)) (dif_product (dif_pos l) (dif_neg (dif_pos n)))) (dif_pos 0) (omega (arith, e))

put-none : (u : ℕ) (n : ℤ) (cs : List Cf) → n ≡ pos 0 → put u n cs ≡ cs
put-none u n cs e = let t = (Decides-int_eq n (pos 0)).1 e in rw t refl

up-not : (c : ℤ) → pos 0 <ℤ c → c ≢ pos 0
up-not c h e = omega (arith, ints, h, e)

down-not : (c : ℤ) → c <ℤ pos 0 → c ≢ pos 0
down-not c h e = omega (arith, ints, h, e)

merged-rises : (u : ℕ) (p q : ℤ) (cs ds : List Cf) (c d : Cf) (xs ys : List Cf) → cs ≡ c ∷ xs → ds ≡ d ∷ ys → c.unknown ≡ u → d.unknown ≡ u → Rise (suc u) xs → Rise (suc u) ys → p *ℤ coef_in cs u +ℤ q *ℤ coef_in ds u ≡ pos 0 → Rise (suc u) (merged p cs q ds)
merged-rises u p q cs ds c d xs ys e f g h k l z =
    let gc = eq-eqb c.unknown u g in
    let hd = eq-eqb d.unknown u h in
    let z1 = rw (e, f, gc, hd) at z in
    let s = le-ltb c.unknown d.unknown (omega (arith, g, h)) in
    let t = le-ltb d.unknown c.unknown (omega (arith, g, h)) in
    let o : merged p (c ∷ xs) q (d ∷ ys) ≡ merged p xs q ys = rw (s, t) (put-none c.unknown (p *ℤ c.by +ℤ q *ℤ d.by) (merged p xs q ys) z1) in
    subst (λ r. Rise (suc u) r) (sym (ap (λ r. merged p r q ds) e ∙ ap (λ r. merged p (c ∷ xs) q r) f ∙ o)) (merged-Rise p q xs (suc u) (suc u) ys (omega arith) k l)

pub cancelled-rises : (u : ℕ) (a b : Rw) → AreOpposite u a b → Rise u a.coefs → Rise u b.coefs → Rise (suc u) (tight (cancelled u a b)).coefs
cancelled-rises u a b o h k =
    let x = head-of u a.coefs h (up-not (coef a u) o.up) in
    let y = head-of u b.coefs k (down-not (coef b u) o.down) in
    tight-Rise (suc u) (cancelled u a b) (merged-rises u (share u a b) (share u b a) a.coefs b.coefs x.0 y.0 x.1.0 y.1.0 x.1.1 y.1.1 x.1.2 y.1.2 x.1.3 y.1.3 (products-cancel u a b o))

pub alive-sum : (given : List Rw) (u : ℕ) (a b : Rw) → Alive given u a → Alive given u b → AreOpposite u a b → (IsBelow (tight (cancelled u a b)) → ⊥) → Alive given (suc u) (tight (cancelled u a b))
alive-sum given u a b x y o n = record { rises = cancelled-rises u a b o x.rises y.rises; derived = inr (a, (b, x.derived, y.derived, o, inr refl)); sound = n }

pub alive-without : (given : List Rw) (u : ℕ) (a : Rw) → Alive given u a → coef a u ≡ pos 0 → Alive given (suc u) a
alive-without given u a x e = record { rises = without-rises u a.coefs x.rises e; derived = inl (x.derived, e); sound = x.sound }

-- rows without unknowns below n are derived when these are eliminated
pub derived-later : (given : List Rw) (n u : ℕ) (r : Rw) → Derived given u r → Rise (u + n) r.coefs → Derived given (u + n) r
derived-later given zero u r d h = subst (λ k. Derived given k r) (omega arith) d
derived-later given (suc n) u r d h =
    let e : u + suc n ≡ suc u + n = omega arith in
    subst (λ k. Derived given k r) (sym e) (derived-later given n (suc u) r (inl (d, coef-absent u (u + suc n) r.coefs (omega arith) h)) (rw e at h))

pub alive-later : (given : List Rw) (u v : ℕ) (r : Rw) → u ≤ v → Alive given u r → Rise v r.coefs → Alive given v r
alive-later given u v r l x h =
    let e : u + (v - u) ≡ v = omega arith in
    record { rises = h; derived = subst (λ k. Derived given k r) e (derived-later given (v - u) u r x.derived (subst (λ k. Rise k r.coefs) (sym e) h)); sound = x.sound }
