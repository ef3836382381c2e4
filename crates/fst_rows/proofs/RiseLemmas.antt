-- Sums and tightened rows have their coefficients in order.
use Rattle.std.proofs.Common.{◌≡◌, ℕ, suc, ◌≤◌, ◌<◌, Bool, true, false, cond, ltb, eqb, List, [], ◌∷◌, ℤ, pos, ◌+ℤ◌, ◌*ℤ◌, unsigned_abs, refl, sym, ap, ◌∙◌, subst, arith}
use Prim.Native.Nat.{◌∣◌}
use Rattle.std.specs.List.{All}
use Rattle.std.specs.Ordering.{int_eq}
use Rattle.std.proofs.lemmas.Bool.{ltb-true, ltb-false, false≢true}
use Rattle.std.proofs.lemmas.Bool.Decides.{Decides-int_eq}
use Rattle.std.proofs.lemmas.List.Elements.{All-head, All-tail}
use Rattle.fst_terms.specs.Rows.{Cf, Rw, Rise, IsRow, put, times, beside, merged, summed, divisor, parts, parted, tight, combined}
use Rattle.fst_terms.proofs.Differences.{dif_pos, dif_product, dif_same}
use Rattle.fst_terms.proofs.TightLemmas.{part-whole, divisor-divides, positive}

pub Rise-later : (m n : ℕ) (cs : List Cf) → m ≤ n → Rise n cs → Rise m cs
Rise-later m n [] l h = tt
Rise-later m n (c ∷ cs) l h = (omega (arith, h.0), h.1, h.2)

pub put-Rise : (m u : ℕ) (n : ℤ) (cs : List Cf) → m ≤ u → Rise (suc u) cs → Rise m (put u n cs)
put-Rise m u n cs l h = go (int_eq n (pos 0)) refl
  where
    go : (t : Bool) → int_eq n (pos 0) ≡ t → Rise m (cond t cs (record { unknown = u; by = n } ∷ cs))
    go true e = Rise-later m (suc u) cs (omega arith) h
    go false e = (l, λ z. false≢true (sym e ∙ (Decides-int_eq n (pos 0)).1 z), h)

pub times-Rise : (m : ℕ) (p : ℤ) (cs : List Cf) → Rise m cs → Rise m (times p cs)
times-Rise m p [] h = tt
times-Rise m p (c ∷ cs) h = put-Rise m c.unknown (p *ℤ c.by) (times p cs) h.0 (times-Rise (suc c.unknown) p cs h.2)

beside-Rise : (p q : ℤ) (c : Cf) (rest : List Cf → List Cf) → ((m : ℕ) (ds : List Cf) → suc c.unknown ≤ m → Rise m ds → Rise (suc c.unknown) (rest ds)) → (m : ℕ) (ds : List Cf) → m ≤ c.unknown → Rise m ds → Rise m (beside p c rest q ds)
beside-Rise p q c rest h m [] l k = put-Rise m c.unknown (p *ℤ c.by) (rest []) l (h (suc c.unknown) [] (omega arith) tt)
beside-Rise p q c rest h m (d ∷ ds) l k = by_first (λ less. beside-Rise p q c rest h (suc d.unknown) ds less k.2) (ltb c.unknown d.unknown) (ltb d.unknown c.unknown) refl refl
  where
    by_first : (d.unknown < c.unknown → Rise (suc d.unknown) (beside p c rest q ds)) → (s t : Bool) → ltb c.unknown d.unknown ≡ s → ltb d.unknown c.unknown ≡ t
        → Rise m (cond s (put c.unknown (p *ℤ c.by) (rest (d ∷ ds))) (cond t (put d.unknown (q *ℤ d.by) (beside p c rest q ds)) (put c.unknown (p *ℤ c.by +ℤ q *ℤ d.by) (rest ds))))
    by_first back true t e f = put-Rise m c.unknown (p *ℤ c.by) (rest (d ∷ ds)) l (h (suc c.unknown) (d ∷ ds) (omega arith) (omega (arith, ltb-true c.unknown d.unknown e), k.1, k.2))
    by_first back false true e f = put-Rise m d.unknown (q *ℤ d.by) (beside p c rest q ds) k.0 (back (ltb-true d.unknown c.unknown f))
    by_first back false false e f =
        put-Rise m c.unknown (p *ℤ c.by +ℤ q *ℤ d.by) (rest ds) l (h (suc d.unknown) ds (omega (arith, ltb-false d.unknown c.unknown f)) k.2)

pub merged-Rise : (p q : ℤ) (cs : List Cf) (m n : ℕ) (ds : List Cf) → m ≤ n → Rise m cs → Rise n ds → Rise m (merged p cs q ds)
merged-Rise p q [] m n ds l h k = Rise-later m n _ l (times-Rise n q ds k)
merged-Rise p q (c ∷ cs) m n ds l h k = beside-Rise p q c (merged p cs q) (λ i es j g. merged-Rise p q cs (suc c.unknown) i es j h.2 g) m ds h.0 (Rise-later m n ds l k)

pub summed-Rise : (m : ℕ) (p : ℤ) (a : Rw) (q : ℤ) (b : Rw) → Rise m a.coefs → Rise m b.coefs → Rise m (summed p a q b).coefs
summed-Rise m p a q b h k = merged-Rise p q a.coefs m m b.coefs (omega arith) h k

parts-Rise : (g : ℕ) (m : ℕ) (cs : List Cf) → 0 < g → All (λ c. g ∣ unsigned_abs c.by) cs → Rise m cs → Rise m (parts g cs)
parts-Rise g m [] p d h = tt
parts-Rise g m (c ∷ cs) p d h =
    let P : Cf → Type 0 = λ e. g ∣ unsigned_abs e.by in
    (h.0, λ z. h.1 (sym (part-whole g c.by p (All-head P c cs d)) ∙ ap (λ n. pos g *ℤ n) z ∙ dif_same (dif_product (dif_pos g) (dif_pos 0)) (dif_pos 0) (omega arith)), parts-Rise g (suc c.unknown) cs p (All-tail P c cs d) h.2)

pub tight-Rise : (m : ℕ) (r : Rw) → Rise m r.coefs → Rise m (tight r).coefs
tight-Rise m r h = go (eqb (divisor r.coefs) 0) refl
  where
    go : (t : Bool) → eqb (divisor r.coefs) 0 ≡ t → Rise m (cond t r (parted (divisor r.coefs) r)).coefs
    go true e = h
    go false e = parts-Rise (divisor r.coefs) m r.coefs (positive _ e) (divisor-divides r.coefs) h

pub combined-Rise : (m : ℕ) (p : ℤ) (a : Rw) (q : ℤ) (b : Rw) → Rise m a.coefs → Rise m b.coefs → Rise m (combined p a q b).coefs
combined-Rise m p a q b h k = tight-Rise m (summed p a q b) (summed-Rise m p a q b h k)

pub combined-row : (p : ℤ) (a : Rw) (q : ℤ) (b r : Rw) → r ≡ combined p a q b → IsRow a → IsRow b → IsRow r
combined-row p a q b r e h k = subst IsRow (sym e) (combined-Rise 0 p a q b h k)
