-- The multipliers that cancel an unknown, and wide sums.
use Rattle.std.proofs.Common.{◌≡◌, ◌≢◌, ℕ, zero, suc, ◌+◌, ◌-◌, ◌*◌, ◌/◌, ◌^◌, ◌≤◌, ◌<◌, Bool, true, false, not, ◌||◌, cond, eqb, List, [], ◌∷◌, ◌++◌, length, length-append, get_or, ℤ, pos, negsuc, ◌*ℤ◌, ◌≤ℤ◌, ◌<ℤ◌, unsigned_abs, refl, sym, ap, ◌∙◌, subst, arith, rules, ◌⊎◌, inl, inr}
use Rattle.std.specs.Int.{IsGcd}
use Rattle.std.proofs.lemmas.Int.{ints}
use Rattle.std.proofs.lemmas.Bool.{or_left, or_right, false≢true, cases_lt}
use Rattle.std.proofs.lemmas.Nat.{div-add-mod', mul-le}
use Rattle.std.proofs.lemmas.Nat.Gcd.{mod-eq-zero_of_dvd, IsGcd-swap, same_from_IsGcd}
use Rattle.std.proofs.Math.IntN.{*ℤ-zero}
use Rattle.fst_base.specs.Primitives.{in128}
use Rattle.fst_base.proofs.PrimitiveLemmas.{in128-decides}
use Rattle.fst_terms.specs.Gcd.{gcd}
use Rattle.fst_terms.specs.Rows.{Cf, Rw, some_wide_times, is_wide_times, is_wide}
use Rattle.fst_terms.specs.Elimination.{coef_in, coef, least, share, AreOpposite}
use Rattle.fst_terms.proofs.GcdLemmas.{gcd-is}
use Rattle.std.proofs.Common.{append_assoc}
use Rattle.std.proofs.Math.Seq.{get_or-append_seam}
use Rattle.std.proofs.lemmas.List.{get_or_append_left, length-map}
use Rattle.fst_rows.specs.declared.row.Row.{Row}
use Rattle.fst_terms.specs.Rows.{IsBelow}
use Rattle.fst_terms.specs.Elimination.{no_row, MeetsWide}
use Rattle.fst_linear.specs.Refutations.{Refutes}
use Rattle.fst_linear.specs.declared.derivation.Made.{Made}
use Rattle.fst_linear.specs.Derivations.{Derives, given_rows, made_rows, made_steps, all_rows, at}
use Rattle.fst_linear.specs.Living.{AreShares, SharesWide, Alive, Grows}
use Rattle.fst_linear.proofs.DerivationLemmas.{length-all, derived-refutes}

pub wide-at : (p : ℤ) (u : ℕ) (cs : List Cf) → not (in128 (p *ℤ coef_in cs u)) ≡ true → some_wide_times p cs ≡ true
wide-at p u [] h = let e = *ℤ-zero p in let f = rw e at h in absurd (let g : false ≡ true = f in false≢true g)
wide-at p u (c ∷ cs) h = go (eqb c.unknown u) h (wide-at p u cs)
  where
    go : (t : Bool) → not (in128 (p *ℤ cond t c.by (coef_in cs u))) ≡ true → (not (in128 (p *ℤ coef_in cs u)) ≡ true → some_wide_times p cs ≡ true) → (not (in128 (p *ℤ c.by)) || some_wide_times p cs) ≡ true
    go true h back = or_left _ _ h
    go false h back = or_right (not (in128 (p *ℤ c.by))) (some_wide_times p cs) (back h)

-- the least multiplier is at least 1
pub least-positive : (m n : ℕ) → 0 < n → 1 ≤ least m n
least-positive m n p = go (n / gcd m n) refl
  where
    go : (k : ℕ) → n / gcd m n ≡ k → 1 ≤ k
    go zero e = absurd (let f = div-add-mod' n (gcd m n) in let g = mod-eq-zero_of_dvd (gcd m n) (gcd-is m n).1 in let h = rw e at f in omega arith)
    go (suc k) e = omega arith

-- both multipliers give the same product
pub least-same : (m n : ℕ) → least m n * m ≡ least n m * n
least-same m n =
    let g = gcd m n in
    let same : gcd n m ≡ g = same_from_IsGcd n m (gcd n m) g (gcd-is n m) (IsGcd-swap m n g (gcd-is m n)) in
    let e : least m n * g ≡ n = omega (arith, div-add-mod' n g, mod-eq-zero_of_dvd g (gcd-is m n).1) in
    let f : least n m * g ≡ m = ap (λ t. least n m * t) (sym same) ∙ omega (arith, div-add-mod' m (gcd n m), mod-eq-zero_of_dvd (gcd n m) (gcd-is n m).1) in
    ap (λ t. least m n * t) (sym f) ∙ omega (arith, ap (λ t. least n m * t) e)

past : (n : ℕ) → 2 ^ 127 ≤ n → not (in128 (pos n)) ≡ true
past n h = go (in128 (pos n)) refl
  where
    go : (t : Bool) → in128 (pos n) ≡ t → not t ≡ true
    go true e = absurd (let k = (in128-decides (pos n)).0 e in omega (arith, ints, k.1))
    go false e = refl

past-out : (n : ℕ) → not (in128 (pos n)) ≡ true → 2 ^ 127 ≤ n
past-out n h = go (in128 (pos n)) refl h
  where
    go : (t : Bool) → in128 (pos n) ≡ t → not t ≡ true → 2 ^ 127 ≤ n
    go true e k = absurd (false≢true k)
    go false e k = by_order (cases_lt n (2 ^ 127))
      where
        by_order : (n < 2 ^ 127) ⊎ (2 ^ 127 ≤ n) → 2 ^ 127 ≤ n
        by_order (inl l) = absurd (false≢true (sym e ∙ (in128-decides (pos n)).1 (omega (arith, ints), omega (arith, ints))))
        by_order (inr l) = l

pub abs_up : (c : ℤ) → pos 0 <ℤ c → pos (unsigned_abs c) ≡ c
abs_up (pos n) h = refl
abs_up (negsuc n) h = absurd (omega (arith, ints))

pub abs_positive : (c : ℤ) → c ≢ pos 0 → 0 < unsigned_abs c
abs_positive (pos zero) h = absurd (h refl)
abs_positive (pos (suc n)) h = omega arith
abs_positive (negsuc n) h = omega arith

pub share-least : (u : ℕ) (a b : Rw) → coef b u ≢ pos 0 → pos 1 ≤ℤ share u a b
share-least u a b h = omega (arith, ints, least-positive (unsigned_abs (coef a u)) (unsigned_abs (coef b u)) (abs_positive (coef b u) h))

up-not : (c : ℤ) → pos 0 <ℤ c → c ≢ pos 0
up-not c h e = omega (arith, ints, h, e)

down-not : (c : ℤ) → c <ℤ pos 0 → c ≢ pos 0
down-not c h e = omega (arith, ints, h, e)

-- where the product of the first multiplier is past 128 bits, the sum is wide
product-wide : (u : ℕ) (a b : Rw) → AreOpposite u a b → 2 ^ 127 ≤ least (unsigned_abs (coef a u)) (unsigned_abs (coef b u)) * unsigned_abs (coef a u) → SharesWide u a b
product-wide u a b o h =
    let m = unsigned_abs (coef a u) in
    let k = least m (unsigned_abs (coef b u)) in
    let e : share u a b *ℤ coef a u ≡ pos (k * m) = ap (λ c. pos k *ℤ c) (sym (abs_up (coef a u) o.up)) in
    let w : not (in128 (share u a b *ℤ coef a u)) ≡ true = ap (λ z. not (in128 z)) e ∙ past (k * m) h in
    record { wide = or_left (is_wide_times (share u a b) a) _ (or_right (not (in128 (share u a b *ℤ a.constant))) _ (wide-at (share u a b) u a.coefs w)) }

pub first-wide : (u : ℕ) (a b : Rw) → AreOpposite u a b → not (in128 (share u a b)) ≡ true → SharesWide u a b
first-wide u a b o h =
    let m = unsigned_abs (coef a u) in
    let n = unsigned_abs (coef b u) in
    product-wide u a b o (omega (arith, mul-le (2 ^ 127) 1 (least m n) m (past-out (least m n) h) (abs_positive (coef a u) (up-not _ o.up))))

pub second-wide : (u : ℕ) (a b : Rw) → AreOpposite u a b → not (in128 (share u b a)) ≡ true → SharesWide u a b
second-wide u a b o h =
    let m = unsigned_abs (coef a u) in
    let n = unsigned_abs (coef b u) in
    product-wide u a b o (omega (arith, least-same m n, mul-le (2 ^ 127) 1 (least n m) n (past-out (least n m) h) (abs_positive (coef b u) (down-not _ o.down))))

pub shares-are : (u : ℕ) (a b : Rw) (p q : ℤ) → AreOpposite u a b → p ≡ share u a b → q ≡ share u b a → AreShares u a b p q
shares-are u a b p q o e f = record { first = e; second = f; first_least = rw e (share-least u a b (down-not _ o.down)); second_least = rw f (share-least u b a (up-not _ o.up)) }

pub up-there : (u : ℕ) (a b : Rw) → AreOpposite u a b → coef a u ≢ pos 0
up-there u a b o = up-not (coef a u) o.up

pub down-there : (u : ℕ) (a b : Rw) → AreOpposite u a b → coef b u ≢ pos 0
down-there u a b o = down-not (coef b u) o.down

pub gcd-positive : (m n g : ℕ) → IsGcd m n g → 0 < n → 0 < g
gcd-positive m n zero h p = absurd (let f = div-add-mod' n zero in let e = mod-eq-zero_of_dvd zero h.1 in omega arith)
gcd-positive m n (suc g) h p = omega arith

pub share-of : (u : ℕ) (A B a b : Rw) → A ≡ a → B ≡ b → share u A B ≡ share u a b
share-of u A B a b e f = ap (λ t. share u t B) e ∙ ap (λ t. share u a t) f

-- a wide sum of two rows that are alive
pub meets-wide : (given : List Rw) (u : ℕ) (a b : Rw) (p q : ℤ) → Alive given u a → Alive given u b → AreOpposite u a b → AreShares u a b p q → is_wide p a q b ≡ true → MeetsWide given
meets-wide given u a b p q x y o s w = record { unknown = u; first = a; second = b; first_derived = x.derived; second_derived = y.derived; opposite = o; wide = (let e = rw (s.first, s.second) at w in search rules) }

pub meets-shares : (given : List Rw) (u : ℕ) (a b : Rw) → Alive given u a → Alive given u b → AreOpposite u a b → SharesWide u a b → MeetsWide given
meets-shares given u a b x y o s = record { unknown = u; first = a; second = b; first_derived = x.derived; second_derived = y.derived; opposite = o; wide = (let e = s.wide in search rules) }

-- ---- more rows

pub at-before : (given : List Row) (old new : List Made) (r : Rw) → made_rows new ≡ made_rows old ++ r ∷ [] → (i : ℕ) → i < length given + length old → at given new i ≡ at given old i
at-before given old new r e i l =
    ap (λ t. get_or (given_rows given ++ t) i no_row) e ∙ ap (λ t. get_or t i no_row) (sym (append_assoc (given_rows given) (made_rows old) (r ∷ [])))
    ∙ get_or_append_left (all_rows given old) (r ∷ []) no_row i (omega (arith, l, length-all given old))

pub longer : (old new : List Made) (r : Rw) → made_rows new ≡ made_rows old ++ r ∷ [] → length new ≡ length old + 1
longer old new r e = let f = simp (length-append, length-map) at (ap length e) in omega arith

pub grown : (given : List Row) (old new : List Made) (r : Rw) → made_rows new ≡ made_rows old ++ r ∷ [] → Grows given old new
grown given old new r e = record { longer = omega (arith, longer old new r e); same = at-before given old new r e }

pub at-end : (given : List Row) (old new : List Made) (r : Rw) (k : ℕ) → made_rows new ≡ made_rows old ++ r ∷ [] → k ≡ length given + length old → at given new k ≡ r
at-end given old new r k e f =
    ap (λ t. get_or (given_rows given ++ t) k no_row) e ∙ ap (λ t. get_or t k no_row) (sym (append_assoc (given_rows given) (made_rows old) (r ∷ [])))
    ∙ ap (λ n. get_or (all_rows given old ++ r ∷ []) n no_row) (f ∙ sym (length-all given old)) ∙ get_or-append_seam (all_rows given old) r [] no_row

-- a last row 0 <= c with negative c refutes the given rows
pub last-refutes : (given : List Row) (made : List Made) (k : ℕ) → Derives (given_rows given) (made_rows made) (made_steps made) → 0 < length made → k ≡ length given + length made - 1 → IsBelow (at given made k) → Refutes (given_rows given) (made_steps made)
last-refutes given made k d p e b =
    derived-refutes (given_rows given) (made_rows made) (made_steps made) d (simp length-map p)
    (subst (λ n. IsBelow (get_or (all_rows given made) n no_row)) (omega (arith, e, length-all given made)) b)
