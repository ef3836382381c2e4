-- One turn of a sum of rows before tightening; wide coefficients of sums and multiples.
use Rattle.std.proofs.Common.{◌≡◌, ℕ, Bool, true, false, not, ◌||◌, List, [], ◌∷◌, ◌++◌, ℤ, pos, ◌+ℤ◌, ◌*ℤ◌, refl, sym, ap, ◌∙◌, subst, arith, append_assoc, drop}
use Rattle.fst_base.specs.Primitives.{in128}
use Rattle.fst_rows.specs.declared.row.Coef.{Coef}
use Rattle.fst_rows.specs.declared.turn.Turn.TheVariants.{First, Second, Both}
use Rattle.fst_terms.specs.Rows.{Cf, Rw, put, merged, some_wide, some_wide_times, is_wide_row, tight, IsRow, Rise}
use Rattle.fst_rows.specs.Sums.{are_wide}
use Rattle.fst_rows.specs.Plain.{coefficient, coefficients}
use Rattle.fst_rows.specs.Turns.{Shows}
use Rattle.fst_rows.proofs.MergeLemmas.{merged-first, merged-second, merged-both, put-front, put-wide}
use Rattle.fst_rows.proofs.RiseLemmas.{merged-Rise, tight-Rise}

-- what is written, and what is left
pub record Adding (q : ℤ) (a b cs ds out : List Cf) : Type 0 where
  pub sum : out ++ merged (pos 1) cs q ds ≡ merged (pos 1) a q b
  pub narrow : some_wide out ≡ false

written : (u : ℕ) (n : ℤ) (out new cs : List Cf) → new ≡ out ++ put u n [] → new ++ cs ≡ out ++ put u n cs
written u n out new cs e = ap (λ t. t ++ cs) e ∙ append_assoc out (put u n []) cs ∙ ap (λ t. out ++ t) (sym (put-front u n cs))

or-last : (a b : Bool) → b ≡ true → (a || b) ≡ true
or-last true b e = refl
or-last false b e = e

narrow-both : (xs ys : List Cf) → some_wide xs ≡ false → some_wide ys ≡ false → some_wide (xs ++ ys) ≡ false
narrow-both [] ys e f = f
narrow-both (x ∷ xs) ys e f = go (λ g. narrow-both xs ys g f) (not (in128 x.by)) e
  where
    go : (some_wide xs ≡ false → some_wide (xs ++ ys) ≡ false) → (w : Bool) → (w || some_wide xs) ≡ false → (w || some_wide (xs ++ ys)) ≡ false
    go ih true g = cc
    go ih false g = ih g

narrow-put : (u : ℕ) (n m : ℤ) (out new : List Cf) → some_wide out ≡ false → n ≡ m → not (in128 m) ≡ false → new ≡ out ++ put u n [] → some_wide new ≡ false
narrow-put u n m out new e q w f = ap some_wide f ∙ narrow-both out (put u n []) e (put-wide u n [] ∙ ap (λ k. not (in128 k) || some_wide []) q ∙ ap (λ t. t || some_wide []) w)

wide-behind : (xs ys : List Cf) → some_wide ys ≡ true → some_wide (xs ++ ys) ≡ true
wide-behind [] ys e = e
wide-behind (x ∷ xs) ys e = or-last (not (in128 x.by)) (some_wide (xs ++ ys)) (wide-behind xs ys e)

put-past : (u : ℕ) (n : ℤ) (cs : List Cf) → not (in128 n) ≡ true → some_wide (put u n cs) ≡ true
put-past u n cs e = put-wide u n cs ∙ ap (λ t. t || some_wide cs) e

module _ (q : ℤ) (a b out new : List Cf) where
  pub first-added : (c : Coef) (n : ℤ) (cs ds after : List Coef) → Shows (First c) cs ds → (n ≡ pos 1 *ℤ c.by) × (not (in128 (pos 1 *ℤ c.by)) ≡ false) → new ≡ out ++ put c.unknown n [] → after ≡ drop 1 cs
      → Adding q a b (coefficients cs) (coefficients ds) out → Adding q a b (coefficients after) (coefficients ds) new
  first-added c n cs ds after s m o e k =
      let f : after ≡ s.0 = e ∙ ap (drop 1) s.1 in
      rw f (record { sum = written c.unknown n out new _ o ∙ ap (λ t. out ++ t) (ap (λ m. put c.unknown m (merged (pos 1) (coefficients s.0) q (coefficients ds))) m.0 ∙ sym (merged-first (pos 1) q (coefficient c) (coefficients s.0) ds s.2)) ∙ (rw s.1 at k).sum; narrow = narrow-put c.unknown n (pos 1 *ℤ c.by) out new k.narrow m.0 m.1 o })

  pub second-added : (d : Coef) (n : ℤ) (cs ds after : List Coef) → Shows (Second d) cs ds → (n ≡ q *ℤ d.by) × (not (in128 (q *ℤ d.by)) ≡ false) → new ≡ out ++ put d.unknown n [] → after ≡ drop 1 ds
      → Adding q a b (coefficients cs) (coefficients ds) out → Adding q a b (coefficients cs) (coefficients after) new
  second-added d n cs ds after s m o e k =
      let f : after ≡ s.0 = e ∙ ap (drop 1) s.1 in
      rw f (record { sum = written d.unknown n out new _ o ∙ ap (λ t. out ++ t) (ap (λ m. put d.unknown m (merged (pos 1) (coefficients cs) q (coefficients s.0))) m.0 ∙ sym (merged-second (pos 1) q (coefficient d) cs (coefficients s.0) s.2)) ∙ (rw s.1 at k).sum; narrow = narrow-put d.unknown n (q *ℤ d.by) out new k.narrow m.0 m.1 o })

  pub both-added : (c d : Coef) (n : ℤ) (cs ds left right : List Coef) → Shows (Both c d) cs ds → (n ≡ pos 1 *ℤ c.by +ℤ q *ℤ d.by) × (not (in128 (pos 1 *ℤ c.by +ℤ q *ℤ d.by)) ≡ false) → new ≡ out ++ put c.unknown n [] → left ≡ drop 1 cs → right ≡ drop 1 ds
      → Adding q a b (coefficients cs) (coefficients ds) out → Adding q a b (coefficients left) (coefficients right) new
  both-added c d n cs ds left right s m o e f k =
      let g : left ≡ s.0 = e ∙ ap (drop 1) s.1.1 in
      let h : right ≡ s.1.0 = f ∙ ap (drop 1) s.1.2 in
      rw (g, h) (record { sum = written c.unknown n out new _ o ∙ ap (λ t. out ++ t) (ap (λ m. put c.unknown m (merged (pos 1) (coefficients s.0) q (coefficients s.1.0))) m.0 ∙ sym (merged-both (pos 1) q (coefficient c) (coefficient d) (coefficients s.0) (coefficients s.1.0) s.1.3)) ∙ (rw (s.1.1, s.1.2) at k).sum; narrow = narrow-put c.unknown n (pos 1 *ℤ c.by +ℤ q *ℤ d.by) out new k.narrow m.0 m.1 o })

  pub second-past : (d : Coef) (cs ds : List Coef) → Shows (Second d) cs ds → not (in128 (q *ℤ d.by)) ≡ true → Adding q a b (coefficients cs) (coefficients ds) out → some_wide (merged (pos 1) a q b) ≡ true
  second-past d cs ds s m k =
      ap some_wide (sym (rw s.1 at k).sum)
      ∙ wide-behind out _ (ap some_wide (merged-second (pos 1) q (coefficient d) cs (coefficients s.0) s.2) ∙ put-past d.unknown (q *ℤ d.by) _ m)

  pub both-past : (c d : Coef) (cs ds : List Coef) → Shows (Both c d) cs ds → not (in128 (pos 1 *ℤ c.by +ℤ q *ℤ d.by)) ≡ true → Adding q a b (coefficients cs) (coefficients ds) out → some_wide (merged (pos 1) a q b) ≡ true
  both-past c d cs ds s m k =
      ap some_wide (sym (rw (s.1.1, s.1.2) at k).sum)
      ∙ wide-behind out _ (ap some_wide (merged-both (pos 1) q (coefficient c) (coefficient d) (coefficients s.0) (coefficients s.1.0) s.1.3) ∙ put-past c.unknown (pos 1 *ℤ c.by +ℤ q *ℤ d.by) _ m)

-- ---- multiples

or-self : (a b : Bool) → (a || (false || b)) ≡ true → (a ≡ true → b ≡ true) → b ≡ true
or-self true b e f = f refl
or-self false b e f = e

times-past : (k : ℤ) (cs : List Cf) → some_wide_times k cs ≡ true → some_wide (merged k cs (pos 0) []) ≡ true
times-past k [] e = e
times-past k (c ∷ cs) e = put-wide c.unknown (k *ℤ c.by) (merged k cs (pos 0) []) ∙ go (not (in128 (k *ℤ c.by))) (some_wide_times k cs) (some_wide (merged k cs (pos 0) [])) (times-past k cs) e
  where
    go : (w a m : Bool) → (a ≡ true → m ≡ true) → (w || a) ≡ true → (w || m) ≡ true
    go true a m f e = refl
    go false a m f e = f e

pub multiple-past : (k : ℤ) (cs : List Cf) → are_wide k cs (pos 0) [] ≡ true → some_wide (merged k cs (pos 0) []) ≡ true
multiple-past k cs e = or-self (some_wide_times k cs) (some_wide (merged k cs (pos 0) [])) e (times-past k cs)

multiple-narrow : (a b : Bool) → (a || (false || b)) ≡ false → b ≡ false
multiple-narrow true b e = cc
multiple-narrow false b e = e

pub narrow-multiple : (k : ℤ) (cs : List Cf) → are_wide k cs (pos 0) [] ≡ false → some_wide (merged k cs (pos 0) []) ≡ false
narrow-multiple k cs e = multiple-narrow (some_wide_times k cs) (some_wide (merged k cs (pos 0) [])) e

-- ---- rows

pub narrow-whole : (r : Rw) → not (in128 r.constant) ≡ false → some_wide r.coefs ≡ false → is_wide_row r ≡ false
narrow-whole r e f = ap (λ t. t || some_wide r.coefs) e ∙ f

pub past-constant : (r : Rw) → not (in128 r.constant) ≡ true → is_wide_row r ≡ true
past-constant r e = ap (λ t. t || some_wide r.coefs) e

pub past-coefs : (r : Rw) → some_wide r.coefs ≡ true → is_wide_row r ≡ true
past-coefs r e = or-last (not (in128 r.constant)) (some_wide r.coefs) e

pub plus-row : (p : ℤ) (cs : List Cf) (q : ℤ) (ds es fs : List Cf) → es ≡ fs → fs ≡ merged p cs q ds → Rise 0 cs → Rise 0 ds → Rise 0 es
plus-row p cs q ds es fs e f h k = subst (Rise 0) (sym (e ∙ f)) (merged-Rise p q cs 0 0 ds (omega arith) h k)

pub tight-row : (n : ℤ) (cs ds : List Cf) (r : Rw) → r ≡ tight (record { constant = n; coefs = cs }) → cs ≡ ds → Rise 0 ds → IsRow r
tight-row n cs ds r e f h = subst IsRow (sym e) (tight-Rise 0 (record { constant = n; coefs = cs }) (subst (Rise 0) (sym f) h))
