-- One turn of a merge.
use Rattle.std.proofs.Common.{◌≡◌, ℕ, ◌<◌, Bool, true, false, not, ◌||◌, cond, List, [], ◌∷◌, ◌++◌, ℤ, pos, ◌+ℤ◌, ◌*ℤ◌, refl, sym, ap, ◌∙◌, arith, append_assoc, length, drop}
use Rattle.std.specs.Ordering.{int_eq}
use Rattle.std.proofs.lemmas.Bool.{lt-ltb, le-ltb}
use Rattle.std.proofs.lemmas.Bool.Decides.{Decides-int_eq}
use Rattle.fst_base.specs.Primitives.{in128}
use Rattle.fst_rows.specs.declared.row.Coef.{Coef}
use Rattle.fst_rows.specs.declared.turn.Turn.TheVariants.{First, Second, Both}
use Rattle.fst_terms.specs.Rows.{Cf, Rw, put, merged, some_wide, some_wide_times, is_wide}
use Rattle.fst_rows.specs.Sums.{is_wide_sum, are_wide}
use Rattle.fst_rows.specs.Plain.{coefficient, coefficients}
use Rattle.fst_rows.specs.Turns.{Before, Shows}

module _ (p q : ℤ) where
  pub merged-first : (c : Cf) (cs : List Cf) (ds : List Coef) → Before c.unknown ds → merged p (c ∷ cs) q (coefficients ds) ≡ put c.unknown (p *ℤ c.by) (merged p cs q (coefficients ds))
  merged-first c cs [] h = refl
  merged-first c cs (d ∷ ds) h = let e = lt-ltb c.unknown d.unknown h in rw e refl

  pub merged-second : (d : Cf) (cs : List Coef) (ds : List Cf) → Before d.unknown cs → merged p (coefficients cs) q (d ∷ ds) ≡ put d.unknown (q *ℤ d.by) (merged p (coefficients cs) q ds)
  merged-second d [] ds h = refl
  merged-second d (c ∷ cs) ds h = let e = lt-ltb d.unknown c.unknown h in let f = le-ltb c.unknown d.unknown (omega (arith, h)) in rw (f, e) refl

  pub merged-both : (c d : Cf) (cs ds : List Cf) → c.unknown ≡ d.unknown → merged p (c ∷ cs) q (d ∷ ds) ≡ put c.unknown (p *ℤ c.by +ℤ q *ℤ d.by) (merged p cs q ds)
  merged-both c d cs ds h = let e = le-ltb c.unknown d.unknown (omega (arith, h)) in let f = le-ltb d.unknown c.unknown (omega (arith, h)) in rw (e, f) refl

pub put-front : (u : ℕ) (n : ℤ) (cs : List Cf) → put u n cs ≡ put u n [] ++ cs
put-front u n cs = go (int_eq n (pos 0))
  where
    go : (t : Bool) → cond t cs (record { unknown = u; by = n } ∷ cs) ≡ cond t [] (record { unknown = u; by = n } ∷ []) ++ cs
    go true = refl
    go false = refl

pub put-wide : (u : ℕ) (n : ℤ) (cs : List Cf) → some_wide (put u n cs) ≡ (not (in128 n) || some_wide cs)
put-wide u n cs = go (int_eq n (pos 0)) refl
  where
    go : (t : Bool) → int_eq n (pos 0) ≡ t → some_wide (cond t cs (record { unknown = u; by = n } ∷ cs)) ≡ (not (in128 n) || some_wide cs)
    go true e = let z = (Decides-int_eq n (pos 0)).0 e in rw z refl
    go false e = refl

or_first : (w a b m : Bool) → ((w || a) || (b || (w || m))) ≡ (w || (a || (b || m)))
or_first true a b m = refl
or_first false a b m = refl

or_second : (w a b m : Bool) → (a || ((w || b) || (w || m))) ≡ (w || (a || (b || m)))
or_second true true b m = refl
or_second true false b m = refl
or_second false a b m = refl

or_both : (v w s a b m : Bool) → ((v || a) || ((w || b) || (s || m))) ≡ ((v || (w || s)) || (a || (b || m)))
or_both true w s a b m = refl
or_both false true s true b m = refl
or_both false true s false b m = refl
or_both false false true true b m = refl
or_both false false true false true m = refl
or_both false false true false false m = refl
or_both false false false a b m = refl

module _ (p q : ℤ) where
  pub wide-first : (c : Cf) (cs : List Cf) (ds : List Coef) → Before c.unknown ds → are_wide p (c ∷ cs) q (coefficients ds) ≡ (not (in128 (p *ℤ c.by)) || are_wide p cs q (coefficients ds))
  wide-first c cs ds h =
      ap (λ m. some_wide_times p (c ∷ cs) || (some_wide_times q (coefficients ds) || m)) (ap some_wide (merged-first p q c cs ds h) ∙ put-wide c.unknown (p *ℤ c.by) (merged p cs q (coefficients ds)))
      ∙ or_first (not (in128 (p *ℤ c.by))) (some_wide_times p cs) (some_wide_times q (coefficients ds)) (some_wide (merged p cs q (coefficients ds)))

  pub wide-second : (d : Cf) (cs : List Coef) (ds : List Cf) → Before d.unknown cs → are_wide p (coefficients cs) q (d ∷ ds) ≡ (not (in128 (q *ℤ d.by)) || are_wide p (coefficients cs) q ds)
  wide-second d cs ds h =
      ap (λ m. some_wide_times p (coefficients cs) || (some_wide_times q (d ∷ ds) || m)) (ap some_wide (merged-second p q d cs ds h) ∙ put-wide d.unknown (q *ℤ d.by) (merged p (coefficients cs) q ds))
      ∙ or_second (not (in128 (q *ℤ d.by))) (some_wide_times p (coefficients cs)) (some_wide_times q ds) (some_wide (merged p (coefficients cs) q ds))

  pub wide-both : (c d : Cf) (cs ds : List Cf) → c.unknown ≡ d.unknown → are_wide p (c ∷ cs) q (d ∷ ds) ≡ (is_wide_sum p c.by q d.by || are_wide p cs q ds)
  wide-both c d cs ds h =
      ap (λ m. some_wide_times p (c ∷ cs) || (some_wide_times q (d ∷ ds) || m)) (ap some_wide (merged-both p q c d cs ds h) ∙ put-wide c.unknown (p *ℤ c.by +ℤ q *ℤ d.by) (merged p cs q ds))
      ∙ or_both (not (in128 (p *ℤ c.by))) (not (in128 (q *ℤ d.by))) (not (in128 (p *ℤ c.by +ℤ q *ℤ d.by))) (some_wide_times p cs) (some_wide_times q ds) (some_wide (merged p cs q ds))

pub Before-none : (u : ℕ) (cs : List Coef) → length cs < 1 → Before u cs
Before-none u [] h = tt
Before-none u (c ∷ cs) h = absurd (omega arith)

-- ---- the turns of the loop

-- what is written, and what is left
pub record Merging (p q : ℤ) (a b cs ds out : List Cf) : Type 0 where
  pub sum : out ++ merged p cs q ds ≡ merged p a q b
  pub wide : are_wide p cs q ds ≡ are_wide p a q b

written : (u : ℕ) (n : ℤ) (out new cs : List Cf) → new ≡ out ++ put u n [] → new ++ cs ≡ out ++ put u n cs
written u n out new cs e = ap (λ t. t ++ cs) e ∙ append_assoc out (put u n []) cs ∙ ap (λ t. out ++ t) (sym (put-front u n cs))

module _ (p q : ℤ) (a b out new : List Cf) where
  first-is : (c : Coef) (n : ℤ) (rest ds : List Coef) → Before c.unknown ds → n ≡ p *ℤ c.by → not (in128 (p *ℤ c.by)) ≡ false → new ≡ out ++ put c.unknown n []
      → Merging p q a b (coefficients (c ∷ rest)) (coefficients ds) out → Merging p q a b (coefficients rest) (coefficients ds) new
  first-is c n rest ds h e f g k = record {
    sum = written c.unknown n out new _ g ∙ ap (λ t. out ++ t) (ap (λ m. put c.unknown m (merged p (coefficients rest) q (coefficients ds))) e ∙ sym (merged-first p q (coefficient c) (coefficients rest) ds h)) ∙ k.sum;
    wide = ap (λ t. t || are_wide p (coefficients rest) q (coefficients ds)) (sym f) ∙ sym (wide-first p q (coefficient c) (coefficients rest) ds h) ∙ k.wide;
  }

  second-is : (d : Coef) (n : ℤ) (cs rest : List Coef) → Before d.unknown cs → n ≡ q *ℤ d.by → not (in128 (q *ℤ d.by)) ≡ false → new ≡ out ++ put d.unknown n []
      → Merging p q a b (coefficients cs) (coefficients (d ∷ rest)) out → Merging p q a b (coefficients cs) (coefficients rest) new
  second-is d n cs rest h e f g k = record {
    sum = written d.unknown n out new _ g ∙ ap (λ t. out ++ t) (ap (λ m. put d.unknown m (merged p (coefficients cs) q (coefficients rest))) e ∙ sym (merged-second p q (coefficient d) cs (coefficients rest) h)) ∙ k.sum;
    wide = ap (λ t. t || are_wide p (coefficients cs) q (coefficients rest)) (sym f) ∙ sym (wide-second p q (coefficient d) cs (coefficients rest) h) ∙ k.wide;
  }

  both-are : (c d : Coef) (n : ℤ) (left right : List Coef) → c.unknown ≡ d.unknown → n ≡ p *ℤ c.by +ℤ q *ℤ d.by → is_wide_sum p c.by q d.by ≡ false → new ≡ out ++ put c.unknown n []
      → Merging p q a b (coefficients (c ∷ left)) (coefficients (d ∷ right)) out → Merging p q a b (coefficients left) (coefficients right) new
  both-are c d n left right h e f g k = record {
    sum = written c.unknown n out new _ g ∙ ap (λ t. out ++ t) (ap (λ m. put c.unknown m (merged p (coefficients left) q (coefficients right))) e ∙ sym (merged-both p q (coefficient c) (coefficient d) (coefficients left) (coefficients right) h)) ∙ k.sum;
    wide = ap (λ t. t || are_wide p (coefficients left) q (coefficients right)) (sym f) ∙ sym (wide-both p q (coefficient c) (coefficient d) (coefficients left) (coefficients right) h) ∙ k.wide;
  }

  -- ---- by what the calls of a turn give

  pub first-turn : (c : Coef) (n : ℤ) (cs ds after : List Coef) → Shows (First c) cs ds → (n ≡ p *ℤ c.by) × (not (in128 (p *ℤ c.by)) ≡ false) → new ≡ out ++ put c.unknown n [] → after ≡ drop 1 cs
      → Merging p q a b (coefficients cs) (coefficients ds) out → Merging p q a b (coefficients after) (coefficients ds) new
  first-turn c n cs ds after s m o e k =
      let f : after ≡ s.0 = e ∙ ap (drop 1) s.1 in
      rw f (first-is c n s.0 ds s.2 m.0 m.1 o (rw s.1 at k))

  pub second-turn : (d : Coef) (n : ℤ) (cs ds after : List Coef) → Shows (Second d) cs ds → (n ≡ q *ℤ d.by) × (not (in128 (q *ℤ d.by)) ≡ false) → new ≡ out ++ put d.unknown n [] → after ≡ drop 1 ds
      → Merging p q a b (coefficients cs) (coefficients ds) out → Merging p q a b (coefficients cs) (coefficients after) new
  second-turn d n cs ds after s m o e k =
      let f : after ≡ s.0 = e ∙ ap (drop 1) s.1 in
      rw f (second-is d n cs s.0 s.2 m.0 m.1 o (rw s.1 at k))

  pub both-turn : (c d : Coef) (n : ℤ) (cs ds left right : List Coef) → Shows (Both c d) cs ds → (n ≡ p *ℤ c.by +ℤ q *ℤ d.by) × (is_wide_sum p c.by q d.by ≡ false) → new ≡ out ++ put c.unknown n [] → left ≡ drop 1 cs → right ≡ drop 1 ds
      → Merging p q a b (coefficients cs) (coefficients ds) out → Merging p q a b (coefficients left) (coefficients right) new
  both-turn c d n cs ds left right s m o e f k =
      let g : left ≡ s.0 = e ∙ ap (drop 1) s.1.1 in
      let h : right ≡ s.1.0 = f ∙ ap (drop 1) s.1.2 in
      rw (g, h) (both-are c d n s.0 s.1.0 s.1.3 m.0 m.1 o (rw (s.1.1, s.1.2) at k))

  pub both-wide : (c d : Coef) (cs ds : List Coef) → Shows (Both c d) cs ds → is_wide_sum p c.by q d.by ≡ true → Merging p q a b (coefficients cs) (coefficients ds) out → are_wide p a q b ≡ true
  both-wide c d cs ds s m k = sym (rw (s.1.1, s.1.2) at k).wide ∙ wide-both p q (coefficient c) (coefficient d) (coefficients s.0) (coefficients s.1.0) s.1.3 ∙ ap (λ t. t || are_wide p (coefficients s.0) q (coefficients s.1.0)) m

-- ---- whole rows

pub wide-row : (p : ℤ) (a : Rw) (q : ℤ) (b : Rw) → is_wide p a q b ≡ (is_wide_sum p a.constant q b.constant || are_wide p a.coefs q b.coefs)
wide-row p a q b = or_both (not (in128 (p *ℤ a.constant))) (not (in128 (q *ℤ b.constant))) (not (in128 (p *ℤ a.constant +ℤ q *ℤ b.constant))) (some_wide_times p a.coefs) (some_wide_times q b.coefs) (some_wide (merged p a.coefs q b.coefs))

pub wide-constant : (p : ℤ) (a : Rw) (q : ℤ) (b : Rw) → is_wide_sum p a.constant q b.constant ≡ true → is_wide p a q b ≡ true
wide-constant p a q b e = wide-row p a q b ∙ ap (λ t. t || are_wide p a.coefs q b.coefs) e

pub wide-coefs : (p : ℤ) (a : Rw) (q : ℤ) (b : Rw) → is_wide_sum p a.constant q b.constant ≡ false → are_wide p a.coefs q b.coefs ≡ true → is_wide p a q b ≡ true
wide-coefs p a q b e f = wide-row p a q b ∙ rw (e, f) refl

pub narrow-row : (p : ℤ) (a : Rw) (q : ℤ) (b : Rw) → is_wide_sum p a.constant q b.constant ≡ false → are_wide p a.coefs q b.coefs ≡ false → is_wide p a q b ≡ false
narrow-row p a q b e f = wide-row p a q b ∙ rw (e, f) refl
