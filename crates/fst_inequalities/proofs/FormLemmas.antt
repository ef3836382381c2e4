-- Forms of sums, negations and products, from those of their parts.
use Rattle.std.proofs.Common.{◌≡◌, ℕ, zero, suc, ◌+◌, ℤ, pos, Bool, true, false, not, ◌||◌, if◌then◌else◌, List, [], ◌∷◌, ◌++◌, Result, Ok, Err, IfOk, OnOk, refl, sym, ap, ◌∙◌, subst, arith}
use Rattle.std.specs.Result.{IsErrAnd}
use Rattle.fst_base.specs.declared.op.Op.{Op}
use Rattle.fst_base.specs.declared.op.Op.TheVariants as op
use Rattle.fst_base.specs.Primitives.{In128, in128}
use Rattle.fst_base.proofs.PrimitiveLemmas.{in128-decides}
use Rattle.fst_base.specs.Sorts.{Srt}
use Rattle.fst_congruence.specs.Numbered.{first_place, number_of}
use Rattle.fst_rows.specs.declared.fault.RowFault.{RowFault}
use Rattle.fst_rows.specs.declared.fault.RowFault.TheVariants as fault
use Rattle.fst_rows.specs.declared.row.Coef.{Coef}
use Rattle.fst_rows.specs.declared.row.Row.{Row}
use Rattle.fst_rows.specs.Exact.{plus}
use Rattle.fst_rows.specs.Plain.{coefficients, plain_row}
use Rattle.fst_terms.specs.Terms.{Tm, t_int, t_prim, t_end, t_more}
use Rattle.fst_terms.specs.Flats.{Flt}
use Rattle.fst_terms.specs.Linear.{linear, constant_row, unknown_row, minus_one, scaled, is_constant, product, is_wide_term}
use Rattle.fst_terms.specs.Marks.{one_more, number_by, term_number}
use Rattle.fst_terms.specs.Rows.{Cf, Rw, IsRow, is_wide_row}
use Rattle.fst_terms.specs.Same.{same_term}
use Rattle.fst_inequalities.specs.declared.reading.Shape.TheVariants as shape
use Rattle.fst_inequalities.specs.Forming.{IsForm, Forms, IsUnknown, IsOpaque, Making, shape_of, sum_op}

-- ---- numbers

abbrev raised : ℕ → ℕ → ℕ
raised i zero = zero
raised i (suc n) = suc (n + i)

raised-none : (n : ℕ) → raised 0 n ≡ n
raised-none zero = refl
raised-none (suc n) = omega arith

raised-more : (i n : ℕ) → raised (i + 1) n ≡ raised i (one_more n)
raised-more i zero = refl
raised-more i (suc n) = omega arith

place-number : (t : Tm) (us : List Tm) (i : ℕ) → first_place (same_term t) (i + 1) us ≡ raised i (number_by same_term us t)
place-number t [] i = refl
place-number t (u ∷ us) i = go (same_term t u) (place-number t us (i + 1) ∙ raised-more i (number_by same_term us t))
  where
    go : (b : Bool) → first_place (same_term t) (i + 1 + 1) us ≡ raised i (one_more (number_by same_term us t)) → (if b then i + 1 else first_place (same_term t) (i + 1 + 1) us) ≡ raised i (if b then 1 else one_more (number_by same_term us t))
    go true h = omega arith
    go false h = h

pub number-same : (f : Flt) (t : Tm) → number_of f.terms t ≡ term_number f t
number-same f t = place-number t f.terms 0 ∙ raised-none (number_by same_term f.terms t)

-- ---- results

abbrev ok_row : Row → Result Row RowFault
ok_row x = Ok x

pub form-of : (f : Flt) (t : Tm) (a : Result Row RowFault) (r : Row) → a ≡ Ok r → Forms f t a → IsForm f t (plain_row r)
unfolding Forms
form-of f t (Ok x) r e h = subst (λ x. IsForm f t (plain_row x)) (same x r e) h
  where
    same : (x r : Row) → ok_row x ≡ ok_row r → x ≡ r
    same x r e = cc
form-of f t (Err x) r e h = cc

pub past-of : (f : Flt) (t : Tm) (a : Result Row RowFault) (x : RowFault) → a ≡ Err x → Forms f t a → x ≡ fault.PastRange → is_wide_term (term_number f) t ≡ true
unfolding Forms
past-of f t (Ok y) x e h = cc
past-of f t (Err y) x e h = λ q. h (cc)

pub unknown-of : (f : Flt) (t : Tm) (a : Result Row RowFault) → IsUnknown f t a → IsOpaque f t → Forms f t a
unfolding Forms IsUnknown
unknown-of f t (Err x) h o = λ q. absurd (h q)
unknown-of f t (Ok r) h o = record { is = h ∙ sym o.0; ordered = subst IsRow (sym h) (omega arith, one-some, tt); narrow = o.1 ∙ ap is_wide_row o.0 }
  where
    one-some : pos 1 ≡ pos 0 → ⊥
    one-some e = cc

-- ---- terms

module _ (f : Flt) where
  abbrev n : Tm → ℕ
  n = term_number f

  pub number-form : (k : ℤ) → not (in128 k) ≡ false → IsForm f (t_int k) (constant_row k)
  number-form k e = record { is = refl; ordered = tt; narrow = ap (λ b. b || false) e }

  or-first : (a b c : Bool) → a ≡ true → ((a || b) || c) ≡ true
  or-first a b c e = rw e refl

  or-second : (a b c : Bool) → b ≡ true → ((a || b) || c) ≡ true
  or-second true b c e = refl
  or-second false b c e = rw e refl

  or-third : (a b c : Bool) → c ≡ true → ((a || b) || c) ≡ true
  or-third true b c e = refl
  or-third false true c e = refl
  or-third false false c e = e

  or-none : (a b c : Bool) → a ≡ false → b ≡ false → c ≡ false → ((a || b) || c) ≡ false
  or-none a b c p q r = rw (p, q, r) refl

  or-pair : (a b : Bool) → a ≡ false → b ≡ false → (a || b) ≡ false
  or-pair a b p q = rw (p, q) refl

  module _ (t u : Tm) (S : Srt) (at : ℕ) where
    abbrev summed_term : Bool → Tm
    summed_term m = t_prim (sum_op m) S (t_more t (t_more u t_end)) at

    pub sum-wide-left : (m : Bool) → is_wide_term n t ≡ true → is_wide_term n (summed_term m) ≡ true
    sum-wide-left true e = or-second (is_wide_row (linear n (summed_term true))) (is_wide_term n t) (is_wide_term n u) e
    sum-wide-left false e = or-second (is_wide_row (linear n (summed_term false))) (is_wide_term n t) (is_wide_term n u) e

    pub sum-wide-right : (m : Bool) → is_wide_term n u ≡ true → is_wide_term n (summed_term m) ≡ true
    sum-wide-right true e = or-third (is_wide_row (linear n (summed_term true))) (is_wide_term n t) (is_wide_term n u) e
    sum-wide-right false e = or-third (is_wide_row (linear n (summed_term false))) (is_wide_term n t) (is_wide_term n u) e

    sum-linear : (m : Bool) → linear n (summed_term m) ≡ plus (linear n t) m (linear n u)
    sum-linear true = refl
    sum-linear false = refl

    sum-narrow : (m : Bool) → is_wide_row (linear n (summed_term m)) ≡ false → is_wide_term n t ≡ false → is_wide_term n u ≡ false → is_wide_term n (summed_term m) ≡ false
    sum-narrow true p q r = or-none _ _ _ p q r
    sum-narrow false p q r = or-none _ _ _ p q r

    sum-wide : (m : Bool) → is_wide_row (linear n (summed_term m)) ≡ true → is_wide_term n (summed_term m) ≡ true
    sum-wide true e = or-first (is_wide_row (linear n (summed_term true))) (is_wide_term n t) (is_wide_term n u) e
    sum-wide false e = or-first (is_wide_row (linear n (summed_term false))) (is_wide_term n t) (is_wide_term n u) e

    module _ (a b : Rw) (g : IsForm f t a) (h : IsForm f u b) where
      parts-are : (m : Bool) → plus a m b ≡ linear n (summed_term m)
      parts-are m = ap (λ x. plus x m b) g.is ∙ ap (plus (linear n t) m) h.is ∙ sym (sum-linear m)

      pub sum-form : (m : Bool) (r : Rw) → r ≡ plus a m b → IsRow r → is_wide_row (plus a m b) ≡ false → IsForm f (summed_term m) r
      sum-form m r e o w = record { is = e ∙ parts-are m; ordered = o; narrow = sum-narrow m (ap is_wide_row (sym (parts-are m)) ∙ w) g.narrow h.narrow }

      pub sum-past : (m : Bool) → is_wide_row (plus a m b) ≡ true → is_wide_term n (summed_term m) ≡ true
      sum-past m w = sum-wide m (ap is_wide_row (sym (parts-are m)) ∙ w)

    -- ---- products

    abbrev multiplied_term : Tm
    multiplied_term = t_prim op.Mul S (t_more t (t_more u t_end)) at

    pub product-wide-left : is_wide_term n t ≡ true → is_wide_term n multiplied_term ≡ true
    product-wide-left e = or-second (is_wide_row (linear n multiplied_term)) (is_wide_term n t) (is_wide_term n u) e

    pub product-wide-right : is_wide_term n u ≡ true → is_wide_term n multiplied_term ≡ true
    product-wide-right e = or-third (is_wide_row (linear n multiplied_term)) (is_wide_term n t) (is_wide_term n u) e

    module _ (a b : Rw) (g : IsForm f t a) (h : IsForm f u b) where
      product-are : product a b (unknown_row (n multiplied_term)) ≡ linear n multiplied_term
      product-are = ap (λ x. product x b (unknown_row (n multiplied_term))) g.is ∙ ap (λ y. product (linear n t) y (unknown_row (n multiplied_term))) h.is

      product-form : (c r : Rw) → product a b (unknown_row (n multiplied_term)) ≡ c → r ≡ c → IsRow r → is_wide_row c ≡ false → IsForm f multiplied_term r
      product-form c r p e o w = record { is = e ∙ sym p ∙ product-are; ordered = o; narrow = or-none _ _ _ (ap is_wide_row (sym product-are ∙ p) ∙ w) g.narrow h.narrow }

      product-past : (c : Rw) → product a b (unknown_row (n multiplied_term)) ≡ c → is_wide_row c ≡ true → is_wide_term n multiplied_term ≡ true
      product-past c p w = or-first _ (is_wide_term n t) (is_wide_term n u) (ap is_wide_row (sym product-are ∙ p) ∙ w)

      constant-left : a.coefs ≡ [] → product a b (unknown_row (n multiplied_term)) ≡ scaled a.constant b
      constant-left e = ap (λ (cs : List Cf). if is_constant (record { constant = a.constant; coefs = cs }) then scaled a.constant b else (if is_constant b then scaled b.constant a else unknown_row (n multiplied_term))) e

      some-coefs : (r : Rw) → (r.coefs ≡ [] → ⊥) → is_constant r ≡ false
      some-coefs r h = go r.coefs h
        where
          go : (cs : List Cf) → (cs ≡ [] → ⊥) → is_constant (record { constant = r.constant; coefs = cs }) ≡ false
          go [] h = absurd (h refl)
          go (c ∷ cs) h = refl

      constant-right : (a.coefs ≡ [] → ⊥) → b.coefs ≡ [] → product a b (unknown_row (n multiplied_term)) ≡ scaled b.constant a
      constant-right d e =
          ap (λ k. if k then scaled a.constant b else (if is_constant b then scaled b.constant a else unknown_row (n multiplied_term))) (some-coefs a d)
          ∙ ap (λ (cs : List Cf). if is_constant (record { constant = b.constant; coefs = cs }) then scaled b.constant a else unknown_row (n multiplied_term)) e

      opaque-product : (a.coefs ≡ [] → ⊥) → (b.coefs ≡ [] → ⊥) → product a b (unknown_row (n multiplied_term)) ≡ unknown_row (n multiplied_term)
      opaque-product d e =
          ap (λ k. if k then scaled a.constant b else (if is_constant b then scaled b.constant a else unknown_row (n multiplied_term))) (some-coefs a d)
          ∙ ap (λ k. if k then scaled b.constant a else unknown_row (n multiplied_term)) (some-coefs b e)

      pub left-form : a.coefs ≡ [] → (r : Rw) → r ≡ scaled a.constant b → IsRow r → is_wide_row (scaled a.constant b) ≡ false → IsForm f multiplied_term r
      left-form e r = product-form (scaled a.constant b) r (constant-left e)

      pub left-past : a.coefs ≡ [] → is_wide_row (scaled a.constant b) ≡ true → is_wide_term n multiplied_term ≡ true
      left-past e = product-past (scaled a.constant b) (constant-left e)

      pub right-form : (a.coefs ≡ [] → ⊥) → b.coefs ≡ [] → (r : Rw) → r ≡ scaled b.constant a → IsRow r → is_wide_row (scaled b.constant a) ≡ false → IsForm f multiplied_term r
      right-form d e r = product-form (scaled b.constant a) r (constant-right d e)

      pub right-past : (a.coefs ≡ [] → ⊥) → b.coefs ≡ [] → is_wide_row (scaled b.constant a) ≡ true → is_wide_term n multiplied_term ≡ true
      right-past d e = product-past (scaled b.constant a) (constant-right d e)

      pub opaque-is : (a.coefs ≡ [] → ⊥) → (b.coefs ≡ [] → ⊥) → IsOpaque f multiplied_term
      opaque-is d e =
          let p : linear n multiplied_term ≡ unknown_row (n multiplied_term) = sym product-are ∙ opaque-product d e in
          (p, or-none _ _ _ (ap is_wide_row p) g.narrow h.narrow ∙ sym (ap is_wide_row p))

  -- ---- negations

  module _ (t : Tm) (S : Srt) (at : ℕ) where
    abbrev negated_term : Tm
    negated_term = t_prim op.Neg S (t_more t t_end) at

    or-last : (a b : Bool) → b ≡ true → (a || b) ≡ true
    or-last true b e = refl
    or-last false b e = e

    pub negation-wide : is_wide_term n t ≡ true → is_wide_term n negated_term ≡ true
    negation-wide e = or-last (is_wide_row (linear n negated_term)) (is_wide_term n t) e

    module _ (a : Rw) (g : IsForm f t a) where
      negation-is : scaled minus_one a ≡ linear n negated_term
      negation-is = ap (scaled minus_one) g.is

      pub negation-form : (r : Rw) → r ≡ scaled minus_one a → IsRow r → is_wide_row (scaled minus_one a) ≡ false → IsForm f negated_term r
      negation-form r e o w = record { is = e ∙ negation-is; ordered = o; narrow = or-pair _ _ (ap is_wide_row (sym negation-is) ∙ w) g.narrow }

      pub negation-past : is_wide_row (scaled minus_one a) ≡ true → is_wide_term n negated_term ≡ true
      negation-past w = ap (λ b. b || is_wide_term n t) (ap is_wide_row (sym negation-is) ∙ w)

  -- ---- terms that aren't read through

  pub two-opaque : (o : Op) (S : Srt) (t u : Tm) (at : ℕ) → shape_of o ≡ shape.Unknown → IsOpaque f (t_prim o S (t_more t (t_more u t_end)) at)
  two-opaque op.Add S t u at e = cc
  two-opaque op.Sub S t u at e = cc
  two-opaque op.Mul S t u at e = cc
  two-opaque o S t u at e = (refl, refl)

  pub one-opaque : (o : Op) (S : Srt) (t : Tm) (at : ℕ) → (o ≡ op.Neg → ⊥) → IsOpaque f (t_prim o S (t_more t t_end) at)
  one-opaque op.Neg S t at e = absurd (e refl)
  one-opaque op.Add S t at e = (refl, refl)
  one-opaque op.Sub S t at e = (refl, refl)
  one-opaque op.Mul S t at e = (refl, refl)
  one-opaque o S t at e = (refl, refl)

  pub shape-op : (o : Op) (m : Bool) → shape_of o ≡ shape.Sum m → o ≡ sum_op m
  shape-op op.Add m e = ap sum_op (sum-inj false m e)
    where
      sum-inj : (a b : Bool) → shape.Sum a ≡ shape.Sum b → a ≡ b
      sum-inj a b e = cc
  shape-op op.Sub m e = ap sum_op (sum-inj true m e)
    where
      sum-inj : (a b : Bool) → shape.Sum a ≡ shape.Sum b → a ≡ b
      sum-inj a b e = cc
  shape-op op.Mul m e = cc
  shape-op o m e = cc

  pub product-op : (o : Op) → shape_of o ≡ shape.Product → o ≡ op.Mul
  product-op op.Mul e = refl
  product-op op.Add e = cc
  product-op op.Sub e = cc
  product-op o e = cc

-- ---- as the code makes them

-- a part has no form
pub wide-result : (f : Flt) (t : Tm) (r : Result Row RowFault) (x : RowFault) → IsErrAnd r (λ y. y ≡ x) → (x ≡ fault.PastRange → is_wide_term (term_number f) t ≡ true) → Forms f t r
unfolding Forms
wide-result f t (Ok y) x h w = absurd h
wide-result f t (Err y) x h w = λ q. w (sym h ∙ q)

pub made-form : (f : Flt) (t : Tm) (r : Result Row RowFault) (c : Rw) → Making r c → ((x : Rw) → x ≡ c → IsRow x → is_wide_row c ≡ false → IsForm f t x) → (is_wide_row c ≡ true → is_wide_term (term_number f) t ≡ true) → Forms f t r
unfolding Forms
made-form f t (Ok x) c m g h = g (plain_row x) m.ok m.ordered m.narrow
made-form f t (Err y) c m g h = λ q. h (m.past (ap Err q))

module _ (left right res : Result Row RowFault) (l r : Row) (is : left ≡ Ok l) (js : right ≡ Ok r) where
  pub sum-made : (m : Bool) → IfOk res (λ x. plain_row x ≡ plus (plain_row l) m (plain_row r)) → (IsRow (plain_row l) → IsRow (plain_row r) → IfOk res (λ x. IsRow (plain_row x)))
      → OnOk res (is_wide_row (plus (plain_row l) m (plain_row r)) ≡ false) → (res ≡ Err fault.PastRange → is_wide_row (plus (plain_row l) m (plain_row r)) ≡ true)
      → (f : Flt) (t u : Tm) (S : Srt) (at : ℕ) → Forms f t left → Forms f u right → Forms f (t_prim (sum_op m) S (t_more t (t_more u t_end)) at) res
  sum-made m ok ordered narrow past f t u S at g h =
      let a = form-of f t left l is g in
      let b = form-of f u right r js h in
      made-form f _ res (plus (plain_row l) m (plain_row r)) (record { ok = ok; ordered = ordered a.ordered b.ordered; narrow = narrow; past = past })
      (λ x. sum-form f t u S at (plain_row l) (plain_row r) a b m x) (sum-past f t u S at (plain_row l) (plain_row r) a b m)

  pub left-made : l.coefs ≡ [] → IfOk res (λ x. plain_row x ≡ scaled l.constant (plain_row r)) → (IsRow (plain_row r) → IfOk res (λ x. IsRow (plain_row x)))
      → OnOk res (is_wide_row (scaled l.constant (plain_row r)) ≡ false) → (res ≡ Err fault.PastRange → is_wide_row (scaled l.constant (plain_row r)) ≡ true)
      → (f : Flt) (t u : Tm) (S : Srt) (at : ℕ) → Forms f t left → Forms f u right → Forms f (t_prim op.Mul S (t_more t (t_more u t_end)) at) res
  left-made e ok ordered narrow past f t u S at g h =
      let a = form-of f t left l is g in
      let b = form-of f u right r js h in
      let d : coefficients l.coefs ≡ [] = ap coefficients e in
      made-form f _ res (scaled l.constant (plain_row r)) (record { ok = ok; ordered = ordered b.ordered; narrow = narrow; past = past })
      (left-form f t u S at (plain_row l) (plain_row r) a b d) (left-past f t u S at (plain_row l) (plain_row r) a b d)

  no-coefs : (cs : List Coef) → (cs ≡ [] → ⊥) → coefficients cs ≡ [] → ⊥
  no-coefs [] d e = d refl
  no-coefs (c ∷ cs) d e = cc

  pub right-made : (l.coefs ≡ [] → ⊥) → r.coefs ≡ [] → IfOk res (λ x. plain_row x ≡ scaled r.constant (plain_row l)) → (IsRow (plain_row l) → IfOk res (λ x. IsRow (plain_row x)))
      → OnOk res (is_wide_row (scaled r.constant (plain_row l)) ≡ false) → (res ≡ Err fault.PastRange → is_wide_row (scaled r.constant (plain_row l)) ≡ true)
      → (f : Flt) (t u : Tm) (S : Srt) (at : ℕ) → Forms f t left → Forms f u right → Forms f (t_prim op.Mul S (t_more t (t_more u t_end)) at) res
  right-made n e ok ordered narrow past f t u S at g h =
      let a = form-of f t left l is g in
      let b = form-of f u right r js h in
      let d : coefficients r.coefs ≡ [] = ap coefficients e in
      made-form f _ res (scaled r.constant (plain_row l)) (record { ok = ok; ordered = ordered a.ordered; narrow = narrow; past = past })
      (right-form f t u S at (plain_row l) (plain_row r) a b (no-coefs l.coefs n) d) (right-past f t u S at (plain_row l) (plain_row r) a b (no-coefs l.coefs n) d)

  pub opaque-made : (l.coefs ≡ [] → ⊥) → (r.coefs ≡ [] → ⊥) → (f : Flt) (t u : Tm) (S : Srt) (at : ℕ) → Forms f t left → Forms f u right → IsUnknown f (t_prim op.Mul S (t_more t (t_more u t_end)) at) res
      → Forms f (t_prim op.Mul S (t_more t (t_more u t_end)) at) res
  opaque-made n k f t u S at g h o =
      let a = form-of f t left l is g in
      let b = form-of f u right r js h in
      unknown-of f _ res o (opaque-is f t u S at (plain_row l) (plain_row r) a b (no-coefs l.coefs n) (no-coefs r.coefs k))

pub negation-made : (arg res : Result Row RowFault) (l : Row) → arg ≡ Ok l → IfOk res (λ x. plain_row x ≡ scaled minus_one (plain_row l)) → (IsRow (plain_row l) → IfOk res (λ x. IsRow (plain_row x)))
    → OnOk res (is_wide_row (scaled minus_one (plain_row l)) ≡ false) → (res ≡ Err fault.PastRange → is_wide_row (scaled minus_one (plain_row l)) ≡ true)
    → (f : Flt) (t : Tm) (S : Srt) (at : ℕ) → Forms f t arg → Forms f (t_prim op.Neg S (t_more t t_end) at) res
negation-made arg res l is ok ordered narrow past f t S at g =
    let a = form-of f t arg l is g in
    made-form f _ res (scaled minus_one (plain_row l)) (record { ok = ok; ordered = ordered a.ordered; narrow = narrow; past = past })
    (negation-form f t S at (plain_row l) a) (negation-past f t S at (plain_row l) a)

pub number-made : (f : Flt) (k : ℤ) (r : Row) → r.constant ≡ k → r.coefs ≡ [] → In128 k → Forms f (t_int k) (Ok r)
unfolding Forms
number-made f k r e d i = subst (IsForm f (t_int k)) (same e d) (number-form f k (ap not ((in128-decides k).1 i)))
  where
    same : r.constant ≡ k → r.coefs ≡ [] → constant_row k ≡ plain_row r
    same e d = sym (rw (e, d) refl)

pub unknown-made : (f : Flt) (t : Tm) (r : Row) (u : ℕ) (old : List Coef) → r.constant ≡ pos 0 → u ≡ number_of f.terms t → old ≡ [] → r.coefs ≡ old ++ record { unknown = u; by = pos 1 } ∷ [] → IsUnknown f t (Ok r)
unfolding IsUnknown
unknown-made f t r u old e n z c = same (c ∙ ap (λ xs. xs ++ record { unknown = u; by = pos 1 } ∷ []) z) (n ∙ number-same f t)
  where
    same : r.coefs ≡ record { unknown = u; by = pos 1 } ∷ [] → u ≡ term_number f t → plain_row r ≡ unknown_row (term_number f t)
    same c m = rw (e, c, m) refl

pub unknown-missing : (f : Flt) (t : Tm) (r : Result Row RowFault) → IsErrAnd r (λ y. y ≡ fault.NoMemory) → IsUnknown f t r
unfolding IsUnknown
unknown-missing f t (Ok y) h = absurd h
unknown-missing f t (Err y) h = λ q. (let z = sym h ∙ q in cc)
