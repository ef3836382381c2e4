-- Raising indices: by nothing, twice, less far, and where there are none to raise.
use Rattle.std.proofs.Common.{◌≡◌, ℕ, suc, ◌+◌, ◌^◌, ◌<◌, ◌≤◌, if◌then◌else◌, nat_lt, refl, sym, ap, ap₂, ◌∙◌, arith, add-zero, ⊎_elim}
use Rattle.std.proofs.lemmas.Bool.{cases_lt, lt-ltb, le-ltb}
use Rattle.fst_terms.specs.Terms.{Tm, Tms, t_var, t_int, t_bool, t_unit, t_prim, t_if, t_app, t_let, t_end, t_more, shift, shifts}
use Rattle.fst_terms.specs.Indices.{Raisable, AreRaisable}

prim_of : {A B C D E : Type 0} (f : A → B → C → D → E) (a : A) (b : B) (d : D) → C → E
prim_of f a b d c = f a b c d

abbrev raised : ℕ → ℕ → ℕ → ℕ
raised from by i = if nat_lt i from then i else i + by

raised-below : (from by i : ℕ) → i < from → raised from by i ≡ i
raised-below from by i lt = rw (lt-ltb i from lt) refl

raised-above : (from by i : ℕ) → from ≤ i → raised from by i ≡ i + by
raised-above from by i le = rw (le-ltb i from le) refl

if_equal : {c c' t t' u u' : Tm} → c ≡ c' → t ≡ t' → u ≡ u' → t_if c t u ≡ t_if c' t' u'
if_equal p q r = cc

-- raising by 0 changes nothing
mutual
  pub shift-zero : (from : ℕ) (t : Tm) → shift from 0 t ≡ t
  shift-zero from (t_var i) = ap t_var (⊎_elim (raised-below from 0 i) (λ le. raised-above from 0 i le ∙ add-zero i) (cases_lt i from))
  shift-zero from (t_int n) = refl
  shift-zero from (t_bool b) = refl
  shift-zero from t_unit = refl
  shift-zero from (t_prim o S ts at) = ap (λ us. t_prim o S us at) (shifts-zero from ts)
  shift-zero from (t_if c t u) = if_equal (shift-zero from c) (shift-zero from t) (shift-zero from u)
  shift-zero from (t_app k S ts) = ap (t_app k S) (shifts-zero from ts)
  shift-zero from (t_let x t u) = ap₂ (t_let x) (shift-zero from t) (shift-zero (suc from) u)

  shifts-zero : (from : ℕ) (ts : Tms) → shifts from 0 ts ≡ ts
  shifts-zero from t_end = refl
  shifts-zero from (t_more t ts) = ap₂ t_more (shift-zero from t) (shifts-zero from ts)

raised-twice : (from a b i : ℕ) → raised from b (raised from a i) ≡ raised from (a + b) i
raised-twice from a b i = ⊎_elim below above (cases_lt i from)
  where
    below : i < from → raised from b (raised from a i) ≡ raised from (a + b) i
    below lt = ap (raised from b) (raised-below from a i lt) ∙ raised-below from b i lt ∙ sym (raised-below from (a + b) i lt)

    above : from ≤ i → raised from b (raised from a i) ≡ raised from (a + b) i
    above le = ap (raised from b) (raised-above from a i le) ∙ raised-above from b (i + a) (omega arith) ∙ omega arith ∙ sym (raised-above from (a + b) i le)

-- raising by a and then by b is raising by both
mutual
  pub shift-shift : (from a b : ℕ) (t : Tm) → shift from b (shift from a t) ≡ shift from (a + b) t
  shift-shift from a b (t_var i) = ap t_var (raised-twice from a b i)
  shift-shift from a b (t_int n) = refl
  shift-shift from a b (t_bool c) = refl
  shift-shift from a b t_unit = refl
  shift-shift from a b (t_prim o S ts at) = ap (λ us. t_prim o S us at) (shifts-shifts from a b ts)
  shift-shift from a b (t_if c t u) = if_equal (shift-shift from a b c) (shift-shift from a b t) (shift-shift from a b u)
  shift-shift from a b (t_app k S ts) = ap (t_app k S) (shifts-shifts from a b ts)
  shift-shift from a b (t_let x t u) = ap₂ (t_let x) (shift-shift from a b t) (shift-shift (suc from) a b u)

  shifts-shifts : (from a b : ℕ) (ts : Tms) → shifts from b (shifts from a ts) ≡ shifts from (a + b) ts
  shifts-shifts from a b t_end = refl
  shifts-shifts from a b (t_more t ts) = ap₂ t_more (shift-shift from a b t) (shifts-shifts from a b ts)

-- what can be raised by b can be raised by less
mutual
  pub Raisable-less : (from a b : ℕ) (t : Tm) → a ≤ b → Raisable from b t → Raisable from a t
  Raisable-less from a b (t_var i) le h = λ above. let lt : i + b < 2 ^ 32 = h above in omega arith
  Raisable-less from a b (t_int n) le h = h
  Raisable-less from a b (t_bool c) le h = h
  Raisable-less from a b t_unit le h = h
  Raisable-less from a b (t_prim o S ts at) le h = AreRaisable-less from a b ts le h
  Raisable-less from a b (t_if c t u) le h = (Raisable-less from a b c le h.0, Raisable-less from a b t le h.1, Raisable-less from a b u le h.2)
  Raisable-less from a b (t_app k S ts) le h = AreRaisable-less from a b ts le h
  Raisable-less from a b (t_let x t u) le h = (Raisable-less from a b t le h.0, Raisable-less (suc from) a b u le h.1)

  AreRaisable-less : (from a b : ℕ) (ts : Tms) → a ≤ b → AreRaisable from b ts → AreRaisable from a ts
  AreRaisable-less from a b t_end le h = h
  AreRaisable-less from a b (t_more t ts) le h = (Raisable-less from a b t le h.0, AreRaisable-less from a b ts le h.1)

none_above : (from by i : ℕ) → 2 ^ 32 ≤ from → (from ≤ i → i + by < 2 ^ 32) → raised from by i ≡ i
none_above from by i past h = ⊎_elim (raised-below from by i) (λ le. let lt : i + by < 2 ^ 32 = h le in absurd (omega arith)) (cases_lt i from)

-- past 32 bits nothing that can be raised stands free
mutual
  pub shift-none : (from by : ℕ) (t : Tm) → 2 ^ 32 ≤ from → Raisable from by t → shift from by t ≡ t
  shift-none from by (t_var i) past h = ap t_var (none_above from by i past h)
  shift-none from by (t_int n) past h = refl
  shift-none from by (t_bool b) past h = refl
  shift-none from by t_unit past h = refl
  shift-none from by (t_prim o S ts at) past h = ap (λ us. t_prim o S us at) (shifts-none from by ts past h)
  shift-none from by (t_if c t u) past h = if_equal (shift-none from by c past h.0) (shift-none from by t past h.1) (shift-none from by u past h.2)
  shift-none from by (t_app k S ts) past h = ap (t_app k S) (shifts-none from by ts past h)
  shift-none from by (t_let x t u) past h = ap₂ (t_let x) (shift-none from by t past h.0) (shift-none (suc from) by u (omega arith) h.1)

  shifts-none : (from by : ℕ) (ts : Tms) → 2 ^ 32 ≤ from → AreRaisable from by ts → shifts from by ts ≡ ts
  shifts-none from by t_end past h = refl
  shifts-none from by (t_more t ts) past h = ap₂ t_more (shift-none from by t past h.0) (shifts-none from by ts past h.1)
