-- Rows of inequalities, from differences of forms.
use Rattle.std.proofs.Common.{◌≡◌, ℕ, suc, ℤ, pos, ◌+ℤ◌, ◌-ℤ◌, ◌*ℤ◌, Bool, true, false, ◌||◌, List, [], ◌∷◌, Result, Ok, Err, IfOk, OnOk, refl, sym, ap, ap₂, ◌∙◌, subst, arith}
use Rattle.std.specs.Ordering.{int_eq}
use Rattle.std.specs.Result.{IsErrAnd}
use Rattle.std.proofs.lemmas.Int.{ints}
use Rattle.std.proofs.lemmas.Bool.Decides.{Decides-int_eq}
use Rattle.fst_rows.specs.declared.fault.RowFault.{RowFault}
use Rattle.fst_rows.specs.declared.fault.RowFault.TheVariants as fault
use Rattle.fst_rows.specs.declared.row.Row.{Row}
use Rattle.fst_rows.specs.Exact.{plus}
use Rattle.fst_rows.specs.Plain.{plain_row}
use Rattle.fst_rows.proofs.RiseLemmas.{summed-Rise}
use Rattle.fst_terms.proofs.Differences.{dif, dif_pos, dif_sum, dif_product, dif_same, dif_neg}
use Rattle.fst_terms.specs.Terms.{Tm}
use Rattle.fst_terms.specs.Flats.{Flt}
use Rattle.fst_terms.specs.Linear.{Ineq, minus_one, row_before, is_wide_ineq}
use Rattle.fst_terms.specs.Marks.{term_number}
use Rattle.fst_terms.specs.Rows.{Cf, Rw, IsRow, Rise, merged, put, tight, is_wide_row}
use Rattle.fst_inequalities.specs.Forming.{IsForm, Making}
use Rattle.fst_inequalities.specs.Inequalities.{more, before, between, IsRowOf, Rows}

-- ---- one time a row

one-times : (n : ℤ) → pos 1 *ℤ n ≡ n
one-times n = omega (arith, ints)

put-some : (u : ℕ) (n : ℤ) (cs : List Cf) → (n ≡ pos 0 → ⊥) → put u n cs ≡ record { unknown = u; by = n } ∷ cs
put-some u n cs h = go (int_eq n (pos 0)) refl
  where
    go : (b : Bool) → int_eq n (pos 0) ≡ b → put u n cs ≡ record { unknown = u; by = n } ∷ cs
    go true e = absurd (h ((Decides-int_eq n (pos 0)).0 e))
    go false e = rw e refl

-- nothing is added to a list in order
merged-alone : (q : ℤ) (m : ℕ) (cs : List Cf) → Rise m cs → merged (pos 1) cs q [] ≡ cs
merged-alone q m [] h = refl
merged-alone q m (c ∷ cs) h =
    ap (λ n. put c.unknown n (merged (pos 1) cs q [])) (one-times c.by)
    ∙ ap (put c.unknown c.by) (merged-alone q (suc c.unknown) cs h.2)
    ∙ put-some c.unknown c.by cs h.1

-- a difference of rows with the same coefficients, whose constants differ by as much
before-plus : (a b x y : Rw) (less : Bool) → IsRow a → IsRow b → x.coefs ≡ a.coefs → y.coefs ≡ b.coefs
    → pos 1 *ℤ x.constant +ℤ minus_one *ℤ y.constant ≡ pos 1 *ℤ (pos 1 *ℤ a.constant +ℤ minus_one *ℤ b.constant) +ℤ pos 1 *ℤ more less → plus x true y ≡ before a b less
before-plus a b x y less h k p q e =
    ap₂ (λ n cs. record { constant = n; coefs = cs }) e
    (ap₂ (λ cs ds. merged (pos 1) cs minus_one ds) p q ∙ sym (merged-alone (pos 1) 0 (merged (pos 1) a.coefs minus_one b.coefs) (summed-Rise 0 (pos 1) a minus_one b h k)))

made-as : (r : Result Row RowFault) (c d : Rw) → c ≡ d → Making r c → Making r d
made-as r c d e m = subst (Making r) e m

module _ (res : Result Row RowFault) (a b x y : Rw) (h : IsRow a) (k : IsRow b) (p : x.coefs ≡ a.coefs) (q : y.coefs ≡ b.coefs) where
  abbrev Differs : Bool → Type 0
  Differs less = pos 1 *ℤ x.constant +ℤ minus_one *ℤ y.constant ≡ pos 1 *ℤ (pos 1 *ℤ a.constant +ℤ minus_one *ℤ b.constant) +ℤ pos 1 *ℤ more less

  pub difference-made : (less : Bool) → Differs less → IfOk res (λ r. plain_row r ≡ plus x true y) → (IsRow x → IsRow y → IfOk res (λ r. IsRow (plain_row r))) → OnOk res (is_wide_row (plus x true y) ≡ false)
      → (res ≡ Err fault.PastRange → is_wide_row (plus x true y) ≡ true) → Making res (before a b less)
  difference-made less e ok ordered narrow past =
      made-as res (plus x true y) (before a b less) (before-plus a b x y less h k p q e)
      (record { ok = ok; ordered = ordered (subst (Rise 0) (sym p) h) (subst (Rise 0) (sym q) k); narrow = narrow; past = past })

abbrev ok_row : Row → Result Row RowFault
ok_row x = Ok x

abbrev err_row : RowFault → Result Row RowFault
err_row x = Err x

pub none-made : (c : Rw) (r : Result Row RowFault) → IsErrAnd r (λ e. e ≡ fault.NoMemory) → Making r c
none-made c (Ok x) h = absurd h
none-made c (Err x) h = record { ok = tt; ordered = tt; narrow = tt; past = λ e. (let z = no-range x h e in absurd z) }
  where
    no-range : (x : RowFault) → x ≡ fault.NoMemory → err_row x ≡ err_row fault.PastRange → ⊥
    no-range x h e = cc

-- ---- inequalities

or-first : (a b c : Bool) → a ≡ true → ((a || b) || c) ≡ true
or-first a b c e = rw e refl

or-none : (a b c : Bool) → a ≡ false → b ≡ false → c ≡ false → ((a || b) || c) ≡ false
or-none a b c p q r = rw (p, q, r) refl

module _ (f : Flt) (t u : Tm) (a b : Rw) (g : IsForm f t a) (h : IsForm f u b) (less : Bool) where
  before-is : before a b less ≡ row_before (term_number f) (between t u less)
  before-is = ap₂ (λ x y. before x y less) g.is h.is

  pub inequality-past : is_wide_row (before a b less) ≡ true → is_wide_ineq (term_number f) (between t u less) ≡ true
  inequality-past w = or-first _ _ _ (ap is_wide_row (sym before-is) ∙ w)

  pub inequality-row : (x r : Rw) → x ≡ before a b less → is_wide_row (before a b less) ≡ false → r ≡ tight x → IsRow r → IsRowOf f (between t u less) r
  inequality-row x r e w i o = record { is = i ∙ ap tight (e ∙ before-is); ordered = o; narrow = or-none _ _ _ (ap is_wide_row (sym before-is) ∙ w) g.narrow h.narrow }

pub rows-past : (f : Flt) (d : Ineq) (r : Result Row RowFault) (x : RowFault) → IsErrAnd r (λ y. y ≡ x) → (x ≡ fault.PastRange → is_wide_ineq (term_number f) d ≡ true) → Rows f d r
unfolding Rows
rows-past f d (Ok y) x h w = absurd h
rows-past f d (Err y) x h w = λ q. w (sym h ∙ q)

pub rows-missing : (f : Flt) (d : Ineq) (r : Result Row RowFault) → IsErrAnd r (λ y. y ≡ fault.NoMemory) → Rows f d r
unfolding Rows
rows-missing f d (Ok y) h = absurd h
rows-missing f d (Err y) h = λ q. (let z = sym h ∙ q in cc)

pub rows-ok : (f : Flt) (d : Ineq) (r : Row) → IsRowOf f d (plain_row r) → Rows f d (Ok r)
unfolding Rows
rows-ok f d r h = h

-- ---- as the code makes them

pub less-right : (l r s : ℤ) → s ≡ r +ℤ pos 1 → pos 1 *ℤ l +ℤ minus_one *ℤ s ≡ pos 1 *ℤ (pos 1 *ℤ l +ℤ minus_one *ℤ r) +ℤ pos 1 *ℤ more true
less-right l r s e = rw e (dif_same
    (dif_sum (dif_product (dif_pos 1) (dif l)) (dif_product (dif_neg (dif_pos 1)) (dif_sum (dif r) (dif_pos 1))))
    (dif_sum (dif_product (dif_pos 1) (dif_sum (dif_product (dif_pos 1) (dif l)) (dif_product (dif_neg (dif_pos 1)) (dif r)))) (dif_product (dif_pos 1) (dif_neg (dif_pos 1)))) (omega arith))

pub less-left : (l r s : ℤ) → s ≡ l -ℤ pos 1 → pos 1 *ℤ s +ℤ minus_one *ℤ r ≡ pos 1 *ℤ (pos 1 *ℤ l +ℤ minus_one *ℤ r) +ℤ pos 1 *ℤ more true
less-left l r s e = rw e (omega (arith, ints))

pub not-less : (l r : ℤ) (less : Bool) → less ≡ false → pos 1 *ℤ l +ℤ minus_one *ℤ r ≡ pos 1 *ℤ (pos 1 *ℤ l +ℤ minus_one *ℤ r) +ℤ pos 1 *ℤ more less
not-less l r less e = rw e (omega (arith, ints))

pub making-past : (r : Result Row RowFault) (c : Rw) (x : RowFault) → r ≡ Err x → Making r c → x ≡ fault.PastRange → is_wide_row c ≡ true
making-past r c x e m q = m.past (e ∙ ap Err q)

pub making-ok : (r : Result Row RowFault) (c : Rw) (x : Row) → r ≡ Ok x → Making r c → (plain_row x ≡ c) × (IsRow (plain_row x) × (is_wide_row c ≡ false))
making-ok (Ok y) c x e m = subst (λ y. (plain_row y ≡ c) × (IsRow (plain_row y) × (is_wide_row c ≡ false))) (same y x e) (m.ok, (m.ordered, m.narrow))
  where
    same : (y x : Row) → ok_row y ≡ ok_row x → y ≡ x
    same y x e = cc
making-ok (Err y) c x e m = cc
