-- The linear form of a term has the term's value, and rows of true inequalities are solved.
use Rattle.std.proofs.Common.{◌≡◌, ℕ, Bool, true, false, if◌then◌else◌, List, [], ◌∷◌, Option, Some, None, IsTrue, ℤ, pos, neg_ℤ, ◌+ℤ◌, ◌-ℤ◌, ◌*ℤ◌, ◌≤ℤ◌, refl, sym, ap, ap₂, ◌∙◌, subst, arith}
use Rattle.fst_base.specs.declared.op.Op.TheVariants as op
use Rattle.fst_base.specs.Primitives.{int_of}
use Rattle.fst_terms.specs.Terms.{Tm, t_int, t_prim, t_end, t_more}
use Rattle.fst_terms.specs.Meaning.{Env, Meaning, value}
use Rattle.fst_terms.specs.Same.{same_term, is_among}
use Rattle.fst_terms.proofs.MemberLemmas.{AllTm, all-at}
use Rattle.fst_terms.specs.Rows.{Cf, Rw, sum_at, value_at, summed, Solves}
use Rattle.fst_terms.specs.Elimination.{no_row}
use Rattle.fst_terms.specs.Linear.{minus_one, constant_row, unknown_row, scaled, is_constant, product, linear, Ineq, row_before, row_of}
use Rattle.fst_terms.specs.Marks.{number_by, at_number}
use Rattle.fst_terms.proofs.Differences.{dif, dif_pos, dif_sum, dif_product, dif_same, dif_neg}
use Rattle.fst_terms.proofs.SumLemmas.{summed-value}
use Rattle.fst_terms.proofs.TightLemmas.{tight-solved}
use Rattle.fst_terms.proofs.NumberLemmas.{ArgsAmong, number-tells}

one-times : (a : ℤ) → pos 1 *ℤ a ≡ a
one-times a = dif_same (dif_product (dif_pos 1) (dif a)) (dif a) (omega arith)

minus-times : (a : ℤ) → minus_one *ℤ a ≡ neg_ℤ a
minus-times a = dif_same (dif_product (dif_neg (dif_pos 1)) (dif a)) (dif_neg (dif a)) (omega arith)

module _ (M : Meaning) (e : Env) (terms : List Tm) (closed : AllTm (ArgsAmong terms) terms) where
  abbrev int-at : Option Tm → ℤ
  int-at None = pos 0
  int-at (Some t) = int_of (value M t e)

  -- the value of the unknown of a number
  abbrev pub number-value : ℕ → ℤ
  number-value u = int-at (at_number terms u)

  abbrev number : Tm → ℕ
  number t = number_by same_term terms t

  abbrev num : Tm → ℤ
  num t = int_of (value M t e)

  of-row : Rw → ℤ
  of-row r = value_at 1 number-value r

  constant-value : (n : ℤ) → value_at 1 number-value (constant_row n) ≡ n
  constant-value n = dif_same (dif_sum (dif_product (dif_pos 1) (dif n)) (dif_pos 0)) (dif n) (omega arith)

  unknown-value : (u : ℕ) → value_at 1 number-value (unknown_row u) ≡ number-value u
  unknown-value u =
      dif_same (dif_sum (dif_product (dif_pos 1) (dif_pos 0)) (dif_sum (dif_product (dif_pos 1) (dif (number-value u))) (dif_pos 0))) (dif (number-value u)) (omega arith)

  own-value : (t : Tm) → IsTrue (is_among t terms) → value_at 1 number-value (unknown_row (number t)) ≡ num t
  own-value t h = unknown-value (number t) ∙ ap int-at (number-tells terms t h)

  scaled-value : (k : ℤ) (a : Rw) → value_at 1 number-value (scaled k a) ≡ k *ℤ value_at 1 number-value a
  scaled-value k a =
      summed-value 1 number-value k a (pos 0) no_row
      ∙ dif_same (dif_sum (dif_product (dif k) (dif (value_at 1 number-value a))) (dif_product (dif_pos 0) (dif (value_at 1 number-value no_row)))) (dif_product (dif k) (dif (value_at 1 number-value a))) (omega arith)

  constant-is : (a : Rw) → is_constant a ≡ true → value_at 1 number-value a ≡ a.constant
  constant-is a q = go a.coefs refl q
    where
      go : (cs : List Cf) → a.coefs ≡ cs → (elim cs [ [] ↦ true | _ ∷ _ ↦ false ]) ≡ true → value_at 1 number-value a ≡ a.constant
      go [] p k = ap (λ cs. pos 1 *ℤ a.constant +ℤ sum_at number-value cs) p ∙ dif_same (dif_sum (dif_product (dif_pos 1) (dif a.constant)) (dif_pos 0)) (dif a.constant) (omega arith)
      go (c ∷ cs) p k = cc

  product-value : (a b o : Rw) (m n : ℤ) → value_at 1 number-value a ≡ m → value_at 1 number-value b ≡ n → value_at 1 number-value o ≡ m *ℤ n → value_at 1 number-value (product a b o) ≡ m *ℤ n
  product-value a b o m n p q r = go (is_constant a) refl
    where
      swap : (m n : ℤ) → n *ℤ m ≡ m *ℤ n
      swap m n = dif_same (dif_product (dif n) (dif m)) (dif_product (dif m) (dif n)) (omega arith)

      second : (d : Bool) → is_constant b ≡ d → value_at 1 number-value (if d then scaled b.constant a else o) ≡ m *ℤ n
      second true k = scaled-value b.constant a ∙ ap₂ ◌*ℤ◌ (sym (constant-is b k) ∙ q) p ∙ swap m n
      second false k = r

      go : (c : Bool) → is_constant a ≡ c → value_at 1 number-value (if c then scaled a.constant b else (if is_constant b then scaled b.constant a else o)) ≡ m *ℤ n
      go true k = scaled-value a.constant b ∙ ap₂ ◌*ℤ◌ (sym (constant-is a k) ∙ p) q
      go false k = second (is_constant b) refl

  args-numbered : (t : Tm) → IsTrue (is_among t terms) → ArgsAmong terms t
  args-numbered t h = all-at (ArgsAmong terms) terms t closed h

  -- the linear form of a numbered int term
  pub linear-value : (t : Tm) → IsTrue (is_among t terms) → value_at 1 number-value (linear number t) ≡ num t
  linear-value (t_int k) h = constant-value k
  linear-value (t_prim op.Add S (t_more t (t_more u t_end)) at) h =
      let a = args-numbered (t_prim op.Add S (t_more t (t_more u t_end)) at) h in
      summed-value 1 number-value (pos 1) (linear number t) (pos 1) (linear number u)
      ∙ ap₂ ◌+ℤ◌ (one-times (value_at 1 number-value (linear number t)) ∙ linear-value t a.0) (one-times (value_at 1 number-value (linear number u)) ∙ linear-value u a.1.0)
  linear-value (t_prim op.Sub S (t_more t (t_more u t_end)) at) h =
      let a = args-numbered (t_prim op.Sub S (t_more t (t_more u t_end)) at) h in
      summed-value 1 number-value (pos 1) (linear number t) minus_one (linear number u)
      ∙ ap₂ ◌+ℤ◌ (one-times (value_at 1 number-value (linear number t)) ∙ linear-value t a.0) (minus-times (value_at 1 number-value (linear number u)) ∙ ap neg_ℤ (linear-value u a.1.0))
  linear-value (t_prim op.Neg S (t_more t t_end) at) h =
      let a = args-numbered (t_prim op.Neg S (t_more t t_end) at) h in
      scaled-value minus_one (linear number t) ∙ minus-times (value_at 1 number-value (linear number t)) ∙ ap neg_ℤ (linear-value t a.0)
  linear-value (t_prim op.Mul S (t_more t (t_more u t_end)) at) h =
      let a = args-numbered (t_prim op.Mul S (t_more t (t_more u t_end)) at) h in
      product-value (linear number t) (linear number u) (unknown_row (number (t_prim op.Mul S (t_more t (t_more u t_end)) at))) (num t) (num u)
      (linear-value t a.0) (linear-value u a.1.0) (own-value (t_prim op.Mul S (t_more t (t_more u t_end)) at) h)
  linear-value t h = own-value t h

  -- the inequality is true
  abbrev pub IneqTrue : Ineq → Type 0
  IneqTrue d = pos 0 ≤ℤ (num d.left -ℤ num d.right +ℤ d.more)

  before-value : (d : Ineq) → IsTrue (is_among d.left terms) → IsTrue (is_among d.right terms) → value_at 1 number-value (row_before number d) ≡ num d.left -ℤ num d.right +ℤ d.more
  before-value d h k =
      summed-value 1 number-value (pos 1) (summed (pos 1) (linear number d.left) minus_one (linear number d.right)) (pos 1) (constant_row d.more)
      ∙ ap₂ ◌+ℤ◌
      (one-times (value_at 1 number-value (summed (pos 1) (linear number d.left) minus_one (linear number d.right)))
      ∙ summed-value 1 number-value (pos 1) (linear number d.left) minus_one (linear number d.right)
      ∙ ap₂ ◌+ℤ◌ (one-times (value_at 1 number-value (linear number d.left)) ∙ linear-value d.left h) (minus-times (value_at 1 number-value (linear number d.right)) ∙ ap neg_ℤ (linear-value d.right k)))
      (one-times (value_at 1 number-value (constant_row d.more)) ∙ constant-value d.more)

  -- the row of a true inequality is solved by the values of the terms
  pub row-true : (d : Ineq) → IsTrue (is_among d.left terms) → IsTrue (is_among d.right terms) → IneqTrue d → Solves number-value (row_of number d)
  row-true d h k t = tight-solved number-value (row_before number d) (subst (λ n. pos 0 ≤ℤ n) (sym (before-value d h k)) t)
