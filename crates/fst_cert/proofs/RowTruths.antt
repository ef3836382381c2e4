-- What the row lines of a proof give is solved, and no verdict line holds, in an environment that agrees with the marks.
use Rattle.std.proofs.Common.{◌≡◌, ◌⊎◌, inl, inr, ℕ, zero, suc, Bool, true, false, not, ◌&&◌, if◌then◌else◌, List, [], ◌∷◌, ◌++◌, slice_get, Option, Some, None, ℤ, pos, ◌+ℤ◌, ◌-ℤ◌, ◌≤ℤ◌, ◌<ℤ◌, refl, sym, ap, ap₂, ◌∙◌, subst, arith}
use Rattle.std.specs.Prelude.{⊤, int_le, int_lt}
use Rattle.std.proofs.lemmas.Bool.{false≢true}
use Rattle.std.proofs.lemmas.Int.{ints, by_lt_z}
use lib.Dec.{T}
use lib.Signed.{le_z_yes}
use Rattle.fst_base.specs.declared.op.Op.{Op}
use Rattle.fst_base.specs.declared.op.Op.TheVariants as op
use Rattle.fst_base.specs.Sorts.{Srt}
use Rattle.fst_base.specs.Values.{Val, v_unit, v_bool, v_int, v_pair, v_none, v_some, v_nil, v_cons, v_inl, v_inr, HasSorts, same_bool}
use Rattle.fst_base.specs.Primitives.{prim, first, second, int_of}
use Rattle.fst_base.specs.Rows.{same_op}
use Rattle.fst_base.proofs.ValueLemmas.{same-decides}
use Rattle.fst_terms.specs.Terms.{Tm, t_bool, t_prim, t_more}
use Rattle.fst_terms.specs.Meaning.{Env, Meaning, value, values}
use Rattle.fst_terms.specs.Formulas.{sort_of}
use Rattle.fst_terms.specs.Flats.{Flt, truth_of}
use Rattle.fst_terms.specs.declared.flat.Mark.{Mark}
use Rattle.fst_terms.specs.declared.flat.Mark.TheVariants as mark
use Rattle.fst_terms.proofs.SameLemmas.{same_op-decides, same_bool-decides}
use Rattle.fst_terms.specs.Skeletons.{arg_of, rest_of, is_constructor}
use Rattle.fst_terms.specs.DataFacts.{is_int}
use Rattle.fst_terms.specs.FlatForms.{Fms, sorts, formulas}
use Rattle.fst_terms.specs.Rows.{Cf, Rw, summed, combined, is_wide, Solves}
use Rattle.fst_terms.specs.Linear.{Ineq, minus_one, row_of, is_wide_ineq, is_constant}
use Rattle.fst_terms.specs.Marks.{Marking, at_number, term_number, var_sorts, is_equation, is_at_most, is_int_equation, MarkHolds, ineq, order_ineqs, equation_ineqs, mark_ineqs}
use Rattle.fst_terms.specs.Branches.{differ}
use Rattle.fst_cert.specs.Proving.{only_if, on, holds, Eqn, is_eqn, narrow_row, narrow_sum, row_by, is_verdict}
use Rattle.fst_terms.specs.Sentences.{KeepsSorts, AreFormulas}
use Rattle.fst_cert.specs.declared.line.Line.{Line}
use Rattle.fst_cert.specs.declared.line.Line.TheVariants as line
use Rattle.fst_terms.proofs.PutLemmas.{first-value, second-value}
use Rattle.fst_terms.proofs.SumLemmas.{summed-solved}
use Rattle.fst_terms.proofs.TightLemmas.{tight-solved}
use Rattle.fst_terms.proofs.WitnessLemmas.{below-unsolved}
use Rattle.fst_terms.proofs.LinearValues.{number-value, row-true}
use Rattle.fst_terms.proofs.LineTruths.{f, Numbered, Here, args-closed, atom-numbered, nth-numbered, mark-value}
use Rattle.fst_cert.proofs.EquationTruths.{on-inv, only-inv, holds-inv, both-true, AllEqn, eqn-at, eqn-same, eq-sides}

one-item : {A : Type 0} (a d : A) (k : ℕ) → at_number (a ∷ []) k ≡ Some d → a ≡ d
one-item a d zero h = cc
one-item a d (suc zero) h = cc
one-item a d (suc (suc k)) h = cc

two-items : {A : Type 0} (a b d : A) (k : ℕ) → at_number (a ∷ b ∷ []) k ≡ Some d → (a ≡ d) ⊎ (b ≡ d)
two-items a b d zero h = cc
two-items a b d (suc zero) h = let p : a ≡ d = cc in inl p
two-items a b d (suc (suc zero)) h = let p : b ≡ d = cc in inr p
two-items a b d (suc (suc (suc k))) h = cc

pub le-yes : (a b : ℤ) → int_le a b ≡ true → a ≤ℤ b
le-yes a b h = le_z_yes (subst T (sym h) tt)

pub at-least : (x y : ℤ) → x ≤ℤ y → pos 0 ≤ℤ (y -ℤ x +ℤ pos 0)
at-least x y h = omega (arith, ints, h)

at-least-more : (x y : ℤ) → x <ℤ y → pos 0 ≤ℤ (y -ℤ x +ℤ minus_one)
at-least-more x y h = omega (arith, ints, h)

pub less-or-not : (x y : ℤ) → int_le x y ≡ false → y <ℤ x
less-or-not x y h = by_lt_z y x (λ l. l) (λ m. absurd (false≢true (sym h ∙ yes (int_le x y) m.le)))
  where
    yes : (b : Bool) → T b → b ≡ true
    yes true t = refl
    yes false t = absurd t

-- the constructor that a value begins with
abbrev con-of-value : Val → Option Op
con-of-value v_unit = None
con-of-value (v_bool b) = None
con-of-value (v_int n) = None
con-of-value (v_pair a b) = Some op.Pair
con-of-value v_none = Some op.Nothing
con-of-value (v_some a) = Some op.Just
con-of-value v_nil = Some op.Nil
con-of-value (v_cons a b) = Some op.Cons
con-of-value (v_inl a) = Some op.Inl
con-of-value (v_inr a) = Some op.Inr

con-value : (o : Op) (S : Srt) (vs : List Val) → is_constructor o ≡ true → con-of-value (prim o S vs) ≡ Some o
con-value op.Pair S vs h = refl
con-value op.Nothing S vs h = refl
con-value op.Just S vs h = refl
con-value op.Nil S vs h = refl
con-value op.Cons S vs h = refl
con-value op.Inl S vs h = refl
con-value op.Inr S vs h = refl
con-value o S vs h = absurd (false≢true h)

pub not-true : (b : Bool) → not b ≡ true → b ≡ false
not-true true h = absurd (false≢true h)
not-true false h = refl

module _ (Applies : (k : ℕ) → List Srt → (S : Srt) → Type 0) (M : Meaning) (keeps : KeepsSorts Applies M) (m : Fms) (formed : AreFormulas Applies (sorts m) (formulas m)) (e : Env) (has : HasSorts (sorts m) e) where
  abbrev fl : Flt
  fl = f Applies M keeps m formed e has

  abbrev Nb : Tm → Type 0
  Nb t = Numbered Applies M keeps m formed e has t

  abbrev num : Tm → ℤ
  num t = int_of (value M t e)

  -- the values of the terms solve the row
  abbrev pub RowTrue : Rw → Type 0
  RowTrue r = Solves (number-value M e fl.terms (args-closed Applies M keeps m formed e has)) r

  abbrev pub AllRow : List Rw → Type 0
  AllRow [] = ⊤
  AllRow (r ∷ rs) = RowTrue r × AllRow rs

  pub row-at : (rs : List Rw) (n : ℕ) (r : Rw) → AllRow rs → at_number rs n ≡ Some r → RowTrue r
  row-at rs zero r h q = cc
  row-at rs (suc n) r h q = go rs n h q
    where
      go : (rs : List Rw) (n : ℕ) → AllRow rs → slice_get rs n ≡ Some r → RowTrue r
      go [] n h q = cc
      go (c ∷ cs) zero h q = let p : c ≡ r = cc in subst RowTrue p h.0
      go (c ∷ cs) (suc n) h q = go cs n h.1 q

  pub row-add : (rs : List Rw) (r : Rw) → AllRow rs → RowTrue r → AllRow (rs ++ r ∷ [])
  row-add [] r h k = (k, tt)
  row-add (c ∷ cs) r h k = (h.0, row-add cs r h.1 k)

  -- an inequality between numbered terms that is true
  pub record Fine (d : Ineq) : Type 0 where
    pub left : Nb d.left
    pub right : Nb d.right
    pub holds : pos 0 ≤ℤ (num d.left -ℤ num d.right +ℤ d.more)

  narrow-true : (d : Ineq) (r : Rw) → Fine d → narrow_row fl d ≡ Some r → RowTrue r
  narrow-true d r g h =
      let w = only-inv (not (is_wide_ineq (term_number fl) d)) (row_of (term_number fl) d) r h in
      subst RowTrue w.1 (row-true M e fl.terms (args-closed Applies M keeps m formed e has) d g.left g.right g.holds)

  le-value : (t : Tm) → is_at_most t ≡ true → value M t e ≡ v_bool (int_le (num (arg_of t)) (num (rest_of t)))
  le-value (t_prim op.Le S ts at) h = ap₂ (λ a b. v_bool (int_le (int_of a) (int_of b))) (sym (first-value M ts e)) (sym (second-value M ts e))
  le-value t h = absurd (false≢true h)

  order-fine : (n : Mark) (x y : Tm) (k : ℕ) (d : Ineq) → Nb x → Nb y → int_le (num x) (num y) ≡ truth_of n → at_number (order_ineqs n x y) k ≡ Some d → Fine d
  order-fine mark.True x y k d i j h q = subst Fine (one-item (ineq y x (pos 0)) d k q) (record { left = j; right = i; holds = at-least (num x) (num y) (le-yes (num x) (num y) h) })
  order-fine mark.False x y k d i j h q = subst Fine (one-item (ineq x y minus_one) d k q) (record { left = i; right = j; holds = at-least-more (num y) (num x) (less-or-not (num x) (num y) h) })
  order-fine mark.Less x y k d i j h q = subst Fine (one-item (ineq x y minus_one) d k q) (record { left = i; right = j; holds = at-least-more (num y) (num x) (less-or-not (num x) (num y) h) })
  order-fine mark.Greater x y k d i j h q = subst Fine (one-item (ineq x y minus_one) d k q) (record { left = i; right = j; holds = at-least-more (num y) (num x) (less-or-not (num x) (num y) h) })

  same-fine : (x y : Tm) (k : ℕ) (d : Ineq) → Nb x → Nb y → value M x e ≡ value M y e → at_number (equation_ineqs mark.True x y) k ≡ Some d → Fine d
  same-fine x y k d i j h q = go (two-items (ineq y x (pos 0)) (ineq x y (pos 0)) d k q)
    where
      p : num x ≡ num y
      p = ap int_of h

      go : (ineq y x (pos 0) ≡ d) ⊎ (ineq x y (pos 0) ≡ d) → Fine d
      go (inl w) = subst Fine w (record { left = j; right = i; holds = subst (λ z. pos 0 ≤ℤ (z -ℤ num x +ℤ pos 0)) p (at-least (num x) (num x) (omega (arith, ints))) })
      go (inr w) = subst Fine w (record { left = i; right = j; holds = subst (λ z. pos 0 ≤ℤ (num x -ℤ z +ℤ pos 0)) p (at-least (num x) (num x) (omega (arith, ints))) })

  pub is-int-eq : (Ss : List Srt) (t : Tm) → is_int_equation Ss t ≡ true → is_equation t ≡ true
  is-int-eq Ss (t_prim op.Eq S (t_more t ts) at) h = refl
  is-int-eq Ss t h = absurd (false≢true h)

  equation-fine : (t : Tm) (n : Mark) (k : ℕ) (d : Ineq) → is_equation t ≡ true → Nb (arg_of t) → Nb (rest_of t) → MarkHolds M t n e → at_number (equation_ineqs n (arg_of t) (rest_of t)) k ≡ Some d → Fine d
  equation-fine t mark.True k d p i j h q = same-fine (arg_of t) (rest_of t) k d i j (eq-sides Applies M keeps m formed e has t p h) q
  equation-fine t mark.Less k d p i j h q = subst Fine (one-item (ineq (rest_of t) (arg_of t) minus_one) d k q) (record { left = j; right = i; holds = at-least-more (num (arg_of t)) (num (rest_of t)) h.1 })
  equation-fine t mark.Greater k d p i j h q = subst Fine (one-item (ineq (arg_of t) (rest_of t) minus_one) d k q) (record { left = i; right = j; holds = at-least-more (num (rest_of t)) (num (arg_of t)) h.1 })
  equation-fine t mark.False zero d p i j h q = cc
  equation-fine t mark.False (suc k) d p i j h q = cc

  pub mark-fine : (a : ℕ) (t : Tm) (n : Mark) (k : ℕ) (d : Ineq) → at_number fl.atoms a ≡ Some t → MarkHolds M t n e → at_number (mark_ineqs (sorts m) t n) k ≡ Some d → Fine d
  mark-fine a t n k d q h w = go (is_at_most t) refl w
    where
      nt : Nb t
      nt = atom-numbered Applies M keeps m formed e has a t q

      x-in : Nb (arg_of t)
      x-in = nth-numbered Applies M keeps m formed e has t 0 nt

      y-in : Nb (rest_of t)
      y-in = nth-numbered Applies M keeps m formed e has t 1 nt

      none : (k : ℕ) → at_number {A = Ineq} [] k ≡ Some d → Fine d
      none zero l = cc
      none (suc k) l = cc

      eq : (b : Bool) → is_int_equation (sorts m) t ≡ b → at_number (if b then equation_ineqs n (arg_of t) (rest_of t) else []) k ≡ Some d → Fine d
      eq true p l = equation-fine t n k d (is-int-eq (sorts m) t p) x-in y-in h l
      eq false p l = none k l

      bool-is : (a b : Bool) → v_bool a ≡ v_bool b → a ≡ b
      bool-is a b r = cc

      go : (b : Bool) → is_at_most t ≡ b → at_number (if b then order_ineqs n (arg_of t) (rest_of t) else (if is_int_equation (sorts m) t then equation_ineqs n (arg_of t) (rest_of t) else [])) k ≡ Some d → Fine d
      go true p l = order-fine n (arg_of t) (rest_of t) k d x-in y-in (bool-is _ _ (sym (le-value t p) ∙ mark-value Applies M keeps m formed e has t n h)) l
      go false p l = eq (is_int_equation (sorts m) t) refl l

  -- what a row line gives is solved
  pub row-line-true : (look : Marking) → Here Applies M keeps m formed e has look → (es : List Eqn) → AllEqn Applies M keeps m formed e has es → (rows : List Rw) → AllRow rows → (l : Line) (r : Rw) → row_by fl look es rows l ≡ Some r → RowTrue r
  row-line-true look here es h rows g (line.Atom a k) r q =
      let t = on-inv (at_number fl.atoms a) (λ t. on (look a) (λ n. on (at_number (mark_ineqs (var_sorts fl) t n) k) (narrow_row fl))) r q in
      let n = on-inv (look a) (λ n. on (at_number (mark_ineqs (var_sorts fl) t.0 n) k) (narrow_row fl)) r t.1.1 in
      let d = on-inv (at_number (mark_ineqs (var_sorts fl) t.0 n.0) k) (narrow_row fl) r n.1.1 in
      narrow-true d.0 r (mark-fine a t.0 n.0 k d.0 t.1.0 (here a t.0 n.0 t.1.0 n.1.0) d.1.0) d.1.1
  row-line-true look here es h rows g (line.Equal i k) r q =
      let c = on-inv (at_number es i) (λ c. on (only_if (is_int (sort_of (var_sorts fl) c.left)) (equation_ineqs mark.True c.left c.right)) (λ ds. on (at_number ds k) (narrow_row fl))) r q in
      let ds = on-inv (only_if (is_int (sort_of (var_sorts fl) c.0.left)) (equation_ineqs mark.True c.0.left c.0.right)) (λ ds. on (at_number ds k) (narrow_row fl)) r c.1.1 in
      let w = only-inv (is_int (sort_of (var_sorts fl) c.0.left)) (equation_ineqs mark.True c.0.left c.0.right) ds.0 ds.1.0 in
      let d = on-inv (at_number ds.0 k) (narrow_row fl) r ds.1.1 in
      let v = eqn-at Applies M keeps m formed e has es i c.0 h c.1.0 in
      narrow-true d.0 r (same-fine c.0.left c.0.right k d.0 v.left_numbered v.right_numbered v.same (subst (λ xs. at_number xs k ≡ Some d.0) (sym w.1) d.1.0)) d.1.1
  row-line-true look here es h rows g (line.Add p i q' j) r q =
      let a = on-inv (at_number rows i) (λ a. on (at_number rows j) (λ b. narrow_sum p a q' b)) r q in
      let b = on-inv (at_number rows j) (λ b. narrow_sum p a.0 q' b) r a.1.1 in
      let w = only-inv (int_le (pos 1) p && int_le (pos 1) q' && not (is_wide p a.0 q' b.0)) (combined p a.0 q' b.0) r b.1.1 in
      let v = both-true (int_le (pos 1) p && int_le (pos 1) q') (not (is_wide p a.0 q' b.0)) w.0 in
      let u = both-true (int_le (pos 1) p) (int_le (pos 1) q') v.0 in
      let x = number-value M e fl.terms (args-closed Applies M keeps m formed e has) in
      subst RowTrue w.1 (tight-solved x (summed p a.0 q' b.0) (summed-solved 1 x p a.0 q' b.0 (above p (le-yes (pos 1) p u.0)) (above q' (le-yes (pos 1) q' u.1)) (row-at rows i a.0 g a.1.0) (row-at rows j b.0 g b.1.0)))
    where
      above : (p : ℤ) → pos 1 ≤ℤ p → pos 0 ≤ℤ p
      above p h = omega (arith, ints, h)
  row-line-true look here es h rows g l r q = cc

  -- ---- verdicts

  pub differ-false : (t u : Tm) → differ t u ≡ true → value M t e ≡ value M u e → ⊥
  differ-false (t_bool a) (t_bool b) h k = let p : a ≡ b = cc in false≢true (sym (not-true (same_bool a b) h) ∙ (same_bool-decides a b).1 p)
  differ-false (t_prim o S ts at) (t_prim p T us bt) h k =
      let w = both-true (is_constructor o && is_constructor p) (not (same_op o p)) h in
      let v = both-true (is_constructor o) (is_constructor p) w.0 in
      let q = sym (con-value o S (values M ts e) v.0) ∙ ap con-of-value k ∙ con-value p T (values M us e) v.1 in
      let r : o ≡ p = cc in
      false≢true (sym (not-true (same_op o p) w.1) ∙ (same_op-decides o p).1 r)
  differ-false t u h k = false≢true h

  pub sides-eq : (t : Tm) → is_equation t ≡ true → value M (arg_of t) e ≡ value M (rest_of t) e → value M t e ≡ v_bool true
  sides-eq (t_prim op.Eq S ts at) h k = ap v_bool ((same-decides (first (values M ts e)) (second (values M ts e))).1 (sym (first-value M ts e) ∙ k ∙ second-value M ts e))
  sides-eq t h k = absurd (false≢true h)

  -- no verdict line holds
  pub no-verdict : (look : Marking) → Here Applies M keeps m formed e has look → (es : List Eqn) → AllEqn Applies M keeps m formed e has es → (rows : List Rw) → AllRow rows → (l : Line) → is_verdict fl look es rows l ≡ true → ⊥
  no-verdict look here es h rows g (line.Differ i) q =
      let d = holds-inv (at_number es i) (λ d. differ d.left d.right) q in
      differ-false d.0.left d.0.right d.1.1 (eqn-at Applies M keeps m formed e has es i d.0 h d.1.0).same
  no-verdict look here es h rows g (line.Unequal a i) q =
      let t = holds-inv (at_number fl.atoms a) (λ t. is_equation t && holds (look a) (λ n. not (truth_of n)) && holds (at_number es i) (is_eqn (arg_of t) (rest_of t))) q in
      let w = both-true (is_equation t.0 && holds (look a) (λ n. not (truth_of n))) (holds (at_number es i) (is_eqn (arg_of t.0) (rest_of t.0))) t.1.1 in
      let v = both-true (is_equation t.0) (holds (look a) (λ n. not (truth_of n))) w.0 in
      let n = holds-inv (look a) (λ n. not (truth_of n)) v.1 in
      let d = holds-inv (at_number es i) (is_eqn (arg_of t.0) (rest_of t.0)) w.1 in
      let yes = sides-eq t.0 v.0 (eqn-same Applies M keeps m formed e has (arg_of t.0) (rest_of t.0) d.0 (eqn-at Applies M keeps m formed e has es i d.0 h d.1.0) d.1.1) in
      let no = mark-value Applies M keeps m formed e has t.0 n.0 (here a t.0 n.0 t.1.0 n.1.0) in
      let b : truth_of n.0 ≡ true = (let z = sym no ∙ yes in cc) in
      false≢true (sym (not-true (truth_of n.0) n.1.1) ∙ b)
  no-verdict look here es h rows g (line.Below i) q =
      let r = holds-inv (at_number rows i) (λ r. is_constant r && int_lt r.constant (pos 0)) q in
      let w = both-true (is_constant r.0) (int_lt r.0.constant (pos 0)) r.1.1 in
      below-unsolved 1 (number-value M e fl.terms (args-closed Applies M keeps m formed e has)) r.0 (omega arith) (record { none = empty r.0 w.0; negative = record { lt = subst T (sym w.1) tt } }) (row-at rows i r.0 g r.1.0)
    where
      empty : (r : Rw) → is_constant r ≡ true → r.coefs ≡ []
      empty r h = go r.coefs refl h
        where
          go : (cs : List Cf) → r.coefs ≡ cs → (elim cs [ [] ↦ true | _ ∷ _ ↦ false ]) ≡ true → r.coefs ≡ []
          go [] p k = p
          go (c ∷ cs) p k = absurd (false≢true k)
  no-verdict look here es h rows g l q = false≢true q
