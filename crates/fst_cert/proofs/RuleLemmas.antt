-- The rules of certificates and the function that computes them say the same.
use Rattle.std.proofs.Common.{◌≡◌, ℕ, zero, suc, ◌+◌, pos, Bool, true, false, not, ◌&&◌, if◌then◌else◌, List, [], ◌∷◌, ◌++◌, length, Option, Some, None, refl, ap, subst, ◌∙◌, arith, int_le, int_lt, nat_eq}
use Rattle.std.specs.Prelude.{is_none, option_map}
use Rattle.fst_base.specs.Sorts.{s_unit, same_sort}
use Rattle.fst_base.specs.Values.{same_bool}
use Rattle.fst_terms.specs.Terms.{Tm, t_bool, t_unit, listed}
use Rattle.fst_terms.specs.Formulas.{sort_of}
use Rattle.fst_terms.specs.Same.{same_term, is_among}
use Rattle.fst_terms.specs.Flats.{Flt, truth_of}
use Rattle.fst_terms.specs.declared.flat.Mark.{Mark}
use Rattle.fst_terms.specs.declared.flat.Mark.TheVariants as mark
use Rattle.fst_terms.specs.Skeletons.{args_of, arg_of, rest_of}
use Rattle.fst_terms.specs.DataFacts.{is_int}
use Rattle.fst_terms.specs.Rows.{Rw, combined, is_wide}
use Rattle.fst_terms.specs.Linear.{row_of, is_wide_ineq, is_constant}
use Rattle.fst_terms.specs.Marks.{Marking, at_number, term_number, var_sorts, is_equation, is_at_most, is_int_equation, reads, equation_ineqs, mark_ineqs}
use Rattle.fst_terms.specs.Branches.{same_constructor, differ, pair_at}
use Rattle.fst_cert.specs.declared.line.Line.{Line}
use Rattle.fst_cert.specs.declared.line.Line.TheVariants as line
use Rattle.fst_cert.specs.Proving.{Mk, Eqn, eqn, is_eqn, Owed, owed_all, owed_shares, owed_marks, owed_branch, owed_close, owe_shares, owe_marks, marked, marking_of, on, only_if, holds, equation_of_mark, are_reasons, one_head, equation_by, narrow_row, narrow_sum, row_by, is_verdict, has_marks, may_mark, is_value, is_false_mark, in_branch, after_line, first_bad}
use Rattle.fst_cert.specs.Rules.{At, GivesEquation, by_true, by_mark, by_flip, by_chain, by_same, by_part, by_eta, by_unit, GivesRow, by_atom, by_equal, by_add, IsVerdict, by_differ, by_unequal, by_below, InBranch, by_split, by_order, by_hyp, by_done, by_close, by_use, After, after_shared, after_first, after_share, after_marked, after_branch, after_equation, after_row, after_verdict, Discharges, no_more, one_more, FailsAt, superfluous, missing, refused, later, RulesLaw}

-- ---- values that may be missing

on-inv : {A B : Type 0} (o : Option A) (g : A → Option B) (y : B) → on o g ≡ Some y → (x : A) × ((o ≡ Some x) × (g x ≡ Some y))
on-inv None g y e = cc
on-inv (Some x) g y e = (x, (refl, e))

only-inv : {A : Type 0} (b : Bool) (x y : A) → only_if b x ≡ Some y → (b ≡ true) × (x ≡ y)
only-inv true x y e = (refl, cc)
only-inv false x y e = cc

holds-inv : {A : Type 0} (o : Option A) (test : A → Bool) → holds o test ≡ true → (x : A) × ((o ≡ Some x) × (test x ≡ true))
holds-inv None test e = cc
holds-inv (Some x) test e = (x, (refl, e))

and-inv : (a b : Bool) → (a && b) ≡ true → (a ≡ true) × (b ≡ true)
and-inv true b e = (refl, e)
and-inv false b e = cc

not-inv : (b : Bool) → not b ≡ true → b ≡ false
not-inv true e = cc
not-inv false e = refl

none-inv : {A : Type 0} (o : Option A) → is_none o ≡ true → o ≡ None
none-inv None e = refl
none-inv (Some x) e = cc

map-inv : {A B : Type 0} (o : Option A) (g : A → B) (y : B) → on o (λ x. Some (g x)) ≡ Some y → (x : A) × ((o ≡ Some x) × (g x ≡ y))
map-inv None g y e = cc
map-inv (Some x) g y e = (x, (refl, cc))

on-is : {A B : Type 0} (o : Option A) (x : A) (g : A → Option B) → o ≡ Some x → on o g ≡ g x
on-is o x g e = ap (λ o. on o g) e

holds-is : {A : Type 0} (o : Option A) (x : A) (test : A → Bool) → o ≡ Some x → holds o test ≡ test x
holds-is o x test e = ap (λ o. holds o test) e

only-is : {A : Type 0} (b : Bool) (x : A) → b ≡ true → only_if b x ≡ Some x
only-is b x e = ap (λ b. only_if b x) e

and-is : (a b : Bool) → a ≡ true → b ≡ true → (a && b) ≡ true
and-is a b e f = ap (λ a. a && b) e ∙ f

not-is : (b : Bool) → b ≡ false → not b ≡ true
not-is b e = ap not e

-- ---- equation lines

module _ (f : Flt) (look : Marking) (es : List Eqn) where
  abbrev Gives : Line → Eqn → Type 0
  Gives = GivesEquation f look es

  given-by : (a : ℕ) (t : Tm) (m : Mark) (e : Eqn) → At f.atoms a t → look a ≡ Some m → (b : Bool) → is_equation t ≡ b
      → (if b then only_if (truth_of m) (eqn (arg_of t) (rest_of t)) else only_if (not (is_at_most t)) (eqn t (t_bool (truth_of m)))) ≡ Some e → Gives (line.Given a) e
  given-by a t m e p q true r h =
      let i = only-inv (truth_of m) (eqn (arg_of t) (rest_of t)) e h in
      subst (Gives (line.Given a)) i.1 (by_true a t m p q r i.0)
  given-by a t m e p q false r h =
      let i = only-inv (not (is_at_most t)) (eqn t (t_bool (truth_of m))) e h in
      subst (Gives (line.Given a)) i.1 (by_mark a t m p q r (not-inv (is_at_most t) i.0))

  equation-sound : (l : Line) (e : Eqn) → equation_by f look es l ≡ Some e → Gives l e
  equation-sound (line.Given a) e h =
      let i = on-inv (at_number f.atoms a) (λ t. on (look a) (equation_of_mark t)) e h in
      let j = on-inv (look a) (equation_of_mark i.0) e i.1.1 in
      given-by a i.0 j.0 e i.1.0 j.1.0 (is_equation i.0) refl j.1.1
  equation-sound (line.Flip n) e h = flip-sound (at_number es n) refl h
    where
      flip-sound : (o : Option Eqn) → at_number es n ≡ o → option_map (λ e. eqn e.right e.left) o ≡ Some e → GivesEquation f look es (line.Flip n) e
      flip-sound None p h = cc
      flip-sound (Some d) p h = let q : eqn d.right d.left ≡ e = cc in subst (GivesEquation f look es (line.Flip n)) q (by_flip n d p)
  equation-sound (line.Chain m n) e h =
      let i = on-inv (at_number es m) (λ d. on (at_number es n) (λ e. only_if (same_term d.right e.left) (eqn d.left e.right))) e h in
      let j = on-inv (at_number es n) (λ e. only_if (same_term (i.0).right e.left) (eqn (i.0).left e.right)) e i.1.1 in
      let k = only-inv (same_term (i.0).right (j.0).left) (eqn (i.0).left (j.0).right) e j.1.1 in
      subst (Gives (line.Chain m n)) k.1 (by_chain m n i.0 j.0 i.1.0 j.1.0 k.0)
  equation-sound (line.Same t u ns) e h =
      let i = on-inv (at_number f.terms t) (λ x. on (at_number f.terms u) (λ y. only_if (one_head x y && are_reasons es ns (args_of x) (args_of y)) (eqn x y))) e h in
      let j = on-inv (at_number f.terms u) (λ y. only_if (one_head i.0 y && are_reasons es ns (args_of i.0) (args_of y)) (eqn i.0 y)) e i.1.1 in
      let k = only-inv (one_head i.0 j.0 && are_reasons es ns (args_of i.0) (args_of j.0)) (eqn i.0 j.0) e j.1.1 in
      let b = and-inv (one_head i.0 j.0) (are_reasons es ns (args_of i.0) (args_of j.0)) k.0 in
      subst (Gives (line.Same t u ns)) k.1 (by_same t u ns i.0 j.0 i.1.0 j.1.0 b.0 b.1)
  equation-sound (line.Part n k) e h =
      let i = on-inv (at_number es n) (λ e. on (at_number (listed (args_of e.left)) k) (λ x. on (at_number (listed (args_of e.right)) k) (λ y. only_if (same_constructor e.left e.right) (eqn x y)))) e h in
      let j = on-inv (at_number (listed (args_of (i.0).left)) k) (λ x. on (at_number (listed (args_of (i.0).right)) k) (λ y. only_if (same_constructor (i.0).left (i.0).right) (eqn x y))) e i.1.1 in
      let m = on-inv (at_number (listed (args_of (i.0).right)) k) (λ y. only_if (same_constructor (i.0).left (i.0).right) (eqn j.0 y)) e j.1.1 in
      let o = only-inv (same_constructor (i.0).left (i.0).right) (eqn j.0 m.0) e m.1.1 in
      subst (Gives (line.Part n k)) o.1 (by_part n k i.0 j.0 m.0 i.1.0 j.1.0 m.1.0 o.0)
  equation-sound (line.Eta t) e h =
      let i = on-inv (at_number f.terms t) (λ x. on (pair_at (sort_of (var_sorts f) x) x) (λ p. only_if (is_among p f.terms) (eqn x p))) e h in
      let j = on-inv (pair_at (sort_of (var_sorts f) i.0) i.0) (λ p. only_if (is_among p f.terms) (eqn i.0 p)) e i.1.1 in
      let k = only-inv (is_among j.0 f.terms) (eqn i.0 j.0) e j.1.1 in
      subst (Gives (line.Eta t)) k.1 (by_eta t i.0 j.0 i.1.0 j.1.0 k.0)
  equation-sound (line.Unit t) e h =
      let i = on-inv (at_number f.terms t) (λ x. only_if (same_sort (sort_of (var_sorts f) x) s_unit) (eqn x t_unit)) e h in
      let k = only-inv (same_sort (sort_of (var_sorts f) i.0) s_unit) (eqn i.0 t_unit) e i.1.1 in
      subst (Gives (line.Unit t)) k.1 (by_unit t i.0 i.1.0 k.0)
  equation-sound l e h = cc

  equation-complete : (l : Line) (e : Eqn) → Gives l e → equation_by f look es l ≡ Some e
  equation-complete l e (by_true a t m p q r s) =
      on-is (at_number f.atoms a) t (λ t. on (look a) (equation_of_mark t)) p ∙ on-is (look a) m (equation_of_mark t) q
      ∙ ap (λ b. if b then only_if (truth_of m) (eqn (arg_of t) (rest_of t)) else only_if (not (is_at_most t)) (eqn t (t_bool (truth_of m)))) r ∙ only-is (truth_of m) (eqn (arg_of t) (rest_of t)) s
  equation-complete l e (by_mark a t m p q r s) =
      on-is (at_number f.atoms a) t (λ t. on (look a) (equation_of_mark t)) p ∙ on-is (look a) m (equation_of_mark t) q
      ∙ ap (λ b. if b then only_if (truth_of m) (eqn (arg_of t) (rest_of t)) else only_if (not (is_at_most t)) (eqn t (t_bool (truth_of m)))) r
      ∙ only-is (not (is_at_most t)) (eqn t (t_bool (truth_of m))) (not-is (is_at_most t) s)
  equation-complete l e (by_flip i d p) = ap (option_map (λ e. eqn e.right e.left)) p
  equation-complete l e (by_chain i j d g p q r) =
      on-is (at_number es i) d (λ d. on (at_number es j) (λ e. only_if (same_term d.right e.left) (eqn d.left e.right))) p
      ∙ on-is (at_number es j) g (λ e. only_if (same_term d.right e.left) (eqn d.left e.right)) q ∙ only-is (same_term d.right g.left) (eqn d.left g.right) r
  equation-complete l e (by_same t u ns x y p q r s) =
      on-is (at_number f.terms t) x (λ x. on (at_number f.terms u) (λ y. only_if (one_head x y && are_reasons es ns (args_of x) (args_of y)) (eqn x y))) p
      ∙ on-is (at_number f.terms u) y (λ y. only_if (one_head x y && are_reasons es ns (args_of x) (args_of y)) (eqn x y)) q
      ∙ only-is (one_head x y && are_reasons es ns (args_of x) (args_of y)) (eqn x y) (and-is (one_head x y) (are_reasons es ns (args_of x) (args_of y)) r s)
  equation-complete l e (by_part i k d x y p q r s) =
      on-is (at_number es i) d (λ e. on (at_number (listed (args_of e.left)) k) (λ x. on (at_number (listed (args_of e.right)) k) (λ y. only_if (same_constructor e.left e.right) (eqn x y)))) p
      ∙ on-is (at_number (listed (args_of d.left)) k) x (λ x. on (at_number (listed (args_of d.right)) k) (λ y. only_if (same_constructor d.left d.right) (eqn x y))) q
      ∙ on-is (at_number (listed (args_of d.right)) k) y (λ y. only_if (same_constructor d.left d.right) (eqn x y)) r ∙ only-is (same_constructor d.left d.right) (eqn x y) s
  equation-complete l e (by_eta t x p q r s) =
      on-is (at_number f.terms t) x (λ x. on (pair_at (sort_of (var_sorts f) x) x) (λ p. only_if (is_among p f.terms) (eqn x p))) q
      ∙ on-is (pair_at (sort_of (var_sorts f) x) x) p (λ p. only_if (is_among p f.terms) (eqn x p)) r ∙ only-is (is_among p f.terms) (eqn x p) s
  equation-complete l e (by_unit t x p q) =
      on-is (at_number f.terms t) x (λ x. only_if (same_sort (sort_of (var_sorts f) x) s_unit) (eqn x t_unit)) p ∙ only-is (same_sort (sort_of (var_sorts f) x) s_unit) (eqn x t_unit) q

-- ---- row lines

module _ (f : Flt) (look : Marking) (es : List Eqn) (rows : List Rw) where
  abbrev GivesR : Line → Rw → Type 0
  GivesR = GivesRow f look es rows

  row-sound : (l : Line) (r : Rw) → row_by f look es rows l ≡ Some r → GivesR l r
  row-sound (line.Atom a k) r h =
      let i = on-inv (at_number f.atoms a) (λ t. on (look a) (λ m. on (at_number (mark_ineqs (var_sorts f) t m) k) (narrow_row f))) r h in
      let j = on-inv (look a) (λ m. on (at_number (mark_ineqs (var_sorts f) i.0 m) k) (narrow_row f)) r i.1.1 in
      let d = on-inv (at_number (mark_ineqs (var_sorts f) i.0 j.0) k) (narrow_row f) r j.1.1 in
      let n = only-inv (not (is_wide_ineq (term_number f) d.0)) (row_of (term_number f) d.0) r d.1.1 in
      subst (GivesR (line.Atom a k)) n.1 (by_atom a k i.0 j.0 d.0 i.1.0 j.1.0 d.1.0 (not-inv (is_wide_ineq (term_number f) d.0) n.0))
  row-sound (line.Equal m k) r h =
      let i = on-inv (at_number es m) (λ e. on (only_if (is_int (sort_of (var_sorts f) e.left)) (equation_ineqs mark.True e.left e.right)) (λ ds. on (at_number ds k) (narrow_row f))) r h in
      let j = on-inv (only_if (is_int (sort_of (var_sorts f) (i.0).left)) (equation_ineqs mark.True (i.0).left (i.0).right)) (λ ds. on (at_number ds k) (narrow_row f)) r i.1.1 in
      let o = only-inv (is_int (sort_of (var_sorts f) (i.0).left)) (equation_ineqs mark.True (i.0).left (i.0).right) j.0 j.1.0 in
      let d = on-inv (at_number j.0 k) (narrow_row f) r j.1.1 in
      let n = only-inv (not (is_wide_ineq (term_number f) d.0)) (row_of (term_number f) d.0) r d.1.1 in
      subst (GivesR (line.Equal m k)) n.1 (by_equal m k i.0 d.0 i.1.0 o.0 (ap (λ ds. at_number ds k) o.1 ∙ d.1.0) (not-inv (is_wide_ineq (term_number f) d.0) n.0))
  row-sound (line.Add p m q n) r h =
      let i = on-inv (at_number rows m) (λ a. on (at_number rows n) (λ b. narrow_sum p a q b)) r h in
      let j = on-inv (at_number rows n) (λ b. narrow_sum p i.0 q b) r i.1.1 in
      let o = only-inv (int_le (pos 1) p && int_le (pos 1) q && not (is_wide p i.0 q j.0)) (combined p i.0 q j.0) r j.1.1 in
      let b = and-inv (int_le (pos 1) p && int_le (pos 1) q) (not (is_wide p i.0 q j.0)) o.0 in
      let c = and-inv (int_le (pos 1) p) (int_le (pos 1) q) b.0 in
      subst (GivesR (line.Add p m q n)) o.1 (by_add p q m n i.0 j.0 i.1.0 j.1.0 c.0 c.1 (not-inv (is_wide p i.0 q j.0) b.1))
  row-sound l r h = cc

  row-complete : (l : Line) (r : Rw) → GivesR l r → row_by f look es rows l ≡ Some r
  row-complete l r (by_atom a k t m d p q s w) =
      on-is (at_number f.atoms a) t (λ t. on (look a) (λ m. on (at_number (mark_ineqs (var_sorts f) t m) k) (narrow_row f))) p
      ∙ on-is (look a) m (λ m. on (at_number (mark_ineqs (var_sorts f) t m) k) (narrow_row f)) q ∙ on-is (at_number (mark_ineqs (var_sorts f) t m) k) d (narrow_row f) s
      ∙ only-is (not (is_wide_ineq (term_number f) d)) (row_of (term_number f) d) (not-is (is_wide_ineq (term_number f) d) w)
  row-complete l r (by_equal i k e d p s q w) =
      on-is (at_number es i) e (λ e. on (only_if (is_int (sort_of (var_sorts f) e.left)) (equation_ineqs mark.True e.left e.right)) (λ ds. on (at_number ds k) (narrow_row f))) p
      ∙ on-is (only_if (is_int (sort_of (var_sorts f) e.left)) (equation_ineqs mark.True e.left e.right)) (equation_ineqs mark.True e.left e.right) (λ ds. on (at_number ds k) (narrow_row f))
      (only-is (is_int (sort_of (var_sorts f) e.left)) (equation_ineqs mark.True e.left e.right) s)
      ∙ on-is (at_number (equation_ineqs mark.True e.left e.right) k) d (narrow_row f) q
      ∙ only-is (not (is_wide_ineq (term_number f) d)) (row_of (term_number f) d) (not-is (is_wide_ineq (term_number f) d) w)
  row-complete l r (by_add p q i j a b u v s t w) =
      on-is (at_number rows i) a (λ a. on (at_number rows j) (λ b. narrow_sum p a q b)) u ∙ on-is (at_number rows j) b (λ b. narrow_sum p a q b) v
      ∙ only-is (int_le (pos 1) p && int_le (pos 1) q && not (is_wide p a q b)) (combined p a q b)
      (and-is (int_le (pos 1) p && int_le (pos 1) q) (not (is_wide p a q b)) (and-is (int_le (pos 1) p) (int_le (pos 1) q) s t) (not-is (is_wide p a q b) w))

  verdict-sound : (l : Line) → is_verdict f look es rows l ≡ true → IsVerdict f look es rows l
  verdict-sound (line.Differ n) h =
      let i = holds-inv (at_number es n) (λ e. differ e.left e.right) h in
      by_differ n i.0 i.1.0 i.1.1
  verdict-sound (line.Unequal a n) h =
      let i = holds-inv (at_number f.atoms a) (λ t. is_equation t && holds (look a) (λ m. not (truth_of m)) && holds (at_number es n) (is_eqn (arg_of t) (rest_of t))) h in
      let b = and-inv (is_equation i.0 && holds (look a) (λ m. not (truth_of m))) (holds (at_number es n) (is_eqn (arg_of i.0) (rest_of i.0))) i.1.1 in
      let c = and-inv (is_equation i.0) (holds (look a) (λ m. not (truth_of m))) b.0 in
      let m = holds-inv (look a) (λ m. not (truth_of m)) c.1 in
      let e = holds-inv (at_number es n) (is_eqn (arg_of i.0) (rest_of i.0)) b.1 in
      by_unequal a n i.0 m.0 e.0 i.1.0 c.0 m.1.0 (not-inv (truth_of m.0) m.1.1) e.1.0 e.1.1
  verdict-sound (line.Below n) h =
      let i = holds-inv (at_number rows n) (λ r. is_constant r && int_lt r.constant (pos 0)) h in
      let b = and-inv (is_constant i.0) (int_lt (i.0).constant (pos 0)) i.1.1 in
      by_below n i.0 i.1.0 b.0 b.1
  verdict-sound l h = cc

  verdict-complete : (l : Line) → IsVerdict f look es rows l → is_verdict f look es rows l ≡ true
  verdict-complete l (by_differ i e p q) = holds-is (at_number es i) e (λ e. differ e.left e.right) p ∙ q
  verdict-complete l (by_unequal a i t m e p q r s u v) =
      holds-is (at_number f.atoms a) t (λ t. is_equation t && holds (look a) (λ m. not (truth_of m)) && holds (at_number es i) (is_eqn (arg_of t) (rest_of t))) p
      ∙ and-is (is_equation t && holds (look a) (λ m. not (truth_of m))) (holds (at_number es i) (is_eqn (arg_of t) (rest_of t)))
      (and-is (is_equation t) (holds (look a) (λ m. not (truth_of m))) q (holds-is (look a) m (λ m. not (truth_of m)) r ∙ not-is (truth_of m) s))
      (holds-is (at_number es i) e (is_eqn (arg_of t) (rest_of t)) u ∙ v)
  verdict-complete l (by_below i r p q s) =
      holds-is (at_number rows i) r (λ r. is_constant r && int_lt r.constant (pos 0)) p ∙ and-is (is_constant r) (int_lt r.constant (pos 0)) q s

-- ---- lines of a branch

module _ (f : Flt) (ended : List (List Mk)) (ms : List Mk) where
  abbrev Branch : Line → List Owed → Type 0
  Branch = InBranch f ended ms

  branch-sound : (l : Line) (os : List Owed) → in_branch f ended ms l ≡ Some os → Branch l os
  branch-sound (line.Split a) os h =
      let i = only-inv (holds (at_number f.atoms a) (λ t. is_none (marking_of ms a))) (owed_branch ended (marked a mark.True ms) ∷ owed_branch ended (marked a mark.False ms) ∷ []) os h in
      let t = holds-inv (at_number f.atoms a) (λ t. is_none (marking_of ms a)) i.0 in
      subst (Branch (line.Split a)) i.1 (by_split a t.0 t.1.0 (none-inv (marking_of ms a) t.1.1))
  branch-sound (line.Order a) os h =
      let test = λ (t : Tm). is_int_equation (var_sorts f) t && holds (marking_of ms a) is_false_mark in
      let i = only-inv (holds (at_number f.atoms a) test) (owed_branch ended (marked a mark.Less ms) ∷ owed_branch ended (marked a mark.Greater ms) ∷ []) os h in
      let t = holds-inv (at_number f.atoms a) test i.0 in
      let b = and-inv (is_int_equation (var_sorts f) t.0) (holds (marking_of ms a) is_false_mark) t.1.1 in
      let m = holds-inv (marking_of ms a) is_false_mark b.1 in
      subst (Branch (line.Order a)) i.1 (by_order a t.0 m.0 t.1.0 b.0 m.1.0 m.1.1)
  branch-sound (line.Hyp k) os h =
      let i = only-inv (holds (at_number f.formulas k) (λ phi. is_value false (reads f (marking_of ms) phi))) [] os h in
      let t = holds-inv (at_number f.formulas k) (λ phi. is_value false (reads f (marking_of ms) phi)) i.0 in
      let v = holds-inv (reads f (marking_of ms) t.0) (same_bool false) t.1.1 in
      subst (Branch (line.Hyp k)) i.1 (by_hyp k t.0 v.0 t.1.0 v.1.0 v.1.1)
  branch-sound line.Done os h =
      let i = only-inv (is_value true (reads f (marking_of ms) f.goal)) [] os h in
      let v = holds-inv (reads f (marking_of ms) f.goal) (same_bool true) i.0 in
      subst (Branch line.Done) i.1 (by_done v.0 v.1.0 v.1.1)
  branch-sound (line.Close e r) os h =
      let q : owed_close ms e r [] [] ∷ [] ≡ os = cc in
      subst (Branch (line.Close e r)) q (by_close e r)
  branch-sound (line.Use k) os h =
      let i = only-inv (holds (at_number ended k) (has_marks (marking_of ms))) [] os h in
      let ns = holds-inv (at_number ended k) (has_marks (marking_of ms)) i.0 in
      subst (Branch (line.Use k)) i.1 (by_use k ns.0 ns.1.0 ns.1.1)
  branch-sound l os h = cc

  branch-complete : (l : Line) (os : List Owed) → Branch l os → in_branch f ended ms l ≡ Some os
  branch-complete l os (by_split a t p q) =
      only-is (holds (at_number f.atoms a) (λ t. is_none (marking_of ms a))) (owed_branch ended (marked a mark.True ms) ∷ owed_branch ended (marked a mark.False ms) ∷ [])
      (holds-is (at_number f.atoms a) t (λ t. is_none (marking_of ms a)) p ∙ ap is_none q)
  branch-complete l os (by_order a t m p q r s) =
      let test = λ (t : Tm). is_int_equation (var_sorts f) t && holds (marking_of ms a) is_false_mark in
      only-is (holds (at_number f.atoms a) test) (owed_branch ended (marked a mark.Less ms) ∷ owed_branch ended (marked a mark.Greater ms) ∷ [])
      (holds-is (at_number f.atoms a) t test p ∙ and-is (is_int_equation (var_sorts f) t) (holds (marking_of ms a) is_false_mark) q (holds-is (marking_of ms a) m is_false_mark r ∙ s))
  branch-complete l os (by_hyp k phi b p q r) =
      only-is (holds (at_number f.formulas k) (λ phi. is_value false (reads f (marking_of ms) phi))) []
      (holds-is (at_number f.formulas k) phi (λ phi. is_value false (reads f (marking_of ms) phi)) p ∙ holds-is (reads f (marking_of ms) phi) b (same_bool false) q ∙ r)
  branch-complete l os (by_done b p q) = only-is (is_value true (reads f (marking_of ms) f.goal)) [] (holds-is (reads f (marking_of ms) f.goal) b (same_bool true) p ∙ q)
  branch-complete l os (by_close e r) = refl
  branch-complete l os (by_use i ns p q) = only-is (holds (at_number ended i) (has_marks (marking_of ms))) [] (holds-is (at_number ended i) ns (has_marks (marking_of ms)) p ∙ q)

-- ---- what is owed after a line

omap-inv : {A B : Type 0} (o : Option A) (g : A → B) (y : B) → option_map g o ≡ Some y → (x : A) × ((o ≡ Some x) × (g x ≡ y))
omap-inv None g y e = cc
omap-inv (Some x) g y e = (x, (refl, cc))

module _ (f : Flt) where
  -- a share's rules are none of a branch's
  first-is : (l : Line) (os : List Owed) → InBranch f [] [] l os → after_line f owed_all l ≡ in_branch f [] [] l
  first-is l os (by_split a t p q) = refl
  first-is l os (by_order a t m p q r s) = refl
  first-is l os (by_hyp k phi b p q r) = refl
  first-is l os (by_done b p q) = refl
  first-is l os (by_close e r) = refl
  first-is l os (by_use i ns p q) = refl

  after-sound : (o : Owed) (l : Line) (os : List Owed) → after_line f o l ≡ Some os → After f o l os
  after-sound owed_all (line.Shared n) os h =
      let q : owe_shares n [] ≡ os = cc in
      subst (After f owed_all (line.Shared n)) q (after_shared n)
  after-sound owed_all l os h = after_first l os (branch-sound f [] [] l os h)
  after-sound (owed_shares n ended) (line.Share i m) os h =
      let j = only-inv (nat_eq i (length ended + 1)) (owe_marks m n ended []) os h in
      subst (After f (owed_shares n ended) (line.Share i m)) j.1 (after_share n i m ended j.0)
  after-sound (owed_shares n ended) l os h = cc
  after-sound (owed_marks k n ended ms) (line.Marked a m) os h =
      let test = λ (t : Tm). is_none (marking_of ms a) && may_mark (var_sorts f) t m in
      let j = only-inv (holds (at_number f.atoms a) test) (owe_marks k n ended (marked a m ms)) os h in
      let t = holds-inv (at_number f.atoms a) test j.0 in
      let b = and-inv (is_none (marking_of ms a)) (may_mark (var_sorts f) t.0 m) t.1.1 in
      subst (After f (owed_marks k n ended ms) (line.Marked a m)) j.1 (after_marked k n a m ended ms t.0 t.1.0 (none-inv (marking_of ms a) b.0) b.1)
  after-sound (owed_marks k n ended ms) l os h = cc
  after-sound (owed_branch ended ms) l os h = after_branch ended ms l os (branch-sound f ended ms l os h)
  after-sound (owed_close ms (suc e) r es rows) l os h =
      let i = omap-inv (equation_by f (marking_of ms) es l) (λ d. owed_close ms e r (es ++ d ∷ []) rows ∷ []) os h in
      subst (After f (owed_close ms (suc e) r es rows) l) i.1.1 (after_equation ms e r es rows l i.0 (equation-sound f (marking_of ms) es l i.0 i.1.0))
  after-sound (owed_close ms zero (suc r) es rows) l os h =
      let i = omap-inv (row_by f (marking_of ms) es rows l) (λ a. owed_close ms zero r es (rows ++ a ∷ []) ∷ []) os h in
      subst (After f (owed_close ms zero (suc r) es rows) l) i.1.1 (after_row ms r es rows l i.0 (row-sound f (marking_of ms) es rows l i.0 i.1.0))
  after-sound (owed_close ms zero zero es rows) l os h =
      let i = only-inv (is_verdict f (marking_of ms) es rows l) [] os h in
      subst (After f (owed_close ms zero zero es rows) l) i.1 (after_verdict ms es rows l (verdict-sound f (marking_of ms) es rows l i.0))

  after-complete : (o : Owed) (l : Line) (os : List Owed) → After f o l os → after_line f o l ≡ Some os
  after-complete o l os (after_shared n) = refl
  after-complete o l os (after_first k ps b) = first-is k ps b ∙ branch-complete f [] [] k ps b
  after-complete o l os (after_share n i m ended p) = only-is (nat_eq i (length ended + 1)) (owe_marks m n ended []) p
  after-complete o l os (after_marked k n a m ended ms t p q r) =
      let test = λ (t : Tm). is_none (marking_of ms a) && may_mark (var_sorts f) t m in
      only-is (holds (at_number f.atoms a) test) (owe_marks k n ended (marked a m ms))
      (holds-is (at_number f.atoms a) t test p ∙ and-is (is_none (marking_of ms a)) (may_mark (var_sorts f) t m) (ap is_none q) r)
  after-complete o l os (after_branch ended ms k ps b) = branch-complete f ended ms k ps b
  after-complete o l os (after_equation ms e r es rows k d g) = ap (option_map (λ d. owed_close ms e r (es ++ d ∷ []) rows ∷ [])) (equation-complete f (marking_of ms) es k d g)
  after-complete o l os (after_row ms r es rows k a g) = ap (option_map (λ a. owed_close ms zero r es (rows ++ a ∷ []) ∷ [])) (row-complete f (marking_of ms) es rows k a g)
  after-complete o l os (after_verdict ms es rows k v) = only-is (is_verdict f (marking_of ms) es rows k) [] (verdict-complete f (marking_of ms) es rows k v)

  -- ---- whole proofs

  -- what comes after a line that gives this
  abbrev next_bad : (os : List Owed) (ls : List Line) (at : ℕ) → Option (List Owed) → Option ℕ
  next_bad os ls at r = elim r [ None ↦ Some at | Some more ↦ first_bad f (more ++ os) ls (suc at) ]

  discharge-by : (o : Owed) (os : List Owed) (l : Line) (ls : List Line) (at : ℕ) (r : Option (List Owed)) → after_line f o l ≡ r → ((more : List Owed) → first_bad f (more ++ os) ls (suc at) ≡ None → Discharges f (more ++ os) ls)
      → next_bad os ls at r ≡ None → Discharges f (o ∷ os) (l ∷ ls)
  discharge-by o os l ls at None p ih h = cc
  discharge-by o os l ls at (Some more) p ih h = one_more o os more l ls (after-sound o l more p) (ih more h)

  discharge-sound : (os : List Owed) (ls : List Line) (at : ℕ) → first_bad f os ls at ≡ None → Discharges f os ls
  discharge-sound [] [] at h = no_more
  discharge-sound [] (l ∷ ls) at h = cc
  discharge-sound (o ∷ os) [] at h = cc
  discharge-sound (o ∷ os) (l ∷ ls) at h = discharge-by o os l ls at (after_line f o l) refl (λ more k. discharge-sound (more ++ os) ls (suc at) k) h

  discharge-complete : (os : List Owed) (ls : List Line) → Discharges f os ls → (at : ℕ) → first_bad f os ls at ≡ None
  discharge-complete os ls no_more at = refl
  discharge-complete os ls (one_more o ps more l ks p d) at = ap (next_bad ps ks at) (after-complete o l more p) ∙ discharge-complete (more ++ ps) ks d (suc at)

  -- the line that is refused, counted from the first
  fails-by : (o : Owed) (os : List Owed) (l : Line) (ls : List Line) (at k : ℕ) (r : Option (List Owed)) → after_line f o l ≡ r
      → ((more : List Owed) → first_bad f (more ++ os) ls (suc at) ≡ Some k → (n : ℕ) × ((k ≡ suc at + n) × FailsAt f (more ++ os) ls n))
      → next_bad os ls at r ≡ Some k → (n : ℕ) × ((k ≡ at + n) × FailsAt f (o ∷ os) (l ∷ ls) n)
  fails-by o os l ls at k None p ih h =
      let q : k ≡ at = cc in
      (zero, (omega (arith, q), refused o os l ls (λ more a. let e : after_line f o l ≡ Some more = after-complete o l more a in cc)))
  fails-by o os l ls at k (Some more) p ih h =
      let i = ih more h in
      let q : k ≡ at + suc i.0 = omega (arith, i.1.0) in
      (suc i.0, (q, later o os more l ls i.0 (after-sound o l more p) i.1.1))

  fails-sound : (os : List Owed) (ls : List Line) (at k : ℕ) → first_bad f os ls at ≡ Some k → (n : ℕ) × ((k ≡ at + n) × FailsAt f os ls n)
  fails-sound [] [] at k h = cc
  fails-sound [] (l ∷ ls) at k h = let q : k ≡ at = cc in (zero, (omega (arith, q), superfluous l ls))
  fails-sound (o ∷ os) [] at k h = let q : k ≡ at = cc in (zero, (omega (arith, q), missing o os))
  fails-sound (o ∷ os) (l ∷ ls) at k h = fails-by o os l ls at k (after_line f o l) refl (λ more g. fails-sound (more ++ os) ls (suc at) k g) h

  refused-none : (o : Owed) (l : Line) (r : Option (List Owed)) → after_line f o l ≡ r → ((more : List Owed) → After f o l more → ⊥) → r ≡ None
  refused-none o l None p never = refl
  refused-none o l (Some more) p never = absurd (never more (after-sound o l more p))

  fails-complete : (os : List Owed) (ls : List Line) (n : ℕ) → FailsAt f os ls n → (at : ℕ) → first_bad f os ls at ≡ Some (at + n)
  fails-complete os ls n (superfluous l ks) at = let q : at ≡ at + zero = omega arith in ap Some q
  fails-complete os ls n (missing o ps) at = let q : at ≡ at + zero = omega arith in ap Some q
  fails-complete os ls n (refused o ps l ks never) at =
      let q : at ≡ at + zero = omega arith in
      ap (next_bad ps ks at) (refused-none o l (after_line f o l) refl never) ∙ ap Some q
  fails-complete os ls n (later o ps more l ks m p d) at =
      let q : suc at + m ≡ at + suc m = omega arith in
      ap (next_bad ps ks at) (after-complete o l more p) ∙ fails-complete (more ++ ps) ks m d (suc at) ∙ ap Some q

  same-place : (ls : List Line) (n : ℕ) → (m : ℕ) × ((n + 1 ≡ 1 + m) × FailsAt f (owed_all ∷ []) ls m) → FailsAt f (owed_all ∷ []) ls n
  same-place ls n i =
      let q : i.0 ≡ n = omega (arith, i.1.0) in
      subst (FailsAt f (owed_all ∷ []) ls) q i.1.1

pub rules-law : RulesLaw
rules-law = record {
  lines = λ f o l os. (after-complete f o l os, after-sound f o l os);
  proofs = λ f ls. (discharge-sound f (owed_all ∷ []) ls 1, λ d. discharge-complete f (owed_all ∷ []) ls d 1);
  refusals = λ f ls n. (λ d. fails-complete f (owed_all ∷ []) ls n d 1 ∙ ap Some (omega arith), λ e. same-place f ls n (fails-sound f (owed_all ∷ []) ls 1 (n + 1) e));
}
