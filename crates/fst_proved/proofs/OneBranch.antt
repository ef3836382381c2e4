-- In every environment there is exactly one branch of a flat form that it agrees with.
use Rattle.std.proofs.Common.{◌≡◌, ℕ, zero, suc, ℤ, ◌<ℤ◌, Bool, true, false, not, if◌then◌else◌, List, [], ◌∷◌, map, Some, IsTrue, Decides, refl, sym, subst, ap, ap₂, ◌∙◌, arith, int_lt, slice_get}
use Rattle.std.proofs.lemmas.Int.{ints}
use Rattle.std.specs.Ordering.{int_eq}
use Rattle.std.proofs.lemmas.Bool.Decides.{Decides-int_eq}
use Rattle.fst_base.specs.declared.op.Op.TheVariants as op
use Rattle.fst_base.specs.Sorts.{Srt, s_bool, s_int}
use Rattle.fst_base.specs.Values.{Val, v_bool, v_int, Has, HasSorts, same}
use Rattle.fst_base.specs.Primitives.{int_of, is_true}
use Rattle.fst_terms.specs.Terms.{Tm, t_prim, t_end, t_more}
use Rattle.fst_terms.specs.Meaning.{Env, Meaning, HasVars, value}
use Rattle.fst_terms.specs.Sorted.{TmSorted}
use Rattle.fst_terms.specs.Formulas.{sort_of}
use Rattle.fst_terms.specs.Flats.{Flt}
use Rattle.fst_terms.specs.declared.flat.Mark.{Mark}
use Rattle.fst_terms.specs.declared.flat.Mark.TheVariants as mark
use Rattle.fst_terms.specs.DataFacts.{is_int}
use Rattle.fst_terms.specs.Skeletons.{arg_of, rest_of, atoms_of}
use Rattle.fst_terms.specs.FlatForms.{Fms, formulas, number_all, sorts}
use Rattle.fst_terms.specs.Marks.{MarkHolds, at_number, fits, is_int_equation, marks_of, var_sorts, Agrees}
use Rattle.fst_terms.specs.Branches.{AllFit}
use Rattle.fst_terms.specs.Sentences.{AreFormulas, BranchThere, KeepsSorts}
use Rattle.fst_terms.proofs.MemberLemmas.{AllTm}
use Rattle.fst_terms.proofs.TermSorts.{sort-sorted, value-sorted}
use Rattle.fst_terms.proofs.SortedFactLemmas.{IsFormula, all-given}
use Rattle.fst_terms.proofs.AtomSortLemmas.{atoms-sorted}

int_lt-decides : (a b : ℤ) → Decides (int_lt a b) (a <ℤ b)
int_lt-decides a b = (λ e. omega (arith, ints), λ h. go (int_lt a b) refl h)
  where
    go : (t : Bool) → int_lt a b ≡ t → a <ℤ b → int_lt a b ≡ true
    go true e h = e
    go false e h = absurd (omega (arith, ints))

-- ---- values of two sorts

bool-of : (v : Val) → Has s_bool v → v ≡ v_bool (is_true v)
bool-of (v_bool b) h = refl
bool-of v h = absurd h

int-of : (v : Val) → Has s_int v → v ≡ v_int (int_of v)
int-of (v_int n) h = refl
int-of v h = absurd h

is-int-is : (S : Srt) → is_int S ≡ true → S ≡ s_int
is-int-is s_int h = refl
is-int-is S h = cc

-- ---- the one mark of an atom

module _ (Applies : (k : ℕ) → List Srt → (S : Srt) → Type 0) (M : Meaning) (keeps : KeepsSorts Applies M) (Ss : List Srt) (e : Env) (has : HasSorts Ss e) where
  abbrev Is : Tm → Srt → Type 0
  Is t S = TmSorted Applies Ss t S

  abbrev left : Tm → ℤ
  left t = int_of (value M (arg_of t) e)

  abbrev right : Tm → ℤ
  right t = int_of (value M (rest_of t) e)

  abbrev holds : Tm → Bool
  holds t = is_true (value M t e)

  truth-is : (t : Tm) → Is t s_bool → value M t e ≡ v_bool (holds t)
  truth-is t h = bool-of (value M t e) (value-sorted Applies M keeps Ss t s_bool e h has)

  number-is : (t : Tm) (S : Srt) → Is t S → S ≡ s_int → value M t e ≡ v_int (int_of (value M t e))
  number-is t S h p = int-of (value M t e) (subst (λ S. Has S (value M t e)) p (value-sorted Applies M keeps Ss t S e h has))

  -- an equation of ints tells whether its sides are equal
  equation-is : (t : Tm) → Is t s_bool → is_int_equation Ss t ≡ true → value M t e ≡ v_bool (int_eq (left t) (right t))
  equation-is (t_prim op.Eq S (t_more t (t_more u t_end)) at) h q =
      let f = h.1.1.0 in
      let a = h.1.1.1 in
      let b = a.1.1.2 in
      let first : a.0 ≡ s_int = sym (sort-sorted Applies Ss t a.0 a.1.1.1) ∙ is-int-is (sort_of Ss t) q in
      let second : b.0 ≡ a.0 = (let p = f.args in let r = a.1.1.0 in let s = b.1.1.0 in cc) in
      let x : value M t e ≡ v_int (int_of (value M t e)) = number-is t a.0 a.1.1.1 first in
      let y : value M u e ≡ v_int (int_of (value M u e)) = number-is u b.0 b.1.1.1 (second ∙ first) in
      ap₂ (λ v w. v_bool (same v w)) x y
  equation-is (t_prim op.Eq S (t_more t t_end) at) h q =
      let f = h.1.1.0 in
      let a = h.1.1.1 in
      absurd (let p = f.args in let r = a.1.1.0 in let s = a.1.1.2 in cc)
  equation-is (t_prim op.Eq S (t_more t (t_more u (t_more v ts))) at) h q =
      let f = h.1.1.0 in
      let a = h.1.1.1 in
      let b = a.1.1.2 in
      let d = b.1.1.2 in
      absurd (let p = f.args in let r = a.1.1.0 in let s = b.1.1.0 in let w = d.1.1.0 in cc)
  equation-is (t_prim op.Eq S t_end at) h q = cc
  equation-is t h q = cc

  abbrev mark_by : (holds is_equation less : Bool) → Mark
  mark_by h i l = if h then mark.True else (if i then (if l then mark.Less else mark.Greater) else mark.False)

  abbrev mark_here : Tm → Mark
  mark_here t = mark_by (holds t) (is_int_equation Ss t) (int_lt (left t) (right t))

  fits-by : (t : Tm) (h i l : Bool) → is_int_equation Ss t ≡ i → IsTrue (fits Ss t (mark_by h i l))
  fits-by t true i l q = refl
  fits-by t false true true q = q
  fits-by t false true false q = q
  fits-by t false false l q = ap not q

  fits-here : (t : Tm) → IsTrue (fits Ss t (mark_here t))
  fits-here t = fits-by t (holds t) (is_int_equation Ss t) (int_lt (left t) (right t)) refl

  other-order : (m n : ℤ) → int_eq m n ≡ false → int_lt m n ≡ false → n <ℤ m
  other-order m n p q =
      let unequal : m ≡ n → ⊥ = λ r. absurd (let s : int_eq m n ≡ true = (Decides-int_eq m n).1 r in cc) in
      let above : m <ℤ n → ⊥ = λ r. absurd (let s : int_lt m n ≡ true = (int_lt-decides m n).1 r in cc) in
      omega (arith, ints, unequal, above)

  holds-by : (t : Tm) (h i l : Bool) → value M t e ≡ v_bool h → (i ≡ true → value M t e ≡ v_bool (int_eq (left t) (right t))) → int_lt (left t) (right t) ≡ l → MarkHolds M t (mark_by h i l) e
  holds-by t true i l p f q = p
  holds-by t false true true p f q = (p, (int_lt-decides (left t) (right t)).0 q)
  holds-by t false true false p f q =
      let r : int_eq (left t) (right t) ≡ false = (let s : v_bool (int_eq (left t) (right t)) ≡ v_bool false = sym (f refl) ∙ p in cc) in
      (p, other-order (left t) (right t) r q)
  holds-by t false false l p f q = p

  holds-here : (t : Tm) → Is t s_bool → MarkHolds M t (mark_here t) e
  holds-here t s = holds-by t (holds t) (is_int_equation Ss t) (int_lt (left t) (right t)) (truth-is t s) (equation-is t s) refl

  is-true : (t : Tm) (b : Bool) → value M t e ≡ v_bool b → holds t ≡ b
  is-true t b p = ap is_true p

  mark-is : (t : Tm) (h i l : Bool) → holds t ≡ h → is_int_equation Ss t ≡ i → int_lt (left t) (right t) ≡ l → mark_here t ≡ mark_by h i l
  mark-is t h i l p q r = ap₂ (λ h i. mark_by h i (int_lt (left t) (right t))) p q ∙ ap (mark_by h i) r

  not-below : (m n : ℤ) → n <ℤ m → int_lt m n ≡ false
  not-below m n h = when (int_lt m n) refl
    where
      when : (b : Bool) → int_lt m n ≡ b → b ≡ false
      when true p = let k : m <ℤ n = (int_lt-decides m n).0 p in absurd (omega (arith, ints, h, k))
      when false p = refl

  not-true : (b : Bool) → not b ≡ true → b ≡ false
  not-true true p = cc
  not-true false p = refl

  one-mark : (t : Tm) (m : Mark) → IsTrue (fits Ss t m) → MarkHolds M t m e → m ≡ mark_here t
  one-mark t mark.True f h = sym (mark-is t true (is_int_equation Ss t) (int_lt (left t) (right t)) (is-true t true h) refl refl)
  one-mark t mark.False f h = sym (mark-is t false false (int_lt (left t) (right t)) (is-true t false h) (not-true (is_int_equation Ss t) f) refl)
  one-mark t mark.Less f h = sym (mark-is t false true true (is-true t false h.0) f ((int_lt-decides (left t) (right t)).1 h.1))
  one-mark t mark.Greater f h = sym (mark-is t false true false (is-true t false h.0) f (not-below (left t) (right t) h.1))

  -- ---- the one branch

  all-fit : (ts : List Tm) → AllFit Ss ts (map mark_here ts)
  all-fit [] = tt
  all-fit (t ∷ ts) = (fits-here t, all-fit ts)

  all-hold : (ts : List Tm) (n : ℕ) (t : Tm) (m : Mark) → AllTm (IsFormula Applies Ss) ts → slice_get ts n ≡ Some t → slice_get (map mark_here ts) n ≡ Some m → MarkHolds M t m e
  all-hold [] n t m s p q = cc
  all-hold (u ∷ us) zero t m s p q =
      let x : u ≡ t = cc in
      let y : mark_here u ≡ m = cc in
      subst (λ m. MarkHolds M t m e) y (subst (λ t. MarkHolds M t (mark_here u) e) x (holds-here u s.0))
  all-hold (u ∷ us) (suc n) t m s p q = all-hold us n t m s.1 p q

  agrees-here : (ts : List Tm) → AllTm (IsFormula Applies Ss) ts → (a : ℕ) (t : Tm) (m : Mark) → at_number ts a ≡ Some t → marks_of (map mark_here ts) a ≡ Some m → MarkHolds M t m e
  agrees-here ts s zero t m p q = cc
  agrees-here ts s (suc n) t m p q = all-hold ts n t m s p q

  later : (t : Tm) (ts : List Tm) (n : Mark) (ns : List Mark) → ((a : ℕ) (u : Tm) (m : Mark) → at_number (t ∷ ts) a ≡ Some u → marks_of (n ∷ ns) a ≡ Some m → MarkHolds M u m e)
      → (a : ℕ) (u : Tm) (m : Mark) → at_number ts a ≡ Some u → marks_of ns a ≡ Some m → MarkHolds M u m e
  later t ts n ns g zero u m p q = cc
  later t ts n ns g (suc k) u m p q = g (suc (suc k)) u m p q

  one-branch : (ts : List Tm) (ns : List Mark) → AllFit Ss ts ns → ((a : ℕ) (t : Tm) (m : Mark) → at_number ts a ≡ Some t → marks_of ns a ≡ Some m → MarkHolds M t m e) → ns ≡ map mark_here ts
  one-branch [] [] f g = refl
  one-branch [] (n ∷ ns) f g = absurd f
  one-branch (t ∷ ts) [] f g = absurd f
  one-branch (t ∷ ts) (n ∷ ns) f g = ap₂ ◌∷◌ (one-mark t n f.0 (g 1 t n refl refl)) (one-branch ts ns f.1 (later t ts n ns g))

-- the branch of a flat form
abbrev Branch : Meaning → Flt → Env → Type 0
Branch M f e = (ms : List Mark) × (AllFit (var_sorts f) f.atoms ms × Agrees M f (marks_of ms) e × ((ns : List Mark) → AllFit (var_sorts f) f.atoms ns → Agrees M f (marks_of ns) e → ns ≡ ms))

made-branch : (Applies : (k : ℕ) → List Srt → (S : Srt) → Type 0) (M : Meaning) → KeepsSorts Applies M → (m : Fms) → AreFormulas Applies (sorts m) (formulas m) → (e : Env) → HasVars m.vars e → Branch M (number_all m) e
made-branch Applies M keeps m formed e has =
    let Ss : List Srt = sorts m in
    let ts : List Tm = atoms_of Ss (formulas m) in
    let sorted : AllTm (IsFormula Applies Ss) ts = atoms-sorted Applies Ss (formulas m) (all-given Applies Ss (IsFormula Applies Ss) (formulas m) formed) in
    (map (mark_here Applies M keeps Ss e has) ts, (all-fit Applies M keeps Ss e has ts, agrees-here Applies M keeps Ss e has ts sorted, λ ns f g. one-branch Applies M keeps Ss e has ts ns f g))

pub branch-there : (Applies : (k : ℕ) → List Srt → (S : Srt) → Type 0) → BranchThere Applies
branch-there Applies M keeps f flat e has =
    let P : Flt → Type 0 = λ f. (e : Env) → HasVars f.vars e → Branch M f e in
    subst P (sym flat.is) (λ e has. made-branch Applies M keeps flat.made flat.formed e has) e has
