-- The atoms of equations of options, eithers and lists, by how their sides meet.
use Rattle.std.proofs.Common.{◌≡◌, ◌<◌, Bool, true, false, ◌&&◌, if◌then◌else◌, List, [], ◌∷◌, ◌++◌, Option, Some, None, refl, sym, ap, ap₂, ◌∙◌, arith}
use Rattle.std.proofs.lemmas.List.{append-nil}
use Rattle.fst_base.specs.declared.op.Op.{Op}
use Rattle.fst_base.specs.declared.op.Op.TheVariants as op
use Rattle.fst_base.specs.Sorts.{plain_sort}
use Rattle.fst_base.specs.declared.sort.Sort.{Sort}
use Rattle.fst_base.specs.declared.sort.Sort.TheVariants as S
use Rattle.fst_base.proofs.SortLemmas.{plain-sort-List, plain-sort-Pair}
use Rattle.fst_terms.specs.Terms.{Tm, t_prim, t_end, t_more, plain_term}
use Rattle.fst_terms.specs.Formulas.{equation}
use Rattle.fst_terms.specs.declared.term.Term.{Term}
use Rattle.fst_terms.specs.Skeletons.{Skl, arg_of, rest_of, made_by, options_equal, eithers_equal, lists_equal, cons_equal, nil_equal, atoms_in, equal, first_atoms, fst_term, snd_term}
use Rattle.fst_flats.specs.Sides.{is_by, are_by, is_made, are_made, is_long, is_list_term, spine}
use Rattle.fst_flats.proofs.RoundLemmas.{first_atoms-append}

-- the atom of an equation that isn't taken apart
abbrev pub whole : Bool → (t u : Tm) → List Tm
whole b t u = if b then [] else equation t u ∷ []

-- ---- options and eithers

pub options-just : (E : Tm → Tm → Skl) (p q : Option Op) (t u : Tm) → are_by op.Just p q ≡ true → atoms_in (options_equal E p q t u) ≡ atoms_in (E (arg_of t) (arg_of u))
options-just E (Some op.Just) (Some op.Just) t u e = refl
options-just E (Some op.Just) (Some o) t u e = cc
options-just E (Some op.Just) None t u e = cc
options-just E (Some o) q t u e = cc
options-just E None q t u e = cc

pub options-other : (E : Tm → Tm → Skl) (p q : Option Op) (t u : Tm) → are_by op.Just p q ≡ false → atoms_in (options_equal E p q t u) ≡ whole (are_made p q) t u
options-other E (Some op.Nothing) (Some op.Nothing) t u e = refl
options-other E (Some op.Nothing) (Some o) t u e = refl
options-other E (Some op.Nothing) None t u e = refl
options-other E (Some op.Just) (Some op.Just) t u e = cc
options-other E (Some op.Just) (Some o) t u e = refl
options-other E (Some op.Just) None t u e = refl
options-other E (Some o) (Some p) t u e = refl
options-other E (Some o) None t u e = refl
options-other E None q t u e = refl

pub eithers-left : (E F : Tm → Tm → Skl) (p q : Option Op) (t u : Tm) → are_by op.Inl p q ≡ true → atoms_in (eithers_equal E F p q t u) ≡ atoms_in (E (arg_of t) (arg_of u))
eithers-left E F (Some op.Inl) (Some op.Inl) t u e = refl
eithers-left E F (Some op.Inl) (Some o) t u e = cc
eithers-left E F (Some op.Inl) None t u e = cc
eithers-left E F (Some o) q t u e = cc
eithers-left E F None q t u e = cc

pub eithers-right : (E F : Tm → Tm → Skl) (p q : Option Op) (t u : Tm) → are_by op.Inr p q ≡ true → atoms_in (eithers_equal E F p q t u) ≡ atoms_in (F (arg_of t) (arg_of u))
eithers-right E F (Some op.Inr) (Some op.Inr) t u e = refl
eithers-right E F (Some op.Inr) (Some o) t u e = cc
eithers-right E F (Some op.Inr) None t u e = cc
eithers-right E F (Some o) q t u e = cc
eithers-right E F None q t u e = cc

pub eithers-other : (E F : Tm → Tm → Skl) (p q : Option Op) (t u : Tm) → are_by op.Inl p q ≡ false → are_by op.Inr p q ≡ false → atoms_in (eithers_equal E F p q t u) ≡ whole (are_made p q) t u
eithers-other E F (Some op.Inl) (Some op.Inl) t u e f = cc
eithers-other E F (Some op.Inl) (Some o) t u e f = refl
eithers-other E F (Some op.Inl) None t u e f = refl
eithers-other E F (Some op.Inr) (Some op.Inr) t u e f = cc
eithers-other E F (Some op.Inr) (Some o) t u e f = refl
eithers-other E F (Some op.Inr) None t u e f = refl
eithers-other E F (Some o) (Some p) t u e f = refl
eithers-other E F (Some o) None t u e f = refl
eithers-other E F None q t u e f = refl

-- ---- lists

cons-both : (head tail : Tm → Skl) (q : Option Op) (t u : Tm) → is_by op.Cons q ≡ true → atoms_in (cons_equal head tail q t u) ≡ atoms_in (head (arg_of u)) ++ atoms_in (tail (rest_of u))
cons-both head tail (Some op.Cons) t u e = append-nil (atoms_in (head (arg_of u)) ++ atoms_in (tail (rest_of u)))
cons-both head tail (Some o) t u e = cc
cons-both head tail None t u e = cc

cons-other : (head tail : Tm → Skl) (q : Option Op) (t u : Tm) → is_by op.Cons q ≡ false → atoms_in (cons_equal head tail q t u) ≡ whole (is_made q) t u
cons-other head tail (Some op.Cons) t u e = cc
cons-other head tail (Some o) t u e = refl
cons-other head tail None t u e = refl

nil-other : (q : Option Op) (t u : Tm) → atoms_in (nil_equal q t u) ≡ whole (is_made q) t u
nil-other (Some op.Nil) t u = refl
nil-other (Some o) t u = refl
nil-other None t u = refl

module _ (E : Tm → Tm → Skl) where
  -- two conses: their heads, then their tails
  pub lists-step : (t u : Tm) → is_long t ≡ true → is_by op.Cons (made_by u) ≡ true → atoms_in (lists_equal E t u) ≡ atoms_in (E (arg_of t) (arg_of u)) ++ atoms_in (lists_equal E (rest_of t) (rest_of u))
  lists-step (t_prim op.Cons S (t_more x (t_more r t_end)) at) u e f = cons-both (E x) (lists_equal E r) (made_by u) (t_prim op.Cons S (t_more x (t_more r t_end)) at) u f
  lists-step t u e f = cc

  pub lists-end : (t u : Tm) → (is_long t && is_by op.Cons (made_by u)) ≡ false → atoms_in (lists_equal E t u) ≡ whole (is_list_term t && is_made (made_by u)) t u
  lists-end (t_prim op.Cons S (t_more x (t_more r t_end)) at) u e = cons-other (E x) (lists_equal E r) (made_by u) (t_prim op.Cons S (t_more x (t_more r t_end)) at) u e
  lists-end (t_prim op.Nil S ts at) u e = nil-other (made_by u) (t_prim op.Nil S ts at) u
  lists-end t u e = refl

  -- the atoms of what is left of two lists, after one step more
  pub lists-more : (now new : List Tm) (t u x y : Tm) → is_long t ≡ true → is_by op.Cons (made_by u) ≡ true → x ≡ arg_of t → y ≡ arg_of u → new ≡ first_atoms now (atoms_in (E x y))
      → (r s : Tm) → r ≡ rest_of t → s ≡ rest_of u → first_atoms new (atoms_in (lists_equal E r s)) ≡ first_atoms now (atoms_in (lists_equal E t u))
  lists-more now new t u x y e f p q g r s h k =
      ap₂ (λ m ts. first_atoms m ts) (g ∙ ap₂ (λ x y. first_atoms now (atoms_in (E x y))) p q) (ap₂ (λ r s. atoms_in (lists_equal E r s)) h k)
      ∙ sym (first_atoms-append now (atoms_in (E (arg_of t) (arg_of u))) (atoms_in (lists_equal E (rest_of t) (rest_of u))))
      ∙ ap (first_atoms now) (sym (lists-step t u e f))

pub spine-falls : (t r : Tm) → is_long t ≡ true → r ≡ rest_of t → spine r < spine t
spine-falls (t_prim op.Cons S (t_more x (t_more s t_end)) at) r e f = rw f (omega arith)
spine-falls t r e f = cc

-- ---- sorts with parts, as the code goes over them

module _ (old : List Tm) (t u : Tm) (w : Sort) where
  pub list-by : (new : List Tm) (i j : Sort) → w ≡ S.List i → j ≡ i → new ≡ first_atoms old (atoms_in (lists_equal (equal (plain_sort j)) t u)) → new ≡ first_atoms old (atoms_in (equal (plain_sort w) t u))
  list-by new i j is e f =
      f ∙ ap (λ i. first_atoms old (atoms_in (lists_equal (equal (plain_sort i)) t u))) e
      ∙ sym (ap (λ w. first_atoms old (atoms_in (equal (plain_sort w) t u))) is ∙ ap (λ S. first_atoms old (atoms_in (equal S t u))) (plain-sort-List i))

  pub pair-by : (m new : List Tm) (a b a1 a2 b1 b2 : Sort) (f1 o1 f2 o2 f1' o1' f2' o2' : Term) → w ≡ S.Pair a b → a1 ≡ a → a2 ≡ a → b1 ≡ b → b2 ≡ b
      → plain_term f1 ≡ fst_term (plain_sort a1) t → plain_term o1 ≡ fst_term (plain_sort a1) u → f1' ≡ f1 → o1' ≡ o1
      → m ≡ first_atoms old (atoms_in (equal (plain_sort a2) (plain_term f1') (plain_term o1')))
      → plain_term f2 ≡ snd_term (plain_sort b1) t → plain_term o2 ≡ snd_term (plain_sort b1) u → f2' ≡ f2 → o2' ≡ o2
      → new ≡ first_atoms m (atoms_in (equal (plain_sort b2) (plain_term f2') (plain_term o2'))) → new ≡ first_atoms old (atoms_in (equal (plain_sort w) t u))
  pair-by m new a b a1 a2 b1 b2 f1 o1 f2 o2 f1' o1' f2' o2' is ea1 ea2 eb1 eb2 p1 q1 r1 s1 e p2 q2 r2 s2 f =
      let A : List Tm = atoms_in (equal (plain_sort a) (fst_term (plain_sort a) t) (fst_term (plain_sort a) u)) in
      let B : List Tm = atoms_in (equal (plain_sort b) (snd_term (plain_sort b) t) (snd_term (plain_sort b) u)) in
      let x1 : plain_term f1' ≡ fst_term (plain_sort a) t = ap plain_term r1 ∙ p1 ∙ ap (λ s. fst_term (plain_sort s) t) ea1 in
      let y1 : plain_term o1' ≡ fst_term (plain_sort a) u = ap plain_term s1 ∙ q1 ∙ ap (λ s. fst_term (plain_sort s) u) ea1 in
      let x2 : plain_term f2' ≡ snd_term (plain_sort b) t = ap plain_term r2 ∙ p2 ∙ ap (λ s. snd_term (plain_sort s) t) eb1 in
      let y2 : plain_term o2' ≡ snd_term (plain_sort b) u = ap plain_term s2 ∙ q2 ∙ ap (λ s. snd_term (plain_sort s) u) eb1 in
      let first : m ≡ first_atoms old A = e ∙ ap (λ s. first_atoms old (atoms_in (equal (plain_sort s) (plain_term f1') (plain_term o1')))) ea2 ∙ ap₂ (λ x y. first_atoms old (atoms_in (equal (plain_sort a) x y))) x1 y1 in
      let second : new ≡ first_atoms m B = f ∙ ap (λ s. first_atoms m (atoms_in (equal (plain_sort s) (plain_term f2') (plain_term o2')))) eb2 ∙ ap₂ (λ x y. first_atoms m (atoms_in (equal (plain_sort b) x y))) x2 y2 in
      let whole : atoms_in (equal (plain_sort w) t u) ≡ A ++ B =
      ap (λ w. atoms_in (equal (plain_sort w) t u)) is ∙ ap (λ S. atoms_in (equal S t u)) (plain-sort-Pair a b) ∙ append-nil (A ++ B) in
      second ∙ ap (λ m. first_atoms m B) first ∙ sym (first_atoms-append old A B) ∙ ap (first_atoms old) (sym whole)
