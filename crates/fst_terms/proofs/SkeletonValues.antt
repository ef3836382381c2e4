-- The skeleton of a formula has the formula's truth value.
use Rattle.std.proofs.Common.{◌≡◌, ℕ, Bool, true, false, ◌&&◌, if◌then◌else◌, List, [], ◌∷◌, Option, Some, None, refl, sym, ap, ap₂, ◌∙◌, subst}
use Rattle.std.specs.Prelude.{int_le, int_lt}
use Rattle.std.proofs.lemmas.Bool.{false≢true}
use Rattle.std.specs.Prelude.{ℤ, ◌≤ℤ◌, ◌<ℤ◌, not}
use lib.Dec.{T}
use lib.Signed.{lt_z_no, clash_ℤ}
use Rattle.fst_terms.proofs.DivisionLemmas.{at_most-true}
use Rattle.fst_base.specs.declared.op.Op.{Op}
use Rattle.fst_base.specs.declared.op.Op.TheVariants as op
use Rattle.fst_base.specs.Sorts.{Srt, s_unit, s_bool, s_int, s_a, s_b, s_pair, s_opt, s_list, s_either}
use Rattle.fst_base.specs.Values.{Val, v_unit, v_bool, v_int, v_pair, v_none, v_some, v_nil, v_cons, v_inl, v_inr, Has, HasSorts, same, same_bool}
use Rattle.fst_base.specs.Primitives.{is_true, int_of, fst_of, snd_of}
use Rattle.fst_terms.specs.Terms.{Tm, t_int, t_bool, t_prim, t_if, t_end, t_more, row}
use Rattle.fst_terms.specs.Meaning.{Env, Meaning, value}
use Rattle.fst_terms.specs.Sorted.{TmSorted}
use Rattle.fst_terms.specs.Skeletons.{Skl, k_truth, k_atom, k_if, k_same, made_by, arg_of, rest_of, fst_term, snd_term, simple, numbers_equal, options_equal, eithers_equal, cons_equal, nil_equal, lists_equal, equal, at_most_form, less_form, equation_form, skeleton}
use Rattle.fst_terms.specs.Sentences.{KeepsSorts}
use Rattle.fst_terms.proofs.TermSorts.{value-sorted, sort-sorted}
use Rattle.fst_terms.proofs.SortedFactLemmas.{first-of, second-of}
use Rattle.fst_terms.proofs.AtomSortLemmas.{fst-sorted, snd-sorted, just-arg, left-arg, right-arg, cons-first, cons-rest}
use Rattle.fst_terms.proofs.PutLemmas.{make-value, first-value, second-value}

-- the truth of a skeleton, where `v` gives that of each atom
abbrev pub truth : (Tm → Bool) → Skl → Bool
truth v (k_truth b) = b
truth v (k_atom t) = v t
truth v (k_if c p q) = if truth v c then truth v p else truth v q
truth v (k_same p q) = same_bool (truth v p) (truth v q)

both-if : (a b : Bool) → (a && b) ≡ (if a then b else false)
both-if true b = refl
both-if false b = refl

bool-of : (v : Val) → Has s_bool v → v ≡ v_bool (is_true v)
bool-of (v_bool b) h = refl
bool-of v h = absurd h

int-is : (v : Val) → Has s_int v → v ≡ v_int (int_of v)
int-is (v_int n) h = refl
int-is v h = absurd h

module _ (Applies : (k : ℕ) → List Srt → (S : Srt) → Type 0) (M : Meaning) (keeps : KeepsSorts Applies M) (Ss : List Srt) (e : Env) (has : HasSorts Ss e) where
  abbrev Is : Tm → Srt → Type 0
  Is t S = TmSorted Applies Ss t S

  -- the truth of a term in the environment
  abbrev pub true-of : Tm → Bool
  true-of t = is_true (value M t e)

  val : (t : Tm) (S : Srt) → Is t S → Has S (value M t e)
  val t S h = value-sorted Applies M keeps Ss t S e h has

  fst-value : (S : Srt) (t : Tm) → value M (fst_term S t) e ≡ fst_of S (value M t e)
  fst-value S t = make-value M e S op.Fst (row (t ∷ [])) 0

  snd-value : (S : Srt) (t : Tm) → value M (snd_term S t) e ≡ snd_of S (value M t e)
  snd-value S t = make-value M e S op.Snd (row (t ∷ [])) 0

  simple-value : (t : Tm) → Is t s_bool → value M t e ≡ v_bool (truth true-of (simple t))
  simple-value (t_bool b) h = refl
  simple-value t h = bool-of (value M t e) (val t s_bool h)

  abbrev EqualTrue : Srt → Type 0
  EqualTrue S = (t u : Tm) → Is t S → Is u S → same (value M t e) (value M u e) ≡ truth true-of (equal S t u)

  units : (a b : Val) → Has s_unit a → Has s_unit b → same a b ≡ true
  units v_unit v_unit h k = refl
  units v_unit (v_bool b) h k = absurd k
  units v_unit (v_int b) h k = absurd k
  units v_unit (v_pair b c) h k = absurd k
  units v_unit v_none h k = absurd k
  units v_unit (v_some b) h k = absurd k
  units v_unit v_nil h k = absurd k
  units v_unit (v_cons b c) h k = absurd k
  units v_unit (v_inl b) h k = absurd k
  units v_unit (v_inr b) h k = absurd k
  units a b h k = absurd h

  numbers : (t u : Tm) → same (value M t e) (value M u e) ≡ truth true-of (numbers_equal t u)
  numbers (t_int m) (t_int n) = refl
  numbers t u = refl

  pairs : (S T : Srt) (a b : Val) → Has (s_pair S T) a → Has (s_pair S T) b → same a b ≡ (if same (fst_of S a) (fst_of S b) then same (snd_of T a) (snd_of T b) else false)
  pairs S T (v_pair a b) (v_pair c d) h k = both-if (same a c) (same b d)
  pairs S T (v_pair a b) v_unit h k = absurd k
  pairs S T (v_pair a b) (v_bool x) h k = absurd k
  pairs S T (v_pair a b) (v_int x) h k = absurd k
  pairs S T (v_pair a b) v_none h k = absurd k
  pairs S T (v_pair a b) (v_some x) h k = absurd k
  pairs S T (v_pair a b) v_nil h k = absurd k
  pairs S T (v_pair a b) (v_cons x y) h k = absurd k
  pairs S T (v_pair a b) (v_inl x) h k = absurd k
  pairs S T (v_pair a b) (v_inr x) h k = absurd k
  pairs S T a b h k = absurd h

  -- ---- constructor terms

  -- what a constructor term of a sort is
  abbrev MadeOption : Op → Tm → Type 0
  MadeOption op.Nothing t = value M t e ≡ v_none
  MadeOption op.Just t = value M t e ≡ v_some (value M (arg_of t) e)
  MadeOption o t = ⊥

  made-option : (S : Srt) (o : Op) (t : Tm) → made_by t ≡ Some o → Is t (s_opt S) → MadeOption o t
  made-option S o (t_prim op.Nothing T ts at) q h = let p : op.Nothing ≡ o = cc in subst (λ o. MadeOption o (t_prim op.Nothing T ts at)) p refl
  made-option S o (t_prim op.Just T ts at) q h = let p : op.Just ≡ o = cc in subst (λ o. MadeOption o (t_prim op.Just T ts at)) p (ap v_some (sym (first-value M ts e)))
  made-option S o (t_prim op.Pair T ts at) q h = let a = h.0 in let b = h.1.1.0.result in cc
  made-option S o (t_prim op.Nil T ts at) q h = let a = h.0 in let b = h.1.1.0.result in cc
  made-option S o (t_prim op.Cons T ts at) q h = let a = h.0 in let b = h.1.1.0.result in cc
  made-option S o (t_prim op.Inl T ts at) q h = let a = h.0 in let b = h.1.1.0.result in cc
  made-option S o (t_prim op.Inr T ts at) q h = let a = h.0 in let b = h.1.1.0.result in cc
  made-option S o t q h = cc

  abbrev MadeEither : Op → Tm → Type 0
  MadeEither op.Inl t = value M t e ≡ v_inl (value M (arg_of t) e)
  MadeEither op.Inr t = value M t e ≡ v_inr (value M (arg_of t) e)
  MadeEither o t = ⊥

  made-either : (S R : Srt) (o : Op) (t : Tm) → made_by t ≡ Some o → Is t (s_either S R) → MadeEither o t
  made-either S R o (t_prim op.Inl T ts at) q h = let p : op.Inl ≡ o = cc in subst (λ o. MadeEither o (t_prim op.Inl T ts at)) p (ap v_inl (sym (first-value M ts e)))
  made-either S R o (t_prim op.Inr T ts at) q h = let p : op.Inr ≡ o = cc in subst (λ o. MadeEither o (t_prim op.Inr T ts at)) p (ap v_inr (sym (first-value M ts e)))
  made-either S R o (t_prim op.Nothing T ts at) q h = let a = h.0 in let b = h.1.1.0.result in cc
  made-either S R o (t_prim op.Just T ts at) q h = let a = h.0 in let b = h.1.1.0.result in cc
  made-either S R o (t_prim op.Pair T ts at) q h = let a = h.0 in let b = h.1.1.0.result in cc
  made-either S R o (t_prim op.Nil T ts at) q h = let a = h.0 in let b = h.1.1.0.result in cc
  made-either S R o (t_prim op.Cons T ts at) q h = let a = h.0 in let b = h.1.1.0.result in cc
  made-either S R o t q h = cc

  abbrev MadeList : Op → Tm → Type 0
  MadeList op.Nil t = value M t e ≡ v_nil
  MadeList op.Cons t = value M t e ≡ v_cons (value M (arg_of t) e) (value M (rest_of t) e)
  MadeList o t = ⊥

  made-list : (S : Srt) (o : Op) (t : Tm) → made_by t ≡ Some o → Is t (s_list S) → MadeList o t
  made-list S o (t_prim op.Nil T ts at) q h = let p : op.Nil ≡ o = cc in subst (λ o. MadeList o (t_prim op.Nil T ts at)) p refl
  made-list S o (t_prim op.Cons T ts at) q h = let p : op.Cons ≡ o = cc in subst (λ o. MadeList o (t_prim op.Cons T ts at)) p (ap₂ v_cons (sym (first-value M ts e)) (sym (second-value M ts e)))
  made-list S o (t_prim op.Nothing T ts at) q h = let a = h.0 in let b = h.1.1.0.result in cc
  made-list S o (t_prim op.Just T ts at) q h = let a = h.0 in let b = h.1.1.0.result in cc
  made-list S o (t_prim op.Pair T ts at) q h = let a = h.0 in let b = h.1.1.0.result in cc
  made-list S o (t_prim op.Inl T ts at) q h = let a = h.0 in let b = h.1.1.0.result in cc
  made-list S o (t_prim op.Inr T ts at) q h = let a = h.0 in let b = h.1.1.0.result in cc
  made-list S o t q h = cc

  -- ---- equations

  options : (S : Srt) → EqualTrue S → EqualTrue (s_opt S)
  options S ih t u h k = go (made_by t) (made_by u) refl refl
    where
      go : (a b : Option Op) → made_by t ≡ a → made_by u ≡ b → same (value M t e) (value M u e) ≡ truth true-of (options_equal (equal S) a b t u)
      go (Some op.Nothing) (Some op.Nothing) p q = rw (made-option S op.Nothing t p h, made-option S op.Nothing u q k) refl
      go (Some op.Just) (Some op.Just) p q = ap₂ same (made-option S op.Just t p h) (made-option S op.Just u q k) ∙ ih (arg_of t) (arg_of u) (just-arg Applies Ss S t p h) (just-arg Applies Ss S u q k)
      go (Some op.Nothing) (Some op.Just) p q = ap₂ same (made-option S op.Nothing t p h) (made-option S op.Just u q k)
      go (Some op.Just) (Some op.Nothing) p q = ap₂ same (made-option S op.Just t p h) (made-option S op.Nothing u q k)
      go (Some op.Nothing) (Some o) p q = absurd (made-option S o u q k)
      go (Some op.Just) (Some o) p q = absurd (made-option S o u q k)
      go (Some o) (Some b) p q = absurd (made-option S o t p h)
      go a b p q = refl

  eithers : (S T : Srt) → EqualTrue S → EqualTrue T → EqualTrue (s_either S T)
  eithers S T ih jh t u h k = go (made_by t) (made_by u) refl refl
    where
      go : (a b : Option Op) → made_by t ≡ a → made_by u ≡ b → same (value M t e) (value M u e) ≡ truth true-of (eithers_equal (equal S) (equal T) a b t u)
      go (Some op.Inl) (Some op.Inl) p q = ap₂ same (made-either S T op.Inl t p h) (made-either S T op.Inl u q k) ∙ ih (arg_of t) (arg_of u) (left-arg Applies Ss S T t p h) (left-arg Applies Ss S T u q k)
      go (Some op.Inr) (Some op.Inr) p q = ap₂ same (made-either S T op.Inr t p h) (made-either S T op.Inr u q k) ∙ jh (arg_of t) (arg_of u) (right-arg Applies Ss S T t p h) (right-arg Applies Ss S T u q k)
      go (Some op.Inl) (Some op.Inr) p q = ap₂ same (made-either S T op.Inl t p h) (made-either S T op.Inr u q k)
      go (Some op.Inr) (Some op.Inl) p q = ap₂ same (made-either S T op.Inr t p h) (made-either S T op.Inl u q k)
      go (Some op.Inl) (Some o) p q = absurd (made-either S T o u q k)
      go (Some op.Inr) (Some o) p q = absurd (made-either S T o u q k)
      go (Some o) (Some b) p q = absurd (made-either S T o t p h)
      go a b p q = refl

  lists : (S : Srt) → EqualTrue S → (t u : Tm) → Is t (s_list S) → Is u (s_list S) → same (value M t e) (value M u e) ≡ truth true-of (lists_equal (equal S) t u)
  lists S ih (t_prim op.Cons T (t_more x (t_more r t_end)) at) u h k = go (λ w l. lists S ih r w (cons-rest Applies Ss S (t_prim op.Cons T (t_more x (t_more r t_end)) at) refl h) l) (made_by u) refl
    where
      go : ((w : Tm) → Is w (s_list S) → same (value M r e) (value M w e) ≡ truth true-of (lists_equal (equal S) r w)) → (a : Option Op) → made_by u ≡ a
          → same (v_cons (value M x e) (value M r e)) (value M u e) ≡ truth true-of (cons_equal (equal S x) (lists_equal (equal S) r) a (t_prim op.Cons T (t_more x (t_more r t_end)) at) u)
      go tail (Some op.Cons) q =
          ap (same (v_cons (value M x e) (value M r e))) (made-list S op.Cons u q k) ∙ both-if (same (value M x e) (value M (arg_of u) e)) (same (value M r e) (value M (rest_of u) e))
          ∙ ap₂ (λ a b. if a then b else false) (ih x (arg_of u) (cons-first Applies Ss S (t_prim op.Cons T (t_more x (t_more r t_end)) at) refl h) (cons-first Applies Ss S u q k)) (tail (rest_of u) (cons-rest Applies Ss S u q k))
      go tail (Some op.Nil) q = ap (same (v_cons (value M x e) (value M r e))) (made-list S op.Nil u q k)
      go tail (Some o) q = absurd (made-list S o u q k)
      go tail None q = refl
  lists S ih (t_prim op.Nil T ts at) u h k = go (made_by u) refl
    where
      go : (a : Option Op) → made_by u ≡ a → same v_nil (value M u e) ≡ truth true-of (nil_equal a (t_prim op.Nil T ts at) u)
      go (Some op.Nil) q = ap (same v_nil) (made-list S op.Nil u q k)
      go (Some op.Cons) q = ap (same v_nil) (made-list S op.Cons u q k)
      go (Some o) q = absurd (made-list S o u q k)
      go None q = refl
  lists S ih t u h k = refl

  pub equal-true : (S : Srt) → EqualTrue S
  equal-true s_unit t u h k = units (value M t e) (value M u e) (val t s_unit h) (val u s_unit k)
  equal-true s_bool t u h k = ap₂ same (simple-value t h) (simple-value u k)
  equal-true s_int t u h k = numbers t u
  equal-true s_a t u h k = refl
  equal-true s_b t u h k = refl
  equal-true (s_pair S T) t u h k =
      pairs S T (value M t e) (value M u e) (val t (s_pair S T) h) (val u (s_pair S T) k)
      ∙ ap₂ (λ a b. if a then b else false)
      (ap₂ same (sym (fst-value S t)) (sym (fst-value S u)) ∙ equal-true S (fst_term S t) (fst_term S u) (fst-sorted Applies Ss S T t h) (fst-sorted Applies Ss S T u k))
      (ap₂ same (sym (snd-value T t)) (sym (snd-value T u)) ∙ equal-true T (snd_term T t) (snd_term T u) (snd-sorted Applies Ss S T t h) (snd-sorted Applies Ss S T u k))
  equal-true (s_opt S) t u h k = options S (equal-true S) t u h k
  equal-true (s_list S) t u h k = lists S (equal-true S) t u h k
  equal-true (s_either S T) t u h k = eithers S T (equal-true S) (equal-true T) t u h k

  -- ---- formulas

  le-true : (t u : Tm) → int_le (int_of (value M t e)) (int_of (value M u e)) ≡ truth true-of (at_most_form t u)
  le-true (t_int m) (t_int n) = refl
  le-true t u = refl

  lt-not-le : (m n : ℤ) → int_lt m n ≡ (if int_le n m then false else true)
  lt-not-le m n = go (int_lt m n) (int_le n m) refl refl
    where
      go : (a b : Bool) → int_lt m n ≡ a → int_le n m ≡ b → a ≡ (if b then false else true)
      go true true p q = let less : m <ℤ n = record { lt = subst T (sym p) tt } in let most : n ≤ℤ m = record { le = subst T (sym q) tt } in clash_ℤ less most
      go true false p q = refl
      go false true p q = refl
      go false false p q = let most : n ≤ℤ m = lt_z_no (subst (λ b. T (not b)) (sym p) tt) in absurd (false≢true (sym q ∙ at_most-true n m most))

  lt-true : (t u : Tm) → int_lt (int_of (value M t e)) (int_of (value M u e)) ≡ truth true-of (less_form t u)
  lt-true (t_int m) (t_int n) = refl
  lt-true t u = lt-not-le (int_of (value M t e)) (int_of (value M u e))

  eq-true : (A : Srt) (t u : Tm) → Is t A → Is u A → (Is t s_bool → value M t e ≡ v_bool (truth true-of (skeleton Ss t))) → (Is u s_bool → value M u e ≡ v_bool (truth true-of (skeleton Ss u)))
      → same (value M t e) (value M u e) ≡ truth true-of (equation_form A (skeleton Ss t) (skeleton Ss u) t u)
  eq-true s_bool t u h k ih jh = ap₂ same (ih h) (jh k)
  eq-true A t u h k ih jh = equal-true A t u h k

  if-bool : (c p q : Bool) (v w : Val) → v ≡ v_bool p → w ≡ v_bool q → (if c then v else w) ≡ v_bool (if c then p else q)
  if-bool true p q v w h k = h
  if-bool false p q v w h k = k

  -- the formula's value is the truth of its skeleton
  pub skeleton-true : (phi : Tm) → Is phi s_bool → value M phi e ≡ v_bool (truth true-of (skeleton Ss phi))
  skeleton-true (t_bool b) h = refl
  skeleton-true (t_if c t u) h =
      ap (λ v. if is_true v then value M t e else value M u e) (skeleton-true c h.0)
      ∙ if-bool (truth true-of (skeleton Ss c)) _ _ (value M t e) (value M u e) (skeleton-true t h.1) (skeleton-true u h.2)
  skeleton-true (t_prim op.Le S (t_more t (t_more u t_end)) at) h = ap v_bool (le-true t u)
  skeleton-true (t_prim op.Lt S (t_more t (t_more u t_end)) at) h = ap v_bool (lt-true t u)
  skeleton-true (t_prim op.Eq S (t_more t (t_more u t_end)) at) h =
      let f = h.1.1.0 in
      let a = first-of Applies Ss (t_more t (t_more u t_end)) f.first (f.first ∷ []) h.1.0 f.args h.1.1.1 in
      let b = second-of Applies Ss (t_more t (t_more u t_end)) f.first f.first [] h.1.0 f.args h.1.1.1 in
      ap v_bool (subst (λ X. same (value M t e) (value M u e) ≡ truth true-of (equation_form X (skeleton Ss t) (skeleton Ss u) t u)) (sym (sort-sorted Applies Ss t f.first a))
      (eq-true f.first t u a b (λ i. skeleton-true t i) (λ i. skeleton-true u i)))
  skeleton-true t h = bool-of (value M t e) (val t s_bool h)
