-- The shapes of formulas, as code makes them.
use Rattle.std.proofs.Common.{◌≡◌, ◌⊎◌, inl, inr, ℕ, zero, suc, ◌+◌, ◌<◌, ◌≤◌, Bool, true, false, ◌&&◌, ◌||◌, not, if◌then◌else◌, List, [], ◌∷◌, ◌++◌, length, map, get_or, Option, Some, None, Result, Ok, Err, IfOk, refl, sym, ap, ap₂, ◌∙◌, subst, arith}
use Rattle.std.proofs.lemmas.Bool.{cases_lt}
use Rattle.std.proofs.lemmas.List.{get_or_default}
use Rattle.std.proofs.lemmas.Result.{IfOk-weaker, IfOk-at_ok}
use Rattle.std.specs.Result.{IsErrAnd}
use Rattle.fst_base.specs.declared.memory.OutOfMemory.{OutOfMemory}
use Rattle.fst_base.specs.declared.op.Op.{Op}
use Rattle.fst_base.specs.declared.op.Op.TheVariants as op
use Rattle.fst_base.specs.declared.place.Pos.{Pos}
use Rattle.fst_base.specs.declared.sort.Sort.{Sort}
use Rattle.fst_base.specs.declared.sort.Sort.TheVariants as S
use Rattle.fst_base.specs.Sorts.{Srt, s_bool, plain_sort}
use Rattle.fst_base.proofs.SortLemmas.{plain-sort-List, plain-sort-Pair}
use Rattle.fst_terms.specs.declared.term.Term.{Term}
use Rattle.fst_terms.specs.declared.term.Term.TheVariants as T
use Rattle.fst_terms.proofs.PlainLemmas.{plain-term-Prim, plain-term-If}
use Rattle.fst_terms.specs.Terms.{Tm, Tms, t_prim, t_end, t_more, plain_term, plain_terms}
use Rattle.fst_terms.specs.Formulas.{equation, sort_of}
use Rattle.fst_terms.specs.Marks.{one_more, number_by}
use Rattle.fst_terms.specs.Naming.{is_data}
use Rattle.fst_terms.specs.Skeletons.{Skl, k_truth, k_atom, k_if, k_same, turned, same_atom, made_by, arg_of, rest_of, fst_term, snd_term, options_equal, eithers_equal, cons_equal, nil_equal, lists_equal, equation_form, skeleton, equal, at_most_form, less_form}
use Rattle.fst_shapes.specs.Relations.{is_same, relation}
use Rattle.fst_shapes.specs.Shapes.{shaped, number_in, Shapes, IsChoice, is_either, first_by, before_end, unless_made, ends_equal, bools_form}
use Rattle.fst_shapes.specs.Sides.{is_by, are_by, is_made, are_made, is_long, is_list_term, spine}
use Rattle.fst_shapes.specs.declared.shapes.Shape.{Shape}
use Rattle.fst_shapes.specs.declared.shapes.Shape.TheVariants as shape

-- ---- what was made

pub shape-is : (n : Tm → ℕ) (a : Result Shape OutOfMemory) (x : Shape) (k : Skl) → a ≡ Ok x → Shapes n a k → x ≡ shaped n k
unfolding Shapes
shape-is n a x k is h = IfOk-at_ok (λ s. s ≡ shaped n k) is h

pub shapes-residual : (Q : OutOfMemory → Type 0) (n : Tm → ℕ) (r : Result Shape OutOfMemory) (k : Skl) → IsErrAnd r Q → Shapes n r k
unfolding Shapes
shapes-residual Q n (Ok t) k h = absurd h
shapes-residual Q n (Err d) k h = tt

pub shapes-like : (n : Tm → ℕ) (r : Result Shape OutOfMemory) (k j : Skl) → shaped n k ≡ shaped n j → Shapes n r k → Shapes n r j
unfolding Shapes
shapes-like n r k j e h = IfOk-weaker r _ _ (λ s p. p ∙ e) h

pub shapes-as : (n : Tm → ℕ) (r : Result Shape OutOfMemory) (k j : Skl) → k ≡ j → Shapes n r k → Shapes n r j
shapes-as n r k j e h = subst (Shapes n r) e h

pub choice-is : (n : Tm → ℕ) (a b c : Result Shape OutOfMemory) (x y z : Shape) → a ≡ Ok x → b ≡ Ok y → c ≡ Ok z → (k p q : Skl) → Shapes n a k → Shapes n b p → Shapes n c q → Shapes n (Ok (shape.If x y z)) (k_if k p q)
unfolding Shapes
choice-is n a b c x y z is js ks k p q h i j =
    ap₂ (λ u v. shape.If u v z) (shape-is n a x k is h) (shape-is n b y p js i) ∙ ap (shape.If (shaped n k) (shaped n p)) (shape-is n c z q ks j)

pub agreement-is : (n : Tm → ℕ) (a b : Result Shape OutOfMemory) (x y : Shape) → a ≡ Ok x → b ≡ Ok y → (p q : Skl) → Shapes n a p → Shapes n b q → Shapes n (Ok (shape.Same x y)) (k_same p q)
unfolding Shapes
agreement-is n a b x y is js p q h i = ap₂ shape.Same (shape-is n a x p is h) (shape-is n b y q js i)

pub atom-made : (ts : List Term) (t : Tm) (a : ℕ) → a ≡ number_in ts t → Shapes (number_in ts) (Ok (shape.Atom a)) (k_atom t)
unfolding Shapes
atom-made ts t a e = ap shape.Atom e

-- a made atom whose term is known
pub atom-of : (ts : List Term) (r : Result Shape OutOfMemory) (t u : Tm) → t ≡ u → Shapes (number_in ts) r (k_atom t) → Shapes (number_in ts) r (k_atom u)
atom-of ts r t u e h = subst (λ x. Shapes (number_in ts) r (k_atom x)) e h

-- ---- numbers of atoms

first-step : (p : Tm → Bool) (u : Tm) (us : List Tm) → p u ≡ false → first_by p (u ∷ us) ≡ one_more (first_by p us)
first-step p u us e = ap (λ b. if b then 1 else one_more (first_by p us)) e

pub first-found : (p : Tm → Bool) (ts : List Term) (k : ℕ) (d : Term) → k < length ts → ((m : ℕ) → m < k → (e : Term) → p (plain_term (get_or ts m e)) ≡ false) → p (plain_term (get_or ts k d)) ≡ true → first_by p (map plain_term ts) ≡ k + 1
first-found p [] k d lt h e = absurd (omega (arith, lt))
first-found p (t ∷ ts) zero d lt h e = ap (λ b. if b then 1 else one_more (first_by p (map plain_term ts))) e
first-found p (t ∷ ts) (suc k) d lt h e =
    first-step p (plain_term t) (map plain_term ts) (h 0 (omega arith) t)
    ∙ ap one_more (first-found p ts k d (omega (arith, lt)) (λ m below f. h (suc m) (omega (arith, below)) f) e ∙ (let s : k + 1 ≡ suc k = omega arith in s))
    ∙ (let s : suc (suc k) ≡ suc k + 1 = omega arith in s)

pub first-none : (p : Tm → Bool) (ts : List Term) → ((m : ℕ) → m < length ts → (e : Term) → p (plain_term (get_or ts m e)) ≡ false) → first_by p (map plain_term ts) ≡ 0
first-none p [] h = refl
first-none p (t ∷ ts) h = first-step p (plain_term t) (map plain_term ts) (h 0 (omega arith) t) ∙ ap one_more (first-none p ts (λ m below f. h (suc m) (omega (arith, below)) f))

pub none-more : (p : Tm → Bool) (ts : List Term) (k : ℕ) (item : Term) → item ≡ get_or ts k item → k < length ts → ((m : ℕ) → m < k → (e : Term) → p (plain_term (get_or ts m e)) ≡ false) → p (plain_term item) ≡ false
    → (m : ℕ) → m < k + 1 → (e : Term) → p (plain_term (get_or ts m e)) ≡ false
none-more p ts k item is lt h q m below e = go (cases_lt m k)
  where
    go : (m < k) ⊎ (k ≤ m) → p (plain_term (get_or ts m e)) ≡ false
    go (inl before) = h m before e
    go (inr le) = (let same : m ≡ k = omega arith in ap (λ j. p (plain_term (get_or ts j e))) same) ∙ ap (λ (t : Term). p (plain_term t)) (sym (is ∙ get_or_default ts k item e lt)) ∙ q

pub number-first : (ts : List Tm) (t s : Tm) → s ≡ turned t → first_by (is_either t s) ts ≡ number_by same_atom ts t
number-first [] t s e = refl
number-first (u ∷ us) t s e = ap₂ (λ b m. if b then 1 else one_more m) (ap (λ x. is_either t x u) e) (number-first us t s e)

-- ---- equations by how their sides meet

pub options-just : (E : Tm → Tm → Skl) (p q : Option Op) (t u : Tm) → are_by op.Just p q ≡ true → options_equal E p q t u ≡ E (arg_of t) (arg_of u)
options-just E (Some op.Just) (Some op.Just) t u e = refl
options-just E (Some op.Just) (Some o) t u e = cc
options-just E (Some op.Just) None t u e = cc
options-just E (Some o) q t u e = cc
options-just E None q t u e = cc

pub options-nothing : (E : Tm → Tm → Skl) (p q : Option Op) (t u : Tm) → are_by op.Nothing p q ≡ true → options_equal E p q t u ≡ k_truth true
options-nothing E (Some op.Nothing) (Some op.Nothing) t u e = refl
options-nothing E (Some op.Nothing) (Some o) t u e = cc
options-nothing E (Some op.Nothing) None t u e = cc
options-nothing E (Some o) q t u e = cc
options-nothing E None q t u e = cc

pub options-rest : (E : Tm → Tm → Skl) (p q : Option Op) (t u : Tm) → are_by op.Just p q ≡ false → are_by op.Nothing p q ≡ false → options_equal E p q t u ≡ unless_made p q t u
options-rest E (Some op.Nothing) (Some op.Nothing) t u e f = cc
options-rest E (Some op.Nothing) (Some o) t u e f = refl
options-rest E (Some op.Nothing) None t u e f = refl
options-rest E (Some op.Just) (Some op.Just) t u e f = cc
options-rest E (Some op.Just) (Some o) t u e f = refl
options-rest E (Some op.Just) None t u e f = refl
options-rest E (Some o) (Some p) t u e f = refl
options-rest E (Some o) None t u e f = refl
options-rest E None q t u e f = refl

pub eithers-left : (E F : Tm → Tm → Skl) (p q : Option Op) (t u : Tm) → are_by op.Inl p q ≡ true → eithers_equal E F p q t u ≡ E (arg_of t) (arg_of u)
eithers-left E F (Some op.Inl) (Some op.Inl) t u e = refl
eithers-left E F (Some op.Inl) (Some o) t u e = cc
eithers-left E F (Some op.Inl) None t u e = cc
eithers-left E F (Some o) q t u e = cc
eithers-left E F None q t u e = cc

pub eithers-right : (E F : Tm → Tm → Skl) (p q : Option Op) (t u : Tm) → are_by op.Inr p q ≡ true → eithers_equal E F p q t u ≡ F (arg_of t) (arg_of u)
eithers-right E F (Some op.Inr) (Some op.Inr) t u e = refl
eithers-right E F (Some op.Inr) (Some o) t u e = cc
eithers-right E F (Some op.Inr) None t u e = cc
eithers-right E F (Some o) q t u e = cc
eithers-right E F None q t u e = cc

pub eithers-rest : (E F : Tm → Tm → Skl) (p q : Option Op) (t u : Tm) → are_by op.Inl p q ≡ false → are_by op.Inr p q ≡ false → eithers_equal E F p q t u ≡ unless_made p q t u
eithers-rest E F (Some op.Inl) (Some op.Inl) t u e f = cc
eithers-rest E F (Some op.Inl) (Some o) t u e f = refl
eithers-rest E F (Some op.Inl) None t u e f = refl
eithers-rest E F (Some op.Inr) (Some op.Inr) t u e f = cc
eithers-rest E F (Some op.Inr) (Some o) t u e f = refl
eithers-rest E F (Some op.Inr) None t u e f = refl
eithers-rest E F (Some o) (Some p) t u e f = refl
eithers-rest E F (Some o) None t u e f = refl
eithers-rest E F None q t u e f = refl

-- ---- lists

cons-both : (head tail : Tm → Skl) (q : Option Op) (t u : Tm) → is_by op.Cons q ≡ true → cons_equal head tail q t u ≡ k_if (head (arg_of u)) (tail (rest_of u)) (k_truth false)
cons-both head tail (Some op.Cons) t u e = refl
cons-both head tail (Some o) t u e = cc
cons-both head tail None t u e = cc

cons-rest : (head tail : Tm → Skl) (q : Option Op) (t u : Tm) → is_by op.Cons q ≡ false → cons_equal head tail q t u ≡ unless_made (Some op.Cons) q t u
cons-rest head tail (Some op.Cons) t u e = cc
cons-rest head tail (Some o) t u e = refl
cons-rest head tail None t u e = refl

nil-rest : (q : Option Op) (t u : Tm) → nil_equal q t u ≡ (if are_by op.Nil (Some op.Nil) q then k_truth true else unless_made (Some op.Nil) q t u)
nil-rest (Some op.Nil) t u = refl
nil-rest (Some o) t u = refl
nil-rest None t u = refl

module _ (E : Tm → Tm → Skl) where
  -- two conses: their heads, then their tails
  pub lists-step : (t u : Tm) → is_long t ≡ true → is_by op.Cons (made_by u) ≡ true → lists_equal E t u ≡ k_if (E (arg_of t) (arg_of u)) (lists_equal E (rest_of t) (rest_of u)) (k_truth false)
  lists-step (t_prim op.Cons S (t_more x (t_more r t_end)) at) u e f = cons-both (E x) (lists_equal E r) (made_by u) (t_prim op.Cons S (t_more x (t_more r t_end)) at) u f
  lists-step t u e f = cc

  pub lists-end : (t u : Tm) → (is_long t && is_by op.Cons (made_by u)) ≡ false → lists_equal E t u ≡ ends_equal t (made_by u) u
  lists-end (t_prim op.Cons S (t_more x (t_more r t_end)) at) u e = cons-rest (E x) (lists_equal E r) (made_by u) (t_prim op.Cons S (t_more x (t_more r t_end)) at) u e
  lists-end (t_prim op.Nil S ts at) u e = nil-rest (made_by u) (t_prim op.Nil S ts at) u
  lists-end t u e = refl

  -- one more head before the end
  pub heads-more : (n : Tm → ℕ) (whole : Shape) (heads new : List Shape) (t u x y r s : Tm) (head : Shape) → is_long t ≡ true → is_by op.Cons (made_by u) ≡ true → x ≡ arg_of t → y ≡ arg_of u → head ≡ shaped n (E x y) → new ≡ heads ++ head ∷ []
      → r ≡ rest_of t → s ≡ rest_of u → whole ≡ before_end heads (shaped n (lists_equal E t u)) → whole ≡ before_end new (shaped n (lists_equal E r s))
  heads-more n whole heads new t u x y r s head long cons p q h g a b w =
      let front : head ≡ shaped n (E (arg_of t) (arg_of u)) = h ∙ ap₂ (λ x y. shaped n (E x y)) p q in
      let rest : shaped n (lists_equal E r s) ≡ shaped n (lists_equal E (rest_of t) (rest_of u)) = ap₂ (λ x y. shaped n (lists_equal E x y)) a b in
      w ∙ ap (before_end heads) (ap (shaped n) (lists-step t u long cons) ∙ ap₂ (λ x y. shape.If x y (shape.Truth false)) (sym front) (sym rest))
      ∙ sym (ap (λ ss. before_end ss (shaped n (lists_equal E r s))) g ∙ last-head heads head (shaped n (lists_equal E r s)))
    where
      last-head : (heads : List Shape) (head end : Shape) → before_end (heads ++ head ∷ []) end ≡ before_end heads (shape.If head end (shape.Truth false))
      last-head [] head end = refl
      last-head (s ∷ ss) head end = ap (λ x. shape.If s x (shape.Truth false)) (last-head ss head end)

pub ends-other : (t u : Tm) (q : Option Op) → is_list_term t ≡ false → k_atom (equation t u) ≡ ends_equal t q u
ends-other t u q p = sym (ap (λ b. if b then (if are_by op.Nil (made_by t) q then k_truth true else unless_made (made_by t) q t u) else k_atom (equation t u)) p)

pub ends-nil : (t u : Tm) (q : Option Op) → is_list_term t ≡ true → are_by op.Nil (made_by t) q ≡ true → k_truth true ≡ ends_equal t q u
ends-nil t u q p e =
    sym (ap (λ b. if b then (if are_by op.Nil (made_by t) q then k_truth true else unless_made (made_by t) q t u) else k_atom (equation t u)) p
    ∙ ap (λ b. if b then k_truth true else unless_made (made_by t) q t u) e)

pub ends-rest : (t u : Tm) (q : Option Op) → is_list_term t ≡ true → are_by op.Nil (made_by t) q ≡ false → unless_made (made_by t) q t u ≡ ends_equal t q u
ends-rest t u q p e =
    sym (ap (λ b. if b then (if are_by op.Nil (made_by t) q then k_truth true else unless_made (made_by t) q t u) else k_atom (equation t u)) p
    ∙ ap (λ b. if b then k_truth true else unless_made (made_by t) q t u) e)

-- ---- heads before an end

pub before-begun : (n : Tm → ℕ) (k : Skl) (heads : List Shape) (end all : Result Shape OutOfMemory) → all ≡ end → Shapes n end k → IfOk all (λ made. before_end heads made ≡ before_end heads (shaped n k))
unfolding Shapes
before-begun n k heads end all e h = subst (λ r. IfOk r (λ made. before_end heads made ≡ before_end heads (shaped n k))) (sym e) (IfOk-weaker end _ _ (λ s p. ap (before_end heads) p) h)

before-last : (heads : List Shape) (head end : Shape) → before_end (heads ++ head ∷ []) end ≡ before_end heads (shape.If head end (shape.Truth false))
before-last [] head end = refl
before-last (s ∷ ss) head end = ap (λ x. shape.If s x (shape.Truth false)) (before-last ss head end)

pub before-more : (n : Tm → ℕ) (old rest : List Shape) (head end : Shape) (all t r : Result Shape OutOfMemory) → old ≡ rest ++ head ∷ [] → IfOk all (λ made. before_end old made ≡ end) → Shapes n t (k_truth false)
    → IfOk r (λ made. IsChoice (Ok head) all t made) → IfOk r (λ made. before_end rest made ≡ end)
before-more n old rest head end all t r is inv h m =
    IfOk-weaker r _ _
    (λ made w.
    (let x : head ≡ w.first = ok-same head w.first w.test_is in
    let z : w.third ≡ shape.Truth false = shape-is n t w.third (k_truth false) w.right_is h in
    ap (before_end rest) (w.is ∙ ap₂ (λ x z. shape.If x w.second z) (sym x) z) ∙ sym (before-last rest head w.second) ∙ ap (λ ss. before_end ss w.second) (sym is) ∙ IfOk-at_ok (λ made. before_end old made ≡ end) w.left_is inv))
    m
  where
    ok-same : (x y : Shape) → ◌≡◌ {A = Result Shape OutOfMemory} (Ok x) (Ok y) → x ≡ y
    ok-same x y e = cc

pub before-done : (n : Tm → ℕ) (k : Skl) (heads now : List Shape) (all : Result Shape OutOfMemory) → now ≡ [] → IfOk all (λ made. before_end now made ≡ before_end heads (shaped n k)) → IfOk all (λ made. made ≡ before_end heads (shaped n k))
before-done n k heads now all e h = IfOk-weaker all _ _ (λ made p. sym (ap (λ ss. before_end ss made) e) ∙ p) h

pub and-true : (a b : Bool) → (a && b) ≡ true → (a ≡ true) × (b ≡ true)
and-true true b h = (refl, h)
and-true false b h = cc

pub heads-step : (E : Tm → Tm → Skl) (n : Tm → ℕ) (whole : Shape) (heads new : List Shape) (t u x y r s : Tm) (head : Shape) → (is_long t && is_by op.Cons (made_by u)) ≡ true → x ≡ arg_of t → y ≡ arg_of u → Shapes n (Ok head) (E x y) → new ≡ heads ++ head ∷ []
    → r ≡ rest_of t → s ≡ rest_of u → whole ≡ before_end heads (shaped n (lists_equal E t u)) → whole ≡ before_end new (shaped n (lists_equal E r s))
heads-step E n whole heads new t u x y r s head long p q h g a b w =
    let both = and-true (is_long t) (is_by op.Cons (made_by u)) long in
    heads-more E n whole heads new t u x y r s head both.0 both.1 p q (shape-is n (Ok head) head (E x y) refl h) g a b w

pub spine-falls : (t r : Tm) → is_long t ≡ true → r ≡ rest_of t → spine r < spine t
spine-falls (t_prim op.Cons S (t_more x (t_more s t_end)) at) r e f = rw f (omega arith)
spine-falls t r e f = cc

pub lists-done : (E : Tm → Tm → Skl) (n : Tm → ℕ) (r : Result Shape OutOfMemory) (k : Skl) (heads : List Shape) (t u : Tm) → (is_long t && is_by op.Cons (made_by u)) ≡ false → shaped n k ≡ before_end heads (shaped n (lists_equal E t u))
    → IfOk r (λ made. made ≡ before_end heads (shaped n (ends_equal t (made_by u) u))) → Shapes n r k
unfolding Shapes
lists-done E n r k heads t u end whole h = IfOk-weaker r _ _ (λ made e. e ∙ ap (λ j. before_end heads (shaped n j)) (sym (lists-end E t u end)) ∙ sym whole) h

-- ---- primitives

module _ (Ss : List Srt) where
  form-same : (S : Srt) (p q : Skl) (t u : Tm) → not (is_data S) ≡ true → equation_form S p q t u ≡ k_same p q
  form-same s_bool p q t u e = refl
  form-same S p q t u e = cc

  form-other : (S : Srt) (p q : Skl) (t u : Tm) → not (is_data S) ≡ false → equation_form S p q t u ≡ equal S t u
  form-other s_bool p q t u e = cc
  form-other S p q t u e = refl

  pub same-form : (o : Op) (S : Srt) (ts : Tms) (at : ℕ) → is_same Ss o ts ≡ true → skeleton Ss (t_prim o S ts at) ≡ bools_form Ss ts
  same-form op.Eq S (t_more t (t_more u t_end)) at e = form-same (sort_of Ss t) (skeleton Ss t) (skeleton Ss u) t u e
  same-form op.Eq S t_end at e = cc
  same-form op.Eq S (t_more t t_end) at e = cc
  same-form op.Eq S (t_more t (t_more u (t_more v ts))) at e = cc
  same-form o S ts at e = cc

  pub other-form : (o : Op) (S : Srt) (ts : Tms) (at : ℕ) → is_same Ss o ts ≡ false → skeleton Ss (t_prim o S ts at) ≡ relation Ss o ts (t_prim o S ts at)
  other-form op.Eq S (t_more t (t_more u t_end)) at e = form-other (sort_of Ss t) (skeleton Ss t) (skeleton Ss u) t u e
  other-form op.Eq S t_end at e = refl
  other-form op.Eq S (t_more t t_end) at e = refl
  other-form op.Eq S (t_more t (t_more u (t_more v ts))) at e = refl
  other-form op.Le S t_end at e = refl
  other-form op.Le S (t_more t t_end) at e = refl
  other-form op.Le S (t_more t (t_more u t_end)) at e = refl
  other-form op.Le S (t_more t (t_more u (t_more v ts))) at e = refl
  other-form op.Lt S t_end at e = refl
  other-form op.Lt S (t_more t t_end) at e = refl
  other-form op.Lt S (t_more t (t_more u t_end)) at e = refl
  other-form op.Lt S (t_more t (t_more u (t_more v ts))) at e = refl
  other-form o S ts at e = refl

  pub two-bools : (o : Op) (ts : Tms) → is_same Ss o ts ≡ true → is_same Ss op.Eq ts ≡ true
  two-bools op.Eq ts e = e
  two-bools o ts e = cc

-- ---- two bools, as the code meets them

pub bools-pair : (Ss : List Srt) (ts : List Term) (x y : Term) → length ts ≡ 2 → x ≡ get_or ts 0 x → y ≡ get_or ts 1 y → k_same (skeleton Ss (plain_term x)) (skeleton Ss (plain_term y)) ≡ bools_form Ss (plain_terms ts)
bools-pair Ss [] x y h e f = absurd (omega (arith, h))
bools-pair Ss (t ∷ []) x y h e f = absurd (omega (arith, h))
bools-pair Ss (t ∷ u ∷ []) x y h e f = ap₂ (λ t u. k_same (skeleton Ss (plain_term t)) (skeleton Ss (plain_term u))) e f
bools-pair Ss (t ∷ u ∷ v ∷ ts) x y h e f = absurd (omega (arith, h))

pub bools-none : (Ss : List Srt) (ts : List Term) → (length ts ≡ 2 → ⊥) → k_truth true ≡ bools_form Ss (plain_terms ts)
bools-none Ss [] h = refl
bools-none Ss (t ∷ []) h = refl
bools-none Ss (t ∷ u ∷ []) h = absurd (h refl)
bools-none Ss (t ∷ u ∷ v ∷ ts) h = refl

-- ---- sorts and formulas, as the code goes over them

pub list-form : (t u : Tm) (w i j : Sort) → w ≡ S.List i → j ≡ i → lists_equal (equal (plain_sort j)) t u ≡ equal (plain_sort w) t u
list-form t u w i j is e = ap (λ i. lists_equal (equal (plain_sort i)) t u) e ∙ sym (ap (λ w. equal (plain_sort w) t u) is ∙ ap (λ S. equal S t u) (plain-sort-List i))

pub pair-form : (t u : Tm) (w a b a' b' : Sort) → w ≡ S.Pair a b → a' ≡ a → b' ≡ b
    → k_if (equal (plain_sort a') (fst_term (plain_sort a') t) (fst_term (plain_sort a') u)) (equal (plain_sort b') (snd_term (plain_sort b') t) (snd_term (plain_sort b') u)) (k_truth false) ≡ equal (plain_sort w) t u
pair-form t u w a b a' b' is e f =
    ap₂ (λ a b. k_if (equal (plain_sort a) (fst_term (plain_sort a) t) (fst_term (plain_sort a) u)) (equal (plain_sort b) (snd_term (plain_sort b) t) (snd_term (plain_sort b) u)) (k_truth false)) e f
    ∙ sym (ap (λ w. equal (plain_sort w) t u) is ∙ ap (λ S. equal S t u) (plain-sort-Pair a b))

pub prim-same : (Ss : List Srt) (b : Bool) (o : Op) (S : Sort) (ts first second : List Term) (p : Pos) (w : Term) → w ≡ T.Prim o S ts p → first ≡ ts → second ≡ ts → b ≡ is_same Ss o (plain_terms first) → b ≡ true
    → bools_form Ss (plain_terms second) ≡ skeleton Ss (plain_term w)
prim-same Ss b o S ts first second p w is ef es d h =
    ap (λ ts. bools_form Ss (plain_terms ts)) es
    ∙ sym (ap (λ t. skeleton Ss (plain_term t)) is ∙ ap (skeleton Ss) (plain-term-Prim o S ts p) ∙ same-form Ss o (plain_sort S) (plain_terms ts) p.at (ap (λ ts. is_same Ss o (plain_terms ts)) (sym ef) ∙ sym d ∙ h))

pub prim-other : (Ss : List Srt) (b : Bool) (o : Op) (S : Sort) (ts first second : List Term) (p : Pos) (w : Term) → w ≡ T.Prim o S ts p → first ≡ ts → second ≡ ts → b ≡ is_same Ss o (plain_terms first) → b ≡ false
    → relation Ss o (plain_terms second) (plain_term w) ≡ skeleton Ss (plain_term w)
prim-other Ss b o S ts first second p w is ef es d h =
    let open_w : plain_term w ≡ t_prim o (plain_sort S) (plain_terms ts) p.at = ap plain_term is ∙ plain-term-Prim o S ts p in
    ap₂ (λ ts v. relation Ss o (plain_terms ts) v) es open_w
    ∙ sym (ap (skeleton Ss) open_w ∙ other-form Ss o (plain_sort S) (plain_terms ts) p.at (ap (λ ts. is_same Ss o (plain_terms ts)) (sym ef) ∙ sym d ∙ h))

pub if-form : (Ss : List Srt) (c t u c' t' u' w : Term) → w ≡ T.If c t u → c' ≡ c → t' ≡ t → u' ≡ u → k_if (skeleton Ss (plain_term c')) (skeleton Ss (plain_term t')) (skeleton Ss (plain_term u')) ≡ skeleton Ss (plain_term w)
if-form Ss c t u c' t' u' w is ec et eu =
    ap₂ (λ c t. k_if (skeleton Ss (plain_term c)) (skeleton Ss (plain_term t)) (skeleton Ss (plain_term u'))) ec et ∙ ap (λ u. k_if (skeleton Ss (plain_term c)) (skeleton Ss (plain_term t)) (skeleton Ss (plain_term u))) eu
    ∙ sym (ap (λ w. skeleton Ss (plain_term w)) is ∙ ap (skeleton Ss) (plain-term-If c t u))
