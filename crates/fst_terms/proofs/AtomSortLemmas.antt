-- The atoms of a formula are formulas; data facts are true.
use Rattle.std.proofs.Common.{◌≡◌, ℕ, zero, suc, List, [], ◌∷◌, ◌++◌, get_or, Option, Some, None, refl, sym, subst}
use Rattle.std.specs.Prelude.{flat_map}
use Rattle.fst_base.specs.declared.op.Op.{Op}
use Rattle.fst_base.specs.declared.op.Op.TheVariants as op
use Rattle.fst_base.specs.Sorts.{Srt, s_unit, s_bool, s_int, s_a, s_b, s_pair, s_opt, s_list, s_either}
use Rattle.fst_base.specs.Values.{HasSorts}
use Rattle.fst_terms.specs.Terms.{Tm, t_int, t_bool, t_unit, t_prim, t_if, t_end, t_more, listed}
use Rattle.fst_terms.specs.Meaning.{Env, Meaning, Truth, AllTrue}
use Rattle.fst_terms.proofs.MemberLemmas.{AllTm, all-append, firsts-all}
use Rattle.fst_terms.specs.Skeletons.{made_by, arg_of, rest_of, fst_term, snd_term, simple, numbers_equal, options_equal, eithers_equal, cons_equal, nil_equal, lists_equal, equal, at_most_form, less_form, equation_form, skeleton, atoms_in, atoms_of}
use Rattle.fst_terms.specs.DataFacts.{facts_at, subterms, len_sorts, next_facts, again, data_facts}
use Rattle.fst_terms.specs.Sentences.{KeepsSorts, DataFactsTrue}
use Rattle.fst_terms.proofs.TermSorts.{sort-sorted}
use Rattle.fst_terms.proofs.FactLemmas.{facts-true}
use Rattle.fst_terms.proofs.SortedFactLemmas.{Sorted, HasSort, IsFormula, all-flat-of, all-weaker, all-given, first-all, first-of, second-of, eq-sorted, le-sorted, one-sorted, facts-sorted, subterms-sorted}

module _ (Applies : (k : ℕ) → List Srt → (S : Srt) → Type 0) (Ss : List Srt) where
  abbrev Is : Tm → Srt → Type 0
  Is t S = Sorted Applies Ss t S

  abbrev Formulas : List Tm → Type 0
  Formulas ts = AllTm (IsFormula Applies Ss) ts

  -- ---- components

  pub fst-sorted : (S T : Srt) (t : Tm) → Is t (s_pair S T) → Is (fst_term S t) S
  fst-sorted S T (t_prim op.Pair R ts at) h =
      let f = h.1.1.0 in
      let p : f.first ≡ S = (let a = h.0 in let b = f.result in cc) in
      subst (Is (get_or (listed ts) 0 t_unit)) p (first-of Applies Ss ts f.first (f.second ∷ []) h.1.0 f.args h.1.1.1)
  fst-sorted S T t h = one-sorted Applies Ss op.Fst t (s_pair s_a s_b) S T S refl (s_pair S T) refl refl h

  pub snd-sorted : (S T : Srt) (t : Tm) → Is t (s_pair S T) → Is (snd_term T t) T
  snd-sorted S T (t_prim op.Pair R ts at) h =
      let f = h.1.1.0 in
      let p : f.second ≡ T = (let a = h.0 in let b = f.result in cc) in
      subst (Is (get_or (listed ts) 1 t_unit)) p (second-of Applies Ss ts f.first f.second [] h.1.0 f.args h.1.1.1)
  snd-sorted S T t h = one-sorted Applies Ss op.Snd t (s_pair s_a s_b) S T T refl (s_pair S T) refl refl h

  pub just-arg : (S : Srt) (t : Tm) → made_by t ≡ Some op.Just → Is t (s_opt S) → Is (arg_of t) S
  just-arg S (t_prim op.Just R ts at) e h =
      let f = h.1.1.0 in
      let p : f.first ≡ S = (let a = h.0 in let b = f.result in cc) in
      subst (Is (get_or (listed ts) 0 t_unit)) p (first-of Applies Ss ts f.first [] h.1.0 f.args h.1.1.1)
  just-arg S t e h = cc

  pub left-arg : (S T : Srt) (t : Tm) → made_by t ≡ Some op.Inl → Is t (s_either S T) → Is (arg_of t) S
  left-arg S T (t_prim op.Inl R ts at) e h =
      let f = h.1.1.0 in
      let p : f.first ≡ S = (let a = h.0 in let b = f.result in cc) in
      subst (Is (get_or (listed ts) 0 t_unit)) p (first-of Applies Ss ts f.first [] h.1.0 f.args h.1.1.1)
  left-arg S T t e h = cc

  pub right-arg : (S T : Srt) (t : Tm) → made_by t ≡ Some op.Inr → Is t (s_either S T) → Is (arg_of t) T
  right-arg S T (t_prim op.Inr R ts at) e h =
      let f = h.1.1.0 in
      let p : f.second ≡ T = (let a = h.0 in let b = f.result in cc) in
      subst (Is (get_or (listed ts) 0 t_unit)) p (first-of Applies Ss ts f.second [] h.1.0 f.args h.1.1.1)
  right-arg S T t e h = cc

  pub cons-first : (S : Srt) (t : Tm) → made_by t ≡ Some op.Cons → Is t (s_list S) → Is (arg_of t) S
  cons-first S (t_prim op.Cons R ts at) e h =
      let f = h.1.1.0 in
      let p : f.first ≡ S = (let a = h.0 in let b = f.result in cc) in
      subst (Is (get_or (listed ts) 0 t_unit)) p (first-of Applies Ss ts f.first (s_list f.first ∷ []) h.1.0 f.args h.1.1.1)
  cons-first S t e h = cc

  pub cons-rest : (S : Srt) (t : Tm) → made_by t ≡ Some op.Cons → Is t (s_list S) → Is (rest_of t) (s_list S)
  cons-rest S (t_prim op.Cons R ts at) e h =
      let f = h.1.1.0 in
      let p : f.first ≡ S = (let a = h.0 in let b = f.result in cc) in
      subst (λ X. Is (get_or (listed ts) 1 t_unit) (s_list X)) p (second-of Applies Ss ts f.first (s_list f.first) [] h.1.0 f.args h.1.1.1)
  cons-rest S t e h = cc

  -- ---- equations

  simple-sorted : (t : Tm) → Is t s_bool → Formulas (atoms_in (simple t))
  simple-sorted (t_bool b) h = tt
  simple-sorted t h = (h, tt)

  numbers-sorted : (t u : Tm) → Is t s_int → Is u s_int → Formulas (atoms_in (numbers_equal t u))
  numbers-sorted (t_int m) (t_int n) h k = tt
  numbers-sorted t u h k = (eq-sorted Applies Ss s_int t u h k, tt)

  abbrev EqualSorted : Srt → Type 0
  EqualSorted S = (t u : Tm) → Is t S → Is u S → Formulas (atoms_in (equal S t u))

  options-sorted : (S : Srt) → EqualSorted S → (t u : Tm) → Is t (s_opt S) → Is u (s_opt S) → Formulas (atoms_in (equal (s_opt S) t u))
  options-sorted S ih t u h k = go (made_by t) (made_by u) refl refl
    where
      go : (a b : Option Op) → made_by t ≡ a → made_by u ≡ b → Formulas (atoms_in (options_equal (equal S) a b t u))
      go (Some op.Nothing) (Some op.Nothing) e d = tt
      go (Some op.Just) (Some op.Just) e d = ih (arg_of t) (arg_of u) (just-arg S t e h) (just-arg S u d k)
      go (Some o) (Some p) e d = tt
      go a b e d = (eq-sorted Applies Ss (s_opt S) t u h k, tt)

  eithers-sorted : (S T : Srt) → EqualSorted S → EqualSorted T → (t u : Tm) → Is t (s_either S T) → Is u (s_either S T) → Formulas (atoms_in (equal (s_either S T) t u))
  eithers-sorted S T ih jh t u h k = go (made_by t) (made_by u) refl refl
    where
      go : (a b : Option Op) → made_by t ≡ a → made_by u ≡ b → Formulas (atoms_in (eithers_equal (equal S) (equal T) a b t u))
      go (Some op.Inl) (Some op.Inl) e d = ih (arg_of t) (arg_of u) (left-arg S T t e h) (left-arg S T u d k)
      go (Some op.Inr) (Some op.Inr) e d = jh (arg_of t) (arg_of u) (right-arg S T t e h) (right-arg S T u d k)
      go (Some o) (Some p) e d = tt
      go a b e d = (eq-sorted Applies Ss (s_either S T) t u h k, tt)

  lists-sorted : (S : Srt) → EqualSorted S → (t u : Tm) → Is t (s_list S) → Is u (s_list S) → Formulas (atoms_in (lists_equal (equal S) t u))
  lists-sorted S ih (t_prim op.Cons T (t_more x (t_more r t_end)) at) u h k = go (λ w l. lists-sorted S ih r w (cons-rest S (t_prim op.Cons T (t_more x (t_more r t_end)) at) refl h) l) (made_by u) refl
    where
      go : ((w : Tm) → Is w (s_list S) → Formulas (atoms_in (lists_equal (equal S) r w))) → (a : Option Op) → made_by u ≡ a → Formulas (atoms_in (cons_equal (equal S x) (lists_equal (equal S) r) a (t_prim op.Cons T (t_more x (t_more r t_end)) at) u))
      go tail (Some op.Cons) e =
          all-append (IsFormula Applies Ss) (atoms_in (equal S x (arg_of u)) ++ atoms_in (lists_equal (equal S) r (rest_of u))) []
          (all-append (IsFormula Applies Ss) (atoms_in (equal S x (arg_of u))) (atoms_in (lists_equal (equal S) r (rest_of u)))
          (ih x (arg_of u) (cons-first S (t_prim op.Cons T (t_more x (t_more r t_end)) at) refl h) (cons-first S u e k)) (tail (rest_of u) (cons-rest S u e k))) tt
      go tail (Some o) e = tt
      go tail None e = (eq-sorted Applies Ss (s_list S) (t_prim op.Cons T (t_more x (t_more r t_end)) at) u h k, tt)
  lists-sorted S ih (t_prim op.Nil T ts at) u h k = go (made_by u)
    where
      go : (a : Option Op) → Formulas (atoms_in (nil_equal a (t_prim op.Nil T ts at) u))
      go (Some op.Nil) = tt
      go (Some o) = tt
      go None = (eq-sorted Applies Ss (s_list S) (t_prim op.Nil T ts at) u h k, tt)
  lists-sorted S ih t u h k = (eq-sorted Applies Ss (s_list S) t u h k, tt)

  equal-sorted : (S : Srt) → EqualSorted S
  equal-sorted s_unit t u h k = tt
  equal-sorted s_bool t u h k = all-append (IsFormula Applies Ss) (atoms_in (simple t)) (atoms_in (simple u)) (simple-sorted t h) (simple-sorted u k)
  equal-sorted s_int t u h k = numbers-sorted t u h k
  equal-sorted s_a t u h k = (eq-sorted Applies Ss s_a t u h k, tt)
  equal-sorted s_b t u h k = (eq-sorted Applies Ss s_b t u h k, tt)
  equal-sorted (s_pair S T) t u h k =
      all-append (IsFormula Applies Ss) (atoms_in (equal S (fst_term S t) (fst_term S u)) ++ atoms_in (equal T (snd_term T t) (snd_term T u))) []
      (all-append (IsFormula Applies Ss) (atoms_in (equal S (fst_term S t) (fst_term S u))) (atoms_in (equal T (snd_term T t) (snd_term T u)))
      (equal-sorted S (fst_term S t) (fst_term S u) (fst-sorted S T t h) (fst-sorted S T u k))
      (equal-sorted T (snd_term T t) (snd_term T u) (snd-sorted S T t h) (snd-sorted S T u k))) tt
  equal-sorted (s_opt S) t u h k = options-sorted S (equal-sorted S) t u h k
  equal-sorted (s_list S) t u h k = lists-sorted S (equal-sorted S) t u h k
  equal-sorted (s_either S T) t u h k = eithers-sorted S T (equal-sorted S) (equal-sorted T) t u h k

  -- ---- formulas

  le-form-sorted : (t u : Tm) → Is t s_int → Is u s_int → Formulas (atoms_in (at_most_form t u))
  le-form-sorted (t_int m) (t_int n) h k = tt
  le-form-sorted t u h k = (le-sorted Applies Ss t u h k, tt)

  lt-form-sorted : (t u : Tm) → Is t s_int → Is u s_int → Formulas (atoms_in (less_form t u))
  lt-form-sorted (t_int m) (t_int n) h k = tt
  lt-form-sorted t u h k = (le-sorted Applies Ss u t k h, tt)

  eq-form-sorted : (A : Srt) (t u : Tm) → Is t A → Is u A → (Is t s_bool → Formulas (atoms_in (skeleton Ss t))) → (Is u s_bool → Formulas (atoms_in (skeleton Ss u))) → Formulas (atoms_in (equation_form A (skeleton Ss t) (skeleton Ss u) t u))
  eq-form-sorted s_bool t u h k ih jh = all-append (IsFormula Applies Ss) (atoms_in (skeleton Ss t)) (atoms_in (skeleton Ss u)) (ih h) (jh k)
  eq-form-sorted A t u h k ih jh = equal-sorted A t u h k

  pub skeleton-sorted : (phi : Tm) → Is phi s_bool → Formulas (atoms_in (skeleton Ss phi))
  skeleton-sorted (t_bool b) h = tt
  skeleton-sorted (t_if c t u) h =
      all-append (IsFormula Applies Ss) (atoms_in (skeleton Ss c) ++ atoms_in (skeleton Ss t)) (atoms_in (skeleton Ss u))
      (all-append (IsFormula Applies Ss) (atoms_in (skeleton Ss c)) (atoms_in (skeleton Ss t)) (skeleton-sorted c h.0) (skeleton-sorted t h.1)) (skeleton-sorted u h.2)
  skeleton-sorted (t_prim op.Le S (t_more t (t_more u t_end)) at) h =
      let f = h.1.1.0 in
      le-form-sorted t u (first-of Applies Ss (t_more t (t_more u t_end)) s_int (s_int ∷ []) h.1.0 f.args h.1.1.1) (second-of Applies Ss (t_more t (t_more u t_end)) s_int s_int [] h.1.0 f.args h.1.1.1)
  skeleton-sorted (t_prim op.Lt S (t_more t (t_more u t_end)) at) h =
      let f = h.1.1.0 in
      lt-form-sorted t u (first-of Applies Ss (t_more t (t_more u t_end)) s_int (s_int ∷ []) h.1.0 f.args h.1.1.1) (second-of Applies Ss (t_more t (t_more u t_end)) s_int s_int [] h.1.0 f.args h.1.1.1)
  skeleton-sorted (t_prim op.Eq S (t_more t (t_more u t_end)) at) h =
      let f = h.1.1.0 in
      let a = first-of Applies Ss (t_more t (t_more u t_end)) f.first (f.first ∷ []) h.1.0 f.args h.1.1.1 in
      let b = second-of Applies Ss (t_more t (t_more u t_end)) f.first f.first [] h.1.0 f.args h.1.1.1 in
      subst (λ X. Formulas (atoms_in (equation_form X (skeleton Ss t) (skeleton Ss u) t u))) (sym (sort-sorted Applies Ss t f.first a))
      (eq-form-sorted f.first t u a b (λ i. skeleton-sorted t i) (λ i. skeleton-sorted u i))
  skeleton-sorted t h = (h, tt)

  pub atoms-sorted : (phis : List Tm) → Formulas phis → Formulas (atoms_of Ss phis)
  atoms-sorted phis h =
      first-all Applies Ss (IsFormula Applies Ss) [] (flat_map (λ phi. atoms_in (skeleton Ss phi)) phis) tt
      (all-flat-of Applies Ss (IsFormula Applies Ss) (IsFormula Applies Ss) (λ phi. atoms_in (skeleton Ss phi)) phis skeleton-sorted h)

  -- the subterms of the atoms of formulas are well sorted
  pub atom-parts-sorted : (phis : List Tm) → Formulas phis → AllTm (HasSort Applies Ss) (subterms (atoms_of Ss phis))
  atom-parts-sorted phis h = subterms-sorted Applies Ss (atoms_of Ss phis) (all-weaker Applies Ss (IsFormula Applies Ss) (HasSort Applies Ss) (atoms_of Ss phis) (λ t i. (s_bool, i)) (atoms-sorted phis h))

  next-sorted : (lens : List Srt) (phis facts : List Tm) → Formulas phis → Formulas facts → Formulas (next_facts Ss lens phis facts)
  next-sorted lens phis facts h k =
      firsts-all (IsFormula Applies Ss) [] _ tt
      (all-flat-of Applies Ss (HasSort Applies Ss) (IsFormula Applies Ss) (facts_at Ss lens) (subterms (atoms_of Ss (phis ++ facts))) (facts-sorted Applies Ss lens)
      (atom-parts-sorted (phis ++ facts) (all-append (IsFormula Applies Ss) phis facts h k)))

  pub rounds-sorted : (n : ℕ) (lens : List Srt) (phis : List Tm) → Formulas phis → Formulas (again n (next_facts Ss lens phis) [])
  rounds-sorted zero lens phis h = tt
  rounds-sorted (suc n) lens phis h = next-sorted lens phis (again n (next_facts Ss lens phis) []) h (rounds-sorted n lens phis h)

  pub data-facts-sorted : (phis : List Tm) → Formulas phis → Formulas (data_facts Ss phis)
  data-facts-sorted phis h = rounds-sorted 6 (len_sorts Ss (subterms (atoms_of Ss phis))) phis h

  module _ (M : Meaning) (keeps : KeepsSorts Applies M) (e : Env) (has : HasSorts Ss e) where
    abbrev IsTrueHere : Tm → Type 0
    IsTrueHere phi = Truth M phi e

    to-each : (phis : List Tm) → AllTrue M phis e → AllTm IsTrueHere phis
    to-each [] h = tt
    to-each (phi ∷ phis) h = (h.0, to-each phis h.1)

    from-each : (phis : List Tm) → AllTm IsTrueHere phis → AllTrue M phis e
    from-each [] h = tt
    from-each (phi ∷ phis) h = (h.0, from-each phis h.1)

    next-true : (lens : List Srt) (phis facts : List Tm) → Formulas phis → Formulas facts → AllTrue M (next_facts Ss lens phis facts) e
    next-true lens phis facts h k =
        from-each _ (firsts-all IsTrueHere [] _ tt
        (all-flat-of Applies Ss (HasSort Applies Ss) IsTrueHere (facts_at Ss lens) (subterms (atoms_of Ss (phis ++ facts)))
        (λ t i. to-each (facts_at Ss lens t) (facts-true Applies M keeps Ss e has lens t i.0 i.1))
        (atom-parts-sorted (phis ++ facts) (all-append (IsFormula Applies Ss) phis facts h k))))

    pub data-facts-true : (phis : List Tm) → Formulas phis → AllTrue M (data_facts Ss phis) e
    data-facts-true phis h =
        let lens = len_sorts Ss (subterms (atoms_of Ss phis)) in
        next-true lens phis (again 5 (next_facts Ss lens phis) []) h (rounds-sorted 5 lens phis h)

-- data facts are true in every environment of the variables' sorts
pub data-facts-hold : (Applies : (k : ℕ) → List Srt → (S : Srt) → Type 0) → DataFactsTrue Applies
data-facts-hold Applies M keeps Ss phis formed e has = data-facts-true Applies Ss M keeps e has phis (all-given Applies Ss (IsFormula Applies Ss) phis formed)
