-- Each data fact of a well-sorted term is true, and each arrangement is.
use Rattle.std.proofs.Common.{◌≡◌, ℕ, ◌+◌, Bool, true, false, not, ◌&&◌, if◌then◌else◌, List, [], ◌∷◌, ◌++◌, ℤ, pos, ◌-ℤ◌, ◌*ℤ◌, refl, sym, ap, ◌∙◌, subst, arith}
use Rattle.std.specs.Prelude.{nat_abs, int_le, flat_map}
use Rattle.std.specs.Ordering.{int_eq}
use Rattle.std.proofs.lemmas.Bool.Decides.{Decides-int_eq}
use Rattle.std.proofs.lemmas.Bool.{le-leb, lt-leb}
use Rattle.fst_base.specs.declared.op.Op.{Op}
use Rattle.fst_base.specs.declared.op.Op.TheVariants as op
use Rattle.fst_base.specs.Sorts.{Srt, s_opt, s_list, s_either}
use Rattle.fst_base.specs.Values.{Val, v_bool, v_int, v_none, v_some, v_nil, v_cons, v_inl, v_inr, Has, HasSorts, same}
use Rattle.fst_base.specs.Primitives.{is_true, int_of, len_of, hd_of, tl_of, the_of, outl_of, outr_of, in128, quotient, remainder}
use Rattle.fst_base.proofs.ValueLemmas.{same-decides}
use Rattle.fst_terms.specs.Terms.{Tm, Tms, t_int, t_prim, t_end, t_more}
use Rattle.fst_terms.specs.Meaning.{Env, Meaning, value, AllTrue}
use Rattle.fst_terms.specs.Formulas.{sort_of}
use Rattle.fst_terms.specs.Same.{same_term}
use Rattle.fst_terms.specs.Sorted.{TmSorted, TmsSorted}
use Rattle.fst_terms.specs.DataFacts.{item_sort, left_sort, right_sort, is_sort_among, quotient_facts, facts_at, is_int, is_literal, arrangement, positions, arrangements, is_arranged, same_head, arguments}
use Rattle.fst_terms.specs.Sentences.{KeepsSorts, ArrangementsTrue}
use Rattle.fst_terms.proofs.DivisionLemmas.{quotient-low, quotient-high, remainder-is}
use Rattle.fst_terms.proofs.TermSorts.{value-sorted}

same-self : (v : Val) → same v v ≡ true
same-self v = (same-decides v v).1 refl

int-self : (n : ℤ) → int_eq n n ≡ true
int-self n = (Decides-int_eq n n).1 refl

-- ---- values of facts

-- b or not b
excluded : (b : Bool) → (if is_true (v_bool b) then v_bool true else (if is_true (v_bool b) then v_bool false else v_bool true)) ≡ v_bool true
excluded true = refl
excluded false = refl

len-low : (n : ℕ) → v_bool (int_le (pos 0) (pos n)) ≡ v_bool true
len-low n = ap v_bool (le-leb 0 n (omega arith))

len-none : (S : Srt) (L : Val) → Has (s_list S) L → (if is_true (v_bool (int_le (pos (len_of L)) (pos 0))) then v_bool (same L v_nil) else v_bool true) ≡ v_bool true
len-none S v_nil h = refl
len-none S (v_cons a b) h = let e = lt-leb (len_of b + 1) 0 (omega arith) in rw e refl
len-none S v h = absurd h

list-whole : (S A d : Srt) (L : Val) → Has (s_list S) L → (if is_true (v_bool (same L v_nil)) then v_bool true else v_bool (same L (v_cons (hd_of A L) (tl_of d L)))) ≡ v_bool true
list-whole S A d v_nil h = refl
list-whole S A d (v_cons a b) h = ap v_bool (same-self (v_cons a b))
list-whole S A d v h = absurd h

option-whole : (S d : Srt) (v : Val) → Has (s_opt S) v → (if is_true (v_bool (same v v_none)) then v_bool true else v_bool (same v (v_some (the_of d v)))) ≡ v_bool true
option-whole S d v_none h = refl
option-whole S d (v_some a) h = ap v_bool (same-self (v_some a))
option-whole S d v h = absurd h

either-whole : (S T c d : Srt) (v : Val) → Has (s_either S T) v → (if is_true (v_bool (same v (v_inl (outl_of c v)))) then v_bool true else v_bool (same v (v_inr (outr_of d v)))) ≡ v_bool true
either-whole S T c d (v_inl a) h = rw (same-self a) refl
either-whole S T c d (v_inr a) h = ap v_bool (same-self (v_inr a))
either-whole S T c d v h = absurd h

-- ---- lists of facts

module _ (M : Meaning) (e : Env) where
  all-if : (b : Bool) (phis psis : List Tm) → AllTrue M phis e → AllTrue M psis e → AllTrue M (if b then phis else psis) e
  all-if true phis psis h k = h
  all-if false phis psis h k = k

  all-if-known : (b : Bool) (phis psis : List Tm) → (b ≡ true → AllTrue M phis e) → (b ≡ false → AllTrue M psis e) → AllTrue M (if b then phis else psis) e
  all-if-known true phis psis h k = h refl
  all-if-known false phis psis h k = k refl

  pub all-append : (phis psis : List Tm) → AllTrue M phis e → AllTrue M psis e → AllTrue M (phis ++ psis) e
  all-append [] psis h k = k
  all-append (phi ∷ phis) psis h k = (h.0, all-append phis psis h.1 k)

  pub all-flat : {A : Type 0} (f : A → List Tm) (xs : List A) → ((x : A) → AllTrue M (f x) e) → AllTrue M (flat_map f xs) e
  all-flat f [] h = tt
  all-flat f (x ∷ xs) h = all-append (f x) (flat_map f xs) (h x) (all-flat f xs h)

  -- ---- arrangements

  arrangement-true : (Ss : List Srt) (t u : Tm) → AllTrue M (arrangement Ss t u) e
  arrangement-true Ss t u =
      all-if (not (same_term t u) && is_int (sort_of Ss t) && is_int (sort_of Ss u) && not (is_literal t && is_literal u)) _ []
      (excluded (same (value M t e) (value M u e)), tt) tt

  positions-true : (Ss : List Srt) (ts us : Tms) → AllTrue M (positions Ss ts us) e
  positions-true Ss (t_more t ts) (t_more u us) = all-append _ _ (arrangement-true Ss t u) (positions-true Ss ts us)
  positions-true Ss ts us = tt

  pub arrangements-true : (Ss : List Srt) (ts : List Tm) → AllTrue M (arrangements Ss ts) e
  arrangements-true Ss [] = tt
  arrangements-true Ss (t ∷ ts) =
      all-append _ _ (all-flat (λ u. if is_arranged t && same_head t u then positions Ss (arguments t) (arguments u) else []) ts
      (λ u. all-if (is_arranged t && same_head t u) _ [] (positions-true Ss (arguments t) (arguments u)) tt)) (arrangements-true Ss ts)

pub arrangements-hold : (Applies : (k : ℕ) → List Srt → (S : Srt) → Type 0) → ArrangementsTrue Applies
arrangements-hold Applies M Ss ts e = arrangements-true M e Ss ts

-- ---- data facts

module _ (Applies : (k : ℕ) → List Srt → (S : Srt) → Type 0) (M : Meaning) (keeps : KeepsSorts Applies M) (Ss : List Srt) (e : Env) (has : HasSorts Ss e) where
  -- the one argument of a term has a sort of the primitive's row
  argument : (o : Op) (T A : Srt) (u : Tm) (Ts : List Srt) → Ts ≡ A ∷ [] → TmsSorted Applies Ss (t_more u t_end) Ts → TmSorted Applies Ss u A
  argument o T A u Ts q h = let p : h.0 ≡ A = (let w = h.1.1.0 in cc) in subst (λ X. TmSorted Applies Ss u X) p h.1.1.1

  quotients-true : (u : Tm) (k : ℤ) → int_eq k (pos 0) ≡ false → AllTrue M (quotient_facts u k) e
  quotients-true u k q = (
    ap v_bool (quotient-low (int_of (value M u e)) k q),
    all-if M e (in128 (pos (nat_abs k))) _ [] (ap v_bool (quotient-high (int_of (value M u e)) k q), tt) tt,
  )

  zero-quotient : (k : ℤ) (z : ℤ) → int_eq k (pos 0) ≡ true → v_bool (same (v_int (quotient z k)) (v_int (pos 0))) ≡ v_bool true
  zero-quotient k z q = rw q refl

  zero-remainder : (k : ℤ) (z : ℤ) → int_eq k (pos 0) ≡ true → v_bool (same (v_int (remainder z k)) (v_int (pos 0))) ≡ v_bool true
  zero-remainder k z q = rw q refl

  rest-true : (z k : ℤ) → int_eq k (pos 0) ≡ false → v_bool (same (v_int (remainder z k)) (v_int (z -ℤ k *ℤ quotient z k))) ≡ v_bool true
  rest-true z k q = ap (λ n. v_bool (same (v_int (remainder z k)) (v_int n))) (sym (remainder-is z k q)) ∙ ap v_bool (int-self (remainder z k))

  -- the value of a term of a list, option or either sort
  module _ (lens : List Srt) where
    pub facts-true : (t : Tm) (S : Srt) → TmSorted Applies Ss t S → AllTrue M (facts_at Ss lens t) e
    facts-true (t_prim op.Len T (t_more u t_end) at) S h =
        let f = h.1.1.0 in
        let k = argument op.Len T (s_list f.first) u h.1.0 f.args h.1.1.1 in
        (len-low (len_of (value M u e)), (len-none f.first (value M u e) (value-sorted Applies M keeps Ss u (s_list f.first) e k has), tt))
    facts-true (t_prim op.Nil T t_end at) S h = all-if M e (is_sort_among T lens) _ [] (refl, tt) tt
    facts-true (t_prim op.Cons T (t_more x (t_more r t_end)) at) S h = all-if M e (is_sort_among T lens) _ [] (ap v_bool (int-self (pos (len_of (value M r e) + 1))), tt) tt
    facts-true (t_prim op.Hd T (t_more u t_end) at) S h =
        let f = h.1.1.0 in
        let k = argument op.Hd T (s_list f.first) u h.1.0 f.args h.1.1.1 in
        (list-whole f.first T (s_list T) (value M u e) (value-sorted Applies M keeps Ss u (s_list f.first) e k has), tt)
    facts-true (t_prim op.Tl T (t_more u t_end) at) S h =
        let f = h.1.1.0 in
        let k = argument op.Tl T (s_list f.first) u h.1.0 f.args h.1.1.1 in
        (list-whole f.first (item_sort T) T (value M u e) (value-sorted Applies M keeps Ss u (s_list f.first) e k has), tt)
    facts-true (t_prim op.The T (t_more u t_end) at) S h =
        let f = h.1.1.0 in
        let k = argument op.The T (s_opt f.first) u h.1.0 f.args h.1.1.1 in
        (option-whole f.first T (value M u e) (value-sorted Applies M keeps Ss u (s_opt f.first) e k has), tt)
    facts-true (t_prim op.Outl T (t_more u t_end) at) S h =
        let f = h.1.1.0 in
        let k = argument op.Outl T (s_either f.first f.second) u h.1.0 f.args h.1.1.1 in
        (either-whole f.first f.second (left_sort (sort_of Ss u)) (right_sort (sort_of Ss u)) (value M u e) (value-sorted Applies M keeps Ss u (s_either f.first f.second) e k has), tt)
    facts-true (t_prim op.Outr T (t_more u t_end) at) S h =
        let f = h.1.1.0 in
        let k = argument op.Outr T (s_either f.first f.second) u h.1.0 f.args h.1.1.1 in
        (either-whole f.first f.second (left_sort (sort_of Ss u)) (right_sort (sort_of Ss u)) (value M u e) (value-sorted Applies M keeps Ss u (s_either f.first f.second) e k has), tt)
    facts-true (t_prim op.Div T (t_more u (t_more (t_int k) t_end)) at) S h =
        all-if-known M e (int_eq k (pos 0)) _ _ (λ q. (zero-quotient k (int_of (value M u e)) q, tt)) (λ q. quotients-true u k q)
    facts-true (t_prim op.Rem T (t_more u (t_more (t_int k) t_end)) at) S h =
        all-if-known M e (int_eq k (pos 0)) _ _ (λ q. (zero-remainder k (int_of (value M u e)) q, tt)) (λ q. (rest-true (int_of (value M u e)) k q, quotients-true u k q))
    facts-true t S h = tt
