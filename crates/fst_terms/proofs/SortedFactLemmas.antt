-- Atoms, subterms and data facts of well-sorted formulas are well sorted.
use Rattle.std.proofs.Common.{◌≡◌, ℕ, Bool, true, false, if◌then◌else◌, List, [], ◌∷◌, ◌++◌, get_or, ℤ, pos, refl, sym, ◌∙◌, subst}
use Rattle.std.specs.Prelude.{nat_abs, flat_map, All}
use Rattle.std.specs.Ordering.{int_eq}
use Rattle.std.proofs.lemmas.List.Elements.{All-head, All-tail}
use Rattle.fst_base.specs.declared.op.Op.{Op}
use Rattle.fst_base.specs.declared.op.Op.TheVariants as op
use Rattle.fst_base.specs.Sorts.{Srt, s_bool, s_int, s_a, s_b, s_opt, s_list, s_either, put_sorts}
use Rattle.fst_base.specs.Primitives.{in128}
use Rattle.fst_base.specs.Rows.{Fits, row_args, row_result}
use Rattle.fst_terms.specs.Terms.{Tm, Tms, t_int, t_unit, t_prim, t_if, t_app, t_end, t_more, listed}
use Rattle.fst_terms.specs.Formulas.{either, equation, at_most, less, nought, sort_of}
use Rattle.fst_terms.specs.Flats.{parts_of, parts_of_all, parts_of_each}
use Rattle.fst_terms.specs.Sorted.{TmSorted, TmsSorted}
use Rattle.fst_terms.proofs.MemberLemmas.{AllTm, all-append, firsts-all}
use Rattle.fst_terms.specs.Skeletons.{is_atom_among, first_atoms}
use Rattle.fst_terms.specs.DataFacts.{implies, op_term, nil_term, len_term, is_sort_among, list_fact, option_fact, either_fact, multiple, quotient_facts, facts_at, subterms}
use Rattle.fst_terms.proofs.TermSorts.{sort-sorted}

module _ (Applies : (k : ℕ) → List Srt → (S : Srt) → Type 0) (Ss : List Srt) where
  abbrev pub Sorted : Tm → Srt → Type 0
  Sorted t S = TmSorted Applies Ss t S

  -- the term has some sort; the term is a formula
  abbrev pub HasSort : Tm → Type 0
  HasSort t = (S : Srt) × Sorted t S

  abbrev pub IsFormula : Tm → Type 0
  IsFormula t = Sorted t s_bool

  -- ---- lists

  pub all-flat : {A : Type 0} (Q : Tm → Type 0) (f : A → List Tm) (xs : List A) → ((x : A) → AllTm Q (f x)) → AllTm Q (flat_map f xs)
  all-flat Q f [] h = tt
  all-flat Q f (x ∷ xs) h = all-append Q (f x) (flat_map f xs) (h x) (all-flat Q f xs h)

  -- what each of these terms gives has Q, where each of them has R
  pub all-flat-of : (R Q : Tm → Type 0) (f : Tm → List Tm) (ts : List Tm) → ((t : Tm) → R t → AllTm Q (f t)) → AllTm R ts → AllTm Q (flat_map f ts)
  all-flat-of R Q f [] h k = tt
  all-flat-of R Q f (t ∷ ts) h k = all-append Q (f t) (flat_map f ts) (h t k.0) (all-flat-of R Q f ts h k.1)

  pub all-weaker : (R Q : Tm → Type 0) (ts : List Tm) → ((t : Tm) → R t → Q t) → AllTm R ts → AllTm Q ts
  all-weaker R Q [] h k = tt
  all-weaker R Q (t ∷ ts) h k = (h t k.0, all-weaker R Q ts h k.1)

  pub all-given : (Q : Tm → Type 0) (ts : List Tm) → All Q ts → AllTm Q ts
  all-given Q [] h = tt
  all-given Q (t ∷ ts) h = (All-head Q t ts h, all-given Q ts (All-tail Q t ts h))

  pub first-all : (Q : Tm → Type 0) (met ts : List Tm) → AllTm Q met → AllTm Q ts → AllTm Q (first_atoms met ts)
  first-all Q met [] h k = h
  first-all Q met (t ∷ ts) h k = go (first-all Q met ts h k.1) (first-all Q (met ++ t ∷ []) ts (all-append Q met (t ∷ []) h (k.0, tt)) k.1) (is_atom_among t met)
    where
      go : AllTm Q (first_atoms met ts) → AllTm Q (first_atoms (met ++ t ∷ []) ts) → (b : Bool) → AllTm Q (first_atoms (if b then met else met ++ t ∷ []) ts)
      go old new true = old
      go old new false = new

  all-if : (Q : Tm → Type 0) (b : Bool) (ts us : List Tm) → AllTm Q ts → AllTm Q us → AllTm Q (if b then ts else us)
  all-if Q true ts us h k = h
  all-if Q false ts us h k = k

  -- ---- arguments

  one : (t : Tm) (A : Srt) → Sorted t A → TmsSorted Applies Ss (t_more t t_end) (A ∷ [])
  one t A h = (A, ([], (refl, h, refl)))

  two : (t u : Tm) (A B : Srt) → Sorted t A → Sorted u B → TmsSorted Applies Ss (t_more t (t_more u t_end)) (A ∷ B ∷ [])
  two t u A B h k = (A, (B ∷ [], (refl, h, one u B k)))

  pub first-of : (ts : Tms) (A : Srt) (As : List Srt) (Ts : List Srt) → Ts ≡ A ∷ As → TmsSorted Applies Ss ts Ts → Sorted (get_or (listed ts) 0 t_unit) A
  first-of t_end A As Ts q h = cc
  first-of (t_more t ts) A As Ts q h = let p : h.0 ≡ A = (let w = h.1.1.0 in cc) in subst (Sorted t) p h.1.1.1

  pub second-of : (ts : Tms) (A B : Srt) (As : List Srt) (Ts : List Srt) → Ts ≡ A ∷ B ∷ As → TmsSorted Applies Ss ts Ts → Sorted (get_or (listed ts) 1 t_unit) B
  second-of t_end A B As Ts q h = cc
  second-of (t_more t ts) A B As Ts q h = first-of ts B As h.1.0 (let w = h.1.1.0 in cc) h.1.1.2

  -- ---- formulas

  pub eq-sorted : (S : Srt) (t u : Tm) → Sorted t S → Sorted u S → IsFormula (equation t u)
  eq-sorted S t u h k = (refl, (S ∷ S ∷ [], (record { first = S; second = S; args = refl; result = refl }, two t u S S h k)))

  pub le-sorted : (t u : Tm) → Sorted t s_int → Sorted u s_int → IsFormula (at_most t u)
  le-sorted t u h k = (refl, (s_int ∷ s_int ∷ [], (record { first = s_int; second = s_int; args = refl; result = refl }, two t u s_int s_int h k)))

  lt-sorted : (t u : Tm) → Sorted t s_int → Sorted u s_int → IsFormula (less t u)
  lt-sorted t u h k = (refl, (s_int ∷ s_int ∷ [], (record { first = s_int; second = s_int; args = refl; result = refl }, two t u s_int s_int h k)))

  implies-sorted : (p q : Tm) → IsFormula p → IsFormula q → IsFormula (implies p q)
  implies-sorted p q h k = (h, k, refl)

  either-sorted : (p q : Tm) → IsFormula p → IsFormula q → IsFormula (either p q)
  either-sorted p q h k = (h, refl, k)

  len-sorted : (A : Srt) (u : Tm) → Sorted u (s_list A) → Sorted (len_term u) s_int
  len-sorted A u h = (refl, (s_list A ∷ [], (record { first = A; second = A; args = refl; result = refl }, one u (s_list A) h)))

  nil-sorted : (A : Srt) → Sorted (nil_term (s_list A)) (s_list A)
  nil-sorted A = (refl, ([], (record { first = A; second = A; args = refl; result = refl }, refl)))

  op-int : (o : Op) (t u : Tm) → Fits o (s_int ∷ s_int ∷ []) s_int → Sorted t s_int → Sorted u s_int → Sorted (op_term o s_int (t ∷ u ∷ [])) s_int
  op-int o t u f h k = (refl, (s_int ∷ s_int ∷ [], (f, two t u s_int s_int h k)))

  fits-int : (o : Op) → row_args o ≡ s_int ∷ s_int ∷ [] → row_result o ≡ s_int → Fits o (s_int ∷ s_int ∷ []) s_int
  fits-int o p q = record { first = s_int; second = s_int; args = rw p refl; result = rw q refl }

  -- a primitive with one argument, and with two
  pub one-sorted : (o : Op) (t : Tm) (A B C S : Srt) → row_args o ≡ A ∷ [] → (T : Srt) → S ≡ put_sorts B C (row_result o) → T ≡ put_sorts B C A → Sorted t T → Sorted (op_term o S (t ∷ [])) S
  one-sorted o t A B C S p T q r h =
      (refl, (put_sorts B C A ∷ [], (record { first = B; second = C; args = rw p refl; result = q }, one t (put_sorts B C A) (subst (Sorted t) r h))))

  hd-sorted : (A : Srt) (u : Tm) → Sorted u (s_list A) → Sorted (op_term op.Hd A (u ∷ [])) A
  hd-sorted A u h = one-sorted op.Hd u (s_list s_a) A A A refl (s_list A) refl refl h

  tl-sorted : (A : Srt) (u : Tm) → Sorted u (s_list A) → Sorted (op_term op.Tl (s_list A) (u ∷ [])) (s_list A)
  tl-sorted A u h = one-sorted op.Tl u (s_list s_a) A A (s_list A) refl (s_list A) refl refl h

  cons-sorted : (A : Srt) (x r : Tm) → Sorted x A → Sorted r (s_list A) → Sorted (op_term op.Cons (s_list A) (x ∷ r ∷ [])) (s_list A)
  cons-sorted A x r h k = (refl, (A ∷ s_list A ∷ [], (record { first = A; second = A; args = refl; result = refl }, two x r A (s_list A) h k)))

  none-sorted : (A : Srt) → Sorted (op_term op.Nothing (s_opt A) []) (s_opt A)
  none-sorted A = (refl, ([], (record { first = A; second = A; args = refl; result = refl }, refl)))

  the-sorted : (A : Srt) (u : Tm) → Sorted u (s_opt A) → Sorted (op_term op.Just (s_opt A) (op_term op.The A (u ∷ []) ∷ [])) (s_opt A)
  the-sorted A u h = one-sorted op.Just (op_term op.The A (u ∷ [])) s_a A A (s_opt A) refl A refl refl (one-sorted op.The u (s_opt s_a) A A A refl (s_opt A) refl refl h)

  left-sorted : (A B : Srt) (u : Tm) → Sorted u (s_either A B) → Sorted (op_term op.Inl (s_either A B) (op_term op.Outl A (u ∷ []) ∷ [])) (s_either A B)
  left-sorted A B u h = one-sorted op.Inl (op_term op.Outl A (u ∷ [])) s_a A B (s_either A B) refl A refl refl (one-sorted op.Outl u (s_either s_a s_b) A B A refl (s_either A B) refl refl h)

  right-sorted : (A B : Srt) (u : Tm) → Sorted u (s_either A B) → Sorted (op_term op.Inr (s_either A B) (op_term op.Outr B (u ∷ []) ∷ [])) (s_either A B)
  right-sorted A B u h = one-sorted op.Inr (op_term op.Outr B (u ∷ [])) s_b A B (s_either A B) refl B refl refl (one-sorted op.Outr u (s_either s_a s_b) A B B refl (s_either A B) refl refl h)

  list-fact-sorted : (A : Srt) (u : Tm) → Sorted u (s_list A) → IsFormula (list_fact (s_list A) u)
  list-fact-sorted A u h =
      either-sorted (equation u (nil_term (s_list A))) (equation u (op_term op.Cons (s_list A) (op_term op.Hd A (u ∷ []) ∷ op_term op.Tl (s_list A) (u ∷ []) ∷ [])))
      (eq-sorted (s_list A) u (nil_term (s_list A)) h (nil-sorted A))
      (eq-sorted (s_list A) u (op_term op.Cons (s_list A) (op_term op.Hd A (u ∷ []) ∷ op_term op.Tl (s_list A) (u ∷ []) ∷ [])) h
      (cons-sorted A (op_term op.Hd A (u ∷ [])) (op_term op.Tl (s_list A) (u ∷ [])) (hd-sorted A u h) (tl-sorted A u h)))

  option-fact-sorted : (A : Srt) (u : Tm) → Sorted u (s_opt A) → IsFormula (option_fact A u)
  option-fact-sorted A u h =
      either-sorted (equation u (op_term op.Nothing (s_opt A) [])) (equation u (op_term op.Just (s_opt A) (op_term op.The A (u ∷ []) ∷ [])))
      (eq-sorted (s_opt A) u (op_term op.Nothing (s_opt A) []) h (none-sorted A))
      (eq-sorted (s_opt A) u (op_term op.Just (s_opt A) (op_term op.The A (u ∷ []) ∷ [])) h (the-sorted A u h))

  either-fact-sorted : (A B : Srt) (u : Tm) → Sorted u (s_either A B) → IsFormula (either_fact (s_either A B) u)
  either-fact-sorted A B u h =
      either-sorted (equation u (op_term op.Inl (s_either A B) (op_term op.Outl A (u ∷ []) ∷ []))) (equation u (op_term op.Inr (s_either A B) (op_term op.Outr B (u ∷ []) ∷ [])))
      (eq-sorted (s_either A B) u (op_term op.Inl (s_either A B) (op_term op.Outl A (u ∷ []) ∷ [])) h (left-sorted A B u h))
      (eq-sorted (s_either A B) u (op_term op.Inr (s_either A B) (op_term op.Outr B (u ∷ []) ∷ [])) h (right-sorted A B u h))

  multiple-sorted : (u : Tm) (k : ℤ) → Sorted u s_int → Sorted (multiple u k) s_int
  multiple-sorted u k h = op-int op.Mul (t_int k) (op_term op.Div s_int (u ∷ t_int k ∷ [])) (fits-int op.Mul refl refl) refl (op-int op.Div u (t_int k) (fits-int op.Div refl refl) h refl)

  quotient-facts-sorted : (u : Tm) (k : ℤ) → Sorted u s_int → AllTm IsFormula (quotient_facts u k)
  quotient-facts-sorted u k h = (
    le-sorted (multiple u k) u (multiple-sorted u k h) h,
    all-if IsFormula (in128 (pos (nat_abs k))) _ []
        (lt-sorted u (op_term op.Add s_int (multiple u k ∷ t_int (pos (nat_abs k)) ∷ [])) h (op-int op.Add (multiple u k) (t_int (pos (nat_abs k))) (fits-int op.Add refl refl) (multiple-sorted u k h) refl), tt) tt,
  )

  -- data facts are formulas
  pub facts-sorted : (lens : List Srt) (t : Tm) → HasSort t → AllTm IsFormula (facts_at Ss lens t)
  facts-sorted lens (t_prim op.Len T (t_more u t_end) at) h =
      let f = h.1.1.1.0 in
      let k = first-of (t_more u t_end) (s_list f.first) [] h.1.1.0 f.args h.1.1.1.1 in
      let self = subst (Sorted (t_prim op.Len T (t_more u t_end) at)) (h.1.0 ∙ f.result) h.1 in (
        le-sorted nought (t_prim op.Len T (t_more u t_end) at) refl self,
        (
          implies-sorted (at_most (t_prim op.Len T (t_more u t_end) at) nought) (equation u (nil_term (sort_of Ss u))) (le-sorted (t_prim op.Len T (t_more u t_end) at) nought self refl)
              (subst (λ S. IsFormula (equation u (nil_term S))) (sym (sort-sorted Applies Ss u (s_list f.first) k)) (eq-sorted (s_list f.first) u (nil_term (s_list f.first)) k (nil-sorted f.first))),
          tt,
        ),
      )
  facts-sorted lens (t_prim op.Nil T t_end at) h =
      let f = h.1.1.1.0 in
      let self = subst (Sorted (t_prim op.Nil T t_end at)) (h.1.0 ∙ f.result) h.1 in
      all-if IsFormula (is_sort_among T lens) _ [] (eq-sorted s_int (len_term (t_prim op.Nil T t_end at)) nought (len-sorted f.first (t_prim op.Nil T t_end at) self) refl, tt) tt
  facts-sorted lens (t_prim op.Cons T (t_more x (t_more r t_end)) at) h =
      let f = h.1.1.1.0 in
      let self = subst (Sorted (t_prim op.Cons T (t_more x (t_more r t_end)) at)) (h.1.0 ∙ f.result) h.1 in
      let k = second-of (t_more x (t_more r t_end)) f.first (s_list f.first) [] h.1.1.0 f.args h.1.1.1.1 in
      all-if IsFormula (is_sort_among T lens) _ []
      (eq-sorted s_int (len_term (t_prim op.Cons T (t_more x (t_more r t_end)) at)) (op_term op.Add s_int (len_term r ∷ t_int (pos 1) ∷ [])) (len-sorted f.first (t_prim op.Cons T (t_more x (t_more r t_end)) at) self) (op-int op.Add (len_term r) (t_int (pos 1)) (fits-int op.Add refl refl) (len-sorted f.first r k) refl), tt) tt
  facts-sorted lens (t_prim op.Hd T (t_more u t_end) at) h =
      let f = h.1.1.1.0 in
      let k = first-of (t_more u t_end) (s_list f.first) [] h.1.1.0 f.args h.1.1.1.1 in
      (list-fact-sorted T u (subst (λ S. Sorted u (s_list S)) (sym f.result) k), tt)
  facts-sorted lens (t_prim op.Tl T (t_more u t_end) at) h =
      let f = h.1.1.1.0 in
      let k = first-of (t_more u t_end) (s_list f.first) [] h.1.1.0 f.args h.1.1.1.1 in
      (subst (λ S. IsFormula (list_fact S u)) (sym f.result) (list-fact-sorted f.first u k), tt)
  facts-sorted lens (t_prim op.The T (t_more u t_end) at) h =
      let f = h.1.1.1.0 in
      let k = first-of (t_more u t_end) (s_opt f.first) [] h.1.1.0 f.args h.1.1.1.1 in
      (option-fact-sorted T u (subst (λ S. Sorted u (s_opt S)) (sym f.result) k), tt)
  facts-sorted lens (t_prim op.Outl T (t_more u t_end) at) h =
      let f = h.1.1.1.0 in
      let k = first-of (t_more u t_end) (s_either f.first f.second) [] h.1.1.0 f.args h.1.1.1.1 in
      (subst (λ S. IsFormula (either_fact S u)) (sym (sort-sorted Applies Ss u (s_either f.first f.second) k)) (either-fact-sorted f.first f.second u k), tt)
  facts-sorted lens (t_prim op.Outr T (t_more u t_end) at) h =
      let f = h.1.1.1.0 in
      let k = first-of (t_more u t_end) (s_either f.first f.second) [] h.1.1.0 f.args h.1.1.1.1 in
      (subst (λ S. IsFormula (either_fact S u)) (sym (sort-sorted Applies Ss u (s_either f.first f.second) k)) (either-fact-sorted f.first f.second u k), tt)
  facts-sorted lens (t_prim op.Div T (t_more u (t_more (t_int n) t_end)) at) h =
      let f = h.1.1.1.0 in
      let self = subst (Sorted (t_prim op.Div T (t_more u (t_more (t_int n) t_end)) at)) (h.1.0 ∙ f.result) h.1 in
      let k = first-of (t_more u (t_more (t_int n) t_end)) s_int (s_int ∷ []) h.1.1.0 f.args h.1.1.1.1 in
      all-if IsFormula (int_eq n (pos 0)) _ _ (eq-sorted s_int (t_prim op.Div T (t_more u (t_more (t_int n) t_end)) at) nought self refl, tt) (quotient-facts-sorted u n k)
  facts-sorted lens (t_prim op.Rem T (t_more u (t_more (t_int n) t_end)) at) h =
      let f = h.1.1.1.0 in
      let self = subst (Sorted (t_prim op.Rem T (t_more u (t_more (t_int n) t_end)) at)) (h.1.0 ∙ f.result) h.1 in
      let k = first-of (t_more u (t_more (t_int n) t_end)) s_int (s_int ∷ []) h.1.1.0 f.args h.1.1.1.1 in
      all-if IsFormula (int_eq n (pos 0)) _ _ (eq-sorted s_int (t_prim op.Rem T (t_more u (t_more (t_int n) t_end)) at) nought self refl, tt)
      (eq-sorted s_int (t_prim op.Rem T (t_more u (t_more (t_int n) t_end)) at) (op_term op.Sub s_int (u ∷ multiple u n ∷ [])) self (op-int op.Sub u (multiple u n) (fits-int op.Sub refl refl) k (multiple-sorted u n k)), quotient-facts-sorted u n k)
  facts-sorted lens t h = tt

  -- ---- subterms

  mutual
    pub parts-sorted : (t : Tm) → HasSort t → AllTm HasSort (parts_of t)
    parts-sorted (t_prim o T ts at) h = (h, parts-sorted-all ts h.1.1.0 h.1.1.1.1)
    parts-sorted (t_if c t u) h = (
      h,
      all-append HasSort (parts_of c ++ parts_of t) (parts_of u)
          (all-append HasSort (parts_of c) (parts_of t) (parts-sorted c (s_bool, h.1.0)) (parts-sorted t (h.0, h.1.1))) (parts-sorted u (h.0, h.1.2)),
    )
    parts-sorted (t_app k T ts) h = (h, parts-sorted-all ts h.1.1.0 h.1.1.1.1)
    parts-sorted t h = (h, tt)

    parts-sorted-all : (ts : Tms) (Ts : List Srt) → TmsSorted Applies Ss ts Ts → AllTm HasSort (parts_of_all ts)
    parts-sorted-all t_end Ts h = tt
    parts-sorted-all (t_more t ts) Ts h = all-append HasSort (parts_of t) (parts_of_all ts) (parts-sorted t (h.0, h.1.1.1)) (parts-sorted-all ts h.1.0 h.1.1.2)

  parts-sorted-each : (ts : List Tm) → AllTm HasSort ts → AllTm HasSort (parts_of_each ts)
  parts-sorted-each [] h = tt
  parts-sorted-each (t ∷ ts) h = all-append HasSort (parts_of t) (parts_of_each ts) (parts-sorted t h.0) (parts-sorted-each ts h.1)

  pub subterms-sorted : (ts : List Tm) → AllTm HasSort ts → AllTm HasSort (subterms ts)
  subterms-sorted ts h = firsts-all HasSort [] (parts_of_each ts) tt (parts-sorted-each ts h)
