-- Raising, putting terms in and putting sorts in keep sorts; and the sort of a well-sorted term is the one that is computed.
use Rattle.std.proofs.Common.{◌≡◌, ℕ, zero, suc, ◌+◌, Bool, true, false, not, ◌&&◌, if◌then◌else◌, nat_lt, List, [], ◌∷◌, ◌++◌, map, length, get_or, slice_get, Option, Some, None, IsTrue, refl, sym, ap, ap₂, ◌∙◌, subst, arith, ⊎_elim}
use Rattle.std.specs.Prelude.{⊤}
use Rattle.std.proofs.lemmas.Bool.{cases_lt, lt-ltb, le-ltb}
use Rattle.fst_base.specs.declared.op.Op.{Op}
use Rattle.fst_base.specs.declared.op.Op.TheVariants as op
use Rattle.fst_base.specs.Sorts.{Srt, s_unit, s_bool, s_a, s_b, s_pair, s_opt, s_list, s_either, put_sorts}
use Rattle.fst_base.specs.Rows.{Fits, row_args, row_result, is_inner}
use Rattle.fst_base.proofs.RowLemmas.{put_sorts-twice, put_sorts-same}
use Rattle.fst_terms.specs.Terms.{Tm, Tms, t_var, t_int, t_bool, t_unit, t_prim, t_if, t_app, t_let, t_end, t_more, listed, shift, shifts}
use Rattle.fst_terms.specs.Formulas.{component, or_else, make, put, puts, term_at, terms_at, sort_of}
use Rattle.fst_terms.specs.Sorted.{TmSorted, TmsSorted, is_run, are_run}

pub and-left : (a b : Bool) → IsTrue (a && b) → IsTrue a
and-left true b h = refl
and-left false b h = h

pub and-right : (a b : Bool) → IsTrue (a && b) → IsTrue b
and-right true b h = h
and-right false b h = cc

module _ (Applies : (k : ℕ) → List Srt → (S : Srt) → Type 0) where
  -- Ts is Ss with `by` more sorts at `from`
  abbrev Wider : (from by : ℕ) → List Srt → List Srt → Type 0
  Wider from by Ss Ts = (j : ℕ) (S : Srt) → slice_get Ss j ≡ Some S → slice_get Ts (if nat_lt j from then j else j + by) ≡ Some S

  lt_suc : (j i : ℕ) → nat_lt (suc j) (suc i) ≡ nat_lt j i
  lt_suc j i = ⊎_elim (λ lt. lt-ltb (suc j) (suc i) (omega arith) ∙ sym (lt-ltb j i lt)) (λ le. le-ltb (suc j) (suc i) (omega arith) ∙ sym (le-ltb j i le)) (cases_lt j i)

  wider-under : (from by : ℕ) (Ss Ts : List Srt) (T : Srt) → Wider from by Ss Ts → Wider (suc from) by (T ∷ Ss) (T ∷ Ts)
  wider-under from by Ss Ts T h zero S q = rw (lt-ltb 0 (suc from) (omega arith)) q
  wider-under from by Ss Ts T h (suc j) S q = rw (lt_suc j from) (go (nat_lt j from) (h j S q))
    where
      go : (b : Bool) → slice_get Ts (if b then j else j + by) ≡ Some S → slice_get (T ∷ Ts) (if b then suc j else suc j + by) ≡ Some S
      go true p = p
      go false p = let q : suc j + by ≡ suc (j + by) = omega arith in rw q p

  mutual
    shift-sorted : (from by : ℕ) (Ss Ts : List Srt) (t : Tm) (S : Srt) → Wider from by Ss Ts → TmSorted Applies Ss t S → TmSorted Applies Ts (shift from by t) S
    shift-sorted from by Ss Ts (t_var i) S w h = w i S h
    shift-sorted from by Ss Ts (t_int n) S w h = h
    shift-sorted from by Ss Ts (t_bool b) S w h = h
    shift-sorted from by Ss Ts t_unit S w h = h
    shift-sorted from by Ss Ts (t_prim o T ts at) S w h = (h.0, (h.1.0, (h.1.1.0, shifts-sorted from by Ss Ts ts h.1.0 w h.1.1.1)))
    shift-sorted from by Ss Ts (t_if c t u) S w h = (shift-sorted from by Ss Ts c s_bool w h.0, shift-sorted from by Ss Ts t S w h.1, shift-sorted from by Ss Ts u S w h.2)
    shift-sorted from by Ss Ts (t_app k T ts) S w h = (h.0, (h.1.0, (h.1.1.0, shifts-sorted from by Ss Ts ts h.1.0 w h.1.1.1)))
    shift-sorted from by Ss Ts (t_let x t u) S w h = (h.0, (shift-sorted from by Ss Ts t h.0 w h.1.0, shift-sorted (suc from) by (h.0 ∷ Ss) (h.0 ∷ Ts) u S (wider-under from by Ss Ts h.0 w) h.1.1))

    shifts-sorted : (from by : ℕ) (Ss Ts : List Srt) (ts : Tms) (Us : List Srt) → Wider from by Ss Ts → TmsSorted Applies Ss ts Us → TmsSorted Applies Ts (shifts from by ts) Us
    shifts-sorted from by Ss Ts t_end Us w h = h
    shifts-sorted from by Ss Ts (t_more t ts) Us w h = (h.0, (h.1.0, (h.1.1.0, shift-sorted from by Ss Ts t h.0 w h.1.1.1, shifts-sorted from by Ss Ts ts h.1.0 w h.1.1.2)))

  past-front : (Us Ss : List Srt) (j : ℕ) → slice_get (Us ++ Ss) (j + length Us) ≡ slice_get Ss j
  past-front [] Ss j = let q : j + 0 ≡ j = omega arith in rw q refl
  past-front (U ∷ Us) Ss j = let q : j + suc (length Us) ≡ suc (j + length Us) = omega arith in rw q (past-front Us Ss j)

  wider-front : (Us Ss : List Srt) → Wider 0 (length Us) Ss (Us ++ Ss)
  wider-front Us Ss j S q = rw (le-ltb j 0 (omega arith)) (past-front Us Ss j ∙ q)

  -- a term reads the same under more variables
  pub raise-sorted : (Us Ss : List Srt) (t : Tm) (S : Srt) → TmSorted Applies Ss t S → TmSorted Applies (Us ++ Ss) (shift 0 (length Us) t) S
  raise-sorted Us Ss t S h = shift-sorted 0 (length Us) Ss (Us ++ Ss) t S (wider-front Us Ss) h

  -- these terms have these sorts, each its own
  abbrev pub AllSorted : (Ss : List Srt) → List Tm → List Srt → Type 0
  AllSorted Ss [] [] = ⊤
  AllSorted Ss (u ∷ us) (U ∷ Us) = TmSorted Applies Ss u U × AllSorted Ss us Us
  AllSorted Ss _ _ = ⊥

  pub raise-all-sorted : (Us Ss : List Srt) (ts : List Tm) (Ts : List Srt) → AllSorted Ss ts Ts → AllSorted (Us ++ Ss) (map (shift 0 (length Us)) ts) Ts
  raise-all-sorted Us Ss [] [] h = tt
  raise-all-sorted Us Ss [] (T ∷ Ts) h = absurd h
  raise-all-sorted Us Ss (t ∷ ts) [] h = absurd h
  raise-all-sorted Us Ss (t ∷ ts) (T ∷ Ts) h = (raise-sorted Us Ss t T h.0, raise-all-sorted Us Ss ts Ts h.1)

  pub append-sorted : (Ss : List Srt) (ts us : List Tm) (Ts Us : List Srt) → AllSorted Ss ts Ts → AllSorted Ss us Us → AllSorted Ss (ts ++ us) (Ts ++ Us)
  append-sorted Ss [] us [] Us h k = k
  append-sorted Ss [] us (T ∷ Ts) Us h k = absurd h
  append-sorted Ss (t ∷ ts) us [] Us h k = absurd h
  append-sorted Ss (t ∷ ts) us (T ∷ Ts) Us h k = (h.0, append-sorted Ss ts us Ts Us h.1 k)

  -- ---- selectors

  module _ (Ss : List Srt) where
    first-sorted : (ts : Tms) (T : Srt) (Ts : List Srt) → TmsSorted Applies Ss ts (T ∷ Ts) → TmSorted Applies Ss (get_or (listed ts) 0 t_unit) T
    first-sorted t_end T Ts h = cc
    first-sorted (t_more t ts) T Ts h = let p : h.0 ≡ T = (let q = h.1.1.0 in cc) in subst (λ X. TmSorted Applies Ss t X) p h.1.1.1

    second-sorted : (ts : Tms) (T U : Srt) (Ts : List Srt) → TmsSorted Applies Ss ts (T ∷ U ∷ Ts) → TmSorted Applies Ss (get_or (listed ts) 1 t_unit) U
    second-sorted t_end T U Ts h = cc
    second-sorted (t_more t ts) T U Ts h =
        let p : h.1.0 ≡ U ∷ Ts = (let q = h.1.1.0 in cc) in
        first-sorted ts U Ts (subst (λ X. TmsSorted Applies Ss ts X) p h.1.1.2)

    -- the component has the sort, where there is one
    abbrev HasComponent : Option Tm → Srt → Type 0
    HasComponent None S = Unit {0}
    HasComponent (Some t) S = TmSorted Applies Ss t S

    one-arg : (o : Op) (C S : Srt) (ts : Tms) → TmSorted Applies Ss (t_prim o C ts 0) S → (A : Srt) → ((f : Fits o (A ∷ []) C) → S ≡ A) → Unit {0}
    one-arg o C S ts h A f = tt

    fst-sorted : (u : Tm) (A B : Srt) → TmSorted Applies Ss u (s_pair A B) → HasComponent (component op.Fst u) A
    fst-sorted (t_prim op.Pair T us at) A B h =
        let f = h.1.1.0 in
        let p : f.first ≡ A = (let q = h.0 in let r = f.result in cc) in
        subst (λ X. TmSorted Applies Ss (get_or (listed us) 0 t_unit) X) p (first-sorted us f.first (f.second ∷ []) (subst (λ X. TmsSorted Applies Ss us X) f.args h.1.1.1))
    fst-sorted u A B h = tt

    snd-sorted : (u : Tm) (A B : Srt) → TmSorted Applies Ss u (s_pair A B) → HasComponent (component op.Snd u) B
    snd-sorted (t_prim op.Pair T us at) A B h =
        let f = h.1.1.0 in
        let p : f.second ≡ B = (let q = h.0 in let r = f.result in cc) in
        subst (λ X. TmSorted Applies Ss (get_or (listed us) 1 t_unit) X) p (second-sorted us f.first f.second [] (subst (λ X. TmsSorted Applies Ss us X) f.args h.1.1.1))
    snd-sorted u A B h = tt

    hd-sorted : (u : Tm) (A : Srt) → TmSorted Applies Ss u (s_list A) → HasComponent (component op.Hd u) A
    hd-sorted (t_prim op.Cons T us at) A h =
        let f = h.1.1.0 in
        let p : f.first ≡ A = (let q = h.0 in let r = f.result in cc) in
        subst (λ X. TmSorted Applies Ss (get_or (listed us) 0 t_unit) X) p (first-sorted us f.first (s_list f.first ∷ []) (subst (λ X. TmsSorted Applies Ss us X) f.args h.1.1.1))
    hd-sorted u A h = tt

    tl-sorted : (u : Tm) (A : Srt) → TmSorted Applies Ss u (s_list A) → HasComponent (component op.Tl u) (s_list A)
    tl-sorted (t_prim op.Cons T us at) A h =
        let f = h.1.1.0 in
        let p : s_list f.first ≡ s_list A = (let q = h.0 in let r = f.result in cc) in
        subst (λ X. TmSorted Applies Ss (get_or (listed us) 1 t_unit) X) p (second-sorted us f.first (s_list f.first) [] (subst (λ X. TmsSorted Applies Ss us X) f.args h.1.1.1))
    tl-sorted u A h = tt

    the-sorted : (u : Tm) (A : Srt) → TmSorted Applies Ss u (s_opt A) → HasComponent (component op.The u) A
    the-sorted (t_prim op.Just T us at) A h =
        let f = h.1.1.0 in
        let p : f.first ≡ A = (let q = h.0 in let r = f.result in cc) in
        subst (λ X. TmSorted Applies Ss (get_or (listed us) 0 t_unit) X) p (first-sorted us f.first [] (subst (λ X. TmsSorted Applies Ss us X) f.args h.1.1.1))
    the-sorted u A h = tt

    outl-sorted : (u : Tm) (A B : Srt) → TmSorted Applies Ss u (s_either A B) → HasComponent (component op.Outl u) A
    outl-sorted (t_prim op.Inl T us at) A B h =
        let f = h.1.1.0 in
        let p : f.first ≡ A = (let q = h.0 in let r = f.result in cc) in
        subst (λ X. TmSorted Applies Ss (get_or (listed us) 0 t_unit) X) p (first-sorted us f.first [] (subst (λ X. TmsSorted Applies Ss us X) f.args h.1.1.1))
    outl-sorted u A B h = tt

    outr-sorted : (u : Tm) (A B : Srt) → TmSorted Applies Ss u (s_either A B) → HasComponent (component op.Outr u) B
    outr-sorted (t_prim op.Inr T us at) A B h =
        let f = h.1.1.0 in
        let p : f.second ≡ B = (let q = h.0 in let r = f.result in cc) in
        subst (λ X. TmSorted Applies Ss (get_or (listed us) 0 t_unit) X) p (first-sorted us f.second [] (subst (λ X. TmsSorted Applies Ss us X) f.args h.1.1.1))
    outr-sorted u A B h = tt

    component-sorted : (o : Op) (ts : Tms) (Ts : List Srt) (S : Srt) → Fits o Ts S → TmsSorted Applies Ss ts Ts → HasComponent (component o (get_or (listed ts) 0 t_unit)) S
    component-sorted op.Fst ts Ts S f h = subst (HasComponent (component op.Fst (get_or (listed ts) 0 t_unit))) (sym f.result) (fst-sorted _ f.first f.second (first-sorted ts (s_pair f.first f.second) [] (subst (λ X. TmsSorted Applies Ss ts X) f.args h)))
    component-sorted op.Snd ts Ts S f h = subst (HasComponent (component op.Snd (get_or (listed ts) 0 t_unit))) (sym f.result) (snd-sorted _ f.first f.second (first-sorted ts (s_pair f.first f.second) [] (subst (λ X. TmsSorted Applies Ss ts X) f.args h)))
    component-sorted op.Hd ts Ts S f h = subst (HasComponent (component op.Hd (get_or (listed ts) 0 t_unit))) (sym f.result) (hd-sorted _ f.first (first-sorted ts (s_list f.first) [] (subst (λ X. TmsSorted Applies Ss ts X) f.args h)))
    component-sorted op.Tl ts Ts S f h = subst (HasComponent (component op.Tl (get_or (listed ts) 0 t_unit))) (sym f.result) (tl-sorted _ f.first (first-sorted ts (s_list f.first) [] (subst (λ X. TmsSorted Applies Ss ts X) f.args h)))
    component-sorted op.The ts Ts S f h = subst (HasComponent (component op.The (get_or (listed ts) 0 t_unit))) (sym f.result) (the-sorted _ f.first (first-sorted ts (s_opt f.first) [] (subst (λ X. TmsSorted Applies Ss ts X) f.args h)))
    component-sorted op.Outl ts Ts S f h = subst (HasComponent (component op.Outl (get_or (listed ts) 0 t_unit))) (sym f.result) (outl-sorted _ f.first f.second (first-sorted ts (s_either f.first f.second) [] (subst (λ X. TmsSorted Applies Ss ts X) f.args h)))
    component-sorted op.Outr ts Ts S f h = subst (HasComponent (component op.Outr (get_or (listed ts) 0 t_unit))) (sym f.result) (outr-sorted _ f.first f.second (first-sorted ts (s_either f.first f.second) [] (subst (λ X. TmsSorted Applies Ss ts X) f.args h)))
    component-sorted o ts Ts S f h = tt

    pub make-sorted : (o : Op) (S : Srt) (ts : Tms) (at : ℕ) (Ts : List Srt) → Fits o Ts S → TmsSorted Applies Ss ts Ts → TmSorted Applies Ss (make o S ts at) S
    make-sorted o S ts at Ts f h = go (component o (get_or (listed ts) 0 t_unit)) (component-sorted o ts Ts S f h)
      where
        go : (c : Option Tm) → HasComponent c S → TmSorted Applies Ss (or_else c (t_prim o S ts at)) S
        go None k = (refl, (Ts, (f, h)))
        go (Some u) k = k

  -- ---- terms for variables

  lookup-sorted : (Ss : List Srt) (us : List Tm) (Us : List Srt) (i : ℕ) (S : Srt) → AllSorted Ss us Us → slice_get Us i ≡ Some S → TmSorted Applies Ss (get_or us i t_unit) S
  lookup-sorted Ss [] [] i S h q = cc
  lookup-sorted Ss [] (U ∷ Us) i S h q = absurd h
  lookup-sorted Ss (u ∷ us) [] i S h q = absurd h
  lookup-sorted Ss (u ∷ us) (U ∷ Us) zero S h q = let p : U ≡ S = cc in subst (λ X. TmSorted Applies Ss u X) p h.0
  lookup-sorted Ss (u ∷ us) (U ∷ Us) (suc i) S h q = lookup-sorted Ss us Us i S h.1 q

  mutual
    pub put-sorted : (Ss : List Srt) (us : List Tm) (Us : List Srt) (t : Tm) (S : Srt) → AllSorted Ss us Us → TmSorted Applies Us t S → TmSorted Applies Ss (put us t) S
    put-sorted Ss us Us (t_var i) S a h = lookup-sorted Ss us Us i S a h
    put-sorted Ss us Us (t_int n) S a h = h
    put-sorted Ss us Us (t_bool b) S a h = h
    put-sorted Ss us Us t_unit S a h = h
    put-sorted Ss us Us (t_prim o T ts at) S a h = subst (λ X. TmSorted Applies Ss (make o T (puts us ts) at) X) (sym h.0) (make-sorted Ss o T (puts us ts) at h.1.0 h.1.1.0 (puts-sorted Ss us Us ts h.1.0 a h.1.1.1))
    put-sorted Ss us Us (t_if c t u) S a h = (put-sorted Ss us Us c s_bool a h.0, put-sorted Ss us Us t S a h.1, put-sorted Ss us Us u S a h.2)
    put-sorted Ss us Us (t_app k T ts) S a h = (h.0, (h.1.0, (h.1.1.0, puts-sorted Ss us Us ts h.1.0 a h.1.1.1)))
    put-sorted Ss us Us (t_let x t u) S a h = (h.0, (put-sorted Ss us Us t h.0 a h.1.0, put-sorted (h.0 ∷ Ss) (t_var 0 ∷ map (shift 0 1) us) (h.0 ∷ Us) u S (refl, raise-all-sorted (h.0 ∷ []) Ss us Us a) h.1.1))

    pub puts-sorted : (Ss : List Srt) (us : List Tm) (Us : List Srt) (ts : Tms) (Ts : List Srt) → AllSorted Ss us Us → TmsSorted Applies Us ts Ts → TmsSorted Applies Ss (puts us ts) Ts
    puts-sorted Ss us Us t_end Ts a h = h
    puts-sorted Ss us Us (t_more t ts) Ts a h = (h.0, (h.1.0, (h.1.1.0, put-sorted Ss us Us t h.0 a h.1.1.1, puts-sorted Ss us Us ts h.1.0 a h.1.1.2)))

  -- ---- the sort of a term

  found : (Ss : List Srt) (i : ℕ) (S : Srt) → slice_get Ss i ≡ Some S → get_or Ss i s_unit ≡ S
  found [] i S q = cc
  found (T ∷ Ss) zero S q = cc
  found (T ∷ Ss) (suc i) S q = found Ss i S q

  pub sort-is : (Ss : List Srt) (t : Tm) (S : Srt) → TmSorted Applies Ss t S → sort_of Ss t ≡ S
  sort-is Ss (t_var i) S h = found Ss i S h
  sort-is Ss (t_int n) S h = sym h
  sort-is Ss (t_bool b) S h = sym h
  sort-is Ss t_unit S h = sym h
  sort-is Ss (t_prim o T ts at) S h = sym h.0
  sort-is Ss (t_if c t u) S h = sort-is Ss t S h.1
  sort-is Ss (t_app k T ts) S h = sym h.0
  sort-is Ss (t_let x t u) S h = ap (λ T. sort_of (T ∷ Ss) u) (sort-is Ss t h.0 h.1.0) ∙ sort-is (h.0 ∷ Ss) u S h.1.1

  pub sorts-are : (Ss : List Srt) (ts : List Tm) (Ts : List Srt) → AllSorted Ss ts Ts → map (sort_of Ss) ts ≡ Ts
  sorts-are Ss [] [] h = refl
  sorts-are Ss [] (T ∷ Ts) h = absurd h
  sorts-are Ss (t ∷ ts) [] h = absurd h
  sorts-are Ss (t ∷ ts) (T ∷ Ts) h = ap₂ ◌∷◌ (sort-is Ss t T h.0) (sorts-are Ss ts Ts h.1)

  -- ---- sorts for the sort variables

  module _ (A B : Srt) where
    put-twice-all : (first second : Srt) (Ss : List Srt) → map (put_sorts A B) (map (put_sorts first second) Ss) ≡ map (put_sorts (put_sorts A B first) (put_sorts A B second)) Ss
    put-twice-all first second [] = refl
    put-twice-all first second (S ∷ Ss) = ap₂ ◌∷◌ (put_sorts-twice A B first second S) (put-twice-all first second Ss)

    pub fits-at : (o : Op) (Ts : List Srt) (T : Srt) → Fits o Ts T → Fits o (map (put_sorts A B) Ts) (put_sorts A B T)
    fits-at o Ts T f = record {
      first = put_sorts A B f.first;
      second = put_sorts A B f.second;
      args = ap (map (put_sorts A B)) f.args ∙ put-twice-all f.first f.second (row_args o);
      result = ap (put_sorts A B) f.result ∙ put_sorts-twice A B f.first f.second (row_result o);
    }

    slice-map : (Ss : List Srt) (i : ℕ) (S : Srt) → slice_get Ss i ≡ Some S → slice_get (map (put_sorts A B) Ss) i ≡ Some (put_sorts A B S)
    slice-map [] i S q = cc
    slice-map (T ∷ Ss) zero S q = let p : T ≡ S = cc in ap (λ X. Some (put_sorts A B X)) p
    slice-map (T ∷ Ss) (suc i) S q = slice-map Ss i S q

    mutual
      pub at-sorted : (Ss : List Srt) (t : Tm) (S : Srt) → TmSorted Applies Ss t S → IsTrue (is_run t) → TmSorted Applies (map (put_sorts A B) Ss) (term_at A B t) (put_sorts A B S)
      at-sorted Ss (t_var i) S h r = slice-map Ss i S h
      at-sorted Ss (t_int n) S h r = ap (put_sorts A B) h
      at-sorted Ss (t_bool b) S h r = ap (put_sorts A B) h
      at-sorted Ss t_unit S h r = ap (put_sorts A B) h
      at-sorted Ss (t_prim o T ts at) S h r = (ap (put_sorts A B) h.0, (map (put_sorts A B) h.1.0, (fits-at o h.1.0 T h.1.1.0, all-at-sorted Ss ts h.1.0 h.1.1.1 (and-right (not (is_inner o)) (are_run ts) r))))
      at-sorted Ss (t_if c t u) S h r =
          let rest = and-left (is_run c && is_run t) (is_run u) r in
          (at-sorted Ss c s_bool h.0 (and-left (is_run c) (is_run t) rest), at-sorted Ss t S h.1 (and-right (is_run c) (is_run t) rest), at-sorted Ss u S h.2 (and-right (is_run c && is_run t) (is_run u) r))
      at-sorted Ss (t_app k T ts) S h r = cc
      at-sorted Ss (t_let x t u) S h r = cc

      pub all-at-sorted : (Ss : List Srt) (ts : Tms) (Ts : List Srt) → TmsSorted Applies Ss ts Ts → IsTrue (are_run ts) → TmsSorted Applies (map (put_sorts A B) Ss) (terms_at A B ts) (map (put_sorts A B) Ts)
      all-at-sorted Ss t_end Ts h r = ap (map (put_sorts A B)) h
      all-at-sorted Ss (t_more t ts) Ts h r = (put_sorts A B h.0, (map (put_sorts A B) h.1.0, (ap (map (put_sorts A B)) h.1.1.0, at-sorted Ss t h.0 h.1.1.1 (and-left (is_run t) (are_run ts) r), all-at-sorted Ss ts h.1.0 h.1.1.2 (and-right (is_run t) (are_run ts) r))))

mutual
  pub term_at-same : (t : Tm) → term_at s_a s_b t ≡ t
  term_at-same (t_var i) = refl
  term_at-same (t_int n) = refl
  term_at-same (t_bool b) = refl
  term_at-same t_unit = refl
  term_at-same (t_prim o S ts at) = rw (put_sorts-same S, terms_at-same ts) refl
  term_at-same (t_if c t u) = rw (term_at-same c, term_at-same t, term_at-same u) refl
  term_at-same (t_app k S ts) = rw (put_sorts-same S, terms_at-same ts) refl
  term_at-same (t_let x t u) = rw (term_at-same t, term_at-same u) refl

  pub terms_at-same : (ts : Tms) → terms_at s_a s_b ts ≡ ts
  terms_at-same t_end = refl
  terms_at-same (t_more t ts) = ap₂ t_more (term_at-same t) (terms_at-same ts)

pub map-same : (Ss : List Srt) → map (put_sorts s_a s_b) Ss ≡ Ss
map-same [] = refl
map-same (S ∷ Ss) = ap₂ ◌∷◌ (put_sorts-same S) (map-same Ss)
