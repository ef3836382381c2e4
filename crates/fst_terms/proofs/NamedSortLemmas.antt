-- Naming keeps sorts, and the names' values have their sorts.
use Rattle.std.proofs.Common.{◌≡◌, ℕ, suc, ◌+◌, Bool, true, false, ◌&&◌, if◌then◌else◌, List, [], ◌∷◌, ◌++◌, map, length, reverse, slice_get, Some, IsTrue, refl, sym, ap, ◌∙◌, subst, arith}
use Rattle.std.proofs.lemmas.Bool.{false≢true}
use mathlib.Core.List.{reverse_aux, reverse_aux-append}
use Rattle.fst_base.specs.Sorts.{Srt, s_bool}
use Rattle.fst_base.specs.Values.{Has, HasSorts}
use Rattle.fst_terms.specs.Terms.{Tm, Tms, t_var, t_int, t_bool, t_unit, t_prim, t_if, t_app, t_let, t_end, t_more}
use Rattle.fst_terms.specs.Meaning.{Env, Meaning, value, Vr}
use Rattle.fst_terms.specs.Formulas.{sort_of}
use Rattle.fst_terms.specs.Same.{same_term, is_among}
use Rattle.fst_terms.specs.Sorted.{TmSorted, TmsSorted}
use Rattle.fst_terms.specs.Flats.{sorts_of_vars}
use Rattle.fst_terms.proofs.SameLemmas.{same_term-decides}
use Rattle.fst_terms.proofs.MemberLemmas.{AllTm, all-append, Includes}
use Rattle.fst_terms.specs.Naming.{is_data, is_comparison, takes_data, named_in, named_among, name_index, renamed, all_renamed, name_fact, name_var}
use Rattle.fst_terms.specs.Sentences.{KeepsSorts}
use Rattle.fst_terms.proofs.TermSorts.{value-sorted, sort-sorted}
use Rattle.fst_terms.proofs.SortedFactLemmas.{HasSort, IsFormula, eq-sorted}
use Rattle.fst_terms.proofs.NamingLemmas.{NoLet, NoLets, includes-left, includes-right, named_env}

module _ (Applies : (k : ℕ) → List Srt → (S : Srt) → Type 0) (Ss : List Srt) where
  -- what is named in a well-sorted term is well sorted
  mutual
    pub names-sorted : (a : Bool) (t : Tm) (S : Srt) → TmSorted Applies Ss t S → AllTm (HasSort Applies Ss) (named_in Ss a t)
    names-sorted a (t_if c t u) S h =
        let Q = HasSort Applies Ss in
        let d = is_data (sort_of Ss t) in
        all-append Q (named_in Ss false c ++ named_in Ss d t ++ named_in Ss d u) (if a then t_if c t u ∷ [] else [])
        (all-append Q (named_in Ss false c ++ named_in Ss d t) (named_in Ss d u)
        (all-append Q (named_in Ss false c) (named_in Ss d t) (names-sorted false c s_bool h.0) (names-sorted d t S h.1)) (names-sorted d u S h.2)) (self a)
      where
        self : (b : Bool) → AllTm (HasSort Applies Ss) (if b then t_if c t u ∷ [] else [])
        self true = ((S, h), tt)
        self false = tt
    names-sorted a (t_prim o T ts at) S h =
        all-append (HasSort Applies Ss) (named_among Ss (takes_data Ss o ts) ts) (if a && is_comparison o then t_prim o T ts at ∷ [] else [])
        (names-sorted-among (takes_data Ss o ts) ts h.1.0 h.1.1.1) (self (a && is_comparison o))
      where
        self : (b : Bool) → AllTm (HasSort Applies Ss) (if b then t_prim o T ts at ∷ [] else [])
        self true = ((S, h), tt)
        self false = tt
    names-sorted a (t_app k T ts) S h = names-sorted-among true ts h.1.0 h.1.1.1
    names-sorted a t S h = tt

    names-sorted-among : (a : Bool) (ts : Tms) (Ts : List Srt) → TmsSorted Applies Ss ts Ts → AllTm (HasSort Applies Ss) (named_among Ss a ts)
    names-sorted-among a t_end Ts h = tt
    names-sorted-among a (t_more t ts) Ts h = all-append (HasSort Applies Ss) (named_in Ss a t) (named_among Ss a ts) (names-sorted a t h.0 h.1.1.1) (names-sorted-among a ts h.1.0 h.1.1.2)

  -- the sorts of the variables with these names after them
  abbrev pub named_sorts : List Tm → List Srt → List Srt
  named_sorts [] Rs = Rs
  named_sorts (u ∷ us) Rs = named_sorts us (sort_of Ss u ∷ Rs)

  sorts-later : (us : List Tm) (Rs : List Srt) (i : ℕ) → slice_get (named_sorts us Rs) (i + length us) ≡ slice_get Rs i
  sorts-later [] Rs i = ap (slice_get Rs) (omega arith)
  sorts-later (u ∷ us) Rs i = ap (slice_get (named_sorts us (sort_of Ss u ∷ Rs))) (omega arith) ∙ sorts-later us (sort_of Ss u ∷ Rs) (suc i)

  sorts-name : (us : List Tm) (Rs : List Srt) (t : Tm) → IsTrue (is_among t us) → slice_get (named_sorts us Rs) (name_index us t) ≡ Some (sort_of Ss t)
  sorts-name [] Rs t h = absurd (false≢true h)
  sorts-name (u ∷ us) Rs t h = go (sorts-name us (sort_of Ss u ∷ Rs) t) (same_term t u) refl h
    where
      go : (IsTrue (is_among t us) → slice_get (named_sorts us (sort_of Ss u ∷ Rs)) (name_index us t) ≡ Some (sort_of Ss t)) → (b : Bool) → same_term t u ≡ b → IsTrue (if b then true else is_among t us)
          → slice_get (named_sorts us (sort_of Ss u ∷ Rs)) (if b then length us else name_index us t) ≡ Some (sort_of Ss t)
      go ih true q k = ap (slice_get (named_sorts us (sort_of Ss u ∷ Rs))) (omega arith) ∙ sorts-later us (sort_of Ss u ∷ Rs) 0 ∙ ap (λ w. Some (sort_of Ss w)) (sym ((same_term-decides t u).0 q))
      go ih false q k = ih k

  -- the sequent's variables and then the names
  sorts-append : (xs ys : List Vr) → map (λ x. x.sort) (xs ++ ys) ≡ map (λ x. x.sort) xs ++ map (λ x. x.sort) ys
  sorts-append [] ys = refl
  sorts-append (x ∷ xs) ys = ap (λ Rs. x.sort ∷ Rs) (sorts-append xs ys)

  sorts-of-names : (us : List Tm) (Rs : List Srt) → reverse_aux (map (λ x. x.sort) (map (name_var Ss) us)) Rs ≡ named_sorts us Rs
  sorts-of-names [] Rs = refl
  sorts-of-names (u ∷ us) Rs = sorts-of-names us (sort_of Ss u ∷ Rs)

  pub sorts-named : (xs : List Vr) (us : List Tm) → sorts_of_vars (xs ++ map (name_var Ss) us) ≡ named_sorts us (sorts_of_vars xs)
  sorts-named xs us = ap (λ Rs. reverse Rs) (sorts-append xs (map (name_var Ss) us)) ∙ reverse_aux-append (map (λ x. x.sort) xs) (map (λ x. x.sort) (map (name_var Ss) us)) [] ∙ sorts-of-names us (sorts_of_vars xs)

  -- the values of the names have their sorts
  pub named-has : (M : Meaning) → KeepsSorts Applies M → (e0 : Env) → HasSorts Ss e0 → (us : List Tm) (Rs : List Srt) (e : Env) → AllTm (HasSort Applies Ss) us → HasSorts Rs e → HasSorts (named_sorts us Rs) (named_env M e0 us e)
  named-has M keeps e0 h [] Rs e s k = k
  named-has M keeps e0 h (u ∷ us) Rs e s k =
      named-has M keeps e0 h us (sort_of Ss u ∷ Rs) (value M u e0 ∷ e) s.1
      (subst (λ X. Has X (value M u e0)) (sym (sort-sorted Applies Ss u s.0.0 s.0.1)) (value-sorted Applies M keeps Ss u s.0.0 e0 s.0.1 h), k)

  module _ (ns : List Tm) where
    abbrev Is' : Tm → Srt → Type 0
    Is' t S = TmSorted Applies (named_sorts ns Ss) t S

    name-sorted : (t : Tm) (S : Srt) → TmSorted Applies Ss t S → IsTrue (is_among t ns) → Is' (t_var (name_index ns t)) S
    name-sorted t S h k = sorts-name ns Ss t k ∙ ap Some (sort-sorted Applies Ss t S h)

    mutual
      pub renamed-sorted : (a : Bool) (t : Tm) (S : Srt) → TmSorted Applies Ss t S → NoLet t → Includes (named_in Ss a t) ns → Is' (renamed Ss ns a t) S
      renamed-sorted a (t_var i) S h p k = sorts-later ns Ss i ∙ h
      renamed-sorted a (t_int n) S h p k = h
      renamed-sorted a (t_bool b) S h p k = h
      renamed-sorted a t_unit S h p k = h
      renamed-sorted a (t_if c t u) S h p k =
          let d = is_data (sort_of Ss t) in
          let nc = named_in Ss false c in
          let nt = named_in Ss d t in
          let nu = named_in Ss d u in
          let own = if a then t_if c t u ∷ [] else [] in
          let hp = includes-left (nc ++ nt ++ nu) own ns k in
          let hct = includes-left (nc ++ nt) nu ns hp in
          go a (includes-right (nc ++ nt ++ nu) own ns k)
          (renamed-sorted false c s_bool h.0 p.0 (includes-left nc nt ns hct), renamed-sorted d t S h.1 p.1 (includes-right nc nt ns hct), renamed-sorted d u S h.2 p.2 (includes-right (nc ++ nt) nu ns hp))
        where
          go : (b : Bool) → Includes (if b then t_if c t u ∷ [] else []) ns → Is' (t_if (renamed Ss ns false c) (renamed Ss ns (is_data (sort_of Ss t)) t) (renamed Ss ns (is_data (sort_of Ss t)) u)) S
              → Is' (if b then t_var (name_index ns (t_if c t u)) else t_if (renamed Ss ns false c) (renamed Ss ns (is_data (sort_of Ss t)) t) (renamed Ss ns (is_data (sort_of Ss t)) u)) S
          go true m q = name-sorted (t_if c t u) S h m.0
          go false m q = q
      renamed-sorted a (t_prim o T ts at) S h p k =
          let na = named_among Ss (takes_data Ss o ts) ts in
          let own = if a && is_comparison o then t_prim o T ts at ∷ [] else [] in
          go (a && is_comparison o) (includes-right na own ns k) (h.0, (h.1.0, (h.1.1.0, all-renamed-sorted (takes_data Ss o ts) ts h.1.0 h.1.1.1 p (includes-left na own ns k))))
        where
          go : (b : Bool) → Includes (if b then t_prim o T ts at ∷ [] else []) ns → Is' (t_prim o T (all_renamed Ss ns (takes_data Ss o ts) ts) at) S
              → Is' (if b then t_var (name_index ns (t_prim o T ts at)) else t_prim o T (all_renamed Ss ns (takes_data Ss o ts) ts) at) S
          go true m q = name-sorted (t_prim o T ts at) S h m.0
          go false m q = q
      renamed-sorted a (t_app j T ts) S h p k = (h.0, (h.1.0, (h.1.1.0, all-renamed-sorted true ts h.1.0 h.1.1.1 p k)))
      renamed-sorted a (t_let x t u) S h p k = absurd p

      all-renamed-sorted : (a : Bool) (ts : Tms) (Ts : List Srt) → TmsSorted Applies Ss ts Ts → NoLets ts → Includes (named_among Ss a ts) ns → TmsSorted Applies (named_sorts ns Ss) (all_renamed Ss ns a ts) Ts
      all-renamed-sorted a t_end Ts h p k = h
      all-renamed-sorted a (t_more t ts) Ts h p k =
          (h.0, (h.1.0, (h.1.1.0, renamed-sorted a t h.0 h.1.1.1 p.0 (includes-left (named_in Ss a t) (named_among Ss a ts) ns k), all-renamed-sorted a ts h.1.0 h.1.1.2 p.1 (includes-right (named_in Ss a t) (named_among Ss a ts) ns k))))

    -- the fact of a name is a formula
    fact-sorted : (d : Bool) (v u : Tm) (S : Srt) → Is' v S → Is' u S → Is' (name_fact d v u) s_bool
    fact-sorted true v (t_if c t u) S h k = (k.0, eq-sorted Applies (named_sorts ns Ss) S v t h k.1, eq-sorted Applies (named_sorts ns Ss) S v u h k.2)
    fact-sorted d v u S h k = eq-sorted Applies (named_sorts ns Ss) S v u h k

    pub facts-of-names-sorted : (us : List Tm) → AllTm (HasSort Applies Ss) us → AllTm NoLet us → AllTm (λ u. Includes (named_in Ss false u) ns) us → Includes us ns
        → AllTm (IsFormula Applies (named_sorts ns Ss)) (map (λ u. name_fact (is_data (sort_of Ss u)) (t_var (name_index ns u)) (renamed Ss ns false u)) us)
    facts-of-names-sorted [] s p c h = tt
    facts-of-names-sorted (u ∷ us) s p c h = (
      fact-sorted (is_data (sort_of Ss u)) (t_var (name_index ns u)) (renamed Ss ns false u) s.0.0 (name-sorted u s.0.0 s.0.1 h.0) (renamed-sorted false u s.0.0 s.0.1 p.0 c.0),
      facts-of-names-sorted us s.1 p.1 c.1 h.1,
    )
