-- The ways of constructors are the cases of the walk of a match.
use Rattle.std.proofs.Common.{◌≡◌, ℕ, true, false, List, [], ◌∷◌, ◌++◌, map, reverse, Option, Some, None, refl, sym, ap, ap₂, ◌∙◌, subst}
use Rattle.fst_base.specs.declared.op.Op.{Op}
use Rattle.fst_base.specs.declared.op.Op.TheVariants as op
use Rattle.fst_base.specs.Sorts.{Srt, s_bool, s_pair, s_opt, s_list, s_either}
use Rattle.fst_base.specs.Rows.{Fits}
use Rattle.fst_terms.specs.Terms.{Tm, Tms, t_bool, t_prim, t_end, t_more, row, listed}
use Rattle.fst_terms.specs.Formulas.{make, put, negation, equation}
use Rattle.fst_terms.specs.Same.{same_term}
use Rattle.fst_terms.specs.Sorted.{TmsSorted}
use Rattle.fst_terms.proofs.SameLemmas.{same_term-decides}
use Rattle.fst_program.specs.declared.comp.Con.{Con}
use Rattle.fst_program.specs.declared.comp.Con.TheVariants as con
use Rattle.fst_program.specs.declared.goal.SiteKind.{SiteKind}
use Rattle.fst_program.specs.declared.goal.Choice.TheVariants as choice
use Rattle.fst_program.specs.Texts.{Prog, if_there}
use Rattle.fst_program.specs.Paths.{Way, suppose, choose, over, Case, con_of, con_args, selectors, enter, family, op_of, part_sorts, same_con}
use Rattle.fst_program.specs.Sorted.{Applies, ConOf}
use Rattle.fst_star.specs.Transformers.{Wt}
use Rattle.fst_star.specs.Translation.{condition, con_ways}
use Rattle.fst_star.specs.Walking.{decided, by_look, wp_walk, ways_walk}
use Rattle.fst_star.proofs.PutLaws.{make-put}
use Rattle.fst_program.proofs.SortedTerms.{make-sorted}
use Rattle.fst_star.proofs.Places.{Sorted, AllOf}

-- ---- selectors with terms put in

pub put-selectors : (vs : List Tm) (c : Con) (S : Srt) (u : Tm) → map (put vs) (selectors c S u) ≡ selectors c S (put vs u)
put-selectors vs con.Full (s_opt S) u = ap (λ t. t ∷ []) (make-put vs op.The S (row (u ∷ [])) 0)
put-selectors vs con.Cons (s_list S) u = ap₂ (λ t v. t ∷ v ∷ []) (make-put vs op.Hd S (row (u ∷ [])) 0) (make-put vs op.Tl (s_list S) (row (u ∷ [])) 0)
put-selectors vs con.Left (s_either S T) u = ap (λ t. t ∷ []) (make-put vs op.Outl S (row (u ∷ [])) 0)
put-selectors vs con.Right (s_either S T) u = ap (λ t. t ∷ []) (make-put vs op.Outr T (row (u ∷ [])) 0)
put-selectors vs con.Pair (s_pair S T) u = ap₂ (λ t v. t ∷ v ∷ []) (make-put vs op.Fst S (row (u ∷ [])) 0) (make-put vs op.Snd T (row (u ∷ [])) 0)
put-selectors vs c S u = refl

puts-row : (vs : List Tm) (us : List Tm) → Rattle.fst_terms.specs.Formulas.puts vs (row us) ≡ row (map (put vs) us)
puts-row vs [] = refl
puts-row vs (u ∷ us) = ap (t_more (put vs u)) (puts-row vs us)

equation-put : (vs : List Tm) (c : Con) (S : Srt) (u : Tm) → (put vs (t_prim (op_of c) S (row (selectors c S u)) 0) ≡ t_prim (op_of c) S (Rattle.fst_terms.specs.Formulas.puts vs (row (selectors c S u))) 0) → put vs (equation u (t_prim (op_of c) S (row (selectors c S u)) 0)) ≡ equation (put vs u) (t_prim (op_of c) S (row (selectors c S (put vs u))) 0)
equation-put vs c S u q = ap (equation (put vs u)) (q ∙ ap (λ ts. t_prim (op_of c) S ts 0) (puts-row vs (selectors c S u) ∙ ap row (put-selectors vs c S u)))

pub put-condition : (vs : List Tm) (c : Con) (S : Srt) (u : Tm) → put vs (condition c S u) ≡ condition c S (put vs u)
put-condition vs con.True S u = refl
put-condition vs con.False S u = refl
put-condition vs con.Pair S u = refl
put-condition vs con.Empty S u = equation-put vs con.Empty S u refl
put-condition vs con.Full S u = equation-put vs con.Full S u refl
put-condition vs con.Nil S u = equation-put vs con.Nil S u refl
put-condition vs con.Cons S u = equation-put vs con.Cons S u refl
put-condition vs con.Left S u = equation-put vs con.Left S u refl
put-condition vs con.Right S u = equation-put vs con.Right S u refl

same_term-self : (t : Tm) → same_term t t ≡ true
same_term-self t = (same_term-decides t t).1 refl

-- ---- families

abbrev pub sort_family : Srt → List Con
sort_family s_bool = con.True ∷ con.False ∷ []
sort_family (s_opt S) = con.Empty ∷ con.Full ∷ []
sort_family (s_list S) = con.Nil ∷ con.Cons ∷ []
sort_family (s_either S T) = con.Left ∷ con.Right ∷ []
sort_family (s_pair S T) = con.Pair ∷ []
sort_family S = []

pub family-of : (c : Con) (T : Srt) → ConOf c T → family c ≡ sort_family T
family-of con.True s_bool h = refl
family-of con.False s_bool h = refl
family-of con.Empty (s_opt S) h = refl
family-of con.Full (s_opt S) h = refl
family-of con.Nil (s_list S) h = refl
family-of con.Cons (s_list S) h = refl
family-of con.Left (s_either S T) h = refl
family-of con.Right (s_either S T) h = refl
family-of con.Pair (s_pair S T) h = refl
family-of c T h = absurd h

pub same-con-is : (c d : Con) → same_con c d ≡ true → c ≡ d
same-con-is con.True con.True q = refl
same-con-is con.False con.False q = refl
same-con-is con.Empty con.Empty q = refl
same-con-is con.Full con.Full q = refl
same-con-is con.Nil con.Nil q = refl
same-con-is con.Cons con.Cons q = refl
same-con-is con.Left con.Left q = refl
same-con-is con.Right con.Right q = refl
same-con-is con.Pair con.Pair q = refl
same-con-is c d q = cc

module _ (X : Type 0) (A : Con → List Tm → Way → List X) (w : Way) where
  -- the ways of these constructors
  abbrev pub look_ways : List Con → (T : Srt) → Tm → List X
  look_ways [] T u = []
  look_ways (c ∷ cs) T u =
      by_look (decided (choice.Case c) (condition c T u)) (A c (selectors c T u) w) (A c (selectors c T u) (choose (choice.Case c) (suppose (condition c T u) w)))
      ++ look_ways cs T u

  abbrev pub on_case : Case → List X
  on_case c = A c.con c.parts c.way

  abbrev pub case_ways : List Con → (T : Srt) → Tm → List X
  case_ways cs T u = over (if_there (con_of u) (λ c. record { con = c; parts = con_args u; way = w } ∷ []) (map (λ c. record { con = c; parts = selectors c T u; way = enter c T u w }) cs)) on_case

  -- where the scrutinee is no constructor term
  look-open : (c : Con) (T : Srt) (u : Tm) → con_of u ≡ None → by_look (decided (choice.Case c) (condition c T u)) (A c (selectors c T u) w) (A c (selectors c T u) (choose (choice.Case c) (suppose (condition c T u) w))) ≡ A c (selectors c T u) (enter c T u w)
  look-open con.True T (t_bool true) q = cc
  look-open con.True T (t_bool false) q = cc
  look-open con.True T u q = refl
  look-open con.False T (t_bool true) q = cc
  look-open con.False T (t_bool false) q = cc
  look-open con.False T u q = refl
  look-open con.Pair T u q = refl
  look-open con.Empty T u q = rw q refl
  look-open con.Full T u q = rw q refl
  look-open con.Nil T u q = rw q refl
  look-open con.Cons T u q = rw q refl
  look-open con.Left T u q = rw q refl
  look-open con.Right T u q = rw q refl

  open-ways : (cs : List Con) (T : Srt) (u : Tm) → con_of u ≡ None → look_ways cs T u ≡ over (map (λ c. record { con = c; parts = selectors c T u; way = enter c T u w }) cs) on_case
  open-ways [] T u q = refl
  open-ways (c ∷ cs) T u q = ap₂ ◌++◌ (look-open c T u q) (open-ways cs T u q)

  -- where it is one
  abbrev Met : Tm → Srt → Option Con → Type 0
  Met u T None = Unit {0}
  Met u T (Some c) = look_ways (sort_family T) T u ≡ A c (con_args u) w ++ []

  module _ (P : Prog) (Ss : List Srt) where
    no-term : (ts : Tms) → TmsSorted (Applies P) Ss ts [] → ts ≡ t_end
    no-term t_end h = refl
    no-term (t_more t ts) h = let q = h.1.1.0 in cc

    one-term : (ts : Tms) (S : Srt) → TmsSorted (Applies P) Ss ts (S ∷ []) → (t : Tm) × (ts ≡ t_more t t_end)
    one-term t_end S h = cc
    one-term (t_more t (t_more u ts)) S h = let q = h.1.1.0 in let r = h.1.1.2.1.1.0 in cc
    one-term (t_more t t_end) S h = (t, refl)

    two-terms : (ts : Tms) (S T : Srt) → TmsSorted (Applies P) Ss ts (S ∷ T ∷ []) → (t : Tm) × ((u : Tm) × (ts ≡ t_more t (t_more u t_end)))
    two-terms t_end S T h = cc
    two-terms (t_more t t_end) S T h = let q = h.1.1.0 in let r = h.1.1.2 in cc
    two-terms (t_more t (t_more u (t_more x ts))) S T h = let q = h.1.1.0 in let r = h.1.1.2.1.1.0 in let z = h.1.1.2.1.1.2.1.1.0 in cc
    two-terms (t_more t (t_more u t_end)) S T h = (t, (u, refl))

    -- the primitive o of these terms at this sort, with the constructor c
    abbrev MetPrim : Con → Op → Srt → Tms → ℕ → Srt → Type 0
    MetPrim c o S ts at T = look_ways (sort_family T) T (t_prim o S ts at) ≡ A c (listed ts) w ++ []

    known : (u : Tm) (T : Srt) → Sorted P Ss u T → Met u T (con_of u)
    known (t_bool true) T h = subst (λ T. Met (t_bool true) T (Some con.True)) (sym h) refl
    known (t_bool false) T h = subst (λ T. Met (t_bool false) T (Some con.False)) (sym h) refl
    known (t_prim op.Nothing S ts at) T h =
        let f = h.1.1.0 in
        let q = no-term ts (subst (λ X. TmsSorted (Applies P) Ss ts X) f.args h.1.1.1) in
        subst (λ T. MetPrim con.Empty op.Nothing S ts at T) (sym (h.0 ∙ f.result)) (subst (λ ts. MetPrim con.Empty op.Nothing S ts at (s_opt f.first)) (sym q) refl)
    known (t_prim op.Just S ts at) T h =
        let f = h.1.1.0 in
        let q = one-term ts f.first (subst (λ X. TmsSorted (Applies P) Ss ts X) f.args h.1.1.1) in
        subst (λ T. MetPrim con.Full op.Just S ts at T) (sym (h.0 ∙ f.result)) (subst (λ ts. MetPrim con.Full op.Just S ts at (s_opt f.first)) (sym q.1) (rw (same_term-self q.0) refl))
    known (t_prim op.Nil S ts at) T h =
        let f = h.1.1.0 in
        let q = no-term ts (subst (λ X. TmsSorted (Applies P) Ss ts X) f.args h.1.1.1) in
        subst (λ T. MetPrim con.Nil op.Nil S ts at T) (sym (h.0 ∙ f.result)) (subst (λ ts. MetPrim con.Nil op.Nil S ts at (s_list f.first)) (sym q) refl)
    known (t_prim op.Cons S ts at) T h =
        let f = h.1.1.0 in
        let q = two-terms ts f.first (s_list f.first) (subst (λ X. TmsSorted (Applies P) Ss ts X) f.args h.1.1.1) in
        subst (λ T. MetPrim con.Cons op.Cons S ts at T) (sym (h.0 ∙ f.result)) (subst (λ ts. MetPrim con.Cons op.Cons S ts at (s_list f.first)) (sym q.1.1) (rw (same_term-self q.0, same_term-self q.1.0) refl))
    known (t_prim op.Inl S ts at) T h =
        let f = h.1.1.0 in
        let q = one-term ts f.first (subst (λ X. TmsSorted (Applies P) Ss ts X) f.args h.1.1.1) in
        subst (λ T. MetPrim con.Left op.Inl S ts at T) (sym (h.0 ∙ f.result)) (subst (λ ts. MetPrim con.Left op.Inl S ts at (s_either f.first f.second)) (sym q.1) (rw (same_term-self q.0) refl))
    known (t_prim op.Inr S ts at) T h =
        let f = h.1.1.0 in
        let q = one-term ts f.second (subst (λ X. TmsSorted (Applies P) Ss ts X) f.args h.1.1.1) in
        subst (λ T. MetPrim con.Right op.Inr S ts at T) (sym (h.0 ∙ f.result)) (subst (λ ts. MetPrim con.Right op.Inr S ts at (s_either f.first f.second)) (sym q.1) (rw (same_term-self q.0) refl))
    known (t_prim op.Pair S ts at) T h =
        let f = h.1.1.0 in
        let q = two-terms ts f.first f.second (subst (λ X. TmsSorted (Applies P) Ss ts X) f.args h.1.1.1) in
        subst (λ T. MetPrim con.Pair op.Pair S ts at T) (sym (h.0 ∙ f.result)) (subst (λ ts. MetPrim con.Pair op.Pair S ts at (s_pair f.first f.second)) (sym q.1.1) refl)
    known u T h = tt

    pub con-ways : (u : Tm) (T : Srt) → Sorted P Ss u T → look_ways (sort_family T) T u ≡ case_ways (sort_family T) T u
    con-ways u T h = go (con_of u) refl (known u T h)
      where
        go : (o : Option Con) → con_of u ≡ o → Met u T o → look_ways (sort_family T) T u ≡ over (if_there o (λ c. record { con = c; parts = con_args u; way = w } ∷ []) (map (λ c. record { con = c; parts = selectors c T u; way = enter c T u w }) (sort_family T))) on_case
        go None q m = open-ways (sort_family T) T u q
        go (Some c) q m = m

-- the parts of a scrutinee have their sorts
selector-sorted : (P : Prog) (Ss : List Srt) (o : Op) (S T : Srt) (u : Tm) → Fits o (T ∷ []) S → Sorted P Ss u T → Sorted P Ss (make o S (row (u ∷ [])) 0) S
selector-sorted P Ss o S T u f h = make-sorted (Applies P) Ss o S (row (u ∷ [])) 0 (T ∷ []) f (T, ([], (refl, h, refl)))

pub selectors-sorted : (P : Prog) (Ss : List Srt) (c : Con) (T : Srt) (u : Tm) → ConOf c T → Sorted P Ss u T → AllOf P Ss (reverse (selectors c T u)) (part_sorts c T)
selectors-sorted P Ss con.True s_bool u h s = tt
selectors-sorted P Ss con.False s_bool u h s = tt
selectors-sorted P Ss con.Empty (s_opt S) u h s = tt
selectors-sorted P Ss con.Full (s_opt S) u h s = (selector-sorted P Ss op.The S (s_opt S) u (record { first = S; second = S; args = refl; result = refl }) s, tt)
selectors-sorted P Ss con.Nil (s_list S) u h s = tt
selectors-sorted P Ss con.Cons (s_list S) u h s = (selector-sorted P Ss op.Tl (s_list S) (s_list S) u (record { first = S; second = S; args = refl; result = refl }) s, (selector-sorted P Ss op.Hd S (s_list S) u (record { first = S; second = S; args = refl; result = refl }) s, tt))
selectors-sorted P Ss con.Left (s_either S T) u h s = (selector-sorted P Ss op.Outl S (s_either S T) u (record { first = S; second = T; args = refl; result = refl }) s, tt)
selectors-sorted P Ss con.Right (s_either S T) u h s = (selector-sorted P Ss op.Outr T (s_either S T) u (record { first = S; second = T; args = refl; result = refl }) s, tt)
selectors-sorted P Ss con.Pair (s_pair S T) u h s = (selector-sorted P Ss op.Snd T (s_pair S T) u (record { first = S; second = T; args = refl; result = refl }) s, (selector-sorted P Ss op.Fst S (s_pair S T) u (record { first = S; second = T; args = refl; result = refl }) s, tt))
selectors-sorted P Ss c T u h s = absurd h

module _ (X : Type 0) (site : SiteKind → (place : ℕ) → Tm → Way → List X) where
  -- the walk of these ways, where each arm has its walk
  pub con-ways-walk : (A : Con → List Tm → Way → List X) (arm : Con → List Tm → Wt) (vs : List Tm) (w : Way) (k : Way → Tm → List X) (T : Srt) (u : Tm)
      → ((c : Con) (w1 : Way) → w1.vars ≡ w.vars → wp_walk X site (arm c (selectors c T u)) vs w1 k ≡ A c (selectors c T (put vs u)) w1)
      → (cs : List Con) → ways_walk X site (con_ways cs T u arm) vs w k ≡ look_ways X A w cs T (put vs u)
  con-ways-walk A arm vs w k T u h [] = refl
  con-ways-walk A arm vs w k T u h (c ∷ cs) =
      ap₂ ◌++◌
      (ap (λ phi. by_look (decided (choice.Case c) phi) (wp_walk X site (arm c (selectors c T u)) vs w k) (wp_walk X site (arm c (selectors c T u)) vs (choose (choice.Case c) (suppose phi w)) k)) (put-condition vs c T u)
      ∙ ap₂ (by_look (decided (choice.Case c) (condition c T (put vs u)))) (h c w refl) (h c (choose (choice.Case c) (suppose (condition c T (put vs u)) w)) refl))
      (con-ways-walk A arm vs w k T u h cs)
