-- Ways whose hypotheses are well sorted, and what well-sorted terms give on them: raised terms, divisions, the parts of a scrutinee. Which
-- applications there are is a parameter, so that they may be those of earlier functions.
use Rattle.std.proofs.Common.{◌≡◌, ℕ, suc, ◌+◌, ◌-◌, Bool, true, false, not, ◌&&◌, if◌then◌else◌, List, [], ◌∷◌, ◌++◌, map, reverse, length, get_or, Some, IsTrue, refl, sym, ap, ap₂, ◌∙◌, subst, arith}
use Rattle.std.specs.Prelude.{⊤}
use Rattle.fst_base.specs.declared.op.Op.{Op}
use Rattle.fst_base.specs.declared.op.Op.TheVariants as op
use Rattle.fst_base.specs.Sorts.{Srt, s_bool, s_int, s_pair, s_opt, s_list, s_either}
use Rattle.fst_base.specs.Rows.{Fits, is_inner}
use Rattle.fst_terms.specs.Terms.{Tm, Tms, t_var, t_int, t_bool, t_unit, t_prim, t_if, t_app, t_let, t_end, t_more, row, listed, shift}
use Rattle.fst_terms.specs.Meaning.{Vr}
use Rattle.fst_terms.specs.Formulas.{negation, equation, make, put}
use Rattle.fst_terms.specs.Sorted.{TmSorted, TmsSorted, is_run, are_run}
use Rattle.fst_program.specs.declared.comp.Con.{Con}
use Rattle.fst_program.specs.declared.comp.Con.TheVariants as con
use Rattle.fst_program.specs.Paths.{Way, count, suppose, suppose_all, raised, all_raised, con_of, con_args, Division, is_division, divisions, all_divisions, part_sorts}
use Rattle.fst_program.specs.Sorted.{ConOf}
use Rattle.fst_terms.proofs.SortedFactLemmas.{second-of}
use Rattle.fst_program.proofs.SortedTerms.{and-left, and-right, AllSorted, raise-sorted, make-sorted, put-sorted}
use Rattle.fst_program.proofs.Ways.{way_sorts}

-- ---- terms

-- a term that is run applies nothing, so it has its sort whatever applications there are
module _ (A1 A2 : (k : ℕ) → List Srt → (S : Srt) → Type 0) where
  mutual
    pub run-sorted : (Ss : List Srt) (t : Tm) (S : Srt) → TmSorted A1 Ss t S → IsTrue (is_run t) → TmSorted A2 Ss t S
    run-sorted Ss (t_var i) S h r = h
    run-sorted Ss (t_int n) S h r = h
    run-sorted Ss (t_bool b) S h r = h
    run-sorted Ss t_unit S h r = h
    run-sorted Ss (t_prim o T ts at) S h r = (h.0, (h.1.0, (h.1.1.0, runs-sorted Ss ts h.1.0 h.1.1.1 (and-right (not (is_inner o)) (are_run ts) r))))
    run-sorted Ss (t_if c t u) S h r =
        let rest = and-left (is_run c && is_run t) (is_run u) r in
        (run-sorted Ss c s_bool h.0 (and-left (is_run c) (is_run t) rest), run-sorted Ss t S h.1 (and-right (is_run c) (is_run t) rest), run-sorted Ss u S h.2 (and-right (is_run c && is_run t) (is_run u) r))
    run-sorted Ss (t_app k T ts) S h r = cc
    run-sorted Ss (t_let x t u) S h r = cc

    pub runs-sorted : (Ss : List Srt) (ts : Tms) (Ts : List Srt) → TmsSorted A1 Ss ts Ts → IsTrue (are_run ts) → TmsSorted A2 Ss ts Ts
    runs-sorted Ss t_end Ts h r = h
    runs-sorted Ss (t_more t ts) Ts h r = (h.0, (h.1.0, (h.1.1.0, run-sorted Ss t h.0 h.1.1.1 (and-left (is_run t) (are_run ts) r), runs-sorted Ss ts h.1.0 h.1.1.2 (and-right (is_run t) (are_run ts) r))))

  -- where each application of the one kind is one of the other
  module _ (wider : (k : ℕ) (Ss : List Srt) (S : Srt) → A1 k Ss S → A2 k Ss S) where
    mutual
      pub wider-sorted : (Ss : List Srt) (t : Tm) (S : Srt) → TmSorted A1 Ss t S → TmSorted A2 Ss t S
      wider-sorted Ss (t_var i) S h = h
      wider-sorted Ss (t_int n) S h = h
      wider-sorted Ss (t_bool b) S h = h
      wider-sorted Ss t_unit S h = h
      wider-sorted Ss (t_prim o T ts at) S h = (h.0, (h.1.0, (h.1.1.0, all-wider-sorted Ss ts h.1.0 h.1.1.1)))
      wider-sorted Ss (t_if c t u) S h = (wider-sorted Ss c s_bool h.0, wider-sorted Ss t S h.1, wider-sorted Ss u S h.2)
      wider-sorted Ss (t_app k T ts) S h = (h.0, (h.1.0, (wider k h.1.0 T h.1.1.0, all-wider-sorted Ss ts h.1.0 h.1.1.1)))
      wider-sorted Ss (t_let x t u) S h = (h.0, (wider-sorted Ss t h.0 h.1.0, wider-sorted (h.0 ∷ Ss) u S h.1.1))

      pub all-wider-sorted : (Ss : List Srt) (ts : Tms) (Ts : List Srt) → TmsSorted A1 Ss ts Ts → TmsSorted A2 Ss ts Ts
      all-wider-sorted Ss t_end Ts h = h
      all-wider-sorted Ss (t_more t ts) Ts h = (h.0, (h.1.0, (h.1.1.0, wider-sorted Ss t h.0 h.1.1.1, all-wider-sorted Ss ts h.1.0 h.1.1.2)))

-- ---- ways

-- the way w1 has further variables before those of w; where no variable is made it has the same ones
pub record Later (fixed : Bool) (w w1 : Way) : Type 0 where
  pub news : List Vr
  pub vars : w1.vars ≡ news ++ w.vars
  pub same : fixed ≡ true → news ≡ []

pub later-same : (fixed : Bool) (w w1 : Way) → w1.vars ≡ w.vars → Later fixed w w1
later-same fixed w w1 q = record { news = []; vars = q; same = λ z. refl }

pub later-fixed : (w w1 : Way) → Later true w w1 → w1.vars ≡ w.vars
later-fixed w w1 x = x.vars ∙ ap (λ l. l ++ w.vars) (x.same refl)

append-again : (xs ys zs : List Vr) → xs ++ (ys ++ zs) ≡ (xs ++ ys) ++ zs
append-again [] ys zs = refl
append-again (x ∷ xs) ys zs = ap (λ l. x ∷ l) (append-again xs ys zs)

pub later-then : (fixed : Bool) (w w1 w2 : Way) → Later fixed w w1 → Later fixed w1 w2 → Later fixed w w2
later-then fixed w w1 w2 x y = record { news = y.news ++ x.news; vars = y.vars ∙ ap (λ l. y.news ++ l) x.vars ∙ append-again y.news x.news w.vars; same = λ z. ap₂ ◌++◌ (y.same z) (x.same z) }

length-++ : (xs ys : List Vr) → length (xs ++ ys) ≡ length xs + length ys
length-++ [] ys = omega arith
length-++ (x ∷ xs) ys = ap suc (length-++ xs ys) ∙ omega arith

sorts-++ : (xs ys : List Vr) → map (λ (x : Vr). x.sort) (xs ++ ys) ≡ map (λ (x : Vr). x.sort) xs ++ map (λ (x : Vr). x.sort) ys
sorts-++ [] ys = refl
sorts-++ (x ∷ xs) ys = ap (λ Ss. x.sort ∷ Ss) (sorts-++ xs ys)

length-sorts : (xs : List Vr) → length (map (λ (x : Vr). x.sort) xs) ≡ length xs
length-sorts [] = refl
length-sorts (x ∷ xs) = ap suc (length-sorts xs)

extra : (fixed : Bool) (w w1 : Way) (x : Later fixed w w1) → count w1 - count w ≡ length (map (λ (v : Vr). v.sort) x.news)
extra fixed w w1 x = let p : count w1 ≡ length x.news + count w = ap length x.vars ∙ length-++ x.news w.vars in let q = length-sorts x.news in omega arith

module _ (A : (k : ℕ) → List Srt → (S : Srt) → Type 0) where
  -- these are formulas over variables of these sorts
  abbrev pub Forms : (Ss : List Srt) → List Tm → Type 0
  Forms Ss [] = ⊤
  Forms Ss (phi ∷ phis) = TmSorted A Ss phi s_bool × Forms Ss phis

  pub forms-both : (Ss : List Srt) (phis psis : List Tm) → Forms Ss phis → Forms Ss psis → Forms Ss (phis ++ psis)
  forms-both Ss [] psis h k = k
  forms-both Ss (phi ∷ phis) psis h k = (h.0, forms-both Ss phis psis h.1 k)

  -- the way's hypotheses are formulas
  abbrev pub Formed : Way → Type 0
  Formed w = Forms (way_sorts w) w.hyps

  pub suppose-all-formed : (phis : List Tm) (w : Way) → Forms (way_sorts w) phis → Formed w → Formed (suppose_all phis w)
  suppose-all-formed [] w h k = k
  suppose-all-formed (phi ∷ phis) w h k = suppose-all-formed phis (suppose phi w) h.1 (h.0, k)

  pub raised-later : (fixed : Bool) (w w1 : Way) (t : Tm) (S : Srt) → Later fixed w w1 → TmSorted A (way_sorts w) t S → TmSorted A (way_sorts w1) (raised (count w) w1 t) S
  raised-later fixed w w1 t S x h =
      subst (λ n. TmSorted A (way_sorts w1) (shift 0 n t) S) (sym (extra fixed w w1 x))
      (subst (λ Ss. TmSorted A Ss (shift 0 (length (map (λ (v : Vr). v.sort) x.news)) t) S) (sym (ap (map (λ (v : Vr). v.sort)) x.vars ∙ sorts-++ x.news w.vars))
      (raise-sorted A (map (λ (v : Vr). v.sort) x.news) (way_sorts w) t S h))

  pub all-raised-later : (fixed : Bool) (w w1 : Way) (us : List Tm) (Us : List Srt) → Later fixed w w1 → AllSorted A (way_sorts w) us Us → AllSorted A (way_sorts w1) (all_raised (count w) w1 us) Us
  all-raised-later fixed w w1 [] [] x h = tt
  all-raised-later fixed w w1 [] (U ∷ Us) x h = absurd h
  all-raised-later fixed w w1 (u ∷ us) [] x h = absurd h
  all-raised-later fixed w w1 (u ∷ us) (U ∷ Us) x h = (raised-later fixed w w1 u U x h.0, all-raised-later fixed w w1 us Us x h.1)

  pub sorted-on : (w w1 : Way) (t : Tm) (S : Srt) → w1.vars ≡ w.vars → TmSorted A (way_sorts w) t S → TmSorted A (way_sorts w1) t S
  sorted-on w w1 t S q h = subst (λ xs. TmSorted A (map (λ (x : Vr). x.sort) xs) t S) (sym q) h

  pub all-sorted-on : (w w1 : Way) (us : List Tm) (Us : List Srt) → w1.vars ≡ w.vars → AllSorted A (way_sorts w) us Us → AllSorted A (way_sorts w1) us Us
  all-sorted-on w w1 us Us q h = subst (λ xs. AllSorted A (map (λ (x : Vr). x.sort) xs) us Us) (sym q) h

  pub row-of : (Ss : List Srt) (ts : List Tm) (Ts : List Srt) → AllSorted A Ss ts Ts → TmsSorted A Ss (row ts) Ts
  row-of Ss [] [] h = refl
  row-of Ss [] (T ∷ Ts) h = absurd h
  row-of Ss (t ∷ ts) [] h = absurd h
  row-of Ss (t ∷ ts) (T ∷ Ts) h = (T, (Ts, (refl, h.0, row-of Ss ts Ts h.1)))

  pub prim-of : (Ss : List Srt) (o : Op) (T : Srt) (ts : List Tm) (Ts : List Srt) → Fits o Ts T → AllSorted A Ss ts Ts → TmSorted A Ss (t_prim o T (row ts) 0) T
  prim-of Ss o T ts Ts f h = (refl, (Ts, (f, row-of Ss ts Ts h)))

  pub equation-of : (Ss : List Srt) (S : Srt) (t u : Tm) → TmSorted A Ss t S → TmSorted A Ss u S → TmSorted A Ss (equation t u) s_bool
  equation-of Ss S t u h k = prim-of Ss op.Eq s_bool (t ∷ u ∷ []) (S ∷ S ∷ []) (record { first = S; second = S; args = refl; result = refl }) (h, (k, tt))

  pub negation-of : (Ss : List Srt) (p : Tm) → TmSorted A Ss p s_bool → TmSorted A Ss (negation p) s_bool
  negation-of Ss p h = (h, refl, refl)

  -- ---- divisions

  pub record Divides (Ss : List Srt) (d : Division) : Type 0 where
    pub conditions : Forms Ss d.conditions
    pub divisor : TmSorted A Ss d.divisor s_int

  abbrev pub AllDivide : (Ss : List Srt) → List Division → Type 0
  AllDivide Ss [] = ⊤
  AllDivide Ss (d ∷ ds) = Divides Ss d × AllDivide Ss ds

  divide-both : (Ss : List Srt) (ds es : List Division) → AllDivide Ss ds → AllDivide Ss es → AllDivide Ss (ds ++ es)
  divide-both Ss [] es h k = k
  divide-both Ss (d ∷ ds) es h k = (h.0, divide-both Ss ds es h.1 k)

  division-of : (Ss : List Srt) (cs : List Tm) (o : Op) (ts : Tms) (Ts : List Srt) (T : Srt) (at : ℕ) → Forms Ss cs → Fits o Ts T → TmsSorted A Ss ts Ts → AllDivide Ss (if is_division o then record { conditions = cs; divisor = get_or (listed ts) 1 t_unit; place = at } ∷ [] else [])
  division-of Ss cs op.Div ts Ts T at c f h = (record { conditions = c; divisor = second-of A Ss ts s_int s_int [] Ts f.args h }, tt)
  division-of Ss cs op.Rem ts Ts T at c f h = (record { conditions = c; divisor = second-of A Ss ts s_int s_int [] Ts f.args h }, tt)
  division-of Ss cs o ts Ts T at c f h = tt

  mutual
    pub divisions-of : (Ss : List Srt) (cs : List Tm) (t : Tm) (S : Srt) → Forms Ss cs → TmSorted A Ss t S → AllDivide Ss (divisions cs t)
    divisions-of Ss cs (t_var i) S c h = tt
    divisions-of Ss cs (t_int n) S c h = tt
    divisions-of Ss cs (t_bool b) S c h = tt
    divisions-of Ss cs t_unit S c h = tt
    divisions-of Ss cs (t_prim o T ts at) S c h = divide-both Ss (all_divisions cs ts) _ (all-divisions-of Ss cs ts h.1.0 c h.1.1.1) (division-of Ss cs o ts h.1.0 T at c h.1.1.0 h.1.1.1)
    divisions-of Ss cs (t_if p t u) S c h =
        divide-both Ss (divisions cs p ++ divisions (cs ++ p ∷ []) t) (divisions (cs ++ negation p ∷ []) u)
        (divide-both Ss (divisions cs p) (divisions (cs ++ p ∷ []) t) (divisions-of Ss cs p s_bool c h.0) (divisions-of Ss (cs ++ p ∷ []) t S (forms-both Ss cs (p ∷ []) c (h.0, tt)) h.1))
        (divisions-of Ss (cs ++ negation p ∷ []) u S (forms-both Ss cs (negation p ∷ []) c (negation-of Ss p h.0, tt)) h.2)
    divisions-of Ss cs (t_app k T ts) S c h = all-divisions-of Ss cs ts h.1.0 c h.1.1.1
    divisions-of Ss cs (t_let x t u) S c h = tt

    pub all-divisions-of : (Ss : List Srt) (cs : List Tm) (ts : Tms) (Ts : List Srt) → Forms Ss cs → TmsSorted A Ss ts Ts → AllDivide Ss (all_divisions cs ts)
    all-divisions-of Ss cs t_end Ts c h = tt
    all-divisions-of Ss cs (t_more t ts) Ts c h = divide-both Ss (divisions cs t) _ (divisions-of Ss cs t h.0 c h.1.1.1) (all-divisions-of Ss cs ts h.1.0 c h.1.1.2)

  pub put-forms : (Ss : List Srt) (us : List Tm) (Us : List Srt) (phis : List Tm) → AllSorted A Ss us Us → Forms Us phis → Forms Ss (map (put us) phis)
  put-forms Ss us Us [] h k = tt
  put-forms Ss us Us (phi ∷ phis) h k = (put-sorted A Ss us Us phi s_bool h k.0, put-forms Ss us Us phis h k.1)

  -- ---- the parts of a scrutinee

  no-terms : (Ss : List Srt) (ts : Tms) → TmsSorted A Ss ts [] → AllSorted A Ss (reverse (listed ts)) []
  no-terms Ss t_end h = tt
  no-terms Ss (t_more t ts) h = cc

  one-term : (Ss : List Srt) (ts : Tms) (S : Srt) → TmsSorted A Ss ts (S ∷ []) → AllSorted A Ss (reverse (listed ts)) (S ∷ [])
  one-term Ss t_end S h = cc
  one-term Ss (t_more t t_end) S h = let p : h.0 ≡ S = (let q = h.1.1.0 in cc) in (subst (TmSorted A Ss t) p h.1.1.1, tt)
  one-term Ss (t_more t (t_more u ts)) S h = let q = h.1.1.0 in let r = h.1.1.2.1.1.0 in cc

  two-terms : (Ss : List Srt) (ts : Tms) (S T : Srt) → TmsSorted A Ss ts (S ∷ T ∷ []) → AllSorted A Ss (reverse (listed ts)) (T ∷ S ∷ [])
  two-terms Ss t_end S T h = cc
  two-terms Ss (t_more t t_end) S T h = let q = h.1.1.0 in let r : h.1.0 ≡ [] = h.1.1.2 in cc
  two-terms Ss (t_more t (t_more u t_end)) S T h =
      let q = h.1.1.0 in
      let r = h.1.1.2.1.1.0 in
      let p : h.0 ≡ S = cc in
      let o : h.1.1.2.0 ≡ T = cc in
      (subst (TmSorted A Ss u) o h.1.1.2.1.1.1, (subst (TmSorted A Ss t) p h.1.1.1, tt))
  two-terms Ss (t_more t (t_more u (t_more v ts))) S T h = let q = h.1.1.0 in let r = h.1.1.2.1.1.0 in let z = h.1.1.2.1.1.2.1.1.0 in cc

  -- a known constructor is one of the sort, and its parts have their sorts
  abbrev KnownCase : (Ss : List Srt) → Tm → Srt → Con → Type 0
  KnownCase Ss u T c = ConOf c T × AllSorted A Ss (reverse (con_args u)) (part_sorts c T)

  known-at : (Ss : List Srt) (u : Tm) (c d : Con) (T U : Srt) → c ≡ d → T ≡ U → KnownCase Ss u U c → KnownCase Ss u T d
  known-at Ss u c d T U q r h = subst (KnownCase Ss u T) q (subst (λ X. KnownCase Ss u X c) (sym r) h)

  pub known-case : (Ss : List Srt) (u : Tm) (T : Srt) (c : Con) → TmSorted A Ss u T → con_of u ≡ Some c → KnownCase Ss u T c
  known-case Ss (t_bool true) T c h q = let p : con.True ≡ c = cc in known-at Ss (t_bool true) con.True c T s_bool p h (tt, tt)
  known-case Ss (t_bool false) T c h q = let p : con.False ≡ c = cc in known-at Ss (t_bool false) con.False c T s_bool p h (tt, tt)
  known-case Ss (t_prim op.Nothing S ts at) T c h q = let p : con.Empty ≡ c = cc in let f = h.1.1.0 in known-at Ss (t_prim op.Nothing S ts at) con.Empty c T (s_opt f.first) p (h.0 ∙ f.result) (tt, no-terms Ss ts (subst (TmsSorted A Ss ts) f.args h.1.1.1))
  known-case Ss (t_prim op.Just S ts at) T c h q = let p : con.Full ≡ c = cc in let f = h.1.1.0 in known-at Ss (t_prim op.Just S ts at) con.Full c T (s_opt f.first) p (h.0 ∙ f.result) (tt, one-term Ss ts f.first (subst (TmsSorted A Ss ts) f.args h.1.1.1))
  known-case Ss (t_prim op.Nil S ts at) T c h q = let p : con.Nil ≡ c = cc in let f = h.1.1.0 in known-at Ss (t_prim op.Nil S ts at) con.Nil c T (s_list f.first) p (h.0 ∙ f.result) (tt, no-terms Ss ts (subst (TmsSorted A Ss ts) f.args h.1.1.1))
  known-case Ss (t_prim op.Cons S ts at) T c h q = let p : con.Cons ≡ c = cc in let f = h.1.1.0 in known-at Ss (t_prim op.Cons S ts at) con.Cons c T (s_list f.first) p (h.0 ∙ f.result) (tt, two-terms Ss ts f.first (s_list f.first) (subst (TmsSorted A Ss ts) f.args h.1.1.1))
  known-case Ss (t_prim op.Inl S ts at) T c h q = let p : con.Left ≡ c = cc in let f = h.1.1.0 in known-at Ss (t_prim op.Inl S ts at) con.Left c T (s_either f.first f.second) p (h.0 ∙ f.result) (tt, one-term Ss ts f.first (subst (TmsSorted A Ss ts) f.args h.1.1.1))
  known-case Ss (t_prim op.Inr S ts at) T c h q = let p : con.Right ≡ c = cc in let f = h.1.1.0 in known-at Ss (t_prim op.Inr S ts at) con.Right c T (s_either f.first f.second) p (h.0 ∙ f.result) (tt, one-term Ss ts f.second (subst (TmsSorted A Ss ts) f.args h.1.1.1))
  known-case Ss (t_prim op.Pair S ts at) T c h q = let p : con.Pair ≡ c = cc in let f = h.1.1.0 in known-at Ss (t_prim op.Pair S ts at) con.Pair c T (s_pair f.first f.second) p (h.0 ∙ f.result) (tt, two-terms Ss ts f.first f.second (subst (TmsSorted A Ss ts) f.args h.1.1.1))
  known-case Ss u T c h q = cc

  pub selector-of : (Ss : List Srt) (o : Op) (S T : Srt) (u : Tm) → Fits o (T ∷ []) S → TmSorted A Ss u T → TmSorted A Ss (make o S (row (u ∷ [])) 0) S
  selector-of Ss o S T u f h = make-sorted A Ss o S (row (u ∷ [])) 0 (T ∷ []) f (T, ([], (refl, h, refl)))
