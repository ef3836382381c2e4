-- A term that is run is sound exactly where its divisors aren't 0; its value has its sort.
use Rattle.std.proofs.Common.{◌≡◌, inl, inr, ℕ, zero, suc, Bool, true, false, not, ◌&&◌, if◌then◌else◌, List, [], ◌∷◌, ◌++◌, get_or, slice_get, Some, IsTrue, refl, sym, ap, ap₂, ◌∙◌, subst, pos}
use Rattle.std.specs.Prelude.{⊤}
use Rattle.std.specs.Ordering.{int_eq}
use Rattle.fst_base.specs.declared.op.Op.{Op}
use Rattle.fst_base.specs.declared.op.Op.TheVariants as op
use Rattle.fst_base.specs.Sorts.{Srt, s_a, s_b}
use Rattle.fst_base.specs.Values.{Val, v_unit, v_bool, v_int, v_pair, v_none, v_some, v_nil, v_cons, v_inl, v_inr, Has, HasSorts, same}
use Rattle.fst_base.specs.Primitives.{prim, is_true, divides_by_zero, int_of, second}
use Rattle.fst_base.specs.Rows.{is_inner}
use Rattle.fst_base.proofs.RowLemmas.{prim-has}
use Rattle.fst_terms.specs.Terms.{Tm, Tms, t_var, t_int, t_bool, t_unit, t_prim, t_if, t_app, t_let, t_end, t_more, listed}
use Rattle.fst_terms.specs.Meaning.{Env, Meaning, value, values, lookup, Truth, AllTrue}
use Rattle.fst_terms.specs.Formulas.{negation, term_at}
use Rattle.fst_terms.specs.Sorted.{TmSorted, TmsSorted, is_run, are_run}
use Rattle.fst_program.specs.Evaluation.{Got, got, got_wide, got_stuck, Gots, gots, gots_wide, gots_stuck, got_then, gots_then, gots_more, apply, eval, evals}
use Rattle.fst_program.specs.Paths.{Division, is_division, divisions, all_divisions}
use Rattle.fst_star.specs.Translation.{IsGot, IsSound}
use Rattle.fst_program.proofs.SortedTerms.{and-left, and-right, term_at-same, map-same}
use Rattle.fst_program.proofs.Evaluated.{Evaluates, AllNonzero, eval-sound, second-value}

not-true : (b : Bool) → IsTrue (not b) → b ≡ true → ⊥
not-true true h e = cc
not-true false h e = cc

module _ (M : Meaning) (Applies : (k : ℕ) → List Srt → (S : Srt) → Type 0) where
  lookup-has : (Ss : List Srt) (i : ℕ) (S : Srt) (e : Env) → slice_get Ss i ≡ Some S → HasSorts Ss e → Has S (lookup e i)
  lookup-has [] i S e q h = cc
  lookup-has (T ∷ Ss) i S [] q h = absurd h
  lookup-has (T ∷ Ss) zero S (v ∷ e) q h = let p : T ≡ S = cc in subst (λ X. Has X v) p h.0
  lookup-has (T ∷ Ss) (suc i) S (v ∷ e) q h = lookup-has Ss i S e q h.1

  mutual
    pub value-has : (Ss : List Srt) (t : Tm) (S : Srt) (e : Env) → TmSorted Applies Ss t S → IsTrue (is_run t) → HasSorts Ss e → Has S (value M t e)
    value-has Ss (t_var i) S e h r k = lookup-has Ss i S e h k
    value-has Ss (t_int n) S e h r k = subst (λ X. Has X (v_int n)) (sym h) tt
    value-has Ss (t_bool x) S e h r k = subst (λ X. Has X (v_bool x)) (sym h) tt
    value-has Ss t_unit S e h r k = subst (λ X. Has X v_unit) (sym h) tt
    value-has Ss (t_prim o T ts at) S e h r k =
        let inner = and-left (not (is_inner o)) (are_run ts) r in
        let f = h.1.1.0 in
        let vs = values-have Ss ts h.1.0 e h.1.1.1 (and-right (not (is_inner o)) (are_run ts) r) k in
        subst (λ X. Has X (prim o T (values M ts e))) (sym (h.0 ∙ f.result)) (prim-has o f.first f.second T (values M ts e) (λ q. absurd (not-true (is_inner o) inner q)) (subst (λ Us. HasSorts Us (values M ts e)) f.args vs))
    value-has Ss (t_if c t u) S e h r k =
        let rest = and-left (is_run c && is_run t) (is_run u) r in
        go (is_true (value M c e)) (value-has Ss t S e h.1 (and-right (is_run c) (is_run t) rest) k) (value-has Ss u S e h.2 (and-right (is_run c && is_run t) (is_run u) r) k)
      where
        go : (b : Bool) → Has S (value M t e) → Has S (value M u e) → Has S (if b then value M t e else value M u e)
        go true p q = p
        go false p q = q
    value-has Ss (t_app j T ts) S e h r k = cc
    value-has Ss (t_let x t u) S e h r k = cc

    values-have : (Ss : List Srt) (ts : Tms) (Ts : List Srt) (e : Env) → TmsSorted Applies Ss ts Ts → IsTrue (are_run ts) → HasSorts Ss e → HasSorts Ts (values M ts e)
    values-have Ss t_end Ts e h r k = subst (λ Us. HasSorts Us []) (sym h) tt
    values-have Ss (t_more t ts) Ts e h r k = subst (λ Us. HasSorts Us (values M (t_more t ts) e)) (sym h.1.1.0) (value-has Ss t h.0 e h.1.1.1 (and-left (is_run t) (are_run ts) r) k, values-have Ss ts h.1.0 e h.1.1.2 (and-right (is_run t) (are_run ts) r) k)

  module _ (e : Env) where
    -- ---- unbounded evaluation gives the value

    abbrev GotIs : Got → Val → Type 0
    GotIs (got v) w = v ≡ w
    GotIs got_wide w = ⊤
    GotIs (got_stuck at) w = ⊤

    abbrev GotsAre : Gots → List Val → Type 0
    GotsAre (gots vs) ws = vs ≡ ws
    GotsAre gots_wide ws = ⊤
    GotsAre (gots_stuck at) ws = ⊤

    apply-is : (o : Op) (S : Srt) (at : ℕ) (vs ws : List Val) → vs ≡ ws → GotIs (apply false o S at vs) (prim o S ws)
    apply-is o S at vs ws q = go (divides_by_zero o vs)
      where
        go : (z : Bool) → GotIs (if z then got_stuck at else got (prim o S vs)) (prim o S ws)
        go true = tt
        go false = ap (prim o S) q

    then-is : (o : Op) (S : Srt) (at : ℕ) (g : Gots) (ws : List Val) → GotsAre g ws → GotIs (gots_then g (apply false o S at)) (prim o S ws)
    then-is o S at (gots vs) ws q = apply-is o S at vs ws q
    then-is o S at gots_wide ws q = tt
    then-is o S at (gots_stuck p) ws q = tt

    if-is : (g h k : Got) (v w x : Val) → GotIs g v → GotIs h w → GotIs k x → GotIs (got_then g (λ v. if is_true v then h else k)) (if is_true v then w else x)
    if-is (got u) h k v w x p q r = subst (λ v. GotIs (if is_true u then h else k) (if is_true v then w else x)) p (go (is_true u))
      where
        go : (b : Bool) → GotIs (if b then h else k) (if b then w else x)
        go true = q
        go false = r
    if-is got_wide h k v w x p q r = tt
    if-is (got_stuck at) h k v w x p q r = tt

    more-are : (g : Got) (r : Gots) (v : Val) (vs : List Val) → GotIs g v → GotsAre r vs → GotsAre (gots_more g r) (v ∷ vs)
    more-are (got u) (gots us) v vs p q = ap₂ ◌∷◌ p q
    more-are (got u) gots_wide v vs p q = tt
    more-are (got u) (gots_stuck at) v vs p q = tt
    more-are got_wide r v vs p q = tt
    more-are (got_stuck at) r v vs p q = tt

    mutual
      eval-is : (t : Tm) → GotIs (eval false t e) (value M t e)
      eval-is (t_var i) = refl
      eval-is (t_int n) = refl
      eval-is (t_bool x) = refl
      eval-is t_unit = refl
      eval-is (t_prim o S ts at) = then-is o S at (evals false ts e) (values M ts e) (evals-are ts)
      eval-is (t_if c t u) = if-is (eval false c e) (eval false t e) (eval false u e) (value M c e) (value M t e) (value M u e) (eval-is c) (eval-is t) (eval-is u)
      eval-is (t_app k S ts) = tt
      eval-is (t_let x t u) = tt

      evals-are : (ts : Tms) → GotsAre (evals false ts e) (values M ts e)
      evals-are t_end = refl
      evals-are (t_more t ts) = more-are (eval false t e) (evals false ts e) (value M t e) (values M ts e) (eval-is t) (evals-are ts)

    -- ---- what is sound has no divisor 0

    abbrev AreGot : Gots → Type 0
    AreGot (gots vs) = ⊤
    AreGot gots_wide = ⊥
    AreGot (gots_stuck at) = ⊥

    nonzero-both : (ds es : List Division) → AllNonzero M e ds → AllNonzero M e es → AllNonzero M e (ds ++ es)
    nonzero-both [] es h k = k
    nonzero-both (d ∷ ds) es h k = (h.0, nonzero-both ds es h.1 k)

    true-first : (phis psis : List Tm) → AllTrue M (phis ++ psis) e → AllTrue M phis e
    true-first [] psis h = tt
    true-first (phi ∷ phis) psis h = (h.0, true-first phis psis h.1)

    true-last : (phis : List Tm) (phi : Tm) → AllTrue M (phis ++ phi ∷ []) e → Truth M phi e
    true-last [] phi h = h.0
    true-last (p ∷ phis) phi h = true-last phis phi h.1

    -- where the conditions don't hold nothing is said
    mutual
      vacuous : (cs : List Tm) (t : Tm) → (AllTrue M cs e → ⊥) → AllNonzero M e (divisions cs t)
      vacuous cs (t_var i) n = tt
      vacuous cs (t_int x) n = tt
      vacuous cs (t_bool b) n = tt
      vacuous cs t_unit n = tt
      vacuous cs (t_prim o S ts at) n = nonzero-both (all_divisions cs ts) _ (all-vacuous cs ts n) (go (is_division o))
        where
          go : (b : Bool) → AllNonzero M e (if b then record { conditions = cs; divisor = get_or (listed ts) 1 t_unit; place = at } ∷ [] else [])
          go true = ((λ h. absurd (n h)), tt)
          go false = tt
      vacuous cs (t_if c t u) n = nonzero-both (divisions cs c ++ divisions (cs ++ c ∷ []) t) _ (nonzero-both (divisions cs c) _ (vacuous cs c n) (vacuous (cs ++ c ∷ []) t (λ h. n (true-first cs (c ∷ []) h)))) (vacuous (cs ++ negation c ∷ []) u (λ h. n (true-first cs (negation c ∷ []) h)))
      vacuous cs (t_app k S ts) n = all-vacuous cs ts n
      vacuous cs (t_let x t u) n = tt

      all-vacuous : (cs : List Tm) (ts : Tms) → (AllTrue M cs e → ⊥) → AllNonzero M e (all_divisions cs ts)
      all-vacuous cs t_end n = tt
      all-vacuous cs (t_more t ts) n = nonzero-both (divisions cs t) _ (vacuous cs t n) (all-vacuous cs ts n)

    then-got : (o : Op) (S : Srt) (at : ℕ) (g : Gots) → IsGot (gots_then g (apply false o S at)) → AreGot g
    then-got o S at (gots vs) h = tt
    then-got o S at gots_wide h = h
    then-got o S at (gots_stuck p) h = h

    not-zero : (v : Val) → int_eq (int_of v) (pos 0) ≡ false → same v (v_int (pos 0)) ≡ false
    not-zero (v_int n) q = q
    not-zero v_unit q = refl
    not-zero (v_bool b) q = refl
    not-zero (v_pair a b) q = refl
    not-zero v_none q = refl
    not-zero (v_some a) q = refl
    not-zero v_nil q = refl
    not-zero (v_cons a b) q = refl
    not-zero (v_inl a) q = refl
    not-zero (v_inr a) q = refl

    divides-fine : (o : Op) (S : Srt) (at : ℕ) (g : Gots) (ws : List Val) → GotsAre g ws → IsGot (gots_then g (apply false o S at)) → divides_by_zero o ws ≡ false
    divides-fine o S at (gots vs) ws q h = subst (λ ws. divides_by_zero o ws ≡ false) q (go (divides_by_zero o vs) h)
      where
        go : (z : Bool) → IsGot (if z then got_stuck at else got (prim o S vs)) → z ≡ false
        go true h = absurd h
        go false h = refl
    divides-fine o S at gots_wide ws q h = absurd h
    divides-fine o S at (gots_stuck p) ws q h = absurd h

    own-division : (cs : List Tm) (o : Op) (ts : Tms) (at : ℕ) → divides_by_zero o (values M ts e) ≡ false → AllNonzero M e (if is_division o then record { conditions = cs; divisor = get_or (listed ts) 1 t_unit; place = at } ∷ [] else [])
    own-division cs op.Div ts at q = ((λ h. ap (λ v. same v (v_int (pos 0))) (second-value M ts e) ∙ not-zero (second (values M ts e)) q), tt)
    own-division cs op.Rem ts at q = ((λ h. ap (λ v. same v (v_int (pos 0))) (second-value M ts e) ∙ not-zero (second (values M ts e)) q), tt)
    own-division cs o ts at q = tt

    more-got : (g : Got) (r : Gots) → AreGot (gots_more g r) → IsGot g × AreGot r
    more-got (got v) (gots vs) h = (tt, tt)
    more-got (got v) gots_wide h = absurd h
    more-got (got v) (gots_stuck at) h = absurd h
    more-got got_wide r h = absurd h
    more-got (got_stuck at) r h = absurd h

    if-got : (g h k : Got) (v : Val) → GotIs g v → IsGot (got_then g (λ v. if is_true v then h else k)) → IsGot g × IsGot (if is_true v then h else k)
    if-got (got u) h k v p q = (tt, subst (λ v. IsGot (if is_true v then h else k)) p q)
    if-got got_wide h k v p q = absurd q
    if-got (got_stuck at) h k v p q = absurd q

    true-is : (v : Val) → v ≡ v_bool true → is_true v ≡ true
    true-is v q = ap is_true q

    mutual
      pub sound-nonzero : (cs : List Tm) (t : Tm) → IsSound t e → AllNonzero M e (divisions cs t)
      sound-nonzero cs (t_var i) h = tt
      sound-nonzero cs (t_int x) h = tt
      sound-nonzero cs (t_bool b) h = tt
      sound-nonzero cs t_unit h = tt
      sound-nonzero cs (t_prim o S ts at) h = nonzero-both (all_divisions cs ts) _ (all-sound cs ts (then-got o S at (evals false ts e) h)) (own-division cs o ts at (divides-fine o S at (evals false ts e) (values M ts e) (evals-are ts) h))
      sound-nonzero cs (t_if c t u) h =
          let z = if-got (eval false c e) (eval false t e) (eval false u e) (value M c e) (eval-is c) h in
          let p = go (is_true (value M c e)) refl z.1 (λ s. sound-nonzero (cs ++ c ∷ []) t s) (λ s. sound-nonzero (cs ++ negation c ∷ []) u s) in
          nonzero-both (divisions cs c ++ divisions (cs ++ c ∷ []) t) _ (nonzero-both (divisions cs c) _ (sound-nonzero cs c z.0) p.0) p.1
        where
          go : (b : Bool) → is_true (value M c e) ≡ b → IsGot (if b then eval false t e else eval false u e) → (IsSound t e → AllNonzero M e (divisions (cs ++ c ∷ []) t)) → (IsSound u e → AllNonzero M e (divisions (cs ++ negation c ∷ []) u))
              → AllNonzero M e (divisions (cs ++ c ∷ []) t) × AllNonzero M e (divisions (cs ++ negation c ∷ []) u)
          go true q s one two = (one s, vacuous (cs ++ negation c ∷ []) u (λ h. let a = true-last cs (negation c) h in let z : (if true then v_bool false else v_bool true) ≡ v_bool true = subst (λ b. (if b then v_bool false else v_bool true) ≡ v_bool true) q a in cc))
          go false q s one two = (vacuous (cs ++ c ∷ []) t (λ h. let a = true-is (value M c e) (true-last cs c h) in let z : true ≡ false = sym a ∙ q in cc), two s)
      sound-nonzero cs (t_app k S ts) h = absurd h
      sound-nonzero cs (t_let x t u) h = absurd h

      all-sound : (cs : List Tm) (ts : Tms) → AreGot (evals false ts e) → AllNonzero M e (all_divisions cs ts)
      all-sound cs t_end h = tt
      all-sound cs (t_more t ts) h = let z = more-got (eval false t e) (evals false ts e) h in nonzero-both (divisions cs t) _ (sound-nonzero cs t z.0) (all-sound cs ts z.1)

    -- ---- and what has none is sound

    pub nonzero-sound : (Ss : List Srt) (t : Tm) (S : Srt) → TmSorted Applies Ss t S → IsTrue (is_run t) → HasSorts Ss e → AllNonzero M e (divisions [] t) → IsSound t e
    nonzero-sound Ss t S h r k n = go (eval-sound M Applies s_a s_b e Ss (subst (λ Us. HasSorts Us e) (sym (map-same Ss)) k) false [] t S h r tt (subst (λ t. AllNonzero M e (divisions [] t)) (sym (term_at-same t)) n))
      where
        go : Evaluates false (eval false t e) (value M (term_at s_a s_b t) e) → IsSound t e
        go (inl p) = let q : false ≡ true = p.0 in cc
        go (inr p) = subst IsGot (sym p) tt
