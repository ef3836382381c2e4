-- Runs of definition text fit its translation.
use Rattle.std.proofs.Common.{◌≡◌, ◌⊎◌, inl, inr, ℕ, suc, ◌+◌, Bool, true, false, if◌then◌else◌, nat_lt, List, [], ◌∷◌, ◌++◌, map, reverse, Option, Some, None, refl, sym, ap, ap₂, ◌∙◌, subst, arith, pos}
use Rattle.std.specs.Prelude.{⊤}
use Rattle.std.proofs.lemmas.Bool.{le-ltb}
use Rattle.fst_base.specs.declared.op.Op.{Op}
use Rattle.fst_base.specs.declared.op.Op.TheVariants as op
use Rattle.fst_base.specs.Sorts.{Srt, s_bool, s_pair, s_opt, s_list, s_either, put_sorts}
use Rattle.fst_base.specs.Values.{Val, v_bool, v_int, v_pair, v_none, v_some, v_nil, v_cons, v_inl, v_inr, Has, HasSorts, same}
use Rattle.fst_base.specs.Primitives.{prim, is_true}
use Rattle.fst_base.proofs.ValueLemmas.{same-decides}
use Rattle.fst_terms.specs.Terms.{Tm, t_var, t_prim, t_end, t_more, row, shift}
use Rattle.fst_terms.specs.Meaning.{Env, Meaning, value, Truth, AllTrue, lookup}
use Rattle.fst_terms.specs.Formulas.{put, make, negation, equation, nought, sort_of, term_at}
use Rattle.fst_terms.proofs.PutLemmas.{put_values, put-value}
use Rattle.fst_terms.proofs.TermLemmas.{Widens, value_shift, widens_one}
use Rattle.fst_program.specs.declared.comp.Con.{Con}
use Rattle.fst_program.specs.declared.comp.Con.TheVariants as con
use Rattle.fst_program.specs.Texts.{Dm, DmArms, d_ret, d_let, d_if, d_match, d_run_f, d_run_g, d_end, d_arm, Prog, if_there}
use Rattle.fst_program.specs.Evaluation.{eval}
use Rattle.fst_program.specs.Runs.{Outcome, Done, with_value, parts, if_fits, Run, dm, dm_arm}
use Rattle.fst_program.specs.Paths.{Division, divisions, selectors, same_con, dm_family, dm_at, dm_arms_at, part_sorts}
use Rattle.fst_program.specs.Sorted.{Applies, ConOf, FSorts, GSorts, RunSorted, DmSorted, DmArmsSorted}
use Rattle.fst_program.proofs.SortedLemmas.{eval-has, bound-parts, append-have}
use Rattle.fst_program.specs.Full.{HasDmArm, DmFull, DmArmsFull}
use Rattle.fst_star.specs.Transformers.{Wt, Holes, safe, all_safe, demands, some_demands}
use Rattle.fst_star.specs.Translation.{Scope, under, implied, divisor_needs, term_needs, condition, con_ways, dm_sort, star, star_arm}
use Rattle.fst_program.proofs.SortedTerms.{append-sorted, put-sorted, sort-is, sorts-are}
use Rattle.fst_program.proofs.Ways.{true-value}
use Rattle.fst_program.proofs.Evaluated.{AllNonzero, eval-sound}
use Rattle.fst_program.proofs.Modality.{Modality, with-term}
use Rattle.fst_star.proofs.ShiftedMeaning.{widens-under, demands-shift, safe-shift}
use Rattle.fst_star.proofs.Places.{Sorted, AllOf, under-sorted}
use Rattle.fst_star.proofs.ConWays.{sort_family, family-of, same-con-is, selectors-sorted}
use Rattle.fst_star.proofs.StarMeets.{ResultF, ResultG, f_at, g_at, dm-sort-is, dm-full-at, dm-at-sorted, con-at, parts-at, map-++, term-at}
use Rattle.fst_star.proofs.SafeTransformers.{same-con-self}

-- ---- what needs say

module _ (M : Meaning) (H : Holes) where
  implied-holds : (us : List Tm) (cs : List Tm) (phi : Tm) (e : Env) → Truth M (implied (map (put us) cs) phi) e → AllTrue M cs (put_values M us e) → Truth M phi e
  implied-holds us [] phi e h a = h
  implied-holds us (c ∷ cs) phi e h a =
      let q : is_true (value M (put us c) e) ≡ true = ap is_true (put-value M us c e ∙ a.0) in
      implied-holds us cs phi e (subst (λ x. (if x then value M (implied (map (put us) cs) phi) e else v_bool true) ≡ v_bool true) q h) a.1

  pub not-true : (x : Bool) → (if is_true (v_bool x) then v_bool false else v_bool true) ≡ v_bool true → x ≡ false
  not-true true q = cc
  not-true false q = refl

  pub needs-nonzero : (ds : List Division) (us : List Tm) (w : Wt) (e : Env) → safe M H (divisor_needs ds us w) e → AllNonzero M (put_values M us e) ds
  needs-nonzero [] us w e h = tt
  needs-nonzero (d ∷ ds) us w e h = (
    (λ cs.
        let t = implied-holds us d.conditions (negation (equation (put us d.divisor) nought)) e h.0 cs in
        ap (λ v. same v (v_int (pos 0))) (sym (put-value M us d.divisor e)) ∙ not-true (same (value M (put us d.divisor) e) (v_int (pos 0))) t),
    needs-nonzero ds us w e h.1,
  )

  pub needs-rest : (ds : List Division) (us : List Tm) (w : Wt) (e : Env) → safe M H (divisor_needs ds us w) e → safe M H w e
  needs-rest [] us w e h = h
  needs-rest (d ∷ ds) us w e h = needs-rest ds us w e h.1

  pub needs-demand : (ds : List Division) (us : List Tm) (w : Wt) (e : Env) (r : Val) → demands M H w e r → demands M H (divisor_needs ds us w) e r
  needs-demand [] us w e r h = h
  needs-demand (d ∷ ds) us w e r h = needs-demand ds us w e r h

  -- ---- the way of a constructor

  abbrev pub In : Con → List Con → Type 0
  In c [] = ⊥
  In c (d ∷ ds) = (d ≡ c) ⊎ In c ds

  pub way-safe : (cs : List Con) (T : Srt) (u : Tm) (arm : Con → List Tm → Wt) (e : Env) (c : Con) → In c cs → all_safe M H (con_ways cs T u arm) e → Truth M (condition c T u) e → safe M H (arm c (selectors c T u)) e
  way-safe [] T u arm e c i h t = absurd i
  way-safe (d ∷ ds) T u arm e c (inl p) h t = subst (λ c. safe M H (arm c (selectors c T u)) e) p (h.0 (subst (λ c. Truth M (condition c T u) e) (sym p) t))
  way-safe (d ∷ ds) T u arm e c (inr p) h t = way-safe ds T u arm e c p h.1 t

  pub way-demands : (cs : List Con) (T : Srt) (u : Tm) (arm : Con → List Tm → Wt) (e : Env) (r : Val) (c : Con) → In c cs → Truth M (condition c T u) e → demands M H (arm c (selectors c T u)) e r → some_demands M H (con_ways cs T u arm) e r
  way-demands [] T u arm e r c i t h = absurd i
  way-demands (d ∷ ds) T u arm e r c (inl p) t h = inl (subst (λ c. Truth M (condition c T u) e × demands M H (arm c (selectors c T u)) e r) (sym p) (t, h))
  way-demands (d ∷ ds) T u arm e r c (inr p) t h = inr (way-demands ds T u arm e r c p t h)

  pub record Chosen (T : Srt) (u : Tm) (e : Env) (v : Val) : Type 0 where
    pub con : Con
    pub items : List Val
    pub fits : parts con v ≡ Some items
    pub among : In con (sort_family T)
    pub holds : Truth M (condition con T u) e
    pub gives : put_values M (reverse (selectors con T u)) e ≡ items

  abbrev pub HasCons : Srt → Type 0
  HasCons s_bool = ⊤
  HasCons (s_opt S) = ⊤
  HasCons (s_list S) = ⊤
  HasCons (s_either S T) = ⊤
  HasCons (s_pair S T) = ⊤
  HasCons S = ⊥

  pub has-cons : (c : Con) (T : Srt) → ConOf c T → HasCons T
  has-cons con.True s_bool h = tt
  has-cons con.False s_bool h = tt
  has-cons con.Empty (s_opt S) h = tt
  has-cons con.Full (s_opt S) h = tt
  has-cons con.Nil (s_list S) h = tt
  has-cons con.Cons (s_list S) h = tt
  has-cons con.Left (s_either S T) h = tt
  has-cons con.Right (s_either S T) h = tt
  has-cons con.Pair (s_pair S T) h = tt
  has-cons c T h = absurd h

  equal-true : (v w : Val) → v ≡ w → v_bool (same v w) ≡ v_bool true
  equal-true v w p = ap v_bool (subst (λ x. same v x ≡ true) p ((same-decides v v).1 refl))

  sel : (o : Op) (S : Srt) (u : Tm) (e : Env) → value M (make o S (row (u ∷ [])) 0) e ≡ prim o S (value M u e ∷ [])
  sel o S u e = put-value M (u ∷ []) (t_prim o S (t_more (t_var 0) t_end) 0) e

  pub choose-con : (T : Srt) (u : Tm) (e : Env) (v : Val) → HasCons T → Has T v → value M u e ≡ v → Chosen T u e v
  choose-con s_bool u e (v_bool true) c h q = record { con = con.True; items = []; fits = refl; among = inl refl; holds = q; gives = refl }
  choose-con s_bool u e (v_bool false) c h q = record { con = con.False; items = []; fits = refl; among = inr (inl refl); holds = rw q refl; gives = refl }
  choose-con s_bool u e v c h q = absurd h
  choose-con (s_opt S) u e v_none c h q = record { con = con.Empty; items = []; fits = refl; among = inl refl; holds = equal-true (value M u e) v_none q; gives = refl }
  choose-con (s_opt S) u e (v_some a) c h q =
      let m : value M (make op.The S (row (u ∷ [])) 0) e ≡ a = sel op.The S u e ∙ ap (λ v. prim op.The S (v ∷ [])) q in
      record { con = con.Full; items = a ∷ []; fits = refl; among = inr (inl refl); holds = equal-true (value M u e) (v_some (value M (make op.The S (row (u ∷ [])) 0) e)) (q ∙ ap v_some (sym m)); gives = ap (λ v. v ∷ []) m }
  choose-con (s_opt S) u e v c h q = absurd h
  choose-con (s_list S) u e v_nil c h q = record { con = con.Nil; items = []; fits = refl; among = inl refl; holds = equal-true (value M u e) v_nil q; gives = refl }
  choose-con (s_list S) u e (v_cons a b) c h q =
      let hd = make op.Hd S (row (u ∷ [])) 0 in
      let tl = make op.Tl (s_list S) (row (u ∷ [])) 0 in
      let m : value M hd e ≡ a = sel op.Hd S u e ∙ ap (λ v. prim op.Hd S (v ∷ [])) q in
      let n : value M tl e ≡ b = sel op.Tl (s_list S) u e ∙ ap (λ v. prim op.Tl (s_list S) (v ∷ [])) q in
      record { con = con.Cons; items = b ∷ a ∷ []; fits = refl; among = inr (inl refl); holds = equal-true (value M u e) (v_cons (value M hd e) (value M tl e)) (q ∙ ap₂ v_cons (sym m) (sym n)); gives = ap₂ (λ x y. x ∷ y ∷ []) n m }
  choose-con (s_list S) u e v c h q = absurd h
  choose-con (s_either S T) u e (v_inl a) c h q =
      let m : value M (make op.Outl S (row (u ∷ [])) 0) e ≡ a = sel op.Outl S u e ∙ ap (λ v. prim op.Outl S (v ∷ [])) q in
      record { con = con.Left; items = a ∷ []; fits = refl; among = inl refl; holds = equal-true (value M u e) (v_inl (value M (make op.Outl S (row (u ∷ [])) 0) e)) (q ∙ ap v_inl (sym m)); gives = ap (λ v. v ∷ []) m }
  choose-con (s_either S T) u e (v_inr a) c h q =
      let m : value M (make op.Outr T (row (u ∷ [])) 0) e ≡ a = sel op.Outr T u e ∙ ap (λ v. prim op.Outr T (v ∷ [])) q in
      record { con = con.Right; items = a ∷ []; fits = refl; among = inr (inl refl); holds = equal-true (value M u e) (v_inr (value M (make op.Outr T (row (u ∷ [])) 0) e)) (q ∙ ap v_inr (sym m)); gives = ap (λ v. v ∷ []) m }
  choose-con (s_either S T) u e v c h q = absurd h
  choose-con (s_pair S T) u e (v_pair a b) c h q =
      let m : value M (make op.Fst S (row (u ∷ [])) 0) e ≡ a = sel op.Fst S u e ∙ ap (λ v. prim op.Fst S (v ∷ [])) q in
      let n : value M (make op.Snd T (row (u ∷ [])) 0) e ≡ b = sel op.Snd T u e ∙ ap (λ v. prim op.Snd T (v ∷ [])) q in
      record { con = con.Pair; items = b ∷ a ∷ []; fits = refl; among = inl refl; holds = refl; gives = ap₂ (λ x y. x ∷ y ∷ []) n m }
  choose-con (s_pair S T) u e v c h q = absurd h
  choose-con T u e v c h q = absurd c

-- a value fits no other constructor
pub val_con : Val → Con
val_con (v_bool true) = con.True
val_con (v_bool false) = con.False
val_con v_none = con.Empty
val_con (v_some a) = con.Full
val_con v_nil = con.Nil
val_con (v_cons a b) = con.Cons
val_con (v_inl a) = con.Left
val_con (v_inr a) = con.Right
val_con v = con.Pair

pub only-con : (c : Con) (v : Val) (vs : List Val) → parts c v ≡ Some vs → c ≡ val_con v
unfolding val_con
only-con con.True (v_bool true) vs q = refl
only-con con.False (v_bool false) vs q = refl
only-con con.Empty v_none vs q = refl
only-con con.Full (v_some a) vs q = refl
only-con con.Nil v_nil vs q = refl
only-con con.Cons (v_cons a b) vs q = refl
only-con con.Left (v_inl a) vs q = refl
only-con con.Right (v_inr a) vs q = refl
only-con con.Pair (v_pair a b) vs q = refl
only-con c v vs q = cc

pub other-con : (c d : Con) (v : Val) (vs : List Val) → same_con c d ≡ false → parts d v ≡ Some vs → parts c v ≡ None
other-con c d v vs q h = go (parts c v) refl
  where
    go : (o : Option (List Val)) → parts c v ≡ o → o ≡ None
    go None r = refl
    go (Some ws) r =
        let p : c ≡ d = only-con c v ws r ∙ sym (only-con d v vs h) in
        let t : same_con c d ≡ true = subst (λ x. same_con c x ≡ true) p (same-con-self c) in
        let bad : true ≡ false = sym t ∙ q in
        cc

pub values-append : (M : Meaning) (us ws : List Tm) (e : Env) → put_values M (us ++ ws) e ≡ put_values M us e ++ put_values M ws e
values-append M [] ws e = refl
values-append M (u ∷ us) ws e = ap (λ l. value M u e ∷ l) (values-append M us ws e)

pub raised-values : (M : Meaning) (us : List Tm) (e : Env) (v : Val) → put_values M (map (shift 0 1) us) (v ∷ e) ≡ put_values M us e
raised-values M [] e v = refl
raised-values M (u ∷ us) e v = ap₂ ◌∷◌ (value_shift M 0 1 u e (v ∷ e) (widens_one e v)) (raised-values M us e v)

pub widens-more : (n : ℕ) (e e' : Env) (v : Val) → Widens 0 n e e' → Widens 0 (suc n) e (v ∷ e')
widens-more n e e' v h j =
    let z : nat_lt j 0 ≡ false = le-ltb j 0 (omega arith) in
    let p : j + suc n ≡ suc (j + n) = omega arith in
    ap (λ b. lookup (v ∷ e') (if b then j else j + suc n)) z ∙ ap (lookup (v ∷ e')) p ∙ sym (ap (λ b. lookup e' (if b then j else j + n)) z) ∙ h j

-- ---- the law

module _ (P : Prog) (M : Meaning) (H : Holes) (A B : Srt) (I : Type 0) (b : Bool) (Ok : (Val → Type 0) → (I → ℕ → Outcome) → Type 0) (GhostOk : (Val → Type 0) → (I → Outcome) → Type 0) (rules : Modality I b Ok GhostOk) where
  abbrev at : Srt → Srt
  at S = put_sorts A B S

  -- a run gives results that the transformer demands in this environment, of the sort
  abbrev pub FitsAt : Wt → Env → Srt → (I → ℕ → Outcome) → Type 0
  FitsAt w e S r = Ok (λ v. demands M H w e v × Has S v) r

  module _ (e0 : Env) where
    -- the runs of f fit its transformer on inputs of their sort
    abbrev pub FitsF : Option FSorts → Wt → (I → Run) → Type 0
    FitsF None F f = Unit {0}
    FitsF (Some h) F f = (s : Val) → Has (at h.input) s → safe M H F (s ∷ e0) → FitsAt F (s ∷ e0) (at h.result) (λ i l. f i s l)

    abbrev pub FitsG : Option GSorts → Wt → (I → Val → Run) → Type 0
    FitsG None G g = Unit {0}
    FitsG (Some h) G g = (v s : Val) → Has (at h.value) v → Has (at h.input) s → safe M H G (s ∷ v ∷ e0) → FitsAt G (s ∷ v ∷ e0) (at h.result) (λ i l. g i v s l)

    -- a place of the text: the terms us for its variables have the values e in the transformer's environment x
    pub record Place (Ss : List Srt) (sc : Scope) (us : List Tm) (n : ℕ) (x e : Env) : Type 0 where
      pub sorted : AllOf P sc.sorts us (map at Ss)
      pub values : put_values M us x ≡ e
      pub have : HasSorts (map at Ss) e
      pub widens : Widens 0 n e0 x

    place-under : (Ss : List Srt) (sc : Scope) (us : List Tm) (n : ℕ) (x e : Env) (S : Srt) (v : Val) → Place Ss sc us n x e → Has (at S) v → Place (S ∷ Ss) (under (at S) sc) (t_var 0 ∷ map (shift 0 1) us) (suc n) (v ∷ x) (v ∷ e)
    place-under Ss sc us n x e S v p h = record {
      sorted = (refl, under-sorted P (at S) sc.sorts us (map at Ss) p.sorted);
      values = ap (λ l. v ∷ l) (raised-values M us x v ∙ p.values);
      have = (h, p.have);
      widens = widens-more n e0 x v p.widens;
    }

    module _ (hf : Option FSorts) (hg : Option GSorts) (rf rg : Srt) (isf : ResultF (f_at A B hf) rf) (isg : ResultG (g_at A B hg) rg) (F G : Wt) (f : I → Run) (g : I → Val → Run) (ff : FitsF hf F f) (fg : FitsG hg G g) where
      abbrev tr : Scope → List Tm → ℕ → Dm → Wt
      tr sc us n d = star rf rg F G sc us n (dm_at A B d)

      abbrev tr_arm : Scope → List Tm → ℕ → DmArms → Con → List Tm → Wt
      tr_arm sc us n arms c sels = star_arm rf rg F G sc us n (dm_arms_at A B arms) c sels

      -- a term's evaluation
      on-term : (R : Val → Type 0) (Ss : List Srt) (t : Tm) (S : Srt) (sc : Scope) (us : List Tm) (n : ℕ) (x e : Env) (w : Wt) (k : I → Val → ℕ → Outcome) → RunSorted P Ss t S → Place Ss sc us n x e → safe M H (term_needs (term_at A B t) us w) x
          → (Has (at S) (value M (put us (term_at A B t)) x) → safe M H w x → Ok R (λ i l. k i (value M (put us (term_at A B t)) x) l)) → Ok R (λ i F. with_value (eval b t e) (λ v. k i v F))
      on-term R Ss t S sc us n x e w k h p s next =
          let same_value : value M (put us (term_at A B t)) x ≡ value M (term_at A B t) e = put-value M us (term_at A B t) x ∙ ap (value M (term_at A B t)) p.values in
          let nonzero = subst (λ e. AllNonzero M e (divisions [] (term_at A B t))) p.values (needs-nonzero M H (divisions [] (term_at A B t)) us w x s) in
          let rest = needs-rest M H (divisions [] (term_at A B t)) us w x s in
          with-term I b Ok GhostOk rules R (eval b t e) (value M (term_at A B t) e) (at S) k (eval-sound M (Applies P) A B e Ss p.have b [] t S h.0 h.1 tt nonzero) (eval-has A B (Applies P) b Ss t S e h.0 h.1 p.have)
          (λ j. subst (λ v. Ok R (λ i l. k i v l)) same_value (next (subst (Has (at S)) (sym same_value) j) rest))

      needed : (w : Wt) (t : Tm) (us : List Tm) (x : Env) (S : Srt) (v : Val) → demands M H w x v × Has S v → demands M H (term_needs (term_at A B t) us w) x v × Has S v
      needed w t us x S v h = (needs-demand M H (divisions [] (term_at A B t)) us w x v h.0, h.1)

      run-f : (o : Option FSorts) → FitsF o F f → (t : Tm) (Ss : List Srt) (R : Srt) (sc : Scope) (us : List Tm) (n : ℕ) (x e : Env)
          → if_there o (λ h. RunSorted P Ss t h.input × (R ≡ h.result)) ⊥ → Place Ss sc us n x e → safe M H (tr sc us n (d_run_f t)) x → FitsAt (tr sc us n (d_run_f t)) x (at R) (λ i F. dm b (f i) (g i) (d_run_f t) e F)
      run-f None m t Ss R sc us n x e h p s = absurd h
      run-f (Some z) m t Ss R sc us n x e h p s =
          rules.unit _ _ (on-term _ Ss t z.input sc us n x e _ (λ i v l. f i v l) h.0 p s (λ j rest.
          let v = value M (put us (term_at A B t)) x in
          let wid = widens-under 0 n e0 x v p.widens in
          rules.weaken _ _ _ (λ r d. needed _ t us x (at R) r ((v, (refl, subst (λ T. T) (sym (demands-shift M H F 1 n (v ∷ e0) (v ∷ x) wid r)) d.0)), subst (λ R. Has (at R) r) (sym h.1) d.1))
          (m v j (subst (λ T. T) (safe-shift M H F 1 n (v ∷ e0) (v ∷ x) wid) (rest.1 v refl)))))

      run-g : (o : Option GSorts) → FitsG o G g → (t u : Tm) (Ss : List Srt) (R : Srt) (sc : Scope) (us : List Tm) (n : ℕ) (x e : Env)
          → if_there o (λ h. RunSorted P Ss t h.value × RunSorted P Ss u h.input × (R ≡ h.result)) ⊥ → Place Ss sc us n x e → safe M H (tr sc us n (d_run_g t u)) x → FitsAt (tr sc us n (d_run_g t u)) x (at R) (λ i F. dm b (f i) (g i) (d_run_g t u) e F)
      run-g None m t u Ss R sc us n x e h p s = absurd h
      run-g (Some z) m t u Ss R sc us n x e h p s =
          rules.unit _ _ (on-term _ Ss t z.value sc us n x e _ (λ i v l. with_value (eval b u e) (λ s. g i v s l)) h.0 p s (λ jv rest1.
          let v = value M (put us (term_at A B t)) x in
          on-term _ Ss u z.input sc us n x e _ (λ i s l. g i v s l) h.1 p rest1 (λ js rest.
          let s1 = value M (put us (term_at A B u)) x in
          let q : value M (shift 0 1 (put us (term_at A B u))) (v ∷ x) ≡ s1 = value_shift M 0 1 (put us (term_at A B u)) x (v ∷ x) (widens_one x v) in
          let wid = widens-under 1 n (v ∷ e0) (v ∷ x) s1 (widens-under 0 n e0 x v p.widens) in
          rules.weaken _ _ _ (λ r d. needed _ t us x (at R) r (needed _ u us x (at R) r ((v, (refl, (s1, (q, subst (λ T. T) (sym (demands-shift M H G 2 n (s1 ∷ v ∷ e0) (s1 ∷ v ∷ x) wid r)) d.0)))), subst (λ R. Has (at R) r) (sym h.2) d.1)))
          (m v s1 jv js (subst (λ T. T) (safe-shift M H G 2 n (s1 ∷ v ∷ e0) (s1 ∷ v ∷ x) wid) ((rest.1 v refl).1 s1 q))))))

      arms-have : (arms : DmArms) (T R : Srt) (Ss : List Srt) → DmArmsSorted P hf hg Ss T arms R → HasDmArm arms → HasCons M H (at T)
      arms-have d_end T R Ss h n = absurd n
      arms-have (d_arm c xs d more) T R Ss h n = has-cons M H c (at T) (con-at P A B c T h.0)

      arms-family : (arms : DmArms) (T R : Srt) (Ss : List Srt) → DmArmsSorted P hf hg Ss T arms R → HasDmArm arms → dm_family (dm_arms_at A B arms) ≡ sort_family (at T)
      arms-family d_end T R Ss h n = absurd n
      arms-family (d_arm c xs d more) T R Ss h n = family-of c (at T) (con-at P A B c T h.0)

      one-arm : (c' : Con) (d : Dm) (more : DmArms) (Ss : List Srt) (S R : Srt) (sc : Scope) (us : List Tm) (n : ℕ) (x e : Env) (u : Tm) (v : Val) (c : Con) (items : List Val)
          → ConOf c' S → Place Ss sc us n x e → Sorted P sc.sorts u (at S) → Has (at S) v → parts c v ≡ Some items → put_values M (reverse (selectors c (at S) u)) x ≡ items
          → (Place (part_sorts c' S ++ Ss) sc (reverse (selectors c (at S) u) ++ us) n x (items ++ e) → safe M H (tr sc (reverse (selectors c (at S) u) ++ us) n d) x → FitsAt (tr sc (reverse (selectors c (at S) u) ++ us) n d) x (at R) (λ i F. dm b (f i) (g i) d (items ++ e) F))
          → (safe M H (tr_arm sc us n more c (selectors c (at S) u)) x → FitsAt (tr_arm sc us n more c (selectors c (at S) u)) x (at R) (λ i F. dm_arm b (f i) (g i) more v e F))
          → (y : Bool) → same_con c' c ≡ y
          → safe M H (if y then tr sc (reverse (selectors c (at S) u) ++ us) n d else tr_arm sc us n more c (selectors c (at S) u)) x
          → FitsAt (if y then tr sc (reverse (selectors c (at S) u) ++ us) n d else tr_arm sc us n more c (selectors c (at S) u)) x (at R) (λ i F. if_fits (parts c' v) (λ vs. dm b (f i) (g i) d (vs ++ e) F) (dm_arm b (f i) (g i) more v e F))
      one-arm c' d more Ss S R sc us n x e u v c items o p r j fits gives one two true z s =
          let q = same-con-is c' c z in
          let k : parts c' v ≡ Some items = ap (λ c. parts c v) q ∙ fits in
          subst (λ w. FitsAt (tr sc (reverse (selectors c (at S) u) ++ us) n d) x (at R) (λ i F. if_fits w (λ vs. dm b (f i) (g i) d (vs ++ e) F) (dm_arm b (f i) (g i) more v e F))) (sym k)
          (one (record {
            sorted = subst (λ Us. AllOf P sc.sorts (reverse (selectors c (at S) u) ++ us) Us) (sym (map-++ P A B (part_sorts c' S) Ss ∙ ap (λ Us. Us ++ map at Ss) (parts-at P A B c' S o)))
                (append-sorted (Applies P) sc.sorts (reverse (selectors c (at S) u)) us (part_sorts c' (at S)) (map at Ss) (subst (λ d. AllOf P sc.sorts (reverse (selectors d (at S) u)) (part_sorts c' (at S))) q (selectors-sorted P sc.sorts c' (at S) u (con-at P A B c' S o) r)) p.sorted);
            values = values-append M (reverse (selectors c (at S) u)) us x ∙ ap₂ ◌++◌ gives p.values;
            have = subst (λ Us. HasSorts Us (items ++ e)) (sym (map-++ P A B (part_sorts c' S) Ss)) (append-have (map at (part_sorts c' S)) (map at Ss) items e (bound-parts A B c' S v o j items k) p.have);
            widens = p.widens;
          }) s)
      one-arm c' d more Ss S R sc us n x e u v c items o p r j fits gives one two false z s =
          subst (λ w. FitsAt (tr_arm sc us n more c (selectors c (at S) u)) x (at R) (λ i F. if_fits w (λ vs. dm b (f i) (g i) d (vs ++ e) F) (dm_arm b (f i) (g i) more v e F))) (sym (other-con c' c v items z fits)) (two s)

      mutual
        pub dm-fits : (d : Dm) (Ss : List Srt) (R : Srt) (sc : Scope) (us : List Tm) (n : ℕ) (x e : Env) → DmSorted P hf hg Ss d R → DmFull d → Place Ss sc us n x e → safe M H (tr sc us n d) x → FitsAt (tr sc us n d) x (at R) (λ i F. dm b (f i) (g i) d e F)
        dm-fits (d_ret t) Ss R sc us n x e h q p s =
            rules.unit _ _ (on-term _ Ss t R sc us n x e _ (λ i v l. Done v l) h p s (λ j rest. rules.done _ _ (needed _ t us x (at R) _ (refl, j))))
        dm-fits (d_let y d1 d2) Ss R sc us n x e h q p s =
            let S1 = dm_sort rf rg (map (sort_of sc.sorts) us) (dm_at A B d1) in
            let is : S1 ≡ at h.0 = ap (λ Us. dm_sort rf rg Us (dm_at A B d1)) (sorts-are (Applies P) sc.sorts us (map at Ss) p.sorted) ∙ dm-sort-is P (f_at A B hf) (g_at A B hg) rf rg isf isg (dm_at A B d1) (map at Ss) (at h.0) (dm-at-sorted P A B hf hg d1 Ss h.0 h.1.0) (dm-full-at P A B d1 q.0) in
            rules.unit _ _ (rules.next _ _ _ _ (dm-fits d1 Ss h.0 sc us n x e h.1.0 q.0 p s.0) (λ v d.
            rules.weaken _ _ _ (λ r c. ((v, (d.0, subst (λ S. demands M H (tr (under S sc) (t_var 0 ∷ map (shift 0 1) us) (suc n) d2) (v ∷ x) r) (sym is) c.0)), c.1))
            (dm-fits d2 (h.0 ∷ Ss) R (under (at h.0) sc) (t_var 0 ∷ map (shift 0 1) us) (suc n) (v ∷ x) (v ∷ e) h.1.1 q.1 (place-under Ss sc us n x e h.0 v p d.1) (subst (λ S. safe M H (tr (under S sc) (t_var 0 ∷ map (shift 0 1) us) (suc n) d2) (v ∷ x)) is (s.1 v d.0)))))
        dm-fits (d_if t d1 d2) Ss R sc us n x e h q p s =
            rules.unit _ _ (on-term _ Ss t s_bool sc us n x e _ (λ i v l. if is_true v then dm b (f i) (g i) d1 e l else dm b (f i) (g i) d2 e l) h.0 p s (λ j rest.
            rules.weaken _ _ _ (λ r d. needed _ t us x (at R) r d)
            (go (is_true (value M (put us (term_at A B t)) x)) refl
            (λ z. rules.weaken _ _ _ (λ r d. (inl (true-value _ z, d.0), d.1)) (dm-fits d1 Ss R sc us n x e h.1 q.0 p (rest.0 (true-value _ z))))
            (λ z. rules.weaken _ _ _ (λ r d. (inr (inl (else-true z, d.0)), d.1)) (dm-fits d2 Ss R sc us n x e h.2 q.1 p (rest.1.0 (else-true z)))))))
          where
            else-true : is_true (value M (put us (term_at A B t)) x) ≡ false → Truth M (negation (put us (term_at A B t))) x
            else-true z = rw z refl

            go : {Q : Val → Type 0} (y : Bool) → is_true (value M (put us (term_at A B t)) x) ≡ y
                → (is_true (value M (put us (term_at A B t)) x) ≡ true → Ok Q (λ i l. dm b (f i) (g i) d1 e l)) → (is_true (value M (put us (term_at A B t)) x) ≡ false → Ok Q (λ i l. dm b (f i) (g i) d2 e l))
                → Ok Q (λ i l. if y then dm b (f i) (g i) d1 e l else dm b (f i) (g i) d2 e l)
            go true z one two = one z
            go false z one two = two z
        dm-fits (d_match t arms) Ss R sc us n x e h q p s =
            rules.unit _ _ (on-term _ Ss t h.0 sc us n x e _ (λ i v l. dm_arm b (f i) (g i) arms v e l) h.1.0 p s (λ j rest.
            let T = at h.0 in
            let u = put us (term_at A B t) in
            let v = value M u x in
            let ru : Sorted P sc.sorts u T = put-sorted (Applies P) sc.sorts us (map at Ss) (term_at A B t) T p.sorted (term-at P A B Ss t h.0 h.1.0).0 in
            let is : sort_of sc.sorts u ≡ T = sort-is (Applies P) sc.sorts u T ru in
            let fam : dm_family (dm_arms_at A B arms) ≡ sort_family T = arms-family arms h.0 R Ss h.1.1 q.0 in
            let ch = choose-con M H T u x v (arms-have arms h.0 R Ss h.1.1 q.0) j refl in
            let arm = λ (c : Con) (sels : List Tm). tr_arm sc us n arms c sels in
            let ways : all_safe M H (con_ways (sort_family T) T u arm) x = subst (λ cs. all_safe M H (con_ways cs T u arm) x) fam (subst (λ S. all_safe M H (con_ways (dm_family (dm_arms_at A B arms)) S u arm) x) is rest) in
            rules.weaken _ _ _ (λ r d. needed _ t us x (at R) r (
              subst (λ S. some_demands M H (con_ways (dm_family (dm_arms_at A B arms)) S u arm) x r) (sym is) (subst (λ cs. some_demands M H (con_ways cs T u arm) x r) (sym fam) (way-demands M H (sort_family T) T u arm x r ch.con ch.among ch.holds d.0)),
              d.1,
            ))
            (arms-fit arms Ss h.0 R sc us n x e u v ch.con ch.items h.1.1 q.1 p ru j ch.fits ch.gives (way-safe M H (sort_family T) T u arm x ch.con ch.among ways ch.holds))))
        dm-fits (d_run_f t) Ss R sc us n x e h q p s = run-f hf ff t Ss R sc us n x e h p s
        dm-fits (d_run_g t u) Ss R sc us n x e h q p s = run-g hg fg t u Ss R sc us n x e h p s

        arms-fit : (arms : DmArms) (Ss : List Srt) (S R : Srt) (sc : Scope) (us : List Tm) (n : ℕ) (x e : Env) (u : Tm) (v : Val) (c : Con) (items : List Val)
            → DmArmsSorted P hf hg Ss S arms R → DmArmsFull arms → Place Ss sc us n x e → Sorted P sc.sorts u (at S) → Has (at S) v → parts c v ≡ Some items → put_values M (reverse (selectors c (at S) u)) x ≡ items
            → safe M H (tr_arm sc us n arms c (selectors c (at S) u)) x
            → FitsAt (tr_arm sc us n arms c (selectors c (at S) u)) x (at R) (λ i F. dm_arm b (f i) (g i) arms v e F)
        arms-fit d_end Ss S R sc us n x e u v c items h q p r j fits gives s = let bad : v_bool false ≡ v_bool true = s.0 in cc
        arms-fit (d_arm c' xs d more) Ss S R sc us n x e u v c items h q p r j fits gives s = one-arm c' d more Ss S R sc us n x e u v c items h.0 p r j fits gives
            (λ pl s. dm-fits d (part_sorts c' S ++ Ss) R sc (reverse (selectors c (at S) u) ++ us) n x (items ++ e) h.2 q.0 pl s)
            (λ s. arms-fit more Ss S R sc us n x e u v c items h.3 q.1 p r j fits gives s)
            (same_con c' c) refl s
