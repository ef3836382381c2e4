-- A transformer is safe where the goals of its walk hold, and its results are reached.
use Rattle.std.proofs.Common.{◌≡◌, ℕ, Bool, true, false, ◌&&◌, if◌then◌else◌, List, [], ◌∷◌, ◌++◌, map, reverse, Option, Some, None, refl, sym, ap, ap₂, ◌∙◌, subst, ⊎_elim}
use Rattle.std.specs.Prelude.{⊤}
use mathlib.Core.List.{reverse_aux}
use Rattle.fst_base.specs.declared.op.Op.TheVariants as op
use Rattle.fst_base.specs.Sorts.{Srt}
use Rattle.fst_base.specs.Values.{Val, v_bool, v_pair, v_none, v_some, v_nil, v_cons, v_inl, v_inr, Has, HasSorts, same}
use Rattle.fst_base.specs.Primitives.{is_true, first, second}
use Rattle.fst_base.proofs.ValueLemmas.{same-decides}
use Rattle.fst_terms.specs.Terms.{Tm, Tms, t_var, t_bool, t_prim, t_if, t_end, t_more, shift}
use Rattle.fst_terms.specs.Meaning.{Env, Meaning, value, values, Truth, AllTrue, Vr, IsValid}
use Rattle.fst_terms.specs.Formulas.{put}
use Rattle.fst_terms.specs.Same.{same_term, same_terms}
use Rattle.fst_terms.proofs.SameLemmas.{same_term-decides}
use Rattle.fst_terms.proofs.PutLemmas.{put_values, put-value}
use Rattle.fst_terms.proofs.TermLemmas.{shift_law}
use Rattle.fst_program.specs.declared.comp.Con.{Con}
use Rattle.fst_program.specs.declared.comp.Con.TheVariants as con
use Rattle.fst_program.specs.declared.goal.SiteKind.{SiteKind}
use Rattle.fst_program.specs.declared.goal.SiteKind.TheVariants as kind
use Rattle.fst_program.specs.declared.goal.Choice.{Choice}
use Rattle.fst_program.specs.declared.goal.Choice.TheVariants as choice
use Rattle.fst_program.specs.Paths.{Gl, Way, count, suppose, choose, fresh, all_raised, goal_site, GoalsValid, con_of, same_con}
use Rattle.fst_star.specs.Transformers.{Wt, Wts, w_post, w_need, w_given, w_fresh, w_ways, w_hole, w_hole_tail, w_then, w_none, w_way, Holes, safe, all_safe, demands, some_demands, AreClosed, IsClosed}
use Rattle.fst_star.specs.Walking.{literal, negated, equated, both_cons, compared, prim_args, decided, by_look, opened, need_sites, wp_walk, ways_walk}
use Rattle.fst_program.proofs.Ways.{true-value, Stands, suppose-stands, Extends, extends-same, extends-then, raised-put-values, turned-sorts}

-- ---- formulas that are decided by their look have that truth

-- the value of a constructor term with these arguments
abbrev con_value : Con → List Val → Val
con_value con.True vs = v_bool true
con_value con.False vs = v_bool false
con_value con.Empty vs = v_none
con_value con.Full vs = v_some (first vs)
con_value con.Nil vs = v_nil
con_value con.Cons vs = v_cons (first vs) (second vs)
con_value con.Left vs = v_inl (first vs)
con_value con.Right vs = v_inr (first vs)
con_value con.Pair vs = v_pair (first vs) (second vs)

-- the constructor of a value
abbrev val_con : Val → Option Con
val_con (v_bool true) = Some con.True
val_con (v_bool false) = Some con.False
val_con v_none = Some con.Empty
val_con (v_some a) = Some con.Full
val_con v_nil = Some con.Nil
val_con (v_cons a b) = Some con.Cons
val_con (v_inl a) = Some con.Left
val_con (v_inr a) = Some con.Right
val_con (v_pair a b) = Some con.Pair
val_con v = None

con-of-value : (c : Con) (vs : List Val) → val_con (con_value c vs) ≡ Some c
con-of-value con.True vs = refl
con-of-value con.False vs = refl
con-of-value con.Empty vs = refl
con-of-value con.Full vs = refl
con-of-value con.Nil vs = refl
con-of-value con.Cons vs = refl
con-of-value con.Left vs = refl
con-of-value con.Right vs = refl
con-of-value con.Pair vs = refl

same-con-is : (c d : Con) → same_con c d ≡ true → c ≡ d
same-con-is con.True con.True q = refl
same-con-is con.False con.False q = refl
same-con-is con.Empty con.Empty q = refl
same-con-is con.Full con.Full q = refl
same-con-is con.Nil con.Nil q = refl
same-con-is con.Cons con.Cons q = refl
same-con-is con.Left con.Left q = refl
same-con-is con.Right con.Right q = refl
same-con-is con.Pair con.Pair q = refl
same-con-is c d q = cc

pub same-con-self : (c : Con) → same_con c c ≡ true
same-con-self con.True = refl
same-con-self con.False = refl
same-con-self con.Empty = refl
same-con-self con.Full = refl
same-con-self con.Nil = refl
same-con-self con.Cons = refl
same-con-self con.Left = refl
same-con-self con.Right = refl
same-con-self con.Pair = refl

terms-same : (ts us : Tms) → same_terms ts us ≡ true → ts ≡ us
terms-same t_end t_end q = refl
terms-same t_end (t_more u us) q = cc
terms-same (t_more t ts) t_end q = cc
terms-same (t_more t ts) (t_more u us) q = go (same_term t u) refl q (terms-same ts us)
  where
    go : (b : Bool) → same_term t u ≡ b → (b && same_terms ts us) ≡ true → (same_terms ts us ≡ true → ts ≡ us) → t_more t ts ≡ t_more u us
    go true p r ih = ap₂ t_more ((same_term-decides t u).0 p) (ih r)
    go false p r ih = cc

module _ (M : Meaning) (e : Env) where
  -- the formula has this truth, where it is decided
  abbrev pub Tells : Option Bool → Tm → Type 0
  Tells None phi = Unit {0}
  Tells (Some b) phi = value M phi e ≡ v_bool b

  literal-tells : (phi : Tm) → Tells (literal phi) phi
  literal-tells (t_bool b) = refl
  literal-tells phi = tt

  negated-tells : (phi : Tm) → Tells (negated phi) phi
  negated-tells (t_if (t_bool true) (t_bool false) (t_bool true)) = refl
  negated-tells (t_if (t_bool false) (t_bool false) (t_bool true)) = refl
  negated-tells (t_bool b) = refl
  negated-tells phi = tt

  abbrev ConValue : Tm → Option Con → Type 0
  ConValue t None = Unit {0}
  ConValue t (Some c) = value M t e ≡ con_value c (values M (prim_args t) e)

  con-value : (t : Tm) → ConValue t (con_of t)
  con-value (t_bool true) = refl
  con-value (t_bool false) = refl
  con-value (t_prim op.Nothing S ts at) = refl
  con-value (t_prim op.Just S ts at) = refl
  con-value (t_prim op.Nil S ts at) = refl
  con-value (t_prim op.Cons S ts at) = refl
  con-value (t_prim op.Inl S ts at) = refl
  con-value (t_prim op.Inr S ts at) = refl
  con-value (t_prim op.Pair S ts at) = refl
  con-value t = tt

  compared-tells : (S : Srt) (t u : Tm) (at : ℕ) (c d : Con) → value M t e ≡ con_value c (values M (prim_args t) e) → value M u e ≡ con_value d (values M (prim_args u) e) → Tells (compared t u c d) (t_prim op.Eq S (t_more t (t_more u t_end)) at)
  compared-tells S t u at c d p q = go (same_con c d) refl (same_terms (prim_args t) (prim_args u)) refl
    where
      go : (x : Bool) → same_con c d ≡ x → (y : Bool) → same_terms (prim_args t) (prim_args u) ≡ y → Tells (if x then (if y then Some true else None) else Some false) (t_prim op.Eq S (t_more t (t_more u t_end)) at)
      go true r true z =
          let args : prim_args t ≡ prim_args u = terms-same (prim_args t) (prim_args u) z in
          let eq : value M t e ≡ value M u e = p ∙ ap₂ con_value (same-con-is c d r) (ap (λ ts. values M ts e) args) ∙ sym q in
          ap v_bool (subst (λ v. same (value M t e) v ≡ true) eq ((same-decides (value M t e) (value M t e)).1 refl))
      go true r false z = tt
      go false r y z = apart (same (value M t e) (value M u e)) refl
        where
          apart : (b : Bool) → same (value M t e) (value M u e) ≡ b → v_bool b ≡ v_bool false
          apart false s = refl
          apart true s =
              let eq : value M t e ≡ value M u e = (same-decides (value M t e) (value M u e)).0 s in
              let cs : Some c ≡ Some d = sym (con-of-value c (values M (prim_args t) e)) ∙ ap val_con (sym p ∙ eq ∙ q) ∙ con-of-value d (values M (prim_args u) e) in
              let cd : c ≡ d = cc in
              let bad : true ≡ false = sym (same-con-self c) ∙ ap (same_con c) cd ∙ r in
              cc

  both-tell : (S : Srt) (t u : Tm) (at : ℕ) (x y : Option Con) → ConValue t x → ConValue u y → Tells (both_cons t u x y) (t_prim op.Eq S (t_more t (t_more u t_end)) at)
  both-tell S t u at (Some c) (Some d) p q = compared-tells S t u at c d p q
  both-tell S t u at (Some c) None p q = tt
  both-tell S t u at None y p q = tt

  equated-tells : (phi : Tm) → Tells (equated phi) phi
  equated-tells (t_prim op.Eq S (t_more t (t_more u t_end)) at) = both-tell S t u at (con_of t) (con_of u) (con-value t) (con-value u)
  equated-tells (t_bool b) = refl
  equated-tells phi = tt

  pub decided-tells : (c : Choice) (phi : Tm) → Tells (decided c phi) phi
  decided-tells choice.Then phi = literal-tells phi
  decided-tells choice.Else phi = negated-tells phi
  decided-tells (choice.Case con.True) phi = literal-tells phi
  decided-tells (choice.Case con.False) phi = negated-tells phi
  decided-tells (choice.Case c) phi = equated-tells phi

-- ---- goals that hold in the environments that extend one

module _ (M : Meaning) (k : ℕ) (w0 : Way) (e0 : Env) where
  -- the goal is true in each such environment that makes its hypotheses true
  abbrev pub HoldsFrom : Gl → Type 0
  HoldsFrom g = (new : Env) → Rattle.fst_terms.specs.Meaning.HasVars g.sequent.vars (new ++ e0) → AllTrue M g.sequent.hyps (new ++ e0) → Truth M g.sequent.goal (new ++ e0)

  abbrev pub AllHold : List Gl → Type 0
  AllHold [] = ⊤
  AllHold (g ∷ gs) = HoldsFrom g × AllHold gs

  pub valid-hold : (gs : List Gl) → GoalsValid M gs → AllHold gs
  valid-hold [] h = tt
  valid-hold (g ∷ gs) h = ((λ new vars hyps. h.0 (new ++ e0) vars hyps), valid-hold gs h.1)

  pub hold-left : (gs hs : List Gl) → AllHold (gs ++ hs) → AllHold gs
  hold-left [] hs h = tt
  hold-left (g ∷ gs) hs h = (h.0, hold-left gs hs h.1)

  pub hold-right : (gs hs : List Gl) → AllHold (gs ++ hs) → AllHold hs
  hold-right [] hs h = h
  hold-right (g ∷ gs) hs h = hold-right gs hs h.1

  -- a goal of a way that stands is true
  turned-true : (e : Env) (phis psis : List Tm) → AllTrue M phis e → AllTrue M psis e → AllTrue M (reverse_aux phis psis) e
  turned-true e [] psis h k = k
  turned-true e (phi ∷ phis) psis h k = turned-true e phis (phi ∷ psis) h.1 (h.0, k)

  pub site-true : (m : SiteKind) (at : ℕ) (phi : Tm) (w : Way) (e : Env) → Extends w0 e0 w e → Stands M w e → AllHold (goal_site k m at phi w) → Truth M phi e
  site-true m at phi w e x s h =
      subst (Truth M phi) (sym x.env)
      (h.0 x.new
      (subst (λ e. HasSorts (reverse (map (λ (y : Vr). y.sort) (reverse w.vars))) e) x.env (subst (λ Ss. HasSorts Ss e) (sym (turned-sorts w)) s.sorts))
      (subst (AllTrue M (reverse w.hyps)) x.env (turned-true e w.hyps [] s.hyps tt)))

  -- the need of a divisor is true where its site holds
  opened-true : (at : ℕ) (phi : Tm) (w : Way) (e : Env) → Extends w0 e0 w e → Stands M w e → AllHold (opened Gl (goal_site k) at phi w) → Truth M phi e
  opened-true at (t_if c (t_bool false) (t_bool true)) w e x s h = site-true kind.Divisor at (t_if c (t_bool false) (t_bool true)) w e x s h
  opened-true at (t_if c t (t_bool true)) w e x s h = go (is_true (value M c e)) refl (λ q. opened-true at t (suppose c w) e (extends-same' x) (suppose-stands M c w e s (true-value (value M c e) q)) h)
    where
      extends-same' : Extends w0 e0 w e → Extends w0 e0 (suppose c w) e
      extends-same' x = record { news = x.news; new = x.new; vars = x.vars; env = x.env; long = x.long }

      go : (b : Bool) → is_true (value M c e) ≡ b → (is_true (value M c e) ≡ true → Truth M t e) → (if b then value M t e else v_bool true) ≡ v_bool true
      go true q ih = ih q
      go false q ih = refl
  opened-true at phi w e x s h = site-true kind.Divisor at phi w e x s h

  need-true : (m : SiteKind) (at : ℕ) (phi : Tm) (w : Way) (e : Env) → Extends w0 e0 w e → Stands M w e → AllHold (need_sites Gl (goal_site k) m at phi w) → Truth M phi e
  need-true kind.Divisor at phi w e x s h = opened-true at phi w e x s h
  need-true m at phi w e x s h = site-true m at phi w e x s h

  -- the value is that of a term with which the rest goes on, on a way further on that stands, and the rest's goals hold there
  pub record Reaches (w : Way) (e : Env) (K : Way → Tm → List Gl) (v : Val) : Type 0 where
    pub way : Way
    pub env : Env
    pub extends : Extends w e way env
    pub stands : Stands M way env
    pub term : Tm
    pub gives : value M term env ≡ v
    pub holds : AllHold (K way term)

  reaches-from : (w : Way) (e : Env) (w1 : Way) (e1 : Env) (K : Way → Tm → List Gl) (v : Val) → Extends w e w1 e1 → Reaches w1 e1 K v → Reaches w e K v
  reaches-from w e w1 e1 K v x r = record { way = r.way; env = r.env; extends = extends-then w e w1 e1 r.way r.env x r.extends; stands = r.stands; term = r.term; gives = r.gives; holds = r.holds }

  shifted-true : (phis : List Tm) (e : Env) (v : Val) → AllTrue M phis e → AllTrue M (map (shift 0 1) phis) (v ∷ e)
  shifted-true [] e v h = tt
  shifted-true (phi ∷ phis) e v h = (shift_law M 0 phi e (v ∷ []) ∙ h.0, shifted-true phis e v h.1)

  fresh-extends : (w : Way) (e : Env) (x : List ℕ) (S : Srt) (v : Val) → Extends w e (fresh x S w) (v ∷ e)
  fresh-extends w e x S v = record { news = record { name = x; sort = S } ∷ []; new = v ∷ []; vars = refl; env = refl; long = refl }

  fresh-stands : (w : Way) (e : Env) (x : List ℕ) (S : Srt) (v : Val) → Stands M w e → Has S v → Stands M (fresh x S w) (v ∷ e)
  fresh-stands w e x S v s h = record { sorts = (h, s.sorts); hyps = shifted-true w.hyps e v s.hyps }

  -- what the goals of a walk tell of a transformer, where the values of its variables are those of the terms vs
  pub record Told (H : Holes) (v : Wt) (vs : List Tm) (w : Way) (e : Env) (K : Way → Tm → List Gl) : Type 0 where
    pub is_safe : safe M H v (put_values M vs e)
    pub reached : (r : Val) → demands M H v (put_values M vs e) r → Reaches w e K r

  pub record ToldWays (H : Holes) (ws : Wts) (vs : List Tm) (w : Way) (e : Env) (K : Way → Tm → List Gl) : Type 0 where
    pub are_safe : all_safe M H ws (put_values M vs e)
    pub reached : (r : Val) → some_demands M H ws (put_values M vs e) r → Reaches w e K r

  module _ (H : Holes) where
    truth-put : (phi : Tm) (vs : List Tm) (e : Env) → Truth M phi (put_values M vs e) → Truth M (put vs phi) e
    truth-put phi vs e h = put-value M vs phi e ∙ h

    put-truth : (phi : Tm) (vs : List Tm) (e : Env) → Truth M (put vs phi) e → Truth M phi (put_values M vs e)
    put-truth phi vs e h = sym (put-value M vs phi e) ∙ h

    -- the part of a way, where its condition is true
    way-told : (c : Choice) (phi : Tm) (v : Wt) (vs : List Tm) (w : Way) (e : Env) (K : Way → Tm → List Gl)
        → Stands M w e → Truth M (put vs phi) e
        → (AllHold (wp_walk Gl (goal_site k) v vs w K) → Told H v vs w e K)
        → (Stands M (choose c (suppose (put vs phi) w)) e → AllHold (wp_walk Gl (goal_site k) v vs (choose c (suppose (put vs phi) w)) K) → Told H v vs (choose c (suppose (put vs phi) w)) e K)
        → (o : Option Bool) → Tells M e o (put vs phi)
        → AllHold (by_look o (wp_walk Gl (goal_site k) v vs w K) (wp_walk Gl (goal_site k) v vs (choose c (suppose (put vs phi) w)) K))
        → Told H v vs w e K
    way-told c phi v vs w e K s t here there (Some true) tells h = here h
    way-told c phi v vs w e K s t here there (Some false) tells h = let bad : v_bool true ≡ v_bool false = sym t ∙ tells in cc
    way-told c phi v vs w e K s t here there None tells h =
        let w1 = choose c (suppose (put vs phi) w) in
        let told = there (record { sorts = s.sorts; hyps = (t, s.hyps) }) h in
        record { is_safe = told.is_safe; reached = λ r d. reaches-from w e w1 e K r (extends-same w w1 e refl) (told.reached r d) }

    same-place : (w w1 : Way) (e : Env) → w1.vars ≡ w.vars → Extends w0 e0 w e → Extends w0 e0 w1 e
    same-place w w1 e p x = extends-then w0 e0 w e w1 e x (extends-same w w1 e p)

    mutual
      pub told : (v : Wt) (vs : List Tm) (w : Way) (e : Env) (K : Way → Tm → List Gl) → IsClosed v → Extends w0 e0 w e → Stands M w e → AllHold (wp_walk Gl (goal_site k) v vs w K) → Told H v vs w e K
      told (w_post t) vs w e K n x s h = record { is_safe = tt; reached = λ r d. record { way = w; env = e; extends = extends-same w w e refl; stands = s; term = put vs t; gives = put-value M vs t e ∙ d; holds = h } }
      told (w_need phi m at v) vs w e K n x s h =
          let sites = need_sites Gl (goal_site k) m at (put vs phi) w in
          let rest = told v vs w e K n x s (hold-right sites (wp_walk Gl (goal_site k) v vs w K) h) in
          record { is_safe = (put-truth phi vs e (need-true m at (put vs phi) w e x s (hold-left sites (wp_walk Gl (goal_site k) v vs w K) h)), rest.is_safe); reached = rest.reached }
      told (w_given phi v) vs w e K n x s h =
          let w1 = suppose (put vs phi) w in
          let rest = λ (t : Truth M phi (put_values M vs e)). told v vs w1 e K n (same-place w w1 e refl x) (suppose-stands M (put vs phi) w e s (truth-put phi vs e t)) h in
          record { is_safe = λ t. (rest t).is_safe; reached = λ r d. reaches-from w e w1 e K r (extends-same w w1 e refl) ((rest d.0).reached r d.1) }
      told (w_fresh y S v) vs w e K n x s h =
          let w1 = fresh y S w in
          let rest = λ (a : Val) (b : Has S a). told v (t_var 0 ∷ all_raised (count w) w1 vs) w1 (a ∷ e) K n (extends-then w0 e0 w e w1 (a ∷ e) x (fresh-extends w e y S a)) (fresh-stands w e y S a s b) h in
          let same = λ (a : Val). raised-put-values M w e w1 (a ∷ e) vs (fresh-extends w e y S a) in
          record {
            is_safe = λ a b. subst (λ l. safe M H v (a ∷ l)) (same a) (rest a b).is_safe;
            reached = λ r d. reaches-from w e w1 (d.0 ∷ e) K r (fresh-extends w e y S d.0) ((rest d.0 d.1.0).reached r (subst (λ l. demands M H v (d.0 ∷ l) r) (sym (same d.0)) d.1.1));
          }
      told (w_ways ws) vs w e K n x s h = let all = told-ways ws vs w e K n x s h in record { is_safe = all.are_safe; reached = all.reached }
      told (w_hole o ts y v) vs w e K n x s h = absurd n
      told (w_hole_tail o ts) vs w e K n x s h = absurd n
      told (w_then v1 y v2) vs w e K n x s h =
          let first = told v1 vs w e (λ w1 t. wp_walk Gl (goal_site k) v2 (t ∷ all_raised (count w) w1 vs) w1 K) n.0 x s h in
          let second = λ (a : Val) (d : demands M H v1 (put_values M vs e) a).
          let z = first.reached a d in
          told v2 (z.term ∷ all_raised (count w) z.way vs) z.way z.env K n.1 (extends-then w0 e0 w e z.way z.env x z.extends) z.stands z.holds in
          let same = λ (a : Val) (d : demands M H v1 (put_values M vs e) a).
          let z = first.reached a d in
          ap₂ ◌∷◌ z.gives (raised-put-values M w e z.way z.env vs z.extends) in
          record {
            is_safe = (first.is_safe, λ a d. subst (λ l. safe M H v2 l) (same a d) (second a d).is_safe);
            reached = λ r d. let z = first.reached d.0 d.1.0 in reaches-from w e z.way z.env K r z.extends ((second d.0 d.1.0).reached r (subst (λ l. demands M H v2 l r) (sym (same d.0 d.1.0)) d.1.1));
          }

      told-ways : (ws : Wts) (vs : List Tm) (w : Way) (e : Env) (K : Way → Tm → List Gl) → AreClosed ws → Extends w0 e0 w e → Stands M w e → AllHold (ways_walk Gl (goal_site k) ws vs w K) → ToldWays H ws vs w e K
      told-ways w_none vs w e K n x s h = record { are_safe = tt; reached = λ r d. absurd d }
      told-ways (w_way c phi v more) vs w e K n x s h =
          let w1 = choose c (suppose (put vs phi) w) in
          let one = by_look (decided c (put vs phi)) (wp_walk Gl (goal_site k) v vs w K) (wp_walk Gl (goal_site k) v vs w1 K) in
          let others = told-ways more vs w e K n.1 x s (hold-right one (ways_walk Gl (goal_site k) more vs w K) h) in
          let this = λ (t : Truth M phi (put_values M vs e)). way-told c phi v vs w e K s (truth-put phi vs e t)
          (λ h. told v vs w e K n.0 x s h)
          (λ s h. told v vs w1 e K n.0 (same-place w w1 e refl x) s h)
          (decided c (put vs phi)) (decided-tells M e c (put vs phi)) (hold-left one (ways_walk Gl (goal_site k) more vs w K) h) in
          record {
            are_safe = ((λ t. (this t).is_safe), others.are_safe);
            reached = λ r d. ⊎_elim (λ z. (this z.0).reached r z.1) (λ z. others.reached r z) d;
          }
