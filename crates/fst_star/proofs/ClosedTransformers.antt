-- The transformer of core text has no hole and no need of kind Ensures.
use Rattle.std.specs.Prelude.{⊤}
use Rattle.std.proofs.Common.{◌≡◌, refl, ℕ, suc, Bool, true, false, nat_eq, ◌&&◌, if◌then◌else◌, List, [], ◌∷◌, ◌++◌, reverse, map, slice_get, Option, Some, None}
use Rattle.fst_base.specs.Sorts.{Srt, s_unit}
use Rattle.fst_terms.specs.Terms.{Tm, shift, t_var, t_unit, listed}
use Rattle.fst_terms.specs.Formulas.{put, puts, sort_of}
use Rattle.fst_program.specs.declared.comp.Con.{Con}
use Rattle.fst_program.specs.declared.goal.SiteKind.TheVariants as kind
use Rattle.fst_program.specs.Texts.{Dm, DmArms, d_ret, d_let, d_if, d_match, d_run_f, d_run_g, d_end, d_arm, Cm, CmArms, c_ret, c_let, c_bind, c_ghost, c_assert, c_if, c_match, c_call, c_reify, c_reflect, c_return, c_lift, c_end, c_arm, Fn, Prog, if_there, fun_at, is_total, result_at, bind_text, return_text, lift_text}
use Rattle.fst_program.specs.Paths.{Division, divisions, selectors, same_con, demands_of, measures_at, dm_family, cm_family, text_sort, dm_at, all_divisions, own_vars, own_input}
use Rattle.fst_star.specs.Transformers.{Wt, Wts, w_post, w_need, w_given, w_fresh, w_ways, w_hole, w_hole_tail, w_then, w_none, w_way, wshift, ws_shift, AreClosed, IsClosed}
use Rattle.fst_star.specs.Translation.{Scope, under, divisor_needs, con_ways, star, star_arm}
use Rattle.fst_star.specs.Inference.{input_of, needed, givens, decreasing, call_wp, no_wp, known_after, infer, infer_arm, infer_fun, start_scope}
use Rattle.fst_star.specs.Laws.{is_ensures, AsksNoEnsures, AskNoEnsures}

-- neither holes nor needs of kind Ensures
abbrev mutual
  IsTame : Wt → Type 0
  IsTame (w_post t) = ⊤
  IsTame (w_need phi m at w) = (is_ensures m ≡ false) × IsTame w
  IsTame (w_given phi w) = IsTame w
  IsTame (w_fresh x S w) = IsTame w
  IsTame (w_ways ws) = AreTame ws
  IsTame (w_hole h ts x w) = ⊥
  IsTame (w_hole_tail h ts) = ⊥
  IsTame (w_then w1 x w2) = IsTame w1 × IsTame w2

  AreTame : Wts → Type 0
  AreTame w_none = ⊤
  AreTame (w_way c phi w more) = IsTame w × AreTame more

mutual
  tame-closed : (w : Wt) → IsTame w → IsClosed w
  tame-closed (w_post t) h = tt
  tame-closed (w_need phi m at w) h = tame-closed w h.1
  tame-closed (w_given phi w) h = tame-closed w h
  tame-closed (w_fresh x S w) h = tame-closed w h
  tame-closed (w_ways ws) h = tame-all-closed ws h
  tame-closed (w_hole o ts x w) h = absurd h
  tame-closed (w_hole_tail o ts) h = absurd h
  tame-closed (w_then w1 x w2) h = (tame-closed w1 h.0, tame-closed w2 h.1)

  tame-all-closed : (ws : Wts) → AreTame ws → AreClosed ws
  tame-all-closed w_none h = tt
  tame-all-closed (w_way c phi w more) h = (tame-closed w h.0, tame-all-closed more h.1)

mutual
  tame-asks : (w : Wt) → IsTame w → AsksNoEnsures w
  tame-asks (w_post t) h = tt
  tame-asks (w_need phi m at w) h = (h.0, tame-asks w h.1)
  tame-asks (w_given phi w) h = tame-asks w h
  tame-asks (w_fresh x S w) h = tame-asks w h
  tame-asks (w_ways ws) h = tame-all-ask ws h
  tame-asks (w_hole o ts x w) h = absurd h
  tame-asks (w_hole_tail o ts) h = absurd h
  tame-asks (w_then w1 x w2) h = (tame-asks w1 h.0, tame-asks w2 h.1)

  tame-all-ask : (ws : Wts) → AreTame ws → AskNoEnsures ws
  tame-all-ask w_none h = tt
  tame-all-ask (w_way c phi w more) h = (tame-asks w h.0, tame-all-ask more h.1)

mutual
  shift-tame : (w : Wt) (from by : ℕ) → IsTame w → IsTame (wshift from by w)
  shift-tame (w_post t) from by h = tt
  shift-tame (w_need phi m at w) from by h = (h.0, shift-tame w from by h.1)
  shift-tame (w_given phi w) from by h = shift-tame w from by h
  shift-tame (w_fresh x S w) from by h = shift-tame w (suc from) by h
  shift-tame (w_ways ws) from by h = shift-all-tame ws from by h
  shift-tame (w_hole o ts x w) from by h = h
  shift-tame (w_hole_tail o ts) from by h = h
  shift-tame (w_then w1 x w2) from by h = (shift-tame w1 from by h.0, shift-tame w2 (suc from) by h.1)

  shift-all-tame : (ws : Wts) (from by : ℕ) → AreTame ws → AreTame (ws_shift from by ws)
  shift-all-tame w_none from by h = tt
  shift-all-tame (w_way c phi w more) from by h = (shift-tame w from by h.0, shift-all-tame more from by h.1)

needs-tame : (ds : List Division) (us : List Tm) (w : Wt) → IsTame w → IsTame (divisor_needs ds us w)
needs-tame [] us w h = h
needs-tame (d ∷ ds) us w h = (refl, needs-tame ds us w h)

ways-tame : (cs : List Con) (S : Srt) (u : Tm) (arm : Con → List Tm → Wt) → ((c : Con) (ts : List Tm) → IsTame (arm c ts)) → AreTame (con_ways cs S u arm)
ways-tame [] S u arm h = tt
ways-tame (c ∷ cs) S u arm h = (h c (selectors c S u), ways-tame cs S u arm h)

if-tame : (b : Bool) (v w : Wt) → IsTame v → IsTame w → IsTame (if b then v else w)
if-tame true v w h k = h
if-tame false v w h k = k

module _ (rf rg : Srt) (F G : Wt) (hF : IsTame F) (hG : IsTame G) where
  mutual
    pub star-tame : (d : Dm) (sc : Scope) (us : List Tm) (n : ℕ) → IsTame (star rf rg F G sc us n d)
    star-tame (d_ret t) sc us n = needs-tame (divisions [] t) us _ tt
    star-tame (d_let x d1 d2) sc us n = (star-tame d1 sc us n, star-tame d2 _ _ (suc n))
    star-tame (d_if t d1 d2) sc us n = needs-tame (divisions [] t) us _ (star-tame d1 sc us n, (star-tame d2 sc us n, tt))
    star-tame (d_match t arms) sc us n = needs-tame (divisions [] t) us _ (ways-tame (dm_family arms) (sort_of sc.sorts (put us t)) (put us t) (λ c ts. star_arm rf rg F G sc us n arms c ts) (λ c ts. star-arm-tame arms sc us n c ts))
    star-tame (d_run_f t) sc us n = needs-tame (divisions [] t) us _ (tt, shift-tame F 1 n hF)
    star-tame (d_run_g t u) sc us n = needs-tame (divisions [] t) us _ (needs-tame (divisions [] u) us _ (tt, (tt, shift-tame G 2 n hG)))

    star-arm-tame : (arms : DmArms) (sc : Scope) (us : List Tm) (n : ℕ) (c : Con) (ts : List Tm) → IsTame (star_arm rf rg F G sc us n arms c ts)
    star-arm-tame d_end sc us n c ts = (refl, tt)
    star-arm-tame (d_arm c' xs d more) sc us n c ts = if-tame (same_con c' c) _ _ (star-tame d sc (reverse ts ++ us) n) (star-arm-tame more sc us n c ts)

module _ (P : Prog) (f : Fn) where
  needed-tame : (phis : List Tm) (at : ℕ) (w : Wt) → IsTame w → IsTame (needed phis at w)
  needed-tame [] at w h = h
  needed-tame (phi ∷ phis) at w h = (refl, h)

  givens-tame : (phis : List Tm) (w : Wt) → IsTame w → IsTame (givens phis w)
  givens-tame [] w h = h
  givens-tame (phi ∷ phis) w h = givens-tame phis w h

  decreasing-tame : (g : Fn) (sc : Scope) (ms : List Tm) (at : ℕ) (w : Wt) → IsTame w → IsTame (decreasing P f g sc ms at w)
  decreasing-tame g sc ms at w h = if-tame (is_total P f.effect && nat_eq g.group f.group) (w_need (Rattle.fst_terms.specs.Formulas.decrease ms sc.olds) kind.Decreases at w) w (refl, h) h

  call-tame : (j : ℕ) (sc : Scope) (ts : List Tm) (s : Tm) (at : ℕ) (o : Option Fn) → IsTame (if_there o (λ g. call_wp P f j g sc ts s at) (no_wp P f))
  call-tame j sc ts s at None = tt
  call-tame j sc ts s at (Some g) = needed-tame (demands_of g ts s) at (decreasing P f g sc (measures_at g ts) at (w_fresh g.name (Rattle.fst_program.specs.Texts.result_sort P g.effect g.sort) (givens (known_after P f j g (map (shift 0 1) ts) (shift 0 1 s)) (w_post (t_var 0))))) (decreasing-tame g sc (measures_at g ts) at (w_fresh g.name (Rattle.fst_program.specs.Texts.result_sort P g.effect g.sort) (givens (known_after P f j g (map (shift 0 1) ts) (shift 0 1 s)) (w_post (t_var 0)))) inner)
    where
      inner : IsTame (w_fresh g.name (Rattle.fst_program.specs.Texts.result_sort P g.effect g.sort) (givens (known_after P f j g (map (shift 0 1) ts) (shift 0 1 s)) (w_post (t_var 0))))
      inner = givens-tame (known_after P f j g (map (shift 0 1) ts) (shift 0 1 s)) (w_post (t_var 0)) tt

  mutual
    pub infer-tame : (c : Cm) (sc : Scope) (us : List Tm) (s : Tm) → IsTame (infer P f sc us s c)
    infer-tame (c_ret t) sc us s = needs-tame (divisions [] t) us _ tt
    infer-tame (c_let x c1 c2) sc us s = (infer-tame c1 sc us t_unit, infer-tame c2 _ _ _)
    infer-tame (c_bind E x c1 c2) sc us s =
        let A = text_sort P (map (sort_of sc.sorts) us) c1 in
        let B = text_sort P (A ∷ map (sort_of sc.sorts) us) c2 in
        let sc1 = under (input_of P E) sc in
        let sc2 = under (input_of P E) (under A sc) in
        let us1 = map (shift 0 1) us in
        let us2 = t_var 1 ∷ map (shift 0 1) (map (shift 0 1) us) in
        star-tame (result_at P E A) (result_at P E B) (infer P f sc1 us1 (t_var 0) c1) (infer P f sc2 us2 (t_var 0) c2) (infer-tame c1 sc1 us1 (t_var 0)) (infer-tame c2 sc2 us2 (t_var 0)) (dm_at A B (bind_text P E)) sc (s ∷ []) 0
    infer-tame (c_ghost x c1 c2) sc us s = (infer-tame c1 sc us t_unit, infer-tame c2 _ _ _)
    infer-tame (c_assert phi at c) sc us s = (refl, infer-tame c sc us s)
    infer-tame (c_if t c1 c2) sc us s = needs-tame (divisions [] t) us _ (infer-tame c1 sc us s, (infer-tame c2 sc us s, tt))
    infer-tame (c_match t at arms) sc us s = needs-tame (divisions [] t) us _ (ways-tame (cm_family arms) (sort_of sc.sorts (put us t)) (put us t) (λ c ts. infer_arm P f sc us s at arms c ts) (λ c ts. infer-arm-tame arms sc us s at c ts))
    infer-tame (c_call j ts at) sc us s = needs-tame (all_divisions [] ts) us (if_there (fun_at P j) (λ g. call_wp P f j g sc (listed (puts us ts)) s at) (no_wp P f)) (call-tame j sc (listed (puts us ts)) s at (fun_at P j))
    infer-tame (c_reify E S c t) sc us s = needs-tame (divisions [] t) us _ (infer-tame c sc us (put us t))
    infer-tame (c_reflect E S x c) sc us s = infer-tame c sc (s ∷ us) t_unit
    infer-tame (c_return E c) sc us s =
        let A = text_sort P (map (sort_of sc.sorts) us) c in
        (infer-tame c sc us t_unit, star-tame s_unit s_unit (no_wp P f) (no_wp P f) tt tt (dm_at A A (return_text P E)) (under A sc) (shift 0 1 s ∷ t_var 0 ∷ []) 0)
    infer-tame (c_lift l c) sc us s =
        let A = text_sort P (map (sort_of sc.sorts) us) c in
        let E = if_there (slice_get P.lifts l) (λ d. d.from) 0 in
        star-tame (result_at P E A) s_unit (infer P f (under (input_of P E) sc) (map (shift 0 1) us) (t_var 0) c) (no_wp P f) (infer-tame c (under (input_of P E) sc) (map (shift 0 1) us) (t_var 0)) tt (dm_at A A (lift_text P l)) sc (s ∷ []) 0

    infer-arm-tame : (arms : CmArms) (sc : Scope) (us : List Tm) (s : Tm) (at : ℕ) (c : Con) (ts : List Tm) → IsTame (infer_arm P f sc us s at arms c ts)
    infer-arm-tame c_end sc us s at c ts = (refl, tt)
    infer-arm-tame (c_arm c' xs body more) sc us s at c ts = if-tame (same_con c' c) _ _ (infer-tame body sc (reverse ts ++ us) s) (infer-arm-tame more sc us s at c ts)

  infer-fun-tame : IsTame (infer_fun P f)
  infer-fun-tame = infer-tame f.body (start_scope P f) (own_vars f) (own_input f)

  pub infer-fun-closed : IsClosed (infer_fun P f)
  infer-fun-closed = tame-closed (infer_fun P f) infer-fun-tame

  pub infer-fun-asks : AsksNoEnsures (infer_fun P f)
  infer-fun-asks = tame-asks (infer_fun P f) infer-fun-tame
