-- The goals of a function's transformer are valid where it is safe, with results that meet the ensures, in each environment of its start.
use Rattle.std.proofs.Common.{◌≡◌, ℕ, Bool, true, false, List, [], ◌∷◌, ◌++◌, map, reverse, Option, Some, None, refl, sym, ap, ◌∙◌, subst}
use Rattle.std.specs.Prelude.{⊤}
use mathlib.Core.List.{reverse_aux}
use Rattle.fst_base.specs.Sorts.{Srt}
use Rattle.fst_base.specs.Values.{Val, HasSorts}
use Rattle.fst_terms.specs.Terms.{Tm, t_var, t_bool, t_if, shift}
use Rattle.fst_terms.specs.Meaning.{Env, Meaning, Truth, AllTrue, HasVars}
use Rattle.fst_terms.specs.Formulas.{put}
use Rattle.fst_terms.proofs.TermLemmas.{shift_law}
use Rattle.fst_program.specs.declared.goal.SiteKind.{SiteKind}
use Rattle.fst_program.specs.declared.goal.SiteKind.TheVariants as kind
use Rattle.fst_program.specs.Texts.{Fn, Prog}
use Rattle.fst_program.specs.Paths.{Gl, Way, count, suppose, choose, fresh, all_raised, over, given, start, goal_site, ensures_site, GoalsValid}
use Rattle.fst_star.specs.Transformers.{Wt, Wts, w_post, w_need, w_given, w_fresh, w_ways, w_hole, w_hole_tail, w_then, w_none, w_way, Holes, safe, demands, IsClosed}
use Rattle.fst_star.specs.Inference.{start_terms}
use Rattle.fst_star.specs.Walking.{decided, by_look, opened, need_sites, wp_walk, ways_walk}
use Rattle.fst_program.proofs.Ways.{turned-sorts, Stands}
use Rattle.fst_star.proofs.SafeTransformers.{AllHold}
use Rattle.fst_star.proofs.FunctionSafe.{Meets, goals-hold-where-safe}

module _ (M : Meaning) (k : ℕ) (w0 : Way) where
  -- the environment extends one in which w0 stands
  pub record Rooted (e : Env) : Type 0 where
    pub new : Env
    pub base : Env
    pub is : e ≡ new ++ base
    pub stands : Stands M w0 base

  abbrev RootedWay : Way → Type 0
  RootedWay w = (e : Env) → Stands M w e → Rooted e

  abbrev RootedGoal : Gl → Type 0
  RootedGoal g = (e : Env) → HasVars g.sequent.vars e → AllTrue M g.sequent.hyps e → Rooted e

  abbrev AllRooted : List Gl → Type 0
  AllRooted [] = ⊤
  AllRooted (g ∷ gs) = RootedGoal g × AllRooted gs

  rooted-both : (gs hs : List Gl) → AllRooted gs → AllRooted hs → AllRooted (gs ++ hs)
  rooted-both [] hs h j = j
  rooted-both (g ∷ gs) hs h j = (h.0, rooted-both gs hs h.1 j)

  back-true : (e : Env) (phis psis : List Tm) → AllTrue M (reverse_aux phis psis) e → AllTrue M phis e × AllTrue M psis e
  back-true e [] psis h = (tt, h)
  back-true e (phi ∷ phis) psis h = let z = back-true e phis (phi ∷ psis) h in ((z.1.0, z.0), z.1.1)

  rooted-site : (m : SiteKind) (at : ℕ) (phi : Tm) (w : Way) → RootedWay w → AllRooted (goal_site k m at phi w)
  rooted-site m at phi w h = ((λ e vars hyps. h e (record { sorts = subst (λ Ss. HasSorts Ss e) (turned-sorts w) vars; hyps = (back-true e w.hyps [] hyps).0 })), tt)

  rooted-suppose : (phi : Tm) (w : Way) → RootedWay w → RootedWay (suppose phi w)
  rooted-suppose phi w h e s = h e (record { sorts = s.sorts; hyps = s.hyps.1 })

  unshifted : (phis : List Tm) (e : Env) (v : Val) → AllTrue M (map (shift 0 1) phis) (v ∷ e) → AllTrue M phis e
  unshifted [] e v h = tt
  unshifted (phi ∷ phis) e v h = (sym (shift_law M 0 phi e (v ∷ [])) ∙ h.0, unshifted phis e v h.1)

  rooted-fresh : (x : List ℕ) (S : Srt) (w : Way) → RootedWay w → RootedWay (fresh x S w)
  rooted-fresh x S w h [] s = absurd s.sorts
  rooted-fresh x S w h (v ∷ e) s =
      let r = h e (record { sorts = s.sorts.1; hyps = unshifted w.hyps e v s.hyps }) in
      record { new = v ∷ r.new; base = r.base; is = ap (λ l. v ∷ l) r.is; stands = r.stands }

  rooted-opened : (at : ℕ) (phi : Tm) (w : Way) → RootedWay w → AllRooted (opened Gl (goal_site k) at phi w)
  rooted-opened at (t_if c (t_bool false) (t_bool true)) w h = rooted-site kind.Divisor at (t_if c (t_bool false) (t_bool true)) w h
  rooted-opened at (t_if c t (t_bool true)) w h = rooted-opened at t (suppose c w) (rooted-suppose c w h)
  rooted-opened at phi w h = rooted-site kind.Divisor at phi w h

  rooted-need : (m : SiteKind) (at : ℕ) (phi : Tm) (w : Way) → RootedWay w → AllRooted (need_sites Gl (goal_site k) m at phi w)
  rooted-need kind.Divisor at phi w h = rooted-opened at phi w h
  rooted-need m at phi w h = rooted-site m at phi w h

  rooted-look : (o : Option Bool) (gs hs : List Gl) → AllRooted gs → AllRooted hs → AllRooted (by_look o gs hs)
  rooted-look (Some true) gs hs h j = h
  rooted-look (Some false) gs hs h j = tt
  rooted-look None gs hs h j = j

  mutual
    rooted : (v : Wt) (vs : List Tm) (w : Way) (K : Way → Tm → List Gl) → RootedWay w → ((w1 : Way) (t : Tm) → RootedWay w1 → AllRooted (K w1 t)) → AllRooted (wp_walk Gl (goal_site k) v vs w K)
    rooted (w_post t) vs w K h j = j w (put vs t) h
    rooted (w_need phi m at v) vs w K h j = rooted-both (need_sites Gl (goal_site k) m at (put vs phi) w) (wp_walk Gl (goal_site k) v vs w K) (rooted-need m at (put vs phi) w h) (rooted v vs w K h j)
    rooted (w_given phi v) vs w K h j = rooted v vs (suppose (put vs phi) w) K (rooted-suppose (put vs phi) w h) j
    rooted (w_fresh x S v) vs w K h j = rooted v (t_var 0 ∷ all_raised (count w) (fresh x S w) vs) (fresh x S w) K (rooted-fresh x S w h) j
    rooted (w_ways ws) vs w K h j = rooted-ways ws vs w K h j
    rooted (w_hole o ts x v) vs w K h j = tt
    rooted (w_hole_tail o ts) vs w K h j = tt
    rooted (w_then v1 x v2) vs w K h j = rooted v1 vs w (λ w1 t. wp_walk Gl (goal_site k) v2 (t ∷ all_raised (count w) w1 vs) w1 K) h (λ w1 t h1. rooted v2 (t ∷ all_raised (count w) w1 vs) w1 K h1 j)

    rooted-ways : (ws : Wts) (vs : List Tm) (w : Way) (K : Way → Tm → List Gl) → RootedWay w → ((w1 : Way) (t : Tm) → RootedWay w1 → AllRooted (K w1 t)) → AllRooted (ways_walk Gl (goal_site k) ws vs w K)
    rooted-ways w_none vs w K h j = tt
    rooted-ways (w_way c phi v more) vs w K h j =
        let w1 = choose c (suppose (put vs phi) w) in
        rooted-both (by_look (decided c (put vs phi)) (wp_walk Gl (goal_site k) v vs w K) (wp_walk Gl (goal_site k) v vs w1 K)) (ways_walk Gl (goal_site k) more vs w K)
        (rooted-look (decided c (put vs phi)) _ _ (rooted v vs w K h j) (rooted v vs w1 K (λ e s. h e (record { sorts = s.sorts; hyps = s.hyps.1 })) j))
        (rooted-ways more vs w K h j)

  all-valid : (gs : List Gl) → AllRooted gs → ((e0 : Env) → Stands M w0 e0 → AllHold M k w0 e0 gs) → GoalsValid M gs
  all-valid [] h j = tt
  all-valid (g ∷ gs) h j = (
    (λ e vars hyps.
        let r = h.0 e vars hyps in
        subst (Truth M g.sequent.goal) (sym r.is) ((j r.base r.stands).0 r.new (subst (HasVars g.sequent.vars) r.is vars) (subst (AllTrue M g.sequent.hyps) r.is hyps))),
    all-valid gs h.1 (λ e0 s. (j e0 s).1),
  )

module _ (P : Prog) (k : ℕ) (f : Fn) (M : Meaning) (H : Holes) where
  rooted-ends : (w : Way) (t : Tm) → RootedWay M k (start P f) w → AllRooted M k (start P f) (ensures_site P k f w t)
  rooted-ends w t h = go (given f.gives (t ∷ all_raised (count (start P f)) w (Rattle.fst_program.specs.Paths.clause_terms f.effect (reverse (Rattle.fst_program.specs.Paths.own_vars f)) (Rattle.fst_program.specs.Paths.own_input f))))
    where
      go : (phis : List Tm) → AllRooted M k (start P f) (over phis (λ phi. goal_site k kind.Ensures f.place phi w))
      go [] = tt
      go (phi ∷ phis) = rooted-both M k (start P f) (goal_site k kind.Ensures f.place phi w) _ (rooted-site M k (start P f) kind.Ensures f.place phi w h) (go phis)

  -- where the transformer is safe and demands results that meet the ensures, in each environment of the function's start, all its goals
  -- are valid
  pub goals-valid-where-safe : (v : Wt) → IsClosed v → ((e0 : Env) (s : Stands M (start P f) e0) → safe M H v e0 × ((r : Val) → demands M H v e0 r → Meets P k f M H e0 s r)) → GoalsValid M (wp_walk Gl (goal_site k) v (start_terms P f) (start P f) (ensures_site P k f))
  goals-valid-where-safe v n h =
      all-valid M k (start P f) (wp_walk Gl (goal_site k) v (start_terms P f) (start P f) (ensures_site P k f))
      (rooted M k (start P f) v (start_terms P f) (start P f) (ensures_site P k f) (λ e s. record { new = []; base = e; is = refl; stands = s }) rooted-ends)
      (λ e0 s. goals-hold-where-safe P k f M H e0 s v n (h e0 s).0 (h e0 s).1)
