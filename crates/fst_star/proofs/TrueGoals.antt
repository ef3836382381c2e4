-- The goals of the walk of a transformer hold where it is safe and the goals of what follows hold.
use Rattle.std.proofs.Common.{◌≡◌, inl, inr, ℕ, suc, ◌+◌, Bool, true, false, if◌then◌else◌, List, [], ◌∷◌, ◌++◌, map, length, Option, Some, None, refl, sym, ap, ap₂, ◌∙◌, subst, arith}
use mathlib.Core.List.{reverse_aux}
use Rattle.fst_base.specs.Sorts.{Srt}
use Rattle.fst_base.specs.Values.{Val, v_bool, Has, HasSorts}
use Rattle.fst_base.specs.Primitives.{is_true}
use Rattle.fst_terms.specs.Terms.{Tm, t_var, t_bool, t_if, shift}
use Rattle.fst_terms.specs.Meaning.{Env, Meaning, value, Truth, AllTrue, Vr}
use Rattle.fst_terms.specs.Formulas.{put}
use Rattle.fst_terms.proofs.PutLemmas.{put_values, put-value}
use Rattle.fst_terms.proofs.TermLemmas.{shift_law}
use Rattle.fst_program.specs.declared.goal.SiteKind.{SiteKind}
use Rattle.fst_program.specs.declared.goal.SiteKind.TheVariants as kind
use Rattle.fst_program.specs.Paths.{Gl, Way, count, suppose, choose, fresh, all_raised, goal_site}
use Rattle.fst_star.specs.Transformers.{Wt, Wts, w_post, w_need, w_given, w_fresh, w_ways, w_hole, w_hole_tail, w_then, w_none, w_way, Holes, safe, all_safe, demands, some_demands, AreClosed, IsClosed}
use Rattle.fst_star.specs.Walking.{decided, by_look, opened, need_sites, wp_walk, ways_walk}
use Rattle.fst_program.proofs.Ways.{way_sorts, turned-sorts, Stands, Extends, extends-same, extends-then, raised-put-values}
use Rattle.fst_star.proofs.SafeTransformers.{AllHold, Tells, decided-tells}

has-length : (Ss : List Srt) (vs : List Val) → HasSorts Ss vs → length Ss ≡ length vs
has-length [] [] h = refl
has-length [] (v ∷ vs) h = absurd h
has-length (S ∷ Ss) [] h = absurd h
has-length (S ∷ Ss) (v ∷ vs) h = ap suc (has-length Ss vs h.1)

length-sorts : (xs : List Vr) → length (map (λ (x : Vr). x.sort) xs) ≡ length xs
length-sorts [] = refl
length-sorts (x ∷ xs) = ap suc (length-sorts xs)

length-++ {ℓ} : {A : Type ℓ} (xs ys : List A) → length (xs ++ ys) ≡ length xs + length ys
length-++ [] ys = omega arith
length-++ (x ∷ xs) ys = ap suc (length-++ xs ys) ∙ omega arith

-- the way's variables are further ones before those of w0
pub record Behind (w0 w : Way) : Type 0 where
  pub news : List Vr
  pub vars : w.vars ≡ news ++ w0.vars

module _ (M : Meaning) (k : ℕ) (w0 : Way) (e0 : Env) (base : HasSorts (way_sorts w0) e0) where
  extend : (w : Way) (new : Env) → Behind w0 w → HasSorts (way_sorts w) (new ++ e0) → Extends w0 e0 w (new ++ e0)
  extend w new b h =
      let p : length (way_sorts w) ≡ length (new ++ e0) = has-length (way_sorts w) (new ++ e0) h in
      let q : length (way_sorts w) ≡ length w.vars = length-sorts w.vars in
      let r : length w.vars ≡ length b.news + length w0.vars = ap length b.vars ∙ length-++ b.news w0.vars in
      let s : length (new ++ e0) ≡ length new + length e0 = length-++ new e0 in
      let t : length (way_sorts w0) ≡ length e0 = has-length (way_sorts w0) e0 base in
      let u : length (way_sorts w0) ≡ length w0.vars = length-sorts w0.vars in
      record { news = b.news; new = new; vars = b.vars; env = refl; long = omega arith }

  back-true : (e : Env) (phis psis : List Tm) → AllTrue M (reverse_aux phis psis) e → AllTrue M phis e × AllTrue M psis e
  back-true e [] psis h = (tt, h)
  back-true e (phi ∷ phis) psis h = let z = back-true e phis (phi ∷ psis) h in ((z.1.0, z.0), z.1.1)

  -- the formula is true in each environment in which the way stands
  abbrev TrueOn : Way → Tm → Type 0
  TrueOn w phi = (e : Env) → Extends w0 e0 w e → Stands M w e → Truth M phi e

  pub site-holds : (m : SiteKind) (at : ℕ) (phi : Tm) (w : Way) → Behind w0 w → TrueOn w phi → AllHold M k w0 e0 (goal_site k m at phi w)
  site-holds m at phi w b h = (
    (λ new vars hyps.
        let sorts = subst (λ Ss. HasSorts Ss (new ++ e0)) (turned-sorts w) vars in
        h (new ++ e0) (extend w new b sorts) (record { sorts = sorts; hyps = (back-true (new ++ e0) w.hyps [] hyps).0 })),
    tt,
  )

  less-stands : (phi : Tm) (w : Way) (e : Env) → Stands M (suppose phi w) e → Stands M w e
  less-stands phi w e s = record { sorts = s.sorts; hyps = s.hyps.1 }

  less-extends : (w w1 : Way) (e : Env) → w.vars ≡ w1.vars → Extends w0 e0 w1 e → Extends w0 e0 w e
  less-extends w w1 e p x = extends-then w0 e0 w1 e w e x (extends-same w1 w e p)

  opened-holds : (at : ℕ) (phi : Tm) (w : Way) → Behind w0 w → TrueOn w phi → AllHold M k w0 e0 (opened Gl (goal_site k) at phi w)
  opened-holds at (t_if c (t_bool false) (t_bool true)) w b h = site-holds kind.Divisor at (t_if c (t_bool false) (t_bool true)) w b h
  opened-holds at (t_if c t (t_bool true)) w b h = opened-holds at t (suppose c w) (record { news = b.news; vars = b.vars }) (λ e x s.
      let v = h e (less-extends w (suppose c w) e refl x) (less-stands c w e s) in
      let q : is_true (value M c e) ≡ true = ap is_true s.hyps.0 in
      subst (λ z. (if z then value M t e else v_bool true) ≡ v_bool true) q v)
  opened-holds at phi w b h = site-holds kind.Divisor at phi w b h

  need-holds : (m : SiteKind) (at : ℕ) (phi : Tm) (w : Way) → Behind w0 w → TrueOn w phi → AllHold M k w0 e0 (need_sites Gl (goal_site k) m at phi w)
  need-holds kind.Divisor at phi w b h = opened-holds at phi w b h
  need-holds m at phi w b h = site-holds m at phi w b h

  pub hold-both : (gs hs : List Gl) → AllHold M k w0 e0 gs → AllHold M k w0 e0 hs → AllHold M k w0 e0 (gs ++ hs)
  hold-both [] hs h j = j
  hold-both (g ∷ gs) hs h j = (h.0, hold-both gs hs h.1 j)

  -- a place where the way w stood, and where the value of the term t is demanded
  pub record Came (Q : Env → Val → Type 0) (w w1 : Way) (e1 : Env) (t : Tm) : Type 0 where
    pub env : Env
    pub from : Extends w0 e0 w env
    pub stood : Stands M w env
    pub extends : Extends w env w1 e1
    pub demanded : Q env (value M t e1)

  -- the goals of what follows hold on each way whose result is demanded wherever it stands
  abbrev pub Follows : (Env → Val → Type 0) → Way → (Way → Tm → List Gl) → Type 0
  Follows Q w K = (w1 : Way) (t : Tm) → Behind w0 w1 → ((e1 : Env) → Extends w0 e0 w1 e1 → Stands M w1 e1 → Came Q w w1 e1 t) → AllHold M k w0 e0 (K w1 t)

  unshifted : (phis : List Tm) (e : Env) (v : Val) → AllTrue M (map (shift 0 1) phis) (v ∷ e) → AllTrue M phis e
  unshifted [] e v h = tt
  unshifted (phi ∷ phis) e v h = (sym (shift_law M 0 phi e (v ∷ [])) ∙ h.0, unshifted phis e v h.1)

  -- an environment of one variable more
  pub record One (w : Way) (S : Srt) (e1 : Env) : Type 0 where
    pub value : Val
    pub env : Env
    pub has : Has S value
    pub is : e1 ≡ value ∷ env
    pub from : Extends w0 e0 w env
    pub stands : Stands M w env

  pub one-more : (w : Way) (x : List ℕ) (S : Srt) (e1 : Env) → Behind w0 w → Extends w0 e0 (fresh x S w) e1 → Stands M (fresh x S w) e1 → One w S e1
  one-more w x S [] b y s = absurd s.sorts
  one-more w x S (v ∷ e) b y s = go y.new y.env y.long
    where
      go : (new : Env) → v ∷ e ≡ new ++ e0 → length y.news ≡ length new → One w S (v ∷ e)
      go [] p q =
          let r : suc (length w.vars) ≡ length y.news + length w0.vars = ap length y.vars ∙ length-++ y.news w0.vars in
          let t : length w.vars ≡ length b.news + length w0.vars = ap length b.vars ∙ length-++ b.news w0.vars in
          let z : length y.news ≡ 0 = q in
          absurd (omega arith)
      go (a ∷ new) p q =
          let p0 : v ≡ a = cc in
          let p1 : e ≡ new ++ e0 = cc in
          let r : suc (length w.vars) ≡ length y.news + length w0.vars = ap length y.vars ∙ length-++ y.news w0.vars in
          let t : length w.vars ≡ length b.news + length w0.vars = ap length b.vars ∙ length-++ b.news w0.vars in
          let z : length y.news ≡ suc (length new) = q in
          record {
            value = v;
            env = e;
            has = s.sorts.0;
            is = refl;
            from = record { news = b.news; new = new; vars = b.vars; env = p1; long = omega arith };
            stands = record { sorts = s.sorts.1; hyps = unshifted w.hyps e v s.hyps };
          }

  module _ (H : Holes) where
    abbrev Demands : Wt → List Tm → Env → Val → Type 0
    Demands v vs e r = demands M H v (put_values M vs e) r

    abbrev SafeOn : Wt → List Tm → Way → Type 0
    SafeOn v vs w = (e : Env) → Extends w0 e0 w e → Stands M w e → safe M H v (put_values M vs e)

    abbrev WaysSafeOn : Wts → List Tm → Way → Type 0
    WaysSafeOn ws vs w = (e : Env) → Extends w0 e0 w e → Stands M w e → all_safe M H ws (put_values M vs e)

    put-truth : (phi : Tm) (vs : List Tm) (e : Env) → Truth M (put vs phi) e → Truth M phi (put_values M vs e)
    put-truth phi vs e h = sym (put-value M vs phi e) ∙ h

    truth-put : (phi : Tm) (vs : List Tm) (e : Env) → Truth M phi (put_values M vs e) → Truth M (put vs phi) e
    truth-put phi vs e h = put-value M vs phi e ∙ h

    behind-same : (w w1 : Way) → w1.vars ≡ w.vars → Behind w0 w → Behind w0 w1
    behind-same w w1 p b = record { news = b.news; vars = p ∙ b.vars }

    mutual
      pub holding : (v : Wt) (vs : List Tm) (w : Way) (K : Way → Tm → List Gl) → IsClosed v → Behind w0 w → SafeOn v vs w → Follows (Demands v vs) w K → AllHold M k w0 e0 (wp_walk Gl (goal_site k) v vs w K)
      holding (w_post t) vs w K n b s f = f w (put vs t) b (λ e1 x st. record { env = e1; from = x; stood = st; extends = extends-same w w e1 refl; demanded = sym (put-value M vs t e1) })
      holding (w_need phi m at v) vs w K n b s f =
          hold-both (need_sites Gl (goal_site k) m at (put vs phi) w) (wp_walk Gl (goal_site k) v vs w K)
          (need-holds m at (put vs phi) w b (λ e x st. truth-put phi vs e (s e x st).0))
          (holding v vs w K n b (λ e x st. (s e x st).1) f)
      holding (w_given phi v) vs w K n b s f =
          let w1 = suppose (put vs phi) w in
          holding v vs w1 K n (behind-same w w1 refl b)
          (λ e x st. s e (less-extends w w1 e refl x) (less-stands (put vs phi) w e st) (put-truth phi vs e st.hyps.0))
          (λ w2 t b2 came. f w2 t b2 (λ e2 x2 st2.
          let c = came e2 x2 st2 in
          record { env = c.env; from = less-extends w w1 c.env refl c.from; stood = less-stands (put vs phi) w c.env c.stood; extends = extends-then w c.env w1 c.env w2 e2 (extends-same w w1 c.env refl) c.extends; demanded = (put-truth phi vs c.env c.stood.hyps.0, c.demanded) }))
      holding (w_fresh y S v) vs w K n b s f =
          let w1 = fresh y S w in
          let vs1 = all_raised (count w) w1 vs in
          holding v (t_var 0 ∷ vs1) w1 K n (record { news = record { name = y; sort = S } ∷ b.news; vars = ap (λ l. record { name = y; sort = S } ∷ l) b.vars })
          (λ e1 x st.
          let o = one-more w y S e1 b x st in
          let ext : Extends w o.env w1 e1 = record { news = record { name = y; sort = S } ∷ []; new = o.value ∷ []; vars = refl; env = o.is; long = refl } in
          subst (λ l. safe M H v l) (ap₂ ◌∷◌ (sym (ap (λ e. Rattle.fst_terms.specs.Meaning.lookup e 0) o.is)) (sym (raised-put-values M w o.env w1 e1 vs ext))) (s o.env o.from o.stands o.value o.has))
          (λ w2 t b2 came. f w2 t b2 (λ e2 x2 st2.
          let c = came e2 x2 st2 in
          let o = one-more w y S c.env b c.from c.stood in
          let ext : Extends w o.env w1 c.env = record { news = record { name = y; sort = S } ∷ []; new = o.value ∷ []; vars = refl; env = o.is; long = refl } in
          record {
            env = o.env;
            from = o.from;
            stood = o.stands;
            extends = extends-then w o.env w1 c.env w2 e2 ext c.extends;
            demanded = (o.value, (o.has, subst (λ l. demands M H v l (value M t e2)) (ap₂ ◌∷◌ (ap (λ e. Rattle.fst_terms.specs.Meaning.lookup e 0) o.is) (raised-put-values M w o.env w1 c.env vs ext)) c.demanded));
          }))
      holding (w_ways ws) vs w K n b s f = holding-ways ws vs w K n b s f
      holding (w_hole o ts y v) vs w K n b s f = absurd n
      holding (w_hole_tail o ts) vs w K n b s f = absurd n
      holding (w_then v1 y v2) vs w K n b s f =
          holding v1 vs w (λ w1 t. wp_walk Gl (goal_site k) v2 (t ∷ all_raised (count w) w1 vs) w1 K) n.0 b (λ e x st. (s e x st).0)
          (λ w1 t b1 came1.
          let same = λ (e1 : Env) (c : Came (Demands v1 vs) w w1 e1 t). ap (λ l. value M t e1 ∷ l) (raised-put-values M w c.env w1 e1 vs c.extends) in
          holding v2 (t ∷ all_raised (count w) w1 vs) w1 K n.1 b1
          (λ e1 x1 st1. let c = came1 e1 x1 st1 in subst (λ l. safe M H v2 l) (sym (same e1 c)) ((s c.env c.from c.stood).1 (value M t e1) c.demanded))
          (λ w2 u b2 came2. f w2 u b2 (λ e2 x2 st2.
          let c2 = came2 e2 x2 st2 in
          let c1 = came1 c2.env c2.from c2.stood in
          record {
            env = c1.env;
            from = c1.from;
            stood = c1.stood;
            extends = extends-then w c1.env w1 c2.env w2 e2 c1.extends c2.extends;
            demanded = (value M t c2.env, (c1.demanded, subst (λ l. demands M H v2 l (value M u e2)) (same c2.env c1) c2.demanded));
          })))

      holding-ways : (ws : Wts) (vs : List Tm) (w : Way) (K : Way → Tm → List Gl) → AreClosed ws → Behind w0 w → WaysSafeOn ws vs w → Follows (λ e r. some_demands M H ws (put_values M vs e) r) w K → AllHold M k w0 e0 (ways_walk Gl (goal_site k) ws vs w K)
      holding-ways w_none vs w K n b s f = tt
      holding-ways (w_way c phi v more) vs w K n b s f =
          let w1 = choose c (suppose (put vs phi) w) in
          hold-both (by_look (decided c (put vs phi)) (wp_walk Gl (goal_site k) v vs w K) (wp_walk Gl (goal_site k) v vs w1 K)) (ways_walk Gl (goal_site k) more vs w K)
          (go (decided c (put vs phi)) (λ e. decided-tells M e c (put vs phi))
          (λ always. holding v vs w K n.0 b (λ e x st. (s e x st).0 (put-truth phi vs e (always e)))
          (λ w2 t b2 came. f w2 t b2 (λ e2 x2 st2.
          let z = came e2 x2 st2 in
          record { env = z.env; from = z.from; stood = z.stood; extends = z.extends; demanded = inl (put-truth phi vs z.env (always z.env), z.demanded) })))
          (holding v vs w1 K n.0 (behind-same w w1 refl b)
          (λ e x st. (s e (less-extends w w1 e refl x) (record { sorts = st.sorts; hyps = st.hyps.1 })).0 (put-truth phi vs e st.hyps.0))
          (λ w2 t b2 came. f w2 t b2 (λ e2 x2 st2.
          let z = came e2 x2 st2 in
          record { env = z.env; from = less-extends w w1 z.env refl z.from; stood = record { sorts = z.stood.sorts; hyps = z.stood.hyps.1 }; extends = extends-then w z.env w1 z.env w2 e2 (extends-same w w1 z.env refl) z.extends; demanded = inl (put-truth phi vs z.env z.stood.hyps.0, z.demanded) }))))
          (holding-ways more vs w K n.1 b (λ e x st. (s e x st).1) (λ w2 t b2 came. f w2 t b2 (λ e2 x2 st2.
          let z = came e2 x2 st2 in
          record { env = z.env; from = z.from; stood = z.stood; extends = z.extends; demanded = inr z.demanded })))
        where
          go : (o : Option Bool) → ((e : Env) → Tells M e o (put vs phi))
              → (((e : Env) → Truth M (put vs phi) e) → AllHold M k w0 e0 (wp_walk Gl (goal_site k) v vs w K))
              → AllHold M k w0 e0 (wp_walk Gl (goal_site k) v vs (choose c (suppose (put vs phi) w)) K)
              → AllHold M k w0 e0 (by_look o (wp_walk Gl (goal_site k) v vs w K) (wp_walk Gl (goal_site k) v vs (choose c (suppose (put vs phi) w)) K))
          go (Some true) tells here there = here tells
          go (Some false) tells here there = tt
          go None tells here there = there
