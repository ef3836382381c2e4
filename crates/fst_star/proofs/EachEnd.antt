-- Each end of a transformer's walk has a result that is demanded wherever its way stands.
use Rattle.std.proofs.Common.{◌≡◌, inl, inr, ℕ, zero, suc, ◌+◌, Bool, true, false, List, [], ◌∷◌, ◌++◌, map, reverse, length, Option, Some, None, refl, sym, ap, ap₂, ◌∙◌, subst, arith}
use Rattle.std.specs.Prelude.{⊤}
use mathlib.Core.List.{reverse_aux}
use Rattle.fst_base.specs.Sorts.{Srt}
use Rattle.fst_base.specs.Values.{Val, HasSorts}
use Rattle.fst_terms.specs.Terms.{Tm, t_var, t_bool, t_if}
use Rattle.fst_terms.specs.Meaning.{Env, Meaning, value, Truth, AllTrue, Vr, HasVars}
use Rattle.fst_terms.specs.Formulas.{put}
use Rattle.fst_terms.proofs.PutLemmas.{put_values, put-value}
use Rattle.fst_program.specs.declared.goal.SiteKind.{SiteKind}
use Rattle.fst_program.specs.declared.goal.SiteKind.TheVariants as kind
use Rattle.fst_program.specs.Paths.{Path, Way, count, suppose, choose, fresh, all_raised}
use Rattle.fst_star.specs.Transformers.{Wt, Wts, w_post, w_need, w_given, w_fresh, w_ways, w_hole, w_hole_tail, w_then, w_none, w_way, Holes, demands, some_demands, AreClosed, IsClosed}
use Rattle.fst_star.specs.Walking.{decided, by_look, opened, need_sites, wp_walk, ways_walk}
use Rattle.fst_program.proofs.Ways.{way_sorts, turned-sorts, Stands, Extends, extends-same, extends-then, raised-put-values}
use Rattle.fst_star.proofs.TrueGoals.{Behind, one-more}
use Rattle.fst_star.proofs.SafeTransformers.{Tells, decided-tells}

has-length : (Ss : List Srt) (vs : List Val) → HasSorts Ss vs → length Ss ≡ length vs
has-length [] [] h = refl
has-length [] (v ∷ vs) h = absurd h
has-length (S ∷ Ss) [] h = absurd h
has-length (S ∷ Ss) (v ∷ vs) h = ap suc (has-length Ss vs h.1)

length-sorts : (xs : List Vr) → length (map (λ (x : Vr). x.sort) xs) ≡ length xs
length-sorts [] = refl
length-sorts (x ∷ xs) = ap suc (length-sorts xs)

length-++ {ℓ} : {A : Type ℓ} (xs ys : List A) → length (xs ++ ys) ≡ length xs + length ys
length-++ [] ys = omega arith
length-++ (x ∷ xs) ys = ap suc (length-++ xs ys) ∙ omega arith

module _ (M : Meaning) (w0 : Way) (e0 : Env) (X : Type 0) (Good : X → Type 0) where
  abbrev pub AllGood : List X → Type 0
  AllGood [] = ⊤
  AllGood (x ∷ xs) = Good x × AllGood xs

  good-both : (gs hs : List X) → AllGood gs → AllGood hs → AllGood (gs ++ hs)
  good-both [] hs h j = j
  good-both (g ∷ gs) hs h j = (h.0, good-both gs hs h.1 j)

  less-extends : (w w1 : Way) (e : Env) → w.vars ≡ w1.vars → Extends w0 e0 w1 e → Extends w0 e0 w e
  less-extends w w1 e p x = extends-then w0 e0 w1 e w e x (extends-same w1 w e p)

  -- a place where the way w stood, and where the value of the term t is demanded
  pub record Came (Q : Env → Val → Type 0) (w w1 : Way) (e1 : Env) (t : Tm) : Type 0 where
    pub env : Env
    pub from : Extends w0 e0 w env
    pub stood : Stands M w env
    pub extends : Extends w env w1 e1
    pub demanded : Q env (value M t e1)

  abbrev pub Follows : (Env → Val → Type 0) → Way → (Way → Tm → List X) → Type 0
  Follows Q w K = (w1 : Way) (t : Tm) → Behind w0 w1 → ((e1 : Env) → Extends w0 e0 w1 e1 → Stands M w1 e1 → Came Q w w1 e1 t) → AllGood (K w1 t)

  module _ (base : HasSorts (way_sorts w0) e0) (site : SiteKind → (place : ℕ) → Tm → Way → List X) (H : Holes) (fine : (m : SiteKind) (at : ℕ) (phi : Tm) (w : Way) → AllGood (need_sites X site m at phi w)) where
    abbrev Demands : Wt → List Tm → Env → Val → Type 0
    Demands v vs e r = demands M H v (put_values M vs e) r

    put-truth : (phi : Tm) (vs : List Tm) (e : Env) → Truth M (put vs phi) e → Truth M phi (put_values M vs e)
    put-truth phi vs e h = sym (put-value M vs phi e) ∙ h

    behind-same : (w w1 : Way) → w1.vars ≡ w.vars → Behind w0 w → Behind w0 w1
    behind-same w w1 p b = record { news = b.news; vars = p ∙ b.vars }

    mutual
      pub each-end : (v : Wt) (vs : List Tm) (w : Way) (K : Way → Tm → List X) → IsClosed v → Behind w0 w → Follows (Demands v vs) w K → AllGood (wp_walk X site v vs w K)
      each-end (w_post t) vs w K n b f = f w (put vs t) b (λ e1 x st. record { env = e1; from = x; stood = st; extends = extends-same w w e1 refl; demanded = sym (put-value M vs t e1) })
      each-end (w_need phi m at v) vs w K n b f = good-both (need_sites X site m at (put vs phi) w) (wp_walk X site v vs w K) (fine m at (put vs phi) w) (each-end v vs w K n b f)
      each-end (w_given phi v) vs w K n b f =
          let w1 = suppose (put vs phi) w in
          each-end v vs w1 K n (behind-same w w1 refl b)
          (λ w2 t b2 came. f w2 t b2 (λ e2 x2 st2.
          let c = came e2 x2 st2 in
          record { env = c.env; from = less-extends w w1 c.env refl c.from; stood = record { sorts = c.stood.sorts; hyps = c.stood.hyps.1 }; extends = extends-then w c.env w1 c.env w2 e2 (extends-same w w1 c.env refl) c.extends; demanded = (put-truth phi vs c.env c.stood.hyps.0, c.demanded) }))
      each-end (w_fresh y S v) vs w K n b f =
          let w1 = fresh y S w in
          let vs1 = all_raised (count w) w1 vs in
          each-end v (t_var 0 ∷ vs1) w1 K n (record { news = record { name = y; sort = S } ∷ b.news; vars = ap (λ l. record { name = y; sort = S } ∷ l) b.vars })
          (λ w2 t b2 came. f w2 t b2 (λ e2 x2 st2.
          let c = came e2 x2 st2 in
          let o = one-more M (Rattle.std.specs.Prelude.zero) w0 e0 base w y S c.env b c.from c.stood in
          let ext : Extends w o.env w1 c.env = record { news = record { name = y; sort = S } ∷ []; new = o.value ∷ []; vars = refl; env = o.is; long = refl } in
          record {
            env = o.env;
            from = o.from;
            stood = o.stands;
            extends = extends-then w o.env w1 c.env w2 e2 ext c.extends;
            demanded = (o.value, (o.has, subst (λ l. demands M H v l (value M t e2)) (ap₂ ◌∷◌ (ap (λ e. Rattle.fst_terms.specs.Meaning.lookup e 0) o.is) (raised-put-values M w o.env w1 c.env vs ext)) c.demanded));
          }))
      each-end (w_ways ws) vs w K n b f = each-way ws vs w K n b f
      each-end (w_hole o ts y v) vs w K n b f = absurd n
      each-end (w_hole_tail o ts) vs w K n b f = absurd n
      each-end (w_then v1 y v2) vs w K n b f =
          each-end v1 vs w (λ w1 t. wp_walk X site v2 (t ∷ all_raised (count w) w1 vs) w1 K) n.0 b
          (λ w1 t b1 came1.
          each-end v2 (t ∷ all_raised (count w) w1 vs) w1 K n.1 b1
          (λ w2 u b2 came2. f w2 u b2 (λ e2 x2 st2.
          let c2 = came2 e2 x2 st2 in
          let c1 = came1 c2.env c2.from c2.stood in
          record {
            env = c1.env;
            from = c1.from;
            stood = c1.stood;
            extends = extends-then w c1.env w1 c2.env w2 e2 c1.extends c2.extends;
            demanded = (value M t c2.env, (c1.demanded, subst (λ l. demands M H v2 l (value M u e2)) (ap (λ l. value M t c2.env ∷ l) (raised-put-values M w c1.env w1 c2.env vs c1.extends)) c2.demanded));
          })))

      each-way : (ws : Wts) (vs : List Tm) (w : Way) (K : Way → Tm → List X) → AreClosed ws → Behind w0 w → Follows (λ e r. some_demands M H ws (put_values M vs e) r) w K → AllGood (ways_walk X site ws vs w K)
      each-way w_none vs w K n b f = tt
      each-way (w_way c phi v more) vs w K n b f =
          let w1 = choose c (suppose (put vs phi) w) in
          good-both (by_look (decided c (put vs phi)) (wp_walk X site v vs w K) (wp_walk X site v vs w1 K)) (ways_walk X site more vs w K)
          (go (decided c (put vs phi)) (λ e. decided-tells M e c (put vs phi))
          (λ always. each-end v vs w K n.0 b
          (λ w2 t b2 came. f w2 t b2 (λ e2 x2 st2.
          let z = came e2 x2 st2 in
          record { env = z.env; from = z.from; stood = z.stood; extends = z.extends; demanded = inl (put-truth phi vs z.env (always z.env), z.demanded) })))
          (each-end v vs w1 K n.0 (behind-same w w1 refl b)
          (λ w2 t b2 came. f w2 t b2 (λ e2 x2 st2.
          let z = came e2 x2 st2 in
          record { env = z.env; from = less-extends w w1 z.env refl z.from; stood = record { sorts = z.stood.sorts; hyps = z.stood.hyps.1 }; extends = extends-then w z.env w1 z.env w2 e2 (extends-same w w1 z.env refl) z.extends; demanded = inl (put-truth phi vs z.env z.stood.hyps.0, z.demanded) }))))
          (each-way more vs w K n.1 b (λ w2 t b2 came. f w2 t b2 (λ e2 x2 st2.
          let z = came e2 x2 st2 in
          record { env = z.env; from = z.from; stood = z.stood; extends = z.extends; demanded = inr z.demanded })))
        where
          go : (o : Option Bool) → ((e : Env) → Tells M e o (put vs phi))
              → (((e : Env) → Truth M (put vs phi) e) → AllGood (wp_walk X site v vs w K))
              → AllGood (wp_walk X site v vs (choose c (suppose (put vs phi) w)) K)
              → AllGood (by_look o (wp_walk X site v vs w K) (wp_walk X site v vs (choose c (suppose (put vs phi) w)) K))
          go (Some true) tells here there = here tells
          go (Some false) tells here there = tt
          go None tells here there = there

-- ---- paths

-- each path that ends, in an environment that extends e0 and makes its hypotheses true, has a result that is demanded
module _ (M : Meaning) (w0 : Way) (e0 : Env) (base : HasSorts (way_sorts w0) e0) (Q : Val → Type 0) where
  abbrev pub path_end : Way → Tm → List Path
  path_end w t = record { vars = reverse w.vars; hyps = reverse w.hyps; choices = reverse w.choices; result = t } ∷ []

  abbrev pub no_site : SiteKind → (place : ℕ) → Tm → Way → List Path
  no_site m at phi w = []

  abbrev pub Demanded : Path → Type 0
  Demanded p = (new : Env) → HasVars p.vars (new ++ e0) → AllTrue M p.hyps (new ++ e0) → Q (value M p.result (new ++ e0))

  extend : (w : Way) (new : Env) → Behind w0 w → HasSorts (way_sorts w) (new ++ e0) → Extends w0 e0 w (new ++ e0)
  extend w new b h =
      let p : length (way_sorts w) ≡ length (new ++ e0) = has-length (way_sorts w) (new ++ e0) h in
      let q : length (way_sorts w) ≡ length w.vars = length-sorts w.vars in
      let r : length w.vars ≡ length b.news + length w0.vars = ap length b.vars ∙ length-++ b.news w0.vars in
      let s : length (new ++ e0) ≡ length new + length e0 = length-++ new e0 in
      let t : length (way_sorts w0) ≡ length e0 = has-length (way_sorts w0) e0 base in
      let u : length (way_sorts w0) ≡ length w0.vars = length-sorts w0.vars in
      record { news = b.news; new = new; vars = b.vars; env = refl; long = omega arith }

  back-true : (e : Env) (phis psis : List Tm) → AllTrue M (reverse_aux phis psis) e → AllTrue M phis e × AllTrue M psis e
  back-true e [] psis h = (tt, h)
  back-true e (phi ∷ phis) psis h = let z = back-true e phis (phi ∷ psis) h in ((z.1.0, z.0), z.1.1)

  pub path-ends : (w : Way) (t : Tm) → Behind w0 w → ((e : Env) → Extends w0 e0 w e → Stands M w e → Q (value M t e)) → AllGood M w0 e0 Path Demanded (path_end w t)
  path-ends w t b h = (
    (λ new vars hyps.
        let sorts = subst (λ Ss. HasSorts Ss (new ++ e0)) (turned-sorts w) vars in
        h (new ++ e0) (extend w new b sorts) (record { sorts = sorts; hyps = (back-true (new ++ e0) w.hyps [] hyps).0 })),
    tt,
  )

  no-opened : (at : ℕ) (phi : Tm) (w : Way) → AllGood M w0 e0 Path Demanded (opened Path no_site at phi w)
  no-opened at (t_if c (t_bool false) (t_bool true)) w = tt
  no-opened at (t_if c t (t_bool true)) w = no-opened at t (suppose c w)
  no-opened at phi w = tt

  no-need : (m : SiteKind) (at : ℕ) (phi : Tm) (w : Way) → AllGood M w0 e0 Path Demanded (need_sites Path no_site m at phi w)
  no-need kind.Divisor at phi w = no-opened at phi w
  no-need m at phi w = tt

-- every path of a transformer's walk ends with a demanded result
pub paths-demanded : (M : Meaning) (H : Holes) (w0 : Way) (e0 : Env) (base : HasSorts (way_sorts w0) e0) (Q : Val → Type 0) (v : Wt) (vs : List Tm) → IsClosed v
    → ((e : Env) (r : Val) → Extends w0 e0 w0 e → Stands M w0 e → demands M H v (put_values M vs e) r → Q r)
    → AllGood M w0 e0 Path (Demanded M w0 e0 base Q) (wp_walk Path (no_site M w0 e0 base Q) v vs w0 (path_end M w0 e0 base Q))
paths-demanded M H w0 e0 base Q v vs n h =
    each-end M w0 e0 Path (Demanded M w0 e0 base Q) base (no_site M w0 e0 base Q) H (no-need M w0 e0 base Q) v vs w0 (path_end M w0 e0 base Q) n (record { news = []; vars = refl })
    (λ w1 t b came. path-ends M w0 e0 base Q w1 t b (λ e1 x st. let c = came e1 x st in h c.env (value M t e1) c.from c.stood c.demanded))
