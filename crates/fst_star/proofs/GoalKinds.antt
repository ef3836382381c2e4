-- Of each environment by itself: the goals of kind Ensures tell of a transformer's results, the others of its safety.
use Rattle.std.proofs.Common.{◌≡◌, ℕ, Bool, true, false, List, [], ◌∷◌, ◌++◌, reverse, Option, Some, None, refl, sym, ap, ◌∙◌, subst}
use Rattle.fst_base.specs.Values.{Val}
use Rattle.fst_terms.specs.Terms.{Tm, t_var, t_bool, t_if}
use Rattle.fst_terms.specs.Meaning.{Env, Meaning, value}
use Rattle.fst_terms.specs.Formulas.{put}
use Rattle.fst_terms.proofs.PutLemmas.{put_values}
use Rattle.fst_program.specs.declared.goal.SiteKind.{SiteKind}
use Rattle.fst_program.specs.declared.goal.SiteKind.TheVariants as kind
use Rattle.fst_program.specs.Texts.{Fn, Prog}
use Rattle.fst_program.specs.Paths.{Gl, Way, count, suppose, choose, fresh, all_raised, over, given, clause_terms, own_vars, own_input, start, goal_site, ensures_site}
use Rattle.fst_program.proofs.Ways.{Stands}
use Rattle.fst_star.specs.Transformers.{Wt, Wts, w_post, w_need, w_given, w_fresh, w_ways, w_hole, w_hole_tail, w_then, w_none, w_way, no_holes, safe, demands, IsClosed}
use Rattle.fst_star.specs.Walking.{decided, by_look, opened, need_sites, wp_walk, ways_walk}
use Rattle.fst_star.specs.Inference.{start_terms}
use Rattle.fst_star.specs.Laws.{is_ensures, AsksNoEnsures, AskNoEnsures, HoldsIn, HoldWhere, Meets, GoalsTellOfEach}
use Rattle.fst_star.proofs.SafeTransformers.{AllHold, hold-left, hold-right}
use Rattle.fst_star.proofs.ClosedTransformers.{infer-fun-asks, infer-fun-closed}
use Rattle.fst_star.proofs.EachEnd.{AllGood, each-end}
use Rattle.fst_star.proofs.FunctionSafe.{ensures-hold, ensures-met, goals-hold-where-safe-alone, only-one, safe-where-goals-hold-alone, start-values}
use Rattle.fst_star.proofs.Reached.{Part, demanded-ends}

module _ (M : Meaning) (k : ℕ) (w0 : Way) (e0 : Env) where
  -- ---- some of the goals in place of all

  pub some-hold : (b : Bool) (gs : List Gl) → AllHold M k w0 e0 gs → HoldWhere M e0 b gs
  some-hold b [] h = tt
  some-hold b (g ∷ gs) h = ((λ q. h.0), some-hold b gs h.1)

  some-both : (b : Bool) (gs hs : List Gl) → HoldWhere M e0 b gs → HoldWhere M e0 b hs → HoldWhere M e0 b (gs ++ hs)
  some-both b [] hs h j = j
  some-both b (g ∷ gs) hs h j = (h.0, some-both b gs hs h.1 j)

  some-left : (b : Bool) (gs hs : List Gl) → HoldWhere M e0 b (gs ++ hs) → HoldWhere M e0 b gs
  some-left b [] hs h = tt
  some-left b (g ∷ gs) hs h = (h.0, some-left b gs hs h.1)

  some-right : (b : Bool) (gs hs : List Gl) → HoldWhere M e0 b (gs ++ hs) → HoldWhere M e0 b hs
  some-right b [] hs h = h
  some-right b (g ∷ gs) hs h = some-right b gs hs h.1

  all-both : (gs hs : List Gl) → AllHold M k w0 e0 gs → AllHold M k w0 e0 hs → AllHold M k w0 e0 (gs ++ hs)
  all-both [] hs h j = j
  all-both (g ∷ gs) hs h j = (h.0, all-both gs hs h.1 j)

  -- the goals of a need aren't of kind Ensures
  opened-others : (at : ℕ) (phi : Tm) (w : Way) → HoldWhere M e0 false (opened Gl (goal_site k) at phi w) → AllHold M k w0 e0 (opened Gl (goal_site k) at phi w)
  opened-others at (t_if c (t_bool false) (t_bool true)) w h = (h.0 refl, tt)
  opened-others at (t_if c t (t_bool true)) w h = opened-others at t (suppose c w) h
  opened-others at phi w h = (h.0 refl, tt)

  need-others : (m : SiteKind) (at : ℕ) (phi : Tm) (w : Way) → is_ensures m ≡ false → HoldWhere M e0 false (need_sites Gl (goal_site k) m at phi w) → AllHold M k w0 e0 (need_sites Gl (goal_site k) m at phi w)
  need-others kind.Divisor at phi w q h = opened-others at phi w h
  need-others m at phi w q h = (h.0 q, tt)

  opened-none : (at : ℕ) (phi : Tm) (w : Way) → HoldWhere M e0 true (opened Gl (goal_site k) at phi w)
  opened-none at (t_if c (t_bool false) (t_bool true)) w = ((λ q. cc), tt)
  opened-none at (t_if c t (t_bool true)) w = opened-none at t (suppose c w)
  opened-none at phi w = ((λ q. cc), tt)

  need-none : (m : SiteKind) (at : ℕ) (phi : Tm) (w : Way) → is_ensures m ≡ false → HoldWhere M e0 true (need_sites Gl (goal_site k) m at phi w)
  need-none kind.Divisor at phi w q = opened-none at phi w
  need-none m at phi w q = ((λ p. let bad : true ≡ false = sym p ∙ q in cc), tt)

  by-look : {X Y : Type 0} (Q : List X → Type 0) (R : List Y → Type 0) (o : Option Bool) (gs hs : List X) (gs' hs' : List Y) → (Q [] → R []) → (Q gs → R gs') → (Q hs → R hs') → Q (by_look o gs hs) → R (by_look o gs' hs')
  by-look Q R (Some true) gs hs gs' hs' none h j x = h x
  by-look Q R (Some false) gs hs gs' hs' none h j x = none x
  by-look Q R None gs hs gs' hs' none h j x = j x

  -- ---- from the goals of a walk to those of one with other ends or without sites

  abbrev no_goal : SiteKind → (place : ℕ) → Tm → Way → List Gl
  no_goal m at phi w = []

  mutual
    -- all goals of the one, the others of the other
    others : (v : Wt) (vs : List Tm) (w : Way) (K L : Way → Tm → List Gl) → ((w1 : Way) (t : Tm) → AllHold M k w0 e0 (K w1 t) → HoldWhere M e0 false (L w1 t))
        → AllHold M k w0 e0 (wp_walk Gl (goal_site k) v vs w K) → HoldWhere M e0 false (wp_walk Gl (goal_site k) v vs w L)
    others (w_post t) vs w K L f h = f w (put vs t) h
    others (w_need phi m at v) vs w K L f h =
        let sites = need_sites Gl (goal_site k) m at (put vs phi) w in
        some-both false sites (wp_walk Gl (goal_site k) v vs w L) (some-hold false sites (hold-left M k w0 e0 sites (wp_walk Gl (goal_site k) v vs w K) h)) (others v vs w K L f (hold-right M k w0 e0 sites (wp_walk Gl (goal_site k) v vs w K) h))
    others (w_given phi v) vs w K L f h = others v vs (suppose (put vs phi) w) K L f h
    others (w_fresh x S v) vs w K L f h = others v (t_var 0 ∷ all_raised (count w) (fresh x S w) vs) (fresh x S w) K L f h
    others (w_ways ws) vs w K L f h = others-ways ws vs w K L f h
    others (w_hole o ts x v) vs w K L f h = tt
    others (w_hole_tail o ts) vs w K L f h = tt
    others (w_then v1 x v2) vs w K L f h =
        others v1 vs w (λ w1 t. wp_walk Gl (goal_site k) v2 (t ∷ all_raised (count w) w1 vs) w1 K) (λ w1 t. wp_walk Gl (goal_site k) v2 (t ∷ all_raised (count w) w1 vs) w1 L)
        (λ w1 t j. others v2 (t ∷ all_raised (count w) w1 vs) w1 K L f j) h

    others-ways : (ws : Wts) (vs : List Tm) (w : Way) (K L : Way → Tm → List Gl) → ((w1 : Way) (t : Tm) → AllHold M k w0 e0 (K w1 t) → HoldWhere M e0 false (L w1 t))
        → AllHold M k w0 e0 (ways_walk Gl (goal_site k) ws vs w K) → HoldWhere M e0 false (ways_walk Gl (goal_site k) ws vs w L)
    others-ways w_none vs w K L f h = tt
    others-ways (w_way c phi v more) vs w K L f h =
        let w1 = choose c (suppose (put vs phi) w) in
        let one = λ (J : Way → Tm → List Gl). by_look (decided c (put vs phi)) (wp_walk Gl (goal_site k) v vs w J) (wp_walk Gl (goal_site k) v vs w1 J) in
        some-both false (one L) (ways_walk Gl (goal_site k) more vs w L)
        (by-look (AllHold M k w0 e0) (HoldWhere M e0 false) (decided c (put vs phi)) _ _ _ _ (λ x. tt) (others v vs w K L f) (others v vs w1 K L f) (hold-left M k w0 e0 (one K) (ways_walk Gl (goal_site k) more vs w K) h))
        (others-ways more vs w K L f (hold-right M k w0 e0 (one K) (ways_walk Gl (goal_site k) more vs w K) h))

  mutual
    -- the others of the one, all goals of the other
    all-others : (v : Wt) (vs : List Tm) (w : Way) (K L : Way → Tm → List Gl) → AsksNoEnsures v → ((w1 : Way) (t : Tm) → HoldWhere M e0 false (L w1 t) → AllHold M k w0 e0 (K w1 t))
        → HoldWhere M e0 false (wp_walk Gl (goal_site k) v vs w L) → AllHold M k w0 e0 (wp_walk Gl (goal_site k) v vs w K)
    all-others (w_post t) vs w K L n f h = f w (put vs t) h
    all-others (w_need phi m at v) vs w K L n f h =
        let sites = need_sites Gl (goal_site k) m at (put vs phi) w in
        all-both sites (wp_walk Gl (goal_site k) v vs w K) (need-others m at (put vs phi) w n.0 (some-left false sites (wp_walk Gl (goal_site k) v vs w L) h)) (all-others v vs w K L n.1 f (some-right false sites (wp_walk Gl (goal_site k) v vs w L) h))
    all-others (w_given phi v) vs w K L n f h = all-others v vs (suppose (put vs phi) w) K L n f h
    all-others (w_fresh x S v) vs w K L n f h = all-others v (t_var 0 ∷ all_raised (count w) (fresh x S w) vs) (fresh x S w) K L n f h
    all-others (w_ways ws) vs w K L n f h = all-others-ways ws vs w K L n f h
    all-others (w_hole o ts x v) vs w K L n f h = tt
    all-others (w_hole_tail o ts) vs w K L n f h = tt
    all-others (w_then v1 x v2) vs w K L n f h =
        all-others v1 vs w (λ w1 t. wp_walk Gl (goal_site k) v2 (t ∷ all_raised (count w) w1 vs) w1 K) (λ w1 t. wp_walk Gl (goal_site k) v2 (t ∷ all_raised (count w) w1 vs) w1 L) n.0
        (λ w1 t j. all-others v2 (t ∷ all_raised (count w) w1 vs) w1 K L n.1 f j) h

    all-others-ways : (ws : Wts) (vs : List Tm) (w : Way) (K L : Way → Tm → List Gl) → AskNoEnsures ws → ((w1 : Way) (t : Tm) → HoldWhere M e0 false (L w1 t) → AllHold M k w0 e0 (K w1 t))
        → HoldWhere M e0 false (ways_walk Gl (goal_site k) ws vs w L) → AllHold M k w0 e0 (ways_walk Gl (goal_site k) ws vs w K)
    all-others-ways w_none vs w K L n f h = tt
    all-others-ways (w_way c phi v more) vs w K L n f h =
        let w1 = choose c (suppose (put vs phi) w) in
        let one = λ (J : Way → Tm → List Gl). by_look (decided c (put vs phi)) (wp_walk Gl (goal_site k) v vs w J) (wp_walk Gl (goal_site k) v vs w1 J) in
        all-both (one K) (ways_walk Gl (goal_site k) more vs w K)
        (by-look (HoldWhere M e0 false) (AllHold M k w0 e0) (decided c (put vs phi)) _ _ _ _ (λ x. tt) (all-others v vs w K L n.0 f) (all-others v vs w1 K L n.0 f) (some-left false (one L) (ways_walk Gl (goal_site k) more vs w L) h))
        (all-others-ways more vs w K L n.1 f (some-right false (one L) (ways_walk Gl (goal_site k) more vs w L) h))

  mutual
    -- all goals of the ends, those of kind Ensures of the whole
    ensures : (v : Wt) (vs : List Tm) (w : Way) (K L : Way → Tm → List Gl) → AsksNoEnsures v → ((w1 : Way) (t : Tm) → AllHold M k w0 e0 (K w1 t) → HoldWhere M e0 true (L w1 t))
        → AllHold M k w0 e0 (wp_walk Gl no_goal v vs w K) → HoldWhere M e0 true (wp_walk Gl (goal_site k) v vs w L)
    ensures (w_post t) vs w K L n f h = f w (put vs t) h
    ensures (w_need phi m at v) vs w K L n f h =
        let sites = need_sites Gl (goal_site k) m at (put vs phi) w in
        let nothing = need_sites Gl no_goal m at (put vs phi) w in
        some-both true sites (wp_walk Gl (goal_site k) v vs w L) (need-none m at (put vs phi) w n.0) (ensures v vs w K L n.1 f (hold-right M k w0 e0 nothing (wp_walk Gl no_goal v vs w K) h))
    ensures (w_given phi v) vs w K L n f h = ensures v vs (suppose (put vs phi) w) K L n f h
    ensures (w_fresh x S v) vs w K L n f h = ensures v (t_var 0 ∷ all_raised (count w) (fresh x S w) vs) (fresh x S w) K L n f h
    ensures (w_ways ws) vs w K L n f h = ensures-ways ws vs w K L n f h
    ensures (w_hole o ts x v) vs w K L n f h = tt
    ensures (w_hole_tail o ts) vs w K L n f h = tt
    ensures (w_then v1 x v2) vs w K L n f h =
        ensures v1 vs w (λ w1 t. wp_walk Gl no_goal v2 (t ∷ all_raised (count w) w1 vs) w1 K) (λ w1 t. wp_walk Gl (goal_site k) v2 (t ∷ all_raised (count w) w1 vs) w1 L) n.0
        (λ w1 t j. ensures v2 (t ∷ all_raised (count w) w1 vs) w1 K L n.1 f j) h

    ensures-ways : (ws : Wts) (vs : List Tm) (w : Way) (K L : Way → Tm → List Gl) → AskNoEnsures ws → ((w1 : Way) (t : Tm) → AllHold M k w0 e0 (K w1 t) → HoldWhere M e0 true (L w1 t))
        → AllHold M k w0 e0 (ways_walk Gl no_goal ws vs w K) → HoldWhere M e0 true (ways_walk Gl (goal_site k) ws vs w L)
    ensures-ways w_none vs w K L n f h = tt
    ensures-ways (w_way c phi v more) vs w K L n f h =
        let w1 = choose c (suppose (put vs phi) w) in
        let one = by_look (decided c (put vs phi)) (wp_walk Gl no_goal v vs w K) (wp_walk Gl no_goal v vs w1 K) in
        let two = by_look (decided c (put vs phi)) (wp_walk Gl (goal_site k) v vs w L) (wp_walk Gl (goal_site k) v vs w1 L) in
        some-both true two (ways_walk Gl (goal_site k) more vs w L)
        (by-look (AllHold M k w0 e0) (HoldWhere M e0 true) (decided c (put vs phi)) _ _ _ _ (λ x. tt) (ensures v vs w K L n.0 f) (ensures v vs w1 K L n.0 f) (hold-left M k w0 e0 one (ways_walk Gl no_goal more vs w K) h))
        (ensures-ways more vs w K L n.1 f (hold-right M k w0 e0 one (ways_walk Gl no_goal more vs w K) h))

  -- goals in a part of a list
  in-part : (b : Bool) (gs hs : List Gl) → Part gs hs → HoldWhere M e0 b hs → HoldWhere M e0 b gs
  in-part b gs hs p h = some-left b gs p.after (some-right b p.before (gs ++ p.after) (subst (HoldWhere M e0 b) p.is h))

  no-opened : (at : ℕ) (phi : Tm) (w : Way) → AllHold M k w0 e0 (opened Gl no_goal at phi w)
  no-opened at (t_if c (t_bool false) (t_bool true)) w = tt
  no-opened at (t_if c t (t_bool true)) w = no-opened at t (suppose c w)
  no-opened at phi w = tt

  no-need : (m : SiteKind) (at : ℕ) (phi : Tm) (w : Way) → AllHold M k w0 e0 (need_sites Gl no_goal m at phi w)
  no-need kind.Divisor at phi w = no-opened at phi w
  no-need m at phi w = tt

-- ---- of a function

module _ (P : Prog) (M : Meaning) (k : ℕ) (f : Fn) (e0 : Env) (st : Stands M (start P f) e0) (v : Wt) (closed : IsClosed v) (asks : AsksNoEnsures v) where
  abbrev whole : List Gl
  whole = wp_walk Gl (goal_site k) v (start_terms P f) (start P f) (ensures_site P k f)

  -- the goals at an end are all of kind Ensures
  end-others : (w : Way) (t : Tm) → HoldWhere M e0 false (ensures_site P k f w t)
  end-others w t = go (given f.gives (t ∷ all_raised (count (start P f)) w (clause_terms f.effect (reverse (own_vars f)) (own_input f))))
    where
      go : (phis : List Tm) → HoldWhere M e0 false (over phis (λ phi. goal_site k kind.Ensures f.place phi w))
      go [] = tt
      go (phi ∷ phis) = ((λ q. cc), go phis)

  end-all : (w : Way) (t : Tm) → HoldWhere M e0 true (ensures_site P k f w t) → AllHold M k (start P f) e0 (ensures_site P k f w t)
  end-all w t h = go (given f.gives (t ∷ all_raised (count (start P f)) w (clause_terms f.effect (reverse (own_vars f)) (own_input f)))) h
    where
      go : (phis : List Tm) → HoldWhere M e0 true (over phis (λ phi. goal_site k kind.Ensures f.place phi w)) → AllHold M k (start P f) e0 (over phis (λ phi. goal_site k kind.Ensures f.place phi w))
      go [] h = tt
      go (phi ∷ phis) h = (h.0 refl, go phis h.1)

  safe-where : HoldWhere M e0 false whole → safe M no_holes v e0
  safe-where h =
      safe-where-goals-hold-alone P k f M no_holes e0 st v closed
      (all-others M k (start P f) e0 v (start_terms P f) (start P f) (λ w t. []) (ensures_site P k f) asks (λ w t j. tt) h)

  where-safe : safe M no_holes v e0 → HoldWhere M e0 false whole
  where-safe s =
      others M k (start P f) e0 v (start_terms P f) (start P f) (λ w t. []) (ensures_site P k f) (λ w t j. end-others w t)
      (goals-hold-where-safe-alone P k f M no_holes e0 st v closed s)

  meets-where : HoldWhere M e0 true whole → (r : Val) → demands M no_holes v e0 r → Meets P M f e0 r
  meets-where h r d =
      let z = demanded-ends M no_holes Gl (goal_site k) v (start_terms P f) (start P f) e0 (ensures_site P k f) r closed st (subst (λ l. demands M no_holes v l r) (sym (start-values P k f M no_holes e0 st)) d) in
      subst (Meets P M f e0) z.gives
      (ensures-met P k f M no_holes e0 st z.way z.env z.term z.extends z.stands (end-all z.way z.term (in-part M k (start P f) e0 true (ensures_site P k f z.way z.term) whole z.part h)))

  where-meets : ((r : Val) → demands M no_holes v e0 r → Meets P M f e0 r) → HoldWhere M e0 true whole
  where-meets m =
      ensures M k (start P f) e0 v (start_terms P f) (start P f) (ensures_site P k f) (ensures_site P k f) asks (λ w t j. some-hold M k (start P f) e0 true (ensures_site P k f w t) j)
      (held (wp_walk Gl (λ m at phi w. []) v (start_terms P f) (start P f) (ensures_site P k f))
      (each-end M (start P f) e0 Gl (HoldsIn M e0) st.sorts (λ m at phi w. []) no_holes (λ n at phi w. good (need_sites Gl (λ m at phi w. []) n at phi w) (no-need M k (start P f) e0 n at phi w))
      v (start_terms P f) (start P f) (ensures_site P k f) closed (record { news = []; vars = refl })
      (λ w1 t b came. good (ensures_site P k f w1 t) (ensures-hold P k f M no_holes e0 st w1 t b (λ e1 x1 st1.
      let c = came e1 x1 st1 in
      m (value M t e1) (subst (λ l. demands M no_holes v l (value M t e1)) (ap (put_values M (start_terms P f)) (only-one P k f M no_holes e0 st c.env c.from c.stood) ∙ start-values P k f M no_holes e0 st) c.demanded))))))
    where
      good : (gs : List Gl) → AllHold M k (start P f) e0 gs → AllGood M (start P f) e0 Gl (HoldsIn M e0) gs
      good [] h = tt
      good (g ∷ gs) h = (h.0, good gs h.1)

      held : (gs : List Gl) → AllGood M (start P f) e0 Gl (HoldsIn M e0) gs → AllHold M k (start P f) e0 gs
      held [] h = tt
      held (g ∷ gs) h = (h.0, held gs h.1)

pub goals-tell : (P : Prog) → GoalsTellOfEach P
goals-tell P = record {
  tell = λ M k f v q closed asks e b.
      let st : Stands M (start P f) e = record { sorts = b.sorts; hyps = b.hyps } in
      record { safe_where = safe-where P M k f e st v closed asks; where_safe = where-safe P M k f e st v closed asks; meets_where = meets-where P M k f e st v closed asks; where_meets = where-meets P M k f e st v closed asks };
  inferred = λ f. (infer-fun-closed P f, infer-fun-asks P f);
}
