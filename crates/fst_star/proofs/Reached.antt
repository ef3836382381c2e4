-- Each result that a transformer demands is that of an end of its walk, on a way that stands, and each end's result is demanded.
use Rattle.std.proofs.Common.{◌≡◌, ℕ, Bool, true, false, List, [], ◌∷◌, ◌++◌, map, Option, Some, None, refl, sym, ap, ap₂, ◌∙◌, subst, ⊎_elim}
use Rattle.fst_base.specs.Values.{Val, v_bool}
use Rattle.fst_terms.specs.Terms.{Tm, t_var, shift}
use Rattle.fst_terms.specs.Meaning.{Env, Meaning, value, Truth, AllTrue}
use Rattle.fst_terms.specs.Formulas.{put}
use Rattle.fst_terms.proofs.PutLemmas.{put_values, put-value}
use Rattle.fst_terms.proofs.TermLemmas.{shift_law}
use Rattle.fst_program.specs.declared.goal.SiteKind.{SiteKind}
use Rattle.fst_program.specs.declared.goal.Choice.{Choice}
use Rattle.fst_program.specs.Paths.{Way, count, suppose, choose, fresh, all_raised}
use Rattle.fst_star.specs.Transformers.{Wt, Wts, w_post, w_need, w_given, w_fresh, w_ways, w_hole, w_hole_tail, w_then, w_none, w_way, Holes, demands, some_demands, AreClosed, IsClosed}
use Rattle.fst_star.specs.Walking.{decided, by_look, need_sites, wp_walk, ways_walk}
use Rattle.fst_program.proofs.Ways.{Stands, suppose-stands, Extends, extends-same, extends-then, raised-put-values}
use Rattle.fst_star.proofs.SafeTransformers.{Tells, decided-tells}

-- xs is a part of ys
pub record Part {X : Type 0} (xs ys : List X) : Type 0 where
  pub before : List X
  pub after : List X
  pub is : ys ≡ before ++ (xs ++ after)

append-again : {X : Type 0} (xs ys zs : List X) → xs ++ (ys ++ zs) ≡ (xs ++ ys) ++ zs
append-again [] ys zs = refl
append-again (x ∷ xs) ys zs = ap (λ l. x ∷ l) (append-again xs ys zs)

append-none : {X : Type 0} (xs : List X) → xs ++ [] ≡ xs
append-none [] = refl
append-none (x ∷ xs) = ap (λ l. x ∷ l) (append-none xs)

part-same : {X : Type 0} (xs : List X) → Part xs xs
part-same xs = record { before = []; after = []; is = sym (append-none xs) }

part-right : {X : Type 0} (ws xs ys : List X) → Part xs ys → Part xs (ws ++ ys)
part-right ws xs ys p = record { before = ws ++ p.before; after = p.after; is = ap (λ l. ws ++ l) p.is ∙ append-again ws p.before (xs ++ p.after) }

part-left : {X : Type 0} (ws xs ys : List X) → Part xs ys → Part xs (ys ++ ws)
part-left ws xs ys p = record { before = p.before; after = p.after ++ ws; is = ap (λ l. l ++ ws) p.is ∙ sym (append-again p.before (xs ++ p.after) ws) ∙ ap (λ l. p.before ++ l) (sym (append-again xs p.after ws)) }

part-in : {X : Type 0} (xs ys zs : List X) → Part xs ys → Part ys zs → Part xs zs
part-in xs ys zs p q = record {
  before = q.before ++ p.before;
  after = p.after ++ q.after;
  is = q.is ∙ ap (λ l. q.before ++ (l ++ q.after)) p.is
      ∙ ap (λ l. q.before ++ l) (sym (append-again p.before (xs ++ p.after) q.after) ∙ ap (λ l. p.before ++ l) (sym (append-again xs p.after q.after)))
      ∙ append-again q.before p.before (xs ++ (p.after ++ q.after));
}

module _ (M : Meaning) (H : Holes) (X : Type 0) (site : SiteKind → (place : ℕ) → Tm → Way → List X) where
  -- an end with this result, on a way further on that stands, and what it gives is a part of the list
  pub record Ending (w : Way) (e : Env) (K : Way → Tm → List X) (r : Val) (list : List X) : Type 0 where
    pub way : Way
    pub env : Env
    pub extends : Extends w e way env
    pub stands : Stands M way env
    pub term : Tm
    pub gives : value M term env ≡ r
    pub part : Part (K way term) list

  ending-from : (w : Way) (e : Env) (w1 : Way) (e1 : Env) (K : Way → Tm → List X) (r : Val) (xs ys : List X) → Extends w e w1 e1 → (Part xs xs → (zs : List X) → Part zs xs → Part zs ys) → Ending w1 e1 K r xs → Ending w e K r ys
  ending-from w e w1 e1 K r xs ys x f z = record { way = z.way; env = z.env; extends = extends-then w e w1 e1 z.way z.env x z.extends; stands = z.stands; term = z.term; gives = z.gives; part = f (part-same xs) (K z.way z.term) z.part }

  put-truth : (phi : Tm) (vs : List Tm) (e : Env) → Truth M phi (put_values M vs e) → Truth M (put vs phi) e
  put-truth phi vs e h = put-value M vs phi e ∙ h

  shifted-true : (phis : List Tm) (e : Env) (v : Val) → AllTrue M phis e → AllTrue M (map (shift 0 1) phis) (v ∷ e)
  shifted-true [] e v h = tt
  shifted-true (phi ∷ phis) e v h = (shift_law M 0 phi e (v ∷ []) ∙ h.0, shifted-true phis e v h.1)

  by-look : (w : Way) (e : Env) (K : Way → Tm → List X) (r : Val) (c : Choice) (phi : Tm) (vs : List Tm) (v : Wt) (o : Option Bool) → Tells M e o (put vs phi) → Truth M (put vs phi) e
      → Ending w e K r (wp_walk X site v vs w K) → Ending w e K r (wp_walk X site v vs (choose c (suppose (put vs phi) w)) K)
      → Ending w e K r (by_look o (wp_walk X site v vs w K) (wp_walk X site v vs (choose c (suppose (put vs phi) w)) K))
  by-look w e K r c phi vs v (Some true) tells t here there = here
  by-look w e K r c phi vs v (Some false) tells t here there = let bad : v_bool true ≡ v_bool false = sym t ∙ tells in cc
  by-look w e K r c phi vs v None tells t here there = there

  mutual
    pub demanded-ends : (v : Wt) (vs : List Tm) (w : Way) (e : Env) (K : Way → Tm → List X) (r : Val) → IsClosed v → Stands M w e → demands M H v (put_values M vs e) r → Ending w e K r (wp_walk X site v vs w K)
    demanded-ends (w_post t) vs w e K r n s d = record { way = w; env = e; extends = extends-same w w e refl; stands = s; term = put vs t; gives = put-value M vs t e ∙ d; part = part-same (K w (put vs t)) }
    demanded-ends (w_need phi m at v) vs w e K r n s d = ending-from w e w e K r (wp_walk X site v vs w K) _ (extends-same w w e refl) (λ p zs q. part-right (need_sites X site m at (put vs phi) w) zs (wp_walk X site v vs w K) q) (demanded-ends v vs w e K r n s d)
    demanded-ends (w_given phi v) vs w e K r n s d =
        let w1 = suppose (put vs phi) w in
        ending-from w e w1 e K r (wp_walk X site v vs w1 K) _ (extends-same w w1 e refl) (λ p zs q. q) (demanded-ends v vs w1 e K r n (suppose-stands M (put vs phi) w e s (put-truth phi vs e d.0)) d.1)
    demanded-ends (w_fresh y S v) vs w e K r n s d =
        let w1 = fresh y S w in
        let a = d.0 in
        let ext : Extends w e w1 (a ∷ e) = record { news = record { name = y; sort = S } ∷ []; new = a ∷ []; vars = refl; env = refl; long = refl } in
        let vs1 = t_var 0 ∷ all_raised (count w) w1 vs in
        ending-from w e w1 (a ∷ e) K r (wp_walk X site v vs1 w1 K) _ ext (λ p zs q. q)
        (demanded-ends v vs1 w1 (a ∷ e) K r n (record { sorts = (d.1.0, s.sorts); hyps = shifted-true w.hyps e a s.hyps }) (subst (λ l. demands M H v (a ∷ l) r) (sym (raised-put-values M w e w1 (a ∷ e) vs ext)) d.1.1))
    demanded-ends (w_ways ws) vs w e K r n s d = ways-end ws vs w e K r n s d
    demanded-ends (w_hole o ts y v) vs w e K r n s d = absurd n
    demanded-ends (w_hole_tail o ts) vs w e K r n s d = absurd n
    demanded-ends (w_then v1 y v2) vs w e K r n s d =
        let K1 = λ (w1 : Way) (t : Tm). wp_walk X site v2 (t ∷ all_raised (count w) w1 vs) w1 K in
        let z = demanded-ends v1 vs w e K1 d.0 n.0 s d.1.0 in
        let vs2 = z.term ∷ all_raised (count w) z.way vs in
        let same : put_values M vs2 z.env ≡ d.0 ∷ put_values M vs e = ap₂ ◌∷◌ z.gives (raised-put-values M w e z.way z.env vs z.extends) in
        ending-from w e z.way z.env K r (wp_walk X site v2 vs2 z.way K) _ z.extends (λ p zs q. part-in zs _ _ q z.part)
        (demanded-ends v2 vs2 z.way z.env K r n.1 z.stands (subst (λ l. demands M H v2 l r) (sym same) d.1.1))

    ways-end : (ws : Wts) (vs : List Tm) (w : Way) (e : Env) (K : Way → Tm → List X) (r : Val) → AreClosed ws → Stands M w e → some_demands M H ws (put_values M vs e) r → Ending w e K r (ways_walk X site ws vs w K)
    ways-end w_none vs w e K r n s d = absurd d
    ways-end (w_way c phi v more) vs w e K r n s d =
        let w1 = choose c (suppose (put vs phi) w) in
        let here = wp_walk X site v vs w K in
        let there = wp_walk X site v vs w1 K in
        let one = by_look (decided c (put vs phi)) here there in
        let rest = ways_walk X site more vs w K in
        ⊎_elim
        (λ z. ending-from w e w e K r one (one ++ rest) (extends-same w w e refl) (λ p zs q. part-left rest zs one q)
        (by-look w e K r c phi vs v (decided c (put vs phi)) (decided-tells M e c (put vs phi)) (put-truth phi vs e z.0)
        (demanded-ends v vs w e K r n.0 s z.1)
        (ending-from w e w1 e K r there there (extends-same w w1 e refl) (λ p zs q. q) (demanded-ends v vs w1 e K r n.0 (record { sorts = s.sorts; hyps = (put-truth phi vs e z.0, s.hyps) }) z.1))))
        (λ z. ending-from w e w e K r rest (one ++ rest) (extends-same w w e refl) (λ p zs q. part-right one zs rest q) (ways-end more vs w e K r n.1 s z))
        d
