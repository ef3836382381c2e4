-- The walk of a call's transformer.
use Rattle.std.proofs.Common.{◌≡◌, ℕ, ◌-◌, Bool, true, false, ◌&&◌, if◌then◌else◌, nat_eq, List, [], ◌∷◌, ◌++◌, map, reverse, Option, Some, None, refl, sym, ap, ap₂, ◌∙◌, subst}
use mathlib.Core.List.{reverse_aux}
use Rattle.fst_base.specs.Sorts.{Srt}
use Rattle.fst_terms.specs.Terms.{Tm, Tms, t_var, t_app, t_end, t_more, row, listed, shift}
use Rattle.fst_terms.specs.Formulas.{put, puts, joined, both, either, equation, less, at_most, nought, floors, descends, decrease}
use Rattle.fst_program.specs.declared.goal.SiteKind.{SiteKind}
use Rattle.fst_program.specs.declared.goal.SiteKind.TheVariants as kind
use Rattle.fst_program.specs.declared.effect.Effect.{Effect}
use Rattle.fst_program.specs.declared.effect.Effect.TheVariants as effect
use Rattle.fst_program.specs.Texts.{Prm, Fn, Prog, is_user, is_total, result_sort}
use Rattle.fst_program.specs.Paths.{Way, count, fresh, suppose, suppose_all, raised, all_raised, given, refinements, demands_of, clause_terms, measures_at, own_vars, start, requires_site, decreases_site, after_call}
use Rattle.fst_program.specs.Sorted.{place_of, result_in}
use Rattle.fst_star.specs.Transformers.{Wt, w_post}
use Rattle.fst_star.specs.Translation.{Scope}
use Rattle.fst_star.specs.Inference.{needed, givens, equates, known_after, decreasing, call_wp}
use Rattle.fst_star.specs.Walking.{wp_walk}
use Rattle.fst_star.proofs.PutLaws.{put-put, map-put-put, map-put-under, map-shift-put, put-under, shift-put}
use Rattle.fst_star.proofs.Places.{sorts_of, Sorted, At, Agree}

-- ---- lists

pub map-append : (g : Tm → Tm) (ts us : List Tm) → map g (ts ++ us) ≡ map g ts ++ map g us
map-append g [] us = refl
map-append g (t ∷ ts) us = ap (λ l. g t ∷ l) (map-append g ts us)

map-turned : (g : Tm → Tm) (ts us : List Tm) → map g (reverse_aux ts us) ≡ reverse_aux (map g ts) (map g us)
map-turned g [] us = refl
map-turned g (t ∷ ts) us = map-turned g ts (t ∷ us)

pub map-reverse : (g : Tm → Tm) (ts : List Tm) → map g (reverse ts) ≡ reverse (map g ts)
map-reverse g ts = map-turned g ts []

pub puts-row : (vs : List Tm) (us : List Tm) → puts vs (row us) ≡ row (map (put vs) us)
puts-row vs [] = refl
puts-row vs (u ∷ us) = ap (t_more (put vs u)) (puts-row vs us)

pub listed-puts : (vs : List Tm) (ts : Tms) → listed (puts vs ts) ≡ map (put vs) (listed ts)
listed-puts vs t_end = refl
listed-puts vs (t_more t ts) = ap (λ l. put vs t ∷ l) (listed-puts vs ts)

-- ---- clauses with terms put in

module _ (vs : List Tm) where
  put-joined : (phis : List Tm) → put vs (joined phis) ≡ joined (map (put vs) phis)
  put-joined [] = refl
  put-joined (p ∷ []) = refl
  put-joined (p ∷ q ∷ ps) = ap (both (put vs p)) (put-joined (q ∷ ps))

  put-floors : (ms : List Tm) → put vs (floors ms) ≡ floors (map (put vs) ms)
  put-floors [] = refl
  put-floors (p ∷ []) = refl
  put-floors (p ∷ q ∷ ps) = ap (both (at_most nought (put vs p))) (put-floors (q ∷ ps))

  put-descends : (ms ns : List Tm) → put vs (descends ms ns) ≡ descends (map (put vs) ms) (map (put vs) ns)
  put-descends [] ns = refl
  put-descends (m ∷ []) [] = refl
  put-descends (m ∷ []) (n ∷ ns) = refl
  put-descends (m ∷ l ∷ ms) [] = refl
  put-descends (m ∷ l ∷ ms) (n ∷ ns) = ap (λ t. either (less (put vs m) (put vs n)) (both (equation (put vs m) (put vs n)) t)) (put-descends (l ∷ ms) ns)

  put-decrease : (ms ns : List Tm) → put vs (decrease ms ns) ≡ decrease (map (put vs) ms) (map (put vs) ns)
  put-decrease ms ns = ap₂ both (put-floors ms) (put-descends ms ns)

  put-given : (o : Option Tm) (us : List Tm) → map (put vs) (given o us) ≡ given o (map (put vs) us)
  put-given None us = refl
  put-given (Some phi) us = ap (λ t. t ∷ []) (put-put vs us phi)

  put-refinements : (ps : List Prm) (ts us : List Tm) → map (put vs) (refinements ps ts us) ≡ refinements ps (map (put vs) ts) (map (put vs) us)
  put-refinements [] ts us = refl
  put-refinements (p ∷ ps) [] us = refl
  put-refinements (p ∷ ps) (t ∷ ts) us = map-append (put vs) (given p.refine (t ∷ us)) (refinements ps ts (t ∷ us)) ∙ ap₂ ◌++◌ (put-given p.refine (t ∷ us)) (put-refinements ps ts (t ∷ us))

  pub put-clause-terms : (x : Effect) (ts : List Tm) (s : Tm) → map (put vs) (clause_terms x ts s) ≡ clause_terms x (map (put vs) ts) (put vs s)
  put-clause-terms x ts s = go (is_user x)
    where
      go : (b : Bool) → map (put vs) (if b then s ∷ reverse ts else reverse ts) ≡ (if b then put vs s ∷ reverse (map (put vs) ts) else reverse (map (put vs) ts))
      go true = ap (λ l. put vs s ∷ l) (map-reverse (put vs) ts)
      go false = map-reverse (put vs) ts

  put-demands : (g : Fn) (ts : List Tm) (s : Tm) → map (put vs) (demands_of g ts s) ≡ demands_of g (map (put vs) ts) (put vs s)
  put-demands g ts s = map-append (put vs) (refinements g.params ts []) (given g.needs (clause_terms g.effect ts s)) ∙ ap₂ ◌++◌ (put-refinements g.params ts []) (put-given g.needs (clause_terms g.effect ts s) ∙ ap (given g.needs) (put-clause-terms g.effect ts s))

  put-measures : (g : Fn) (ts : List Tm) → map (put vs) (measures_at g ts) ≡ measures_at g (map (put vs) ts)
  put-measures g ts = map-put-put vs (reverse ts) g.measures ∙ ap (λ us. map (put us) g.measures) (map-reverse (put vs) ts)

pub suppose-all-vars : (phis : List Tm) (w : Way) → (suppose_all phis w).vars ≡ w.vars
suppose-all-vars [] w = refl
suppose-all-vars (phi ∷ phis) w = suppose-all-vars phis (suppose phi w)

result-place : (P : Prog) (x : Effect) (S : Srt) → result_sort P x S ≡ result_in P (place_of x) S
result-place P (effect.User E) S = refl
result-place P effect.Pure S = refl
result-place P effect.Ghost S = refl
result-place P effect.Div S = refl

module _ (P : Prog) (f : Fn) (X : Type 0) (site : SiteKind → (place : ℕ) → Tm → Way → List X) where
  needed-walk : (phis : List Tm) (at : ℕ) (v : Wt) (vs : List Tm) (w : Way) (k : Way → Tm → List X) → wp_walk X site (needed phis at v) vs w k ≡ requires_site P f X site (map (put vs) phis) at w ++ wp_walk X site v vs w k
  needed-walk [] at v vs w k = refl
  needed-walk (phi ∷ phis) at v vs w k = ap (λ t. site kind.Requires at t w ++ wp_walk X site v vs w k) (put-joined vs (phi ∷ phis))

  givens-walk : (phis : List Tm) (v : Wt) (vs : List Tm) (w : Way) (k : Way → Tm → List X) → wp_walk X site (givens phis v) vs w k ≡ wp_walk X site v vs (suppose_all (map (put vs) phis) w) k
  givens-walk [] v vs w k = refl
  givens-walk (phi ∷ phis) v vs w k = givens-walk phis v vs (suppose (put vs phi) w) k

  decreasing-walk : (g : Fn) (sc : Scope) (ms : List Tm) (at : ℕ) (v : Wt) (vs : List Tm) (w : Way) (k : Way → Tm → List X) → At P f w vs sc
      → wp_walk X site (decreasing P f g sc ms at v) vs w k ≡ decreases_site P f X site g (map (put vs) ms) at w ++ wp_walk X site v vs w k
  decreasing-walk g sc ms at v vs w k a = go (is_total P f.effect && nat_eq g.group f.group)
    where
      olds : List Tm
      olds = all_raised (count (start P f)) w (measures_at f (reverse (own_vars f)))

      go : (b : Bool) → wp_walk X site (if b then Rattle.fst_star.specs.Transformers.w_need (decrease ms sc.olds) kind.Decreases at v else v) vs w k
          ≡ (if b then site kind.Decreases at (decrease (map (put vs) ms) (all_raised (count (start P f)) w (measures_at f (reverse (own_vars f))))) w else []) ++ wp_walk X site v vs w k
      go true = ap (λ t. site kind.Decreases at t w ++ wp_walk X site v vs w k) (put-decrease vs ms sc.olds ∙ ap (decrease (map (put vs) ms)) a.olds)
      go false = refl

  put-known : (j : ℕ) (g : Fn) (ts : List Tm) (s : Tm) (vs : List Tm) (w : Way) →
      let w1 = fresh g.name (result_sort P g.effect g.sort) w in
      let ts1 = all_raised (count w) w1 (map (put vs) ts) in
      let s1 = raised (count w) w1 (put vs s) in
      map (put (t_var 0 ∷ all_raised (count w) w1 vs)) (known_after P f j g (map (shift 0 1) ts) (shift 0 1 s))
      ≡ given g.gives (t_var 0 ∷ clause_terms g.effect ts1 s1) ++ (if equates P f g then equation (t_var 0) (t_app j g.sort (row ts1)) ∷ [] else [])
  put-known j g ts s vs w =
      let w1 = fresh g.name (result_sort P g.effect g.sort) w in
      let rvs = all_raised (count w) w1 vs in
      let vs1 = t_var 0 ∷ rvs in
      let args : map (put vs1) (map (shift 0 1) ts) ≡ all_raised (count w) w1 (map (put vs) ts) = map-put-under (t_var 0) rvs ts ∙ sym (map-shift-put 0 (count w1 - count w) vs ts) in
      let input : put vs1 (shift 0 1 s) ≡ raised (count w) w1 (put vs s) = put-under (t_var 0) rvs s ∙ sym (shift-put 0 (count w1 - count w) vs s) in
      map-append (put vs1) (given g.gives (t_var 0 ∷ clause_terms g.effect (map (shift 0 1) ts) (shift 0 1 s))) (if equates P f g then equation (t_var 0) (t_app j g.sort (row (map (shift 0 1) ts))) ∷ [] else [])
      ∙ ap₂ ◌++◌
      (put-given vs1 g.gives (t_var 0 ∷ clause_terms g.effect (map (shift 0 1) ts) (shift 0 1 s)) ∙ ap (λ us. given g.gives (t_var 0 ∷ us)) (put-clause-terms vs1 g.effect (map (shift 0 1) ts) (shift 0 1 s) ∙ ap₂ (clause_terms g.effect) args input))
      (go (equates P f g) vs1 (puts-row vs1 (map (shift 0 1) ts) ∙ ap row args))
    where
      go : (b : Bool) (vs1 : List Tm) {us : Tms} → puts vs1 (row (map (shift 0 1) ts)) ≡ us
          → map (put vs1) (if b then equation (t_var 0) (t_app j g.sort (row (map (shift 0 1) ts))) ∷ [] else []) ≡ (if b then equation (put vs1 (t_var 0)) (t_app j g.sort us) ∷ [] else [])
      go true vs1 q = ap (λ us. equation (put vs1 (t_var 0)) (t_app j g.sort us) ∷ []) q
      go false vs1 q = refl

  pub call-meets : (j : ℕ) (g : Fn) (sc : Scope) (ts : List Tm) (s : Tm) (at : ℕ) (vs : List Tm) (w : Way) (k k' : Way → Tm → List X) → At P f w vs sc → Agree P f X w (result_in P (place_of g.effect) g.sort) k k'
      → wp_walk X site (call_wp P f j g sc ts s at) vs w k
      ≡ requires_site P f X site (demands_of g (map (put vs) ts) (put vs s)) at w ++ (decreases_site P f X site g (measures_at g (map (put vs) ts)) at w ++ k' (after_call P f X site j g (map (put vs) ts) (put vs s) w) (t_var 0))
  call-meets j g sc ts s at vs w k k' a ag =
      let w1 = fresh g.name (result_sort P g.effect g.sort) w in
      let w2 = after_call P f X site j g (map (put vs) ts) (put vs s) w in
      let vs1 = t_var 0 ∷ all_raised (count w) w1 vs in
      let phis = known_after P f j g (map (shift 0 1) ts) (shift 0 1 s) in
      let hyps = put-known j g ts s vs w in
      let vars : w2.vars ≡ w1.vars = suppose-all-vars (given g.gives (t_var 0 ∷ clause_terms g.effect (all_raised (count w) w1 (map (put vs) ts)) (raised (count w) w1 (put vs s))) ++ (if equates P f g then equation (t_var 0) (t_app j g.sort (row (all_raised (count w) w1 (map (put vs) ts)))) ∷ [] else [])) w1 in
      needed-walk (demands_of g ts s) at _ vs w k
      ∙ ap₂ ◌++◌ (ap (λ phis. requires_site P f X site phis at w) (put-demands vs g ts s))
      (decreasing-walk g sc (measures_at g ts) at _ vs w k a
      ∙ ap₂ ◌++◌ (ap (λ ms. decreases_site P f X site g ms at w) (put-measures vs g ts))
      (givens-walk phis (w_post (t_var 0)) vs1 w1 k
      ∙ ap (λ phis. k (suppose_all phis w1) (t_var 0)) hyps
      ∙ ag w2 (t_var 0) (record { news = record { name = g.name; sort = result_sort P g.effect g.sort } ∷ []; vars = vars })
      (subst (λ xs. Sorted P (sorts_of xs) (t_var 0) (result_in P (place_of g.effect) g.sort)) (sym vars) (ap Some (result-place P g.effect g.sort)))))
