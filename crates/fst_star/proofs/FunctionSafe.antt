-- Valid goals make a function's transformer safe, with results that meet the ensures; and the other way round.
use Rattle.std.proofs.Common.{◌≡◌, ℕ, zero, suc, ◌+◌, List, [], ◌∷◌, ◌++◌, map, reverse, length, Option, Some, None, refl, sym, ap, ap₂, ◌∙◌, subst, arith}
use Rattle.fst_base.specs.Values.{Val, HasSorts}
use Rattle.fst_terms.specs.Terms.{Tm}
use Rattle.fst_terms.specs.Meaning.{Env, Meaning, value, Truth, Vr}
use Rattle.fst_terms.specs.Formulas.{put, vars_from}
use Rattle.fst_terms.proofs.PutLemmas.{put_values, put-value}
use Rattle.fst_program.specs.declared.goal.SiteKind.TheVariants as kind
use Rattle.fst_program.specs.Texts.{Fn, Prog}
use Rattle.fst_program.specs.Good.{IfGiven}
use Rattle.fst_program.specs.Paths.{Gl, Way, count, all_raised, over, given, clause_terms, own_vars, own_input, start, goal_site, ensures_site, GoalsValid}
use Rattle.fst_star.specs.Transformers.{Wt, Holes, safe, demands, IsClosed}
use Rattle.fst_star.specs.Inference.{start_terms}
use Rattle.fst_star.specs.Walking.{wp_walk}
use Rattle.fst_program.proofs.Ways.{Stands, Extends, extends-same, raised-put-values}
use Rattle.fst_star.proofs.SafeTransformers.{AllHold, valid-hold, site-true, told}
use Rattle.fst_star.proofs.TrueGoals.{Behind, site-holds, hold-both, holding}

later-values : (M : Meaning) (i n : ℕ) (v : Val) (e : Env) → put_values M (vars_from (suc i) n) (v ∷ e) ≡ put_values M (vars_from i n) e
later-values M i zero v e = refl
later-values M i (suc n) v e = ap₂ ◌∷◌ refl (later-values M (suc i) n v e)

own-values : (M : Meaning) (e : Env) → put_values M (vars_from 0 (length e)) e ≡ e
own-values M [] = refl
own-values M (v ∷ e) = ap (λ vs. v ∷ vs) (later-values M 0 (length e) v e ∙ own-values M e)

has-length : (xs : List Vr) (vs : List Val) → HasSorts (map (λ (x : Vr). x.sort) xs) vs → length xs ≡ length vs
has-length [] [] h = refl
has-length [] (v ∷ vs) h = absurd h
has-length (x ∷ xs) [] h = absurd h
has-length (x ∷ xs) (v ∷ vs) h = ap suc (has-length xs vs h.1)

module _ (P : Prog) (k : ℕ) (f : Fn) (M : Meaning) (H : Holes) (e0 : Env) (st : Stands M (start P f) e0) where
  -- the result meets the ensures
  abbrev pub Meets : Val → Type 0
  Meets r = IfGiven M f.gives (r ∷ put_values M (clause_terms f.effect (reverse (own_vars f)) (own_input f)) e0)

  pub start-values : put_values M (start_terms P f) e0 ≡ e0
  start-values = ap (λ n. put_values M (vars_from 0 n) e0) (has-length (start P f).vars e0 st.sorts) ∙ own-values M e0

  abbrev pub ends : Way → Tm → List Gl
  ends = ensures_site P k f

  result-env : (w : Way) (e : Env) (t : Tm) → Extends (start P f) e0 w e → put_values M (t ∷ all_raised (count (start P f)) w (clause_terms f.effect (reverse (own_vars f)) (own_input f))) e ≡ value M t e ∷ put_values M (clause_terms f.effect (reverse (own_vars f)) (own_input f)) e0
  result-env w e t x = ap (λ l. value M t e ∷ l) (raised-put-values M (start P f) e0 w e (clause_terms f.effect (reverse (own_vars f)) (own_input f)) x)

  pub ensures-met : (w : Way) (e : Env) (t : Tm) → Extends (start P f) e0 w e → Stands M w e → AllHold M k (start P f) e0 (ends w t) → Meets (value M t e)
  ensures-met w e t x s h = go f.gives h
    where
      go : (o : Option Tm) → AllHold M k (start P f) e0 (over (given o (t ∷ all_raised (count (start P f)) w (clause_terms f.effect (reverse (own_vars f)) (own_input f)))) (λ phi. goal_site k kind.Ensures f.place phi w))
          → IfGiven M o (value M t e ∷ put_values M (clause_terms f.effect (reverse (own_vars f)) (own_input f)) e0)
      go None h = tt
      go (Some phi) h =
          let us = t ∷ all_raised (count (start P f)) w (clause_terms f.effect (reverse (own_vars f)) (own_input f)) in
          subst (λ l. Truth M phi l) (result-env w e t x) (sym (put-value M us phi e) ∙ site-true M k (start P f) e0 kind.Ensures f.place (put us phi) w e x s (h.0, tt))

  -- where the goals hold in the environments that extend e0, the transformer is safe in e0 and demands results that meet the ensures
  pub safe-where-goals-hold : (v : Wt) → IsClosed v → AllHold M k (start P f) e0 (wp_walk Gl (goal_site k) v (start_terms P f) (start P f) ends) → safe M H v e0 × ((r : Val) → demands M H v e0 r → Meets r)
  safe-where-goals-hold v n h =
      let t = told M k (start P f) e0 H v (start_terms P f) (start P f) e0 ends n (extends-same (start P f) (start P f) e0 refl) st h in (
        subst (λ l. safe M H v l) start-values t.is_safe,
        λ r d. let z = t.reached r (subst (λ l. demands M H v l r) (sym start-values) d) in subst Meets z.gives (ensures-met z.way z.env z.term z.extends z.stands z.holds),
      )

  -- so where they are valid
  pub safe-where-goals-valid : (v : Wt) → IsClosed v → GoalsValid M (wp_walk Gl (goal_site k) v (start_terms P f) (start P f) ends) → safe M H v e0 × ((r : Val) → demands M H v e0 r → Meets r)
  safe-where-goals-valid v n h = safe-where-goals-hold v n (valid-hold M k (start P f) e0 (wp_walk Gl (goal_site k) v (start_terms P f) (start P f) ends) h)

  pub ensures-hold : (w : Way) (t : Tm) → Behind (start P f) w → ((e : Env) → Extends (start P f) e0 w e → Stands M w e → Meets (value M t e)) → AllHold M k (start P f) e0 (ends w t)
  ensures-hold w t b h = go f.gives h
    where
      go : (o : Option Tm) → ((e : Env) → Extends (start P f) e0 w e → Stands M w e → IfGiven M o (value M t e ∷ put_values M (clause_terms f.effect (reverse (own_vars f)) (own_input f)) e0))
          → AllHold M k (start P f) e0 (over (given o (t ∷ all_raised (count (start P f)) w (clause_terms f.effect (reverse (own_vars f)) (own_input f)))) (λ phi. goal_site k kind.Ensures f.place phi w))
      go None h = tt
      go (Some phi) h =
          let us = t ∷ all_raised (count (start P f)) w (clause_terms f.effect (reverse (own_vars f)) (own_input f)) in
          hold-both M k (start P f) e0 st.sorts (goal_site k kind.Ensures f.place (put us phi) w) []
          (site-holds M k (start P f) e0 st.sorts kind.Ensures f.place (put us phi) w b (λ e x s. put-value M us phi e ∙ subst (λ l. Truth M phi l) (sym (result-env w e t x)) (h e x s))) tt

  pub only-one : (e : Env) → Extends (start P f) e0 (start P f) e → Stands M (start P f) e → e ≡ e0
  only-one e x s = go x.new x.env (has-length (start P f).vars e s.sorts)
    where
      go : (new : Env) → e ≡ new ++ e0 → length (start P f).vars ≡ length e → e ≡ e0
      go [] p q = p
      go (a ∷ new) p q =
          let r = has-length (start P f).vars e0 st.sorts in
          let z : length e ≡ suc (length new + length e0) = ap length p ∙ ap suc (length-append new e0) in
          absurd (omega arith)
        where
          length-append : (us vs : Env) → length (us ++ vs) ≡ length us + length vs
          length-append [] vs = omega arith
          length-append (u ∷ us) vs = ap suc (length-append us vs) ∙ omega arith

  -- where the transformer is safe in e0 and demands results that meet the ensures, the goals hold in the environments that extend e0
  pub goals-hold-where-safe : (v : Wt) → IsClosed v → safe M H v e0 → ((r : Val) → demands M H v e0 r → Meets r) → AllHold M k (start P f) e0 (wp_walk Gl (goal_site k) v (start_terms P f) (start P f) ends)
  goals-hold-where-safe v n s d =
      holding M k (start P f) e0 st.sorts H v (start_terms P f) (start P f) ends n (record { news = []; vars = refl })
      (λ e x t. subst (λ l. safe M H v l) (sym (ap (put_values M (start_terms P f)) (only-one e x t) ∙ start-values)) s)
      (λ w1 t b came. ensures-hold w1 t b (λ e1 x1 st1.
      let c = came e1 x1 st1 in
      d (value M t e1) (subst (λ l. demands M H v l (value M t e1)) (ap (put_values M (start_terms P f)) (only-one c.env c.from c.stood) ∙ start-values) c.demanded)))

  -- the goals but those of ends hold exactly where it is safe
  pub goals-hold-where-safe-alone : (v : Wt) → IsClosed v → safe M H v e0 → AllHold M k (start P f) e0 (wp_walk Gl (goal_site k) v (start_terms P f) (start P f) (λ w t. []))
  goals-hold-where-safe-alone v n s =
      holding M k (start P f) e0 st.sorts H v (start_terms P f) (start P f) (λ w t. []) n (record { news = []; vars = refl })
      (λ e x t. subst (λ l. safe M H v l) (sym (ap (put_values M (start_terms P f)) (only-one e x t) ∙ start-values)) s) (λ w1 t b came. tt)

  pub safe-where-goals-hold-alone : (v : Wt) → IsClosed v → AllHold M k (start P f) e0 (wp_walk Gl (goal_site k) v (start_terms P f) (start P f) (λ w t. [])) → safe M H v e0
  safe-where-goals-hold-alone v n h = subst (λ l. safe M H v l) start-values (told M k (start P f) e0 H v (start_terms P f) (start P f) e0 (λ w t. []) n (extends-same (start P f) (start P f) e0 refl) st h).is_safe
