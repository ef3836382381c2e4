-- A call whose goals are valid meets what its function asks for, and what the function gives holds after it.
use Rattle.std.proofs.Common.{◌≡◌, ℕ, ◌≤◌, Bool, true, false, ◌&&◌, if◌then◌else◌, nat_eq, List, [], ◌∷◌, ◌++◌, map, reverse, Some, IsTrue, refl, sym, ap, ap₂, ◌∙◌, subst}
use Rattle.std.proofs.lemmas.Bool.{eq-eqb}
use Rattle.fst_base.specs.Sorts.{Srt}
use Rattle.fst_base.specs.Values.{Val, v_bool, Has, HasSorts, same}
use Rattle.fst_base.proofs.ValueLemmas.{same-decides}
use Rattle.fst_terms.specs.Terms.{Tm, t_var, t_app, row, shift}
use Rattle.fst_terms.specs.Meaning.{Env, Meaning, value, AllTrue, Vr}
use Rattle.fst_terms.specs.Formulas.{joined, equation, decrease}
use Rattle.fst_terms.proofs.PutLemmas.{put_values}
use Rattle.fst_terms.proofs.TermLemmas.{shift_law}
use Rattle.fst_program.specs.declared.effect.Effect.{Effect}
use Rattle.fst_program.specs.declared.effect.Effect.TheVariants as effect
use Rattle.fst_program.specs.declared.goal.SiteKind.TheVariants as kind
use Rattle.fst_program.specs.Texts.{Fn, Prog, if_there, fun_at, is_total, result_sort}
use Rattle.fst_program.specs.Runs.{Outcome, Calls, Ghosts}
use Rattle.fst_program.specs.Good.{clause_env, IfGiven, Pre, Post}
use Rattle.fst_program.specs.Paths.{Gl, Way, count, fresh, raised, all_raised, clause_terms, given, demands_of, measures_at, own_vars, start, requires_site, decreases_site, equates, after_call, call_walk, goal_site, GoalsValid}
use Rattle.fst_program.specs.Sorted.{Applies, place_of, InputHas, result_in, param_sorts, IsSorted}
use Rattle.fst_goodness.proofs.Kept.{IsKept}
use Rattle.fst_program.proofs.Ways.{valid-left, valid-right, Stands, suppose-all-vars, suppose-all-stands, goal-true, Extends, raised-value, raised-put-values, Reaches}
use Rattle.fst_program.proofs.Modality.{Modality}
use Rattle.fst_goodness.proofs.DefinitionText.{After}
use Rattle.fst_goodness.proofs.CoreText.{CallsOk}
use Rattle.fst_goodness.proofs.Clauses.{joined-true, true-both, Floors, Descends, decrease-holds, clause-values, given-in, demands-out, row-values, measures_of, measure-values}

-- a result's sort, in two words
pub result-place : (P : Prog) (x : Effect) (S : Srt) → result_sort P x S ≡ result_in P (place_of x) S
result-place P (effect.User E) S = refl
result-place P effect.Pure S = refl
result-place P effect.Ghost S = refl
result-place P effect.Div S = refl

-- hypotheses under one more variable
shifted-true : (M : Meaning) (phis : List Tm) (e : Env) (v : Val) → AllTrue M phis e → AllTrue M (map (shift 0 1) phis) (v ∷ e)
shifted-true M [] e v h = tt
shifted-true M (phi ∷ phis) e v h = (shift_law M 0 phi e (v ∷ []) ∙ h.0, shifted-true M phis e v h.1)

module _ (P : Prog) (sorted : IsSorted P) (kept : IsKept P) (M : Meaning) (k : ℕ) (f : Fn) where
  -- what is known of a result of function j, g
  pub record Returned (j : ℕ) (g : Fn) (vs : List Val) (sv : Val) (v : Val) : Type 0 where
    pub ensures : Post M g vs sv v
    pub has : Has (result_in P (place_of g.effect) g.sort) v
    pub equals : equates P f Gl (goal_site k) g ≡ true → M j vs ≡ v

  fresh-extends : (w : Way) (e : Env) (x : List ℕ) (R : Srt) (v : Val) → Extends w e (fresh x R w) (v ∷ e)
  fresh-extends w e x R v = record { news = record { name = x; sort = R } ∷ []; new = v ∷ []; vars = refl; env = refl; long = refl }

  -- after a call with this result
  after-stands : (j : ℕ) (g : Fn) (w : Way) (e : Env) (ts : List Tm) (s : Tm) (v : Val) → Stands M w e → Returned j g (put_values M ts e) (value M s e) v → Stands M (after_call P f Gl (goal_site k) j g ts s w) (v ∷ e)
  after-stands j g w e ts s v st r =
      let R = result_sort P g.effect g.sort in
      let w1 = fresh g.name R w in
      let ex = fresh-extends w e g.name R v in
      let ts1 = all_raised (count w) w1 ts in
      let s1 = raised (count w) w1 s in
      let there : Stands M w1 (v ∷ e) = record { sorts = (subst (λ S. Has S v) (sym (result-place P g.effect g.sort)) r.has, st.sorts); hyps = shifted-true M w.hyps e v st.hyps } in
      let args : put_values M ts1 (v ∷ e) ≡ put_values M ts e = raised-put-values M w e w1 (v ∷ e) ts ex in
      let env : put_values M (t_var 0 ∷ clause_terms g.effect ts1 s1) (v ∷ e) ≡ v ∷ clause_env g.effect (put_values M ts e) (value M s e)
      = ap (λ vs. v ∷ vs) (clause-values M (v ∷ e) g.effect ts1 s1 ∙ ap₂ (clause_env g.effect) args (raised-value M w e w1 (v ∷ e) s ex)) in
      let gives = given-in M (v ∷ e) g.gives (t_var 0 ∷ clause_terms g.effect ts1 s1) (subst (IfGiven M g.gives) (sym env) r.ensures) in
      suppose-all-stands M _ w1 (v ∷ e) there (true-both M (v ∷ e) (given g.gives (t_var 0 ∷ clause_terms g.effect ts1 s1)) _ gives (equal-true w1 ts1 args (equates P f Gl (goal_site k) g) r.equals))
    where
      equal-true : (w1 : Way) (ts1 : List Tm) → put_values M ts1 (v ∷ e) ≡ put_values M ts e → (x : Bool) → (x ≡ true → M j (put_values M ts e) ≡ v) → AllTrue M (if x then equation (t_var 0) (t_app j g.sort (row ts1)) ∷ [] else []) (v ∷ e)
      equal-true w1 ts1 args true h =
          let p : v ≡ value M (t_app j g.sort (row ts1)) (v ∷ e) = sym (ap (M j) (row-values M (v ∷ e) ts1 ∙ args) ∙ h refl) in
          (ap v_bool (subst (λ x. same v x ≡ true) p ((same-decides v v).1 refl)), tt)
      equal-true w1 ts1 args false h = tt

  call-reaches : (j : ℕ) (g : Fn) (w : Way) (e : Env) (ts : List Tm) (s : Tm) (rest : After) (v : Val) → Stands M w e → GoalsValid M (rest (after_call P f Gl (goal_site k) j g ts s w) (t_var 0)) → Returned j g (put_values M ts e) (value M s e) v → Reaches P M w e (result_in P (place_of g.effect) g.sort) rest v
  call-reaches j g w e ts s rest v st valid r =
      let w1 = fresh g.name (result_sort P g.effect g.sort) w in
      let w2 = after_call P f Gl (goal_site k) j g ts s w in
      let ts1 = all_raised (count w) w1 ts in
      let s1 = raised (count w) w1 s in
      let vars : w2.vars ≡ w1.vars = suppose-all-vars (given g.gives (t_var 0 ∷ clause_terms g.effect ts1 s1) ++ (if equates P f Gl (goal_site k) g then equation (t_var 0) (t_app j g.sort (row ts1)) ∷ [] else [])) w1 in
      record {
        way = w2;
        env = v ∷ e;
        extends = record { news = record { name = g.name; sort = result_sort P g.effect g.sort } ∷ []; new = v ∷ []; vars = vars; env = refl; long = refl };
        stands = after-stands j g w e ts s v st r;
        term = t_var 0;
        sorted = subst (λ xs. Rattle.fst_program.specs.Sorted.FormSorted P (map (λ (x : Vr). x.sort) xs) (t_var 0) (result_in P (place_of g.effect) g.sort)) (sym vars) (ap Some (result-place P g.effect g.sort));
        gives = refl;
        has = r.has;
        valid = valid;
      }

  requires-hold : (phis : List Tm) (at : ℕ) (w : Way) (e : Env) → Stands M w e → GoalsValid M (requires_site P f Gl (goal_site k) phis at w) → AllTrue M phis e
  requires-hold [] at w e st h = tt
  requires-hold (phi ∷ phis) at w e st h = joined-true M e (phi ∷ phis) (goal-true M k kind.Requires at (joined (phi ∷ phis)) w e st h)

  module _ (e0 : Env) (olds : List Val) (own : put_values M (measures_at f (reverse (own_vars f))) e0 ≡ olds) where
    -- the measures of a call of the function's own group
    abbrev pub Decreases : Fn → List Val → Type 0
    Decreases g vs = is_total P f.effect ≡ true → g.group ≡ f.group → Floors (measures_of M g vs) × Descends (measures_of M g vs) olds

    decreases-hold : (g : Fn) (ts : List Tm) (at : ℕ) (w : Way) (e : Env) → Extends (start P f) e0 w e → Stands M w e → GoalsValid M (decreases_site P f Gl (goal_site k) g (measures_at g ts) at w) → Decreases g (put_values M ts e)
    decreases-hold g ts at w e ex st h total group =
        let olds-term = all_raised (count (start P f)) w (measures_at f (reverse (own_vars f))) in
        let on : (is_total P f.effect && nat_eq g.group f.group) ≡ true = rw (total, eq-eqb g.group f.group group) refl in
        let there = subst (λ x. GoalsValid M (if x then goal_site k kind.Decreases at (decrease (measures_at g ts) olds-term) w else [])) on h in
        let d = decrease-holds M e (measures_at g ts) olds-term (goal-true M k kind.Decreases at (decrease (measures_at g ts) olds-term) w e st there) in
        let new : put_values M (measures_at g ts) e ≡ measures_of M g (put_values M ts e) = measure-values M e g ts in
        let old : put_values M olds-term e ≡ olds = raised-put-values M (start P f) e0 w e (measures_at f (reverse (own_vars f))) ex ∙ own in
        (subst Floors new d.0, subst (λ x. Descends (measures_of M g (put_values M ts e)) x) old (subst (λ x. Descends x (put_values M olds-term e)) new d.1))

    module _ (I : Type 0) (b : Bool) (Ok : (Val → Type 0) → (I → ℕ → Outcome) → Type 0) (GhostOk : (Val → Type 0) → (I → Outcome) → Type 0) (rules : Modality I b Ok GhostOk) (gh : I → Ghosts) (call : I → Calls) (total : Bool) (group : ℕ) where
      -- functions called on arguments that meet what they ask for
      abbrev pub CalleesOk : Type 0
      CalleesOk = (j : ℕ) (g : Fn) → fun_at P j ≡ Some g → (total ≡ true → IsTrue (is_total P g.effect)) → g.group ≤ group → (vs : List Val) (sv : Val) → HasSorts (param_sorts P g) vs → InputHas P (place_of g.effect) sv → Pre M g vs sv → Decreases g vs → Ok (Returned j g vs sv) (λ i F. call i j vs sv F)

      pub calls-ok : CalleesOk → CallsOk P sorted kept M k I b Ok GhostOk rules (start P f) e0 gh call (call_walk P f Gl (goal_site k)) total group
      calls-ok callees j g q t below w e ts vs s sv at rest ex st args values have is iv ih valid =
          let there = subst (λ o. GoalsValid M (if_there o (λ g. requires_site P f Gl (goal_site k) (demands_of g ts s) at w ++ decreases_site P f Gl (goal_site k) g (measures_at g ts) at w ++ rest (after_call P f Gl (goal_site k) j g ts s w) (t_var 0)) [])) q valid in
          let rs = requires_site P f Gl (goal_site k) (demands_of g ts s) at w in
          let ds = decreases_site P f Gl (goal_site k) g (measures_at g ts) at w in
          let firsts = valid-left M (rs ++ ds) _ there in
          let pre = demands-out M e g ts s (requires-hold (demands_of g ts s) at w e st (valid-left M rs ds firsts)) in
          let down = decreases-hold g ts at w e ex st (valid-right M rs ds firsts) in
          let run = callees j g q t below vs sv have ih (subst (λ x. Pre M g vs x) iv (subst (λ x. Pre M g x (value M s e)) values pre)) (subst (λ x. Decreases g x) values down) in
          rules.weaken (Returned j g vs sv) (Reaches P M w e (result_in P (place_of g.effect) g.sort) rest) (λ i F. call i j vs sv F)
          (λ v r. call-reaches j g w e ts s rest v st (valid-right M (rs ++ ds) _ there) (subst (λ x. Returned j g x (value M s e) v) (sym values) (subst (λ x. Returned j g vs x v) (sym iv) r)))
          run
