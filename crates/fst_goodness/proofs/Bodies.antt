-- A function's way begins where its arguments meet what it asks for; where its goals are valid, results meet its ensures.
use Rattle.std.proofs.Common.{◌≡◌, ℕ, zero, suc, Bool, true, false, if◌then◌else◌, List, [], ◌∷◌, ◌++◌, map, reverse, length, slice_get, Option, Some, None, refl, sym, ap, ap₂, ◌∙◌, subst}
use Rattle.std.proofs.lemmas.List.{reverse-reverse, length-reverse}
use mathlib.Core.List.{reverse_aux}
use Rattle.fst_base.specs.Sorts.{Srt}
use Rattle.fst_base.specs.Values.{Val, v_unit, Has, HasSorts}
use Rattle.fst_terms.specs.Terms.{Tm, t_var, t_unit}
use Rattle.fst_terms.specs.Meaning.{Env, Meaning, value, Vr}
use Rattle.fst_terms.specs.Formulas.{put, vars_from}
use Rattle.fst_terms.proofs.PutLemmas.{put_values}
use Rattle.fst_program.specs.declared.effect.Effect.{Effect}
use Rattle.fst_program.specs.declared.effect.Effect.TheVariants as effect
use Rattle.fst_program.specs.declared.goal.SiteKind.TheVariants as kind
use Rattle.fst_program.specs.Texts.{Prm, EffDef, Fn, Prog, if_there, fun_at, effect_at, is_user}
use Rattle.fst_program.specs.Runs.{Outcome, Calls, Ghosts, text, input_to}
use Rattle.fst_program.specs.Good.{clause_env, IfGiven, Pre, Post}
use Rattle.fst_program.specs.Paths.{Gl, Way, count, suppose_all, all_raised, over, clause_terms, given, demands_of, measures_at, input_vars, own_vars, own_input, start, call_walk, fun_walk, goal_site, ensures_site, fun_goals, GoalsValid}
use Rattle.fst_program.specs.Sorted.{Applies, FormSorted, place_of, InputHas, result_in, input_sorts, param_sorts, body_sorts, IsSorted}
use Rattle.fst_program.proofs.SortedRunLemmas.{turned-have}
use Rattle.fst_goodness.proofs.Kept.{IsKept, CmKept}
use Rattle.fst_program.proofs.SortedTerms.{AllSorted}
use Rattle.fst_program.proofs.Ways.{way_sorts, Stands, suppose-all-vars, suppose-all-stands, goal-true, extends-same, raised-put-values, Reaches}
use Rattle.fst_program.proofs.Modality.{Modality}
use Rattle.fst_goodness.proofs.CoreEffects.{InputSorted, Fit}
use Rattle.fst_goodness.proofs.CoreText.{CallsOk, GhostsOk, text-ok}
use Rattle.fst_goodness.proofs.Clauses.{clause-values, given-out, demands-in, put-reversed, measures_of, measure-values}

-- ---- own variables

later-values : (M : Meaning) (i n : ℕ) (v : Val) (e : Env) → put_values M (vars_from (suc i) n) (v ∷ e) ≡ put_values M (vars_from i n) e
later-values M i zero v e = refl
later-values M i (suc n) v e = ap₂ ◌∷◌ refl (later-values M (suc i) n v e)

own-values : (M : Meaning) (e : Env) → put_values M (vars_from 0 (length e)) e ≡ e
own-values M [] = refl
own-values M (v ∷ e) = ap (λ vs. v ∷ vs) (later-values M 0 (length e) v e ∙ own-values M e)

own-values-under : (M : Meaning) (b : Bool) (s : Val) (e : Env) → put_values M (vars_from (if b then 1 else 0) (length e)) (if b then s ∷ e else e) ≡ e
own-values-under M true s e = later-values M 0 (length e) s e ∙ own-values M e
own-values-under M false s e = own-values M e

module _ (P : Prog) where
  later-sorted : (i n : ℕ) (T : Srt) (Ss Ts : List Srt) → AllSorted (Applies P) Ss (vars_from i n) Ts → AllSorted (Applies P) (T ∷ Ss) (vars_from (suc i) n) Ts
  later-sorted i zero T Ss [] h = tt
  later-sorted i zero T Ss (U ∷ Us) h = absurd h
  later-sorted i (suc n) T Ss [] h = absurd h
  later-sorted i (suc n) T Ss (U ∷ Us) h = (h.0, later-sorted (suc i) n T Ss Us h.1)

  own-sorted : (Ss : List Srt) → AllSorted (Applies P) Ss (vars_from 0 (length Ss)) Ss
  own-sorted [] = tt
  own-sorted (S ∷ Ss) = (refl, later-sorted 0 (length Ss) S Ss Ss (own-sorted Ss))

  own-sorted-under : (x : Effect) (s : Val) (Ss : List Srt) → InputHas P (place_of x) s → AllSorted (Applies P) (input_sorts P x ++ Ss) (vars_from (if is_user x then 1 else 0) (length Ss)) Ss
  own-sorted-under effect.Pure s Ss h = own-sorted Ss
  own-sorted-under effect.Ghost s Ss h = own-sorted Ss
  own-sorted-under effect.Div s Ss h = own-sorted Ss
  own-sorted-under (effect.User E) s Ss h = go (effect_at P E) h
    where
      go : (o : Option EffDef) → if_there o (λ d. Has d.input s) ⊥ → AllSorted (Applies P) (if_there o (λ d. d.input ∷ []) [] ++ Ss) (vars_from 1 (length Ss)) Ss
      go None h = absurd h
      go (Some d) h = later-sorted 0 (length Ss) d.input Ss Ss (own-sorted Ss)

  input-sorts-have : (x : Effect) (s : Val) (Ss : List Srt) (vs : List Val) → InputHas P (place_of x) s → HasSorts Ss vs → HasSorts (input_sorts P x ++ Ss) (if is_user x then s ∷ vs else vs)
  input-sorts-have effect.Pure s Ss vs h k = k
  input-sorts-have effect.Ghost s Ss vs h k = k
  input-sorts-have effect.Div s Ss vs h k = k
  input-sorts-have (effect.User E) s Ss vs h k = go (effect_at P E) h
    where
      go : (o : Option EffDef) → if_there o (λ d. Has d.input s) ⊥ → HasSorts (if_there o (λ d. d.input ∷ []) [] ++ Ss) (s ∷ vs)
      go None h = absurd h
      go (Some d) h = (h, k)

  input-vars-sorts : (x : Effect) → map (λ (v : Vr). v.sort) (input_vars P x) ≡ input_sorts P x
  input-vars-sorts effect.Pure = refl
  input-vars-sorts effect.Ghost = refl
  input-vars-sorts effect.Div = refl
  input-vars-sorts (effect.User E) = go (effect_at P E)
    where
      go : (o : Option EffDef) → map (λ (v : Vr). v.sort) (if_there o (λ d. record { name = Rattle.fst_program.specs.Paths.input_name; sort = d.input } ∷ []) []) ≡ if_there o (λ d. d.input ∷ []) []
      go None = refl
      go (Some d) = refl

  -- the input's variable is the last one
  input-own : (x : Effect) (s : Val) (w : Way) (Ss : List Srt) → way_sorts w ≡ input_sorts P x ++ Ss → InputHas P (place_of x) s → InputSorted P w (place_of x) (if is_user x then t_var 0 else t_unit)
  input-own effect.Pure s w Ss q h = tt
  input-own effect.Ghost s w Ss q h = tt
  input-own effect.Div s w Ss q h = tt
  input-own (effect.User E) s w Ss q h = go (effect_at P E) q h
    where
      go : (o : Option EffDef) → way_sorts w ≡ if_there o (λ d. d.input ∷ []) [] ++ Ss → if_there o (λ d. Has d.input s) ⊥ → if_there o (λ d. FormSorted P (way_sorts w) (t_var 0) d.input) ⊥
      go None q h = absurd h
      go (Some d) q h = ap (λ Us. slice_get Us 0) q

  pub input-given : (x : Effect) (s : Val) → InputHas P (place_of x) s → InputHas P (place_of x) (input_to x s)
  input-given (effect.User E) s h = h
  input-given effect.Pure s h = tt
  input-given effect.Ghost s h = tt
  input-given effect.Div s h = tt

own-input-value : (M : Meaning) (b : Bool) (s : Val) (e : Env) → value M (if b then t_var 0 else t_unit) (if b then s ∷ e else e) ≡ (if b then s else v_unit)
own-input-value M true s e = refl
own-input-value M false s e = refl

same-clause : (x : Effect) (vs : List Val) (s : Val) → clause_env x vs (input_to x s) ≡ clause_env x vs s
same-clause x vs s = go (is_user x)
  where
    go : (b : Bool) → (if b then (if b then s else v_unit) ∷ reverse vs else reverse vs) ≡ (if b then s ∷ reverse vs else reverse vs)
    go true = refl
    go false = refl

pub same-pre : (M : Meaning) (f : Fn) (vs : List Val) (s : Val) → Pre M f vs s → Pre M f vs (input_to f.effect s)
same-pre M f vs s h = (h.0, subst (IfGiven M f.needs) (sym (same-clause f.effect vs s)) h.1)

lengths : (Ss : List Srt) (vs : List Val) → HasSorts Ss vs → length vs ≡ length Ss
lengths [] [] h = refl
lengths [] (v ∷ vs) h = absurd h
lengths (S ∷ Ss) [] h = absurd h
lengths (S ∷ Ss) (v ∷ vs) h = ap suc (lengths Ss vs h.1)

length-params : (ps : List Prm) → length (map (λ p. p.sort) ps) ≡ length ps
length-params [] = refl
length-params (p ∷ ps) = ap suc (length-params ps)

map-append : (xs ys : List Vr) → map (λ (x : Vr). x.sort) (xs ++ ys) ≡ map (λ (x : Vr). x.sort) xs ++ map (λ (x : Vr). x.sort) ys
map-append [] ys = refl
map-append (x ∷ xs) ys = ap (λ Ss. x.sort ∷ Ss) (map-append xs ys)

map-turned : (xs ys : List Vr) → map (λ (x : Vr). x.sort) (reverse_aux xs ys) ≡ reverse_aux (map (λ (x : Vr). x.sort) xs) (map (λ (x : Vr). x.sort) ys)
map-turned [] ys = refl
map-turned (x ∷ xs) ys = map-turned xs (x ∷ ys)

var-sorts : (ps : List Prm) → map (λ (x : Vr). x.sort) (map (λ (p : Prm). record { name = p.name; sort = p.sort }) ps) ≡ map (λ p. p.sort) ps
var-sorts [] = refl
var-sorts (p ∷ ps) = ap (λ Ss. p.sort ∷ Ss) (var-sorts ps)

-- a result that meets the ensures and has its sort
pub record Met (P : Prog) (M : Meaning) (f : Fn) (vs : List Val) (s : Val) (v : Val) : Type 0 where
  pub ensures : Post M f vs s v
  pub has : Has (result_in P (place_of f.effect) f.sort) v

module _ (P : Prog) (sorted : IsSorted P) (kept : IsKept P) (M : Meaning) (k : ℕ) (f : Fn) (at_k : fun_at P k ≡ Some f) (vs : List Val) (s : Val) (have : HasSorts (param_sorts P f) vs) (input : InputHas P (place_of f.effect) s) (pre : Pre M f vs s) where
  -- the values of the variables that the function's way begins with
  abbrev pub begin : Env
  begin = clause_env f.effect vs s

  args-have : HasSorts (body_sorts P f) (reverse vs)
  args-have = turned-have (param_sorts P f) [] vs [] have tt

  start-sorts : way_sorts (start P f) ≡ input_sorts P f.effect ++ body_sorts P f
  start-sorts =
      let vars : (start P f).vars ≡ input_vars P f.effect ++ reverse (map (λ (p : Prm). record { name = p.name; sort = p.sort }) f.params) = suppose-all-vars (demands_of f (reverse (own_vars f)) (own_input f)) (record { vars = input_vars P f.effect ++ reverse (map (λ (p : Prm). record { name = p.name; sort = p.sort }) f.params); hyps = []; choices = [] }) in
      ap (map (λ (x : Vr). x.sort)) vars ∙ map-append (input_vars P f.effect) (reverse (map (λ (p : Prm). record { name = p.name; sort = p.sort }) f.params))
      ∙ ap₂ ◌++◌ (input-vars-sorts P f.effect) (map-turned (map (λ (p : Prm). record { name = p.name; sort = p.sort }) f.params) [] ∙ ap reverse (var-sorts f.params))

  body-length : length f.params ≡ length (body_sorts P f)
  body-length = sym (length-reverse (param_sorts P f) ∙ length-params f.params)

  args-length : length f.params ≡ length (reverse vs)
  args-length = body-length ∙ sym (lengths (body_sorts P f) (reverse vs) args-have)

  own-vars-values : put_values M (own_vars f) begin ≡ reverse vs
  own-vars-values = ap (λ n. put_values M (vars_from (if is_user f.effect then 1 else 0) n) begin) args-length ∙ own-values-under M (is_user f.effect) s (reverse vs)

  own-args-values : put_values M (reverse (own_vars f)) begin ≡ vs
  own-args-values = put-reversed M begin (own_vars f) ∙ ap reverse own-vars-values ∙ reverse-reverse vs

  input-value : value M (own_input f) begin ≡ input_to f.effect s
  input-value = own-input-value M (is_user f.effect) s (reverse vs)

  -- the values of the function's own measures
  pub own-measures : put_values M (measures_at f (reverse (own_vars f))) begin ≡ measures_of M f vs
  own-measures = measure-values M begin f (reverse (own_vars f)) ∙ ap (measures_of M f) own-args-values

  start-stands : Stands M (start P f) begin
  start-stands = suppose-all-stands M (demands_of f (reverse (own_vars f)) (own_input f)) _ begin
      (record { sorts = subst (λ Ss. HasSorts Ss begin) (sym (sym (ap (map (λ (x : Vr). x.sort)) (suppose-all-vars (demands_of f (reverse (own_vars f)) (own_input f)) (record { vars = input_vars P f.effect ++ reverse (map (λ (p : Prm). record { name = p.name; sort = p.sort }) f.params); hyps = []; choices = [] }))) ∙ start-sorts)) (input-sorts-have P f.effect s (body_sorts P f) (reverse vs) input args-have); hyps = tt })
      (demands-in M begin f (reverse (own_vars f)) (own_input f) (subst (λ x. Pre M f (put_values M (reverse (own_vars f)) begin) x) (sym input-value) (subst (λ x. Pre M f x (input_to f.effect s)) (sym own-args-values) (same-pre M f vs s pre))))

  start-fits : Fit P M (start P f) begin (body_sorts P f) (place_of f.effect) (own_vars f) (own_input f) (start P f) begin (reverse vs) (input_to f.effect s)
  start-fits = record {
    extends = extends-same (start P f) (start P f) begin refl;
    stands = start-stands;
    sorted = subst (λ Ss. AllSorted (Applies P) Ss (own_vars f) (body_sorts P f)) (sym start-sorts) (subst (λ n. AllSorted (Applies P) (input_sorts P f.effect ++ body_sorts P f) (vars_from (if is_user f.effect then 1 else 0) n) (body_sorts P f)) (sym body-length) (own-sorted-under P f.effect s (body_sorts P f) input));
    values = own-vars-values;
    have = args-have;
    input_sorted = input-own P f.effect s (start P f) (body_sorts P f) start-sorts input;
    input_value = input-value;
    input_has = input-given P f.effect s input;
  }

  ensures-met : (v : Val) → Reaches P M (start P f) begin (result_in P (place_of f.effect) f.sort) (ensures_site P k f) v → Met P M f vs s v
  ensures-met v r = record { ensures = go f.gives r.valid; has = r.has }
    where
      values-of : put_values M (r.term ∷ all_raised (count (start P f)) r.way (clause_terms f.effect (reverse (own_vars f)) (own_input f))) r.env ≡ v ∷ clause_env f.effect vs s
      values-of = ap₂ ◌∷◌ r.gives (raised-put-values M (start P f) begin r.way r.env (clause_terms f.effect (reverse (own_vars f)) (own_input f)) r.extends
          ∙ clause-values M begin f.effect (reverse (own_vars f)) (own_input f) ∙ ap₂ (clause_env f.effect) own-args-values input-value ∙ same-clause f.effect vs s)

      go : (phi : Option Tm) → GoalsValid M (over (given phi (r.term ∷ all_raised (count (start P f)) r.way (clause_terms f.effect (reverse (own_vars f)) (own_input f)))) (λ phi. goal_site k kind.Ensures f.place phi r.way)) → IfGiven M phi (v ∷ clause_env f.effect vs s)
      go None h = tt
      go (Some phi) h = subst (λ e. IfGiven M (Some phi) e) values-of (given-out M r.env (Some phi) (r.term ∷ all_raised (count (start P f)) r.way (clause_terms f.effect (reverse (own_vars f)) (own_input f))) (goal-true M k kind.Ensures f.place (put (r.term ∷ all_raised (count (start P f)) r.way (clause_terms f.effect (reverse (own_vars f)) (own_input f))) phi) r.way r.env r.stands (h.0, tt), tt))

  module _ (I : Type 0) (b : Bool) (Ok : (Val → Type 0) → (I → ℕ → Outcome) → Type 0) (GhostOk : (Val → Type 0) → (I → Outcome) → Type 0) (rules : Modality I b Ok GhostOk) (gh : I → Ghosts) (call : I → Calls) (total : Bool) where
    -- where its goals are valid, the runs of a function's body keep every claim that its calls and ghost parts keep
    pub body-ok : CmKept P f.group total f.body → GoalsValid M (fun_goals P k)
        → CallsOk P sorted kept M k I b Ok GhostOk rules (start P f) begin gh call (call_walk P f Gl (goal_site k)) total f.group
        → GhostsOk P sorted kept M k I b Ok GhostOk rules (start P f) begin gh call (call_walk P f Gl (goal_site k)) total f.group
        → Ok (Met P M f vs s) (λ i F. text M P (gh i) (call i) b f.body (reverse vs) (input_to f.effect s) F)
    body-ok own valid calls-ok ghosts-ok =
        let there = subst (λ o. GoalsValid M (if_there o (λ f. fun_walk P f Gl (goal_site k) (ensures_site P k f)) [])) at_k valid in
        rules.weaken (Reaches P M (start P f) begin (result_in P (place_of f.effect) f.sort) (ensures_site P k f)) (Met P M f vs s) (λ i F. text M P (gh i) (call i) b f.body (reverse vs) (input_to f.effect s) F) ensures-met
        (text-ok P sorted kept M k I b Ok GhostOk rules (start P f) begin gh call (call_walk P f Gl (goal_site k)) total f.group calls-ok ghosts-ok
        f.body (body_sorts P f) (place_of f.effect) f.sort (own_vars f) (own_input f) (start P f) begin (reverse vs) (input_to f.effect s) (ensures_site P k f)
        (sorted.funs k f at_k).body own start-fits there)
