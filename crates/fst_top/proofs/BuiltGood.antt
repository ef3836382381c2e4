-- Where the goals of a built program are valid, its functions are good.
use Rattle.std.proofs.Common.{◌≡◌, ℕ, zero, suc, ◌+◌, ◌-◌, ◌<◌, Bool, true, false, if◌then◌else◌, List, [], ◌∷◌, ◌++◌, map, reverse, length, Option, Some, None, refl, sym, ap, ap₂, ◌∙◌, subst, arith, ◌⊎◌, inl, inr}
use Rattle.fst_base.specs.declared.op.Op.TheVariants as op
use Rattle.fst_base.specs.Sorts.{Srt, s_bool}
use Rattle.fst_base.specs.Values.{Val, v_unit, v_bool, HasSorts, same}
use Rattle.fst_base.specs.Primitives.{is_true}
use Rattle.fst_terms.specs.Terms.{Tm, t_var, t_int, t_bool, t_unit, t_prim, t_if, t_app, t_let, t_end, t_more}
use Rattle.fst_terms.specs.Meaning.{Env, Meaning, value, AllTrue, HasVars, Vr}
use Rattle.fst_terms.specs.Formulas.{negation, put, vars_from}
use Rattle.fst_terms.proofs.IndexLemmas.{shift-zero}
use Rattle.fst_terms.proofs.PutLemmas.{put_values, put-value}
use Rattle.fst_program.specs.declared.goal.SiteKind.TheVariants as kind
use Rattle.std.proofs.lemmas.List.{reverse-reverse, length-reverse}
use Rattle.fst_program.specs.Texts.{is_user, if_there, fun_at, Cm, c_ret, c_let, c_if, Prm, Fn, Prog}
use Rattle.fst_program.specs.Evaluation.{Got, got, eval, apply}
use Rattle.fst_program.specs.Runs.{Outcome, Done, Out, spend, then_do, Calls, Ghosts, text, calls, ghost_run}
use Rattle.fst_program.specs.declared.goal.SiteKind.{SiteKind}
use Rattle.fst_program.specs.declared.goal.Choice.TheVariants as choice
use Rattle.fst_program.specs.Paths.{Gl, Way, count, suppose, suppose_all, choose, raised, all_raised, Side, sides, over, Rest, CallWalk, term_sites, walk, GoalsValid, refinements, given, own_vars, own_input, clause_terms, demands_of, start, input_vars, fun_walk, call_walk, goal_site, ensures_site, fun_goals}
use Rattle.fst_terms.specs.Propositional.{TmPropositional}
use Rattle.fst_top.proofs.RunLemmas.{Takes, takes-unit, takes-then}
use Rattle.fst_top.specs.Built.{CmBuilt, ParamsBuilt, FnBuilt, sorts_of}
use mathlib.Core.List.{reverse_aux}
use Rattle.fst_program.proofs.SortedRunLemmas.{turned-have}
use Rattle.fst_program.specs.Good.{HaveAll, Pre, Post, IfGiven, clause_env, IsFine, IsOver, GoodAt, Good}

-- ---- built terms

-- a built term is evaluated to its value, bounded or not
module _ (M : Meaning) where
  equation-got : (b : Bool) (T : Srt) (at : ℕ) (v w : Val) → apply b op.Eq T at (v ∷ w ∷ []) ≡ got (v_bool (same v w))
  equation-got true T at v w = refl
  equation-got false T at v w = refl

  chosen : (x : Bool) (v w : Val) (g h : Got) → g ≡ got v → h ≡ got w → (if x then g else h) ≡ got (if x then v else w)
  chosen true v w g h p q = p
  chosen false v w g h p q = q

  built-got : (b : Bool) (Ss : List Srt) (t : Tm) (S : Srt) (e : Env) → TmPropositional Ss t S → eval b t e ≡ got (value M t e)
  built-got b Ss (t_var i) S e h = refl
  built-got b Ss (t_int n) S e h = absurd h
  built-got b Ss (t_bool x) S e h = refl
  built-got b Ss t_unit S e h = refl
  built-got b Ss (t_prim op.Eq T (t_more t (t_more u t_end)) at) S e h =
      rw (built-got b Ss t h.2.0 e h.2.1.1, built-got b Ss u h.2.0 e h.2.1.2) (equation-got b T at (value M t e) (value M u e))
  built-got b Ss (t_prim o T ts at) S e h = absurd h
  built-got b Ss (t_if c t u) S e h = rw (built-got b Ss c s_bool e h.1) (chosen (is_true (value M c e)) (value M t e) (value M u e) (eval b t e) (eval b u e) (built-got b Ss t s_bool e h.2) (built-got b Ss u s_bool e h.3))
  built-got b Ss (t_app k T ts) S e h = absurd h
  built-got b Ss (t_let x t u) S e h = absurd h

-- ---- terms raised by nothing

-- where a way has as many variables as before, terms stay as they are
raised-none : (n : ℕ) (w : Way) (t : Tm) → count w ≡ n → raised n w t ≡ t
raised-none n w t e = let z : count w - n ≡ 0 = omega arith in rw z (shift-zero 0 t)

pub all-raised-none : (n : ℕ) (w : Way) (ts : List Tm) → count w ≡ n → all_raised n w ts ≡ ts
all-raised-none n w [] e = refl
all-raised-none n w (t ∷ ts) e = ap₂ ◌∷◌ (raised-none n w t e) (all-raised-none n w ts e)

-- ---- goals

pub valid-left : (M : Meaning) (gs hs : List Gl) → GoalsValid M (gs ++ hs) → GoalsValid M gs
valid-left M [] hs h = tt
valid-left M (g ∷ gs) hs h = (h.0, valid-left M gs hs h.1)

pub valid-right : (M : Meaning) (gs hs : List Gl) → GoalsValid M (gs ++ hs) → GoalsValid M hs
valid-right M [] hs h = h
valid-right M (g ∷ gs) hs h = valid-right M gs hs h.1

-- ---- runs

-- the text's runs end with a result of Q, in some number of units, whatever its calls and ghost parts would give
pub record Fine (M : Meaning) (P : Prog) (Q : Val → Type 0) (c : Cm) (e : Env) (input : Val) : Type 0 where
  pub units : ℕ
  pub result : Val
  pub meets : Q result
  pub takes : (gh : Ghosts) (call : Calls) (b : Bool) → Takes units result (text M P gh call b c e input)

true-value : (v : Val) → is_true v ≡ true → v ≡ v_bool true
true-value (v_bool x) e = ap v_bool e
true-value v e = cc

-- ---- the sides of an if

-- a way on from w, with the goals of one side valid and its hypotheses true
pub record Onward (M : Meaning) (e : Env) (w : Way) (f : Side → List Gl) (x : Bool) : Type 0 where
  pub way : Way
  pub vars : way.vars ≡ w.vars
  pub hyps : AllTrue M way.hyps e
  pub valid : GoalsValid M (f (record { first = x; way = way }))

-- the side that a condition chooses has valid goals, and its hypotheses are true
module _ (M : Meaning) (e : Env) (w : Way) (f : Side → List Gl) (hyps : AllTrue M w.hyps e) where
  both-sides : (u : Tm) (x : Bool) → is_true (value M u e) ≡ x
      → GoalsValid M (f (record { first = true; way = choose choice.Then (suppose u w) }) ++ (f (record { first = false; way = choose choice.Else (suppose (negation u) w) }) ++ []))
      → Onward M e w f x
  both-sides u true q h = record { way = choose choice.Then (suppose u w); vars = refl; hyps = (true-value (value M u e) q, hyps); valid = valid-left M _ _ h }
  both-sides u false q h = record { way = choose choice.Else (suppose (negation u) w); vars = refl; hyps = (rw q refl, hyps); valid = valid-left M _ [] (valid-right M (f (record { first = true; way = choose choice.Then (suppose u w) })) _ h) }

  chosen-side : (u : Tm) (x : Bool) → is_true (value M u e) ≡ x → GoalsValid M (over (sides u w) f) → Onward M e w f x
  chosen-side (t_bool y) x q h = record { way = w; vars = refl; hyps = hyps; valid = subst (λ z. GoalsValid M (f (record { first = z; way = w }))) q (valid-left M _ [] h) }
  chosen-side u x q h = both-sides u x q h

-- ---- built text

module _ (M : Meaning) (P : Prog) (site : SiteKind → (place : ℕ) → Tm → Way → List Gl) (call_walk : CallWalk P Gl site) (e0 : Env) where
  takes-now : (v : Val) → Takes 0 v (λ l. Done v l)
  takes-now v F = inr (F, (omega arith, refl))

  -- a term's node takes one unit
  takes-term : (gh : Ghosts) (call : Calls) (b : Bool) (Ss : List Srt) (t : Tm) (S : Srt) (e : Env) (s : Val) → TmPropositional Ss t S → Takes 1 (value M t e) (text M P gh call b (c_ret t) e s)
  takes-term gh call b Ss t S e s h = rw (built-got M b Ss t S e h) (takes-unit 0 (value M t e) (λ l. Done (value M t e) l) (takes-now (value M t e)))

  -- an if takes a unit, then what the chosen side takes
  takes-if : (gh : Ghosts) (call : Calls) (b : Bool) (Ss : List Srt) (t : Tm) (c d : Cm) (e : Env) (s : Val) (x : Bool) (n : ℕ) (r : Val) → TmPropositional Ss t s_bool → is_true (value M t e) ≡ x → Takes n r (text M P gh call b (if x then c else d) e s) → Takes (suc n) r (text M P gh call b (c_if t c d) e s)
  takes-if gh call b Ss t c d e s true n r h q k = rw (built-got M b Ss t s_bool e h, q) (takes-unit n r (text M P gh call b c e s) k)
  takes-if gh call b Ss t c d e s false n r h q k = rw (built-got M b Ss t s_bool e h, q) (takes-unit n r (text M P gh call b d e s) k)

  -- where the goals on the way through a text are valid and the hypotheses true, its run ends, with the value of a result of the way
  built-fine : (c : Cm) (Ss : List Srt) (S : Srt) (us : List Tm) (s : Tm) (w : Way) (k : Rest P Gl site) (input : Val) (Q : Val → Type 0)
      → CmBuilt Ss c S → AllTrue M w.hyps e0 → GoalsValid M (walk P Gl site call_walk c us s w k)
      → ((w1 : Way) (t : Tm) → w1.vars ≡ w.vars → AllTrue M w1.hyps e0 → GoalsValid M (k w1 t) → Q (value M t e0))
      → Fine M P Q c (put_values M us e0) input
  built-fine (c_ret t) Ss S us s w k input Q h hyps valid rest = record {
    units = 1;
    result = value M t (put_values M us e0);
    meets = subst Q (put-value M us t e0) (rest w (put us t) refl hyps (valid-right M (term_sites P Gl site t us w) _ valid));
    takes = λ gh call b. takes-term gh call b Ss t S (put_values M us e0) input h;
  }
  built-fine (c_let x (c_ret t) c) Ss S us s w k input Q h hyps valid rest =
      let e = put_values M us e0 in
      let same : put_values M (put us t ∷ all_raised (count w) w us) e0 ≡ value M t e ∷ e = ap₂ ◌∷◌ (put-value M us t e0) (ap (λ ts. put_values M ts e0) (all-raised-none (count w) w us refl)) in
      let fine = subst (λ e1. Fine M P Q c e1 input) same
      (built-fine c (h.0 ∷ Ss) S (put us t ∷ all_raised (count w) w us) (raised (count w) w s) w k input Q h.1.1 hyps (valid-right M (term_sites P Gl site t us w) _ valid) rest) in
      record {
        units = suc (1 + fine.units);
        result = fine.result;
        meets = fine.meets;
        takes = λ gh call b. takes-unit (1 + fine.units) fine.result _ (takes-then 1 fine.units (value M t e) fine.result (text M P gh call b (c_ret t) e v_unit) (λ v r. text M P gh call b c (v ∷ e) input r) (takes-term gh call b Ss t h.0 e v_unit h.1.0) (fine.takes gh call b));
      }
  built-fine (c_if t c d) Ss S us s w k input Q h hyps valid rest =
      go (is_true (value M (put us t) e0)) refl
      (λ w1 same true_hyps valid1. built-fine c Ss S us s w1 k input Q h.1 true_hyps valid1 (λ w2 u e. rest w2 u (e ∙ same)))
      (λ w1 same true_hyps valid1. built-fine d Ss S us s w1 k input Q h.2 true_hyps valid1 (λ w2 u e. rest w2 u (e ∙ same)))
    where
      go : (x : Bool) → is_true (value M (put us t) e0) ≡ x
          → ((w1 : Way) → w1.vars ≡ w.vars → AllTrue M w1.hyps e0 → GoalsValid M (walk P Gl site call_walk c us s w1 k) → Fine M P Q c (put_values M us e0) input)
          → ((w1 : Way) → w1.vars ≡ w.vars → AllTrue M w1.hyps e0 → GoalsValid M (walk P Gl site call_walk d us s w1 k) → Fine M P Q d (put_values M us e0) input)
          → Fine M P Q (c_if t c d) (put_values M us e0) input
      go true q on_then on_else =
          let f = λ (side : Side). if side.first then walk P Gl site call_walk c us s side.way k else walk P Gl site call_walk d us s side.way k in
          let o = chosen-side M e0 w f hyps (put us t) true q (valid-right M (term_sites P Gl site t us w) _ valid) in
          let fine = on_then o.way o.vars o.hyps o.valid in
          record { units = suc fine.units; result = fine.result; meets = fine.meets; takes = λ gh call b. takes-if gh call b Ss t c d (put_values M us e0) input true fine.units fine.result h.0 (sym (ap is_true (put-value M us t e0)) ∙ q) (fine.takes gh call b) }
      go false q on_then on_else =
          let f = λ (side : Side). if side.first then walk P Gl site call_walk c us s side.way k else walk P Gl site call_walk d us s side.way k in
          let o = chosen-side M e0 w f hyps (put us t) false q (valid-right M (term_sites P Gl site t us w) _ valid) in
          let fine = on_else o.way o.vars o.hyps o.valid in
          record { units = suc fine.units; result = fine.result; meets = fine.meets; takes = λ gh call b. takes-if gh call b Ss t c d (put_values M us e0) input false fine.units fine.result h.0 (sym (ap is_true (put-value M us t e0)) ∙ q) (fine.takes gh call b) }
  built-fine c Ss S us s w k input Q h hyps valid rest = absurd h

-- ---- functions

-- the variables from 0 on have the environment's values
own-values : (M : Meaning) (e : Env) → put_values M (vars_from 0 (length e)) e ≡ e
own-values M [] = refl
own-values M (v ∷ e) = ap (λ vs. v ∷ vs) (later 0 (length e) ∙ own-values M e)
  where
    later : (i n : ℕ) → put_values M (vars_from (suc i) n) (v ∷ e) ≡ put_values M (vars_from i n) e
    later i zero = refl
    later i (suc n) = ap₂ ◌∷◌ refl (later (suc i) n)

pub suppose-all-vars : (phis : List Tm) (w : Way) → (suppose_all phis w).vars ≡ w.vars
suppose-all-vars [] w = refl
suppose-all-vars (phi ∷ phis) w = suppose-all-vars phis (suppose phi w)

suppose-all-true : (M : Meaning) (e : Env) (phis : List Tm) (w : Way) → AllTrue M phis e → AllTrue M w.hyps e → AllTrue M (suppose_all phis w).hyps e
suppose-all-true M e [] w h k = k
suppose-all-true M e (phi ∷ phis) w h k = suppose-all-true M e phis (suppose phi w) h.1 (h.0, k)

append-true : (M : Meaning) (e : Env) (phis psis : List Tm) → AllTrue M phis e → AllTrue M psis e → AllTrue M (phis ++ psis) e
append-true M e [] psis h k = k
append-true M e (phi ∷ phis) psis h k = (h.0, append-true M e phis psis h.1 k)

turned-true : (M : Meaning) (e : Env) (phis psis : List Tm) → AllTrue M phis e → AllTrue M psis e → AllTrue M (reverse_aux phis psis) e
turned-true M e [] psis h k = k
turned-true M e (phi ∷ phis) psis h k = turned-true M e phis (phi ∷ psis) h.1 (h.0, k)

pub no-refinements : (ps : List Prm) (ts us : List Tm) → ParamsBuilt ps → refinements ps ts us ≡ []
no-refinements [] ts us h = refl
no-refinements (p ∷ ps) [] us h = refl
no-refinements (p ∷ ps) (t ∷ ts) us h = rw (h.2, no-refinements ps ts (t ∷ us) h.3) refl

have-sorts : (ps : List Prm) (vs : List Val) → HaveAll ps vs → HasSorts (map (λ p. p.sort) ps) vs
have-sorts [] [] h = tt
have-sorts [] (v ∷ vs) h = absurd h
have-sorts (p ∷ ps) [] h = absurd h
have-sorts (p ∷ ps) (v ∷ vs) h = (h.0, have-sorts ps vs h.1)

have-length : (ps : List Prm) (vs : List Val) → HaveAll ps vs → length vs ≡ length ps
have-length [] [] h = refl
have-length [] (v ∷ vs) h = absurd h
have-length (p ∷ ps) [] h = absurd h
have-length (p ∷ ps) (v ∷ vs) h = ap suc (have-length ps vs h.1)

pub var-sorts : (ps : List Prm) → map (λ (x : Vr). x.sort) (map (λ (p : Prm). record { name = p.name; sort = p.sort }) ps) ≡ map (λ p. p.sort) ps
var-sorts [] = refl
var-sorts (p ∷ ps) = ap (λ Ss. p.sort ∷ Ss) (var-sorts ps)

module _ (M : Meaning) (P : Prog) (k : ℕ) (f : Fn) (built : FnBuilt f) (vs : List Val) (s : Val) (have : HaveAll f.params vs) (pre : Pre M f vs s) where
  -- the environment of the parameters
  abbrev args : Env
  args = reverse vs

  own-terms : put_values M (own_vars f) args ≡ args
  own-terms =
      let as_pure : own_vars f ≡ vars_from 0 (length f.params) = ap (λ x. vars_from (if is_user x then 1 else 0) (length f.params)) built.pure in
      let long : length f.params ≡ length args = sym (length-reverse vs ∙ have-length f.params vs have) in
      ap (λ us. put_values M us args) (as_pure ∙ ap (vars_from 0) long) ∙ own-values M args

  -- the terms of a clause's variables have the values of its environment
  clause-values : put_values M (clause_terms f.effect (reverse (own_vars f)) (own_input f)) args ≡ clause_env f.effect vs s
  clause-values =
      let terms : clause_terms f.effect (reverse (own_vars f)) (own_input f) ≡ own_vars f = ap (λ x. clause_terms x (reverse (own_vars f)) (own_input f)) built.pure ∙ reverse-reverse (own_vars f) in
      ap (λ us. put_values M us args) terms ∙ own-terms ∙ sym (ap (λ x. clause_env x vs s) built.pure)

  given-true : (phi : Option Tm) → IfGiven M phi (clause_env f.effect vs s) → AllTrue M (given phi (clause_terms f.effect (reverse (own_vars f)) (own_input f))) args
  given-true None h = tt
  given-true (Some phi) h = (put-value M _ phi args ∙ ap (value M phi) clause-values ∙ h, tt)

  -- the hypotheses that the function's way begins with are true
  start-true : AllTrue M (start P f).hyps args
  start-true = suppose-all-true M args (demands_of f (reverse (own_vars f)) (own_input f)) _ (rw (no-refinements f.params (reverse (own_vars f)) [] built.params) (given-true f.needs pre.1)) tt

  start-vars : (start P f).vars ≡ reverse (map (λ p. record { name = p.name; sort = p.sort }) f.params)
  start-vars = suppose-all-vars (demands_of f (reverse (own_vars f)) (own_input f)) _ ∙ ap (λ x. input_vars P x ++ reverse (map (λ p. record { name = p.name; sort = p.sort }) f.params)) built.pure

  vars-have : (w : Way) → w.vars ≡ (start P f).vars → HasVars (reverse w.vars) args
  vars-have w e =
      let back : reverse w.vars ≡ map (λ p. record { name = p.name; sort = p.sort }) f.params = ap reverse (e ∙ start-vars) ∙ reverse-reverse _ in
      let sorts : reverse (map (λ (x : Vr). x.sort) (reverse w.vars)) ≡ reverse (map (λ p. p.sort) f.params) = ap (λ xs. reverse (map (λ (x : Vr). x.sort) xs)) back ∙ ap reverse (var-sorts f.params) in
      subst (λ Ss. HasSorts Ss args) (sym sorts) (turned-have (map (λ p. p.sort) f.params) [] vs [] (have-sorts f.params vs have) tt)

  -- a valid goal for the ensures at the end of a way gives the ensures
  ensures-met : (w : Way) (t : Tm) → w.vars ≡ (start P f).vars → AllTrue M w.hyps args → GoalsValid M (ensures_site P k f w t) → Post M f vs s (value M t args)
  ensures-met w t e hyps valid = go f.gives valid
    where
      terms : List Tm
      terms = t ∷ all_raised (count (start P f)) w (clause_terms f.effect (reverse (own_vars f)) (own_input f))

      values-of : put_values M (t ∷ all_raised (count (start P f)) w (clause_terms f.effect (reverse (own_vars f)) (own_input f))) args ≡ value M t args ∷ clause_env f.effect vs s
      values-of = ap (λ us. value M t args ∷ put_values M us args) (all-raised-none (count (start P f)) w _ (ap length e)) ∙ ap (λ vs. value M t args ∷ vs) clause-values

      go : (phi : Option Tm) → GoalsValid M (over (given phi (t ∷ all_raised (count (start P f)) w (clause_terms f.effect (reverse (own_vars f)) (own_input f)))) (λ phi. goal_site k kind.Ensures f.place phi w)) → IfGiven M phi (value M t args ∷ clause_env f.effect vs s)
      go None h = tt
      go (Some phi) h = ap (value M phi) (sym values-of) ∙ sym (put-value M _ phi args) ∙ h.0 args (vars-have w e) (turned-true M args w.hyps [] hyps tt)

  body-fine : GoalsValid M (fun_walk P f Gl (goal_site k) (ensures_site P k f)) → Fine M P (Post M f vs s) f.body args s
  body-fine valid = subst (λ e. Fine M P (Post M f vs s) f.body e s) own-terms
      (built-fine M P (goal_site k) (call_walk P f Gl (goal_site k)) args f.body (sorts_of f.params) f.sort (own_vars f) (own_input f) (start P f) (ensures_site P k f) s (Post M f vs s) built.body start-true valid ensures-met)

  fine-at : (n : ℕ) (r : Val) (F : ℕ) (o : Outcome) → Post M f vs s r → ((F < n) × (o ≡ Out)) ⊎ ((left : ℕ) × ((F ≡ n + left) × (o ≡ Done r left))) → IsFine (Post M f vs s) o
  fine-at n r F o q (inl p) = rw (p.1) tt
  fine-at n r F o q (inr p) = rw (p.1.1) q

  over-at : (n : ℕ) (r : Val) (o : Outcome) → ((n < n) × (o ≡ Out)) ⊎ ((left : ℕ) × ((n ≡ n + left) × (o ≡ Done r left))) → IsOver o
  over-at n r o (inl p) = absurd (omega (arith, p.0))
  over-at n r o (inr p) = rw (p.1.1) tt

  good-at : (b : Bool) → GoalsValid M (fun_walk P f Gl (goal_site k) (ensures_site P k f)) → GoodAt P M f vs s b
  good-at b valid =
      let fine = body-fine valid in
      record {
        safe = λ F. (0, λ G le. fine-at fine.units fine.result F _ fine.meets (fine.takes (ghost_run M P G) (calls M P (ghost_run M P G) F b) b F));
        ends = λ total. (fine.units, (0, λ G le. over-at fine.units fine.result _ (fine.takes (ghost_run M P G) (calls M P (ghost_run M P G) fine.units b) b fine.units)));
      }

-- where the goals of a built function are valid, it is good
pub fun-good : (M : Meaning) (P : Prog) (k : ℕ) (f : Fn) → fun_at P k ≡ Some f → FnBuilt f → GoalsValid M (fun_goals P k) → Good P M f
fun-good M P k f q built valid = λ vs s b have input may pre. good-at M P k f built vs s have pre b (there valid)
  where
    there : GoalsValid M (fun_goals P k) → GoalsValid M (fun_walk P f Gl (goal_site k) (ensures_site P k f))
    there = subst (λ o. GoalsValid M (if_there o (λ f. fun_walk P f Gl (goal_site k) (ensures_site P k f)) [])) q
