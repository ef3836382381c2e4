-- The goals of a built function are propositional.
use Rattle.std.proofs.Common.{◌≡◌, ℕ, zero, suc, ◌+◌, true, false, List, [], ◌∷◌, ◌++◌, map, reverse, length, get_or, slice_get, Option, Some, None, refl, sym, ap, ◌∙◌, subst, arith}
use Rattle.std.proofs.lemmas.List.{length-map, length-reverse}
use Rattle.std.specs.Prelude.{⊤}
use mathlib.Core.List.{reverse_aux}
use Rattle.fst_base.specs.declared.op.Op.TheVariants as op
use Rattle.fst_base.specs.Sorts.{Srt, s_bool}
use Rattle.fst_terms.specs.Terms.{Tm, t_var, t_int, t_bool, t_unit, t_prim, t_if, t_app, t_let, t_end, t_more}
use Rattle.fst_terms.specs.Flats.{sorts_of_vars}
use Rattle.fst_terms.specs.Formulas.{negation, put, vars_from}
use Rattle.fst_terms.specs.Propositional.{TmPropositional, FormulasPropositional, IsPropositional}
use Rattle.fst_terms.specs.Meaning.{plain_sequent}
use Rattle.fst_program.specs.declared.goal.Choice.TheVariants as choice
use Rattle.fst_program.specs.declared.goal.Goal.{Goal}
use Rattle.fst_program.specs.Texts.{Cm, c_ret, c_let, c_if, Prm, Fn, Prog, fun_at, if_there}
use Rattle.fst_program.specs.Paths.{Gl, ensures_site, fun_goals, fun_walk, given, goal_site, over, plain_goal}
use Rattle.fst_top.specs.Built.{CmBuilt, ClauseBuilt, FnBuilt, IsBuilt, sorts_of, var_of}
use Rattle.fst_top.specs.Goals.{State, bound, supposed, sides_of, ends, end_goal, end_of, start_of, simple_goals, GoalsPropositional}
use Rattle.fst_top.proofs.BuiltGood.{var-sorts}
use Rattle.fst_top.proofs.GoalLemmas.{fun-goals-simple}
use Rattle.fst_top.proofs.ProgramBuilt.{params-vars}

append-propositional : (gs hs : List Gl) → GoalsPropositional gs → GoalsPropositional hs → GoalsPropositional (gs ++ hs)
append-propositional [] hs h k = k
append-propositional (g ∷ gs) hs h k = (h.0, append-propositional gs hs h.1 k)

turned-formulas : (Ss : List Srt) (phis psis : List Tm) → FormulasPropositional Ss phis → FormulasPropositional Ss psis → FormulasPropositional Ss (reverse_aux phis psis)
turned-formulas Ss [] psis h k = k
turned-formulas Ss (phi ∷ phis) psis h k = turned-formulas Ss phis (phi ∷ psis) h.1 (h.0, k)

-- ---- over variables of these sorts

module _ (Ss : List Srt) where
  -- the terms have these sorts
  abbrev pub AreTyped : List Tm → List Srt → Type 0
  AreTyped [] [] = ⊤
  AreTyped (u ∷ us) (T ∷ Ts) = TmPropositional Ss u T × AreTyped us Ts
  AreTyped _ _ = ⊥

  typed-at : (us : List Tm) (Ts : List Srt) (i : ℕ) (S : Srt) → AreTyped us Ts → slice_get Ts i ≡ Some S → TmPropositional Ss (get_or us i t_unit) S
  typed-at [] [] zero S h e = cc
  typed-at [] [] (suc i) S h e = cc
  typed-at [] (T ∷ Ts) i S h e = absurd h
  typed-at (u ∷ us) [] i S h e = absurd h
  typed-at (u ∷ us) (T ∷ Ts) zero S h e = let same : T ≡ S = cc in subst (TmPropositional Ss u) same h.0
  typed-at (u ∷ us) (T ∷ Ts) (suc i) S h e = typed-at us Ts i S h.1 e

  put-typed : (us : List Tm) (Ts : List Srt) → AreTyped us Ts → (t : Tm) (S : Srt) → TmPropositional Ts t S → TmPropositional Ss (put us t) S
  put-typed us Ts k (t_var i) S h = typed-at us Ts i S k h
  put-typed us Ts k (t_int n) S h = absurd h
  put-typed us Ts k (t_bool b) S h = h
  put-typed us Ts k t_unit S h = h
  put-typed us Ts k (t_prim op.Eq T (t_more t (t_more u t_end)) at) S h = (h.0, h.1, (h.2.0, (h.2.1.0, put-typed us Ts k t h.2.0 h.2.1.1, put-typed us Ts k u h.2.0 h.2.1.2)))
  put-typed us Ts k (t_prim o T ts at) S h = absurd h
  put-typed us Ts k (t_if c t u) S h = (h.0, put-typed us Ts k c s_bool h.1, put-typed us Ts k t s_bool h.2, put-typed us Ts k u s_bool h.3)
  put-typed us Ts k (t_app j T ts) S h = absurd h
  put-typed us Ts k (t_let x t u) S h = absurd h

  -- the variables from i on
  vars-typed : (Ts : List Srt) (i : ℕ) → ((j : ℕ) (S : Srt) → slice_get Ts j ≡ Some S → slice_get Ss (i + j) ≡ Some S) → AreTyped (vars_from i (length Ts)) Ts
  vars-typed [] i h = tt
  vars-typed (T ∷ Ts) i h =
      let here : i + 0 ≡ i = omega arith in
      (subst (λ n. slice_get Ss n ≡ Some T) here (h 0 T refl), vars-typed Ts (suc i) (λ j S e. let next : i + suc j ≡ suc i + j = omega arith in subst (λ n. slice_get Ss n ≡ Some S) next (h (suc j) S e)))

  own-typed : AreTyped (vars_from 0 (length Ss)) Ss
  own-typed = vars-typed Ss 0 (λ j S e. let same : j ≡ 0 + j = omega arith in subst (λ n. slice_get Ss n ≡ Some S) same e)

  sides-typed : (u : Tm) (s : State) (left right : State → List Gl) → TmPropositional Ss u s_bool → FormulasPropositional Ss s.hyps
      → ((s1 : State) → s1.terms ≡ s.terms → FormulasPropositional Ss s1.hyps → GoalsPropositional (left s1))
      → ((s1 : State) → s1.terms ≡ s.terms → FormulasPropositional Ss s1.hyps → GoalsPropositional (right s1))
      → GoalsPropositional (sides_of u s left right)
  sides-typed (t_bool true) s left right h hyps p q = p s refl hyps
  sides-typed (t_bool false) s left right h hyps p q = q s refl hyps
  sides-typed u s left right h hyps p q = append-propositional _ _ (p (supposed u choice.Then s) refl (h, hyps)) (q (supposed (negation u) choice.Else s) refl ((refl, h, refl, refl), hyps))

  module _ (k : State → Tm → List Gl) (S : Srt) (at_end : (s : State) (t : Tm) → FormulasPropositional Ss s.hyps → TmPropositional Ss t S → GoalsPropositional (k s t)) where
    ends-typed : (c : Cm) (Ts : List Srt) (s : State) → CmBuilt Ts c S → AreTyped s.terms Ts → FormulasPropositional Ss s.hyps → GoalsPropositional (ends k c s)
    ends-typed (c_ret t) Ts s h typed hyps = at_end s (put s.terms t) hyps (put-typed s.terms Ts typed t S h)
    ends-typed (c_let x (c_ret t) c) Ts s h typed hyps = ends-typed c (h.0 ∷ Ts) (bound (put s.terms t) s) h.1.1 (put-typed s.terms Ts typed t h.0 h.1.0, typed) hyps
    ends-typed (c_if t c d) Ts s h typed hyps =
        sides-typed (put s.terms t) s (λ s1. ends k c s1) (λ s1. ends k d s1) (put-typed s.terms Ts typed t s_bool h.0) hyps
        (λ s1 e hyps1. ends-typed c Ts s1 h.1 (subst (λ us. AreTyped us Ts) (sym e) typed) hyps1)
        (λ s1 e hyps1. ends-typed d Ts s1 h.2 (subst (λ us. AreTyped us Ts) (sym e) typed) hyps1)
    ends-typed c Ts s h typed hyps = absurd h

-- ---- functions

module _ (k : ℕ) (f : Fn) (built : FnBuilt f) where
  abbrev Ss : List Srt
  Ss = sorts_of f.params

  own : AreTyped Ss (vars_from 0 (length f.params)) Ss
  own =
      let long : length Ss ≡ length f.params = length-reverse (map (λ (p : Prm). p.sort) f.params) ∙ length-map f.params (λ (p : Prm). p.sort) in
      subst (λ n. AreTyped Ss (vars_from 0 n) Ss) long (own-typed Ss)

  at-end : (s : State) (t : Tm) → FormulasPropositional Ss s.hyps → TmPropositional Ss t f.sort → GoalsPropositional (end_of k f s t)
  at-end s t hyps h = go f.gives built.gives
    where
      go : (phi : Option Tm) → ClauseBuilt (f.sort ∷ sorts_of f.params) phi → GoalsPropositional (over (given phi (t ∷ vars_from 0 (length f.params))) (λ phi. end_goal k f s phi ∷ []))
      go None g = tt
      go (Some phi) g =
          let same : sorts_of f.params ≡ sorts_of_vars (map var_of f.params) = sym (ap reverse (var-sorts f.params)) in (
            record {
              vars = params-vars f.params built.params;
              hyps = subst (λ Ts. FormulasPropositional Ts (reverse s.hyps)) same (turned-formulas (sorts_of f.params) s.hyps [] hyps tt);
              goal = subst (λ Ts. TmPropositional Ts (put (t ∷ vars_from 0 (length f.params)) phi) s_bool) same (put-typed (sorts_of f.params) (t ∷ vars_from 0 (length f.params)) (f.sort ∷ sorts_of f.params) (h, own) phi s_bool g);
            },
            tt,
          )

  start-typed : (phi : Option Tm) → ClauseBuilt Ss phi → FormulasPropositional Ss (given phi (vars_from 0 (length f.params)))
  start-typed None h = tt
  start-typed (Some phi) h = (put-typed Ss (vars_from 0 (length f.params)) Ss own phi s_bool h, tt)

  simple-propositional : GoalsPropositional (simple_goals k f)
  simple-propositional = ends-typed Ss (end_of k f) f.sort at-end f.body Ss (start_of f) built.body own (start-typed f.needs built.needs)

pub goals-propositional : (P : Prog) (k : ℕ) (f : Fn) → fun_at P k ≡ Some f → FnBuilt f → GoalsPropositional (fun_goals P k)
goals-propositional P k f q built = subst GoalsPropositional (sym (fun-goals-simple P k f q built)) (simple-propositional k f built)

-- the goals of a function of a built program
pub built-propositional : (P : Prog) → IsBuilt P → (k : ℕ) → GoalsPropositional (fun_goals P k)
built-propositional P built k = go (fun_at P k) refl
  where
    go : (o : Option Fn) → fun_at P k ≡ o → GoalsPropositional (fun_goals P k)
    go None q = subst (λ o. GoalsPropositional (if_there o (λ f. fun_walk P f Gl (goal_site k) (ensures_site P k f)) [])) (sym q) tt
    go (Some f) q = goals-propositional P k f q (built.funs k f q)

-- a goal of a list that the code holds
pub goal-propositional : (gs : List Goal) (i : ℕ) (g : Goal) → GoalsPropositional (map plain_goal gs) → slice_get gs i ≡ Some g → IsPropositional (plain_sequent g.sequent)
goal-propositional [] zero g h e = cc
goal-propositional [] (suc i) g h e = cc
goal-propositional (x ∷ gs) zero g h e = let same : x ≡ g = cc in subst (λ (y : Goal). IsPropositional (plain_sequent y.sequent)) same h.0
goal-propositional (x ∷ gs) (suc i) g h e = goal-propositional gs i g h.1 e
