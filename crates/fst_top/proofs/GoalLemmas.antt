-- A built function is simple, and its goals are those of the walk over its simple text.
use Rattle.std.proofs.Common.{◌≡◌, ℕ, zero, suc, true, false, if◌then◌else◌, List, [], ◌∷◌, ◌++◌, map, reverse, length, slice_get, Option, Some, None, refl, sym, ap, ap₂, ◌∙◌}
use Rattle.std.proofs.lemmas.List.{append-nil, reverse-reverse}
use Rattle.fst_base.specs.declared.op.Op.TheVariants as op
use Rattle.fst_base.specs.Sorts.{Srt, s_bool}
use Rattle.fst_terms.specs.Terms.{Tm, Tms, t_var, t_int, t_bool, t_unit, t_prim, t_if, t_app, t_let, t_end, t_more}
use Rattle.fst_terms.specs.Meaning.{Vr}
use Rattle.fst_terms.specs.Formulas.{negation, put, vars_from}
use Rattle.fst_terms.specs.Propositional.{TmPropositional}
use Rattle.fst_program.specs.declared.fun.Fun.{Fun}
use Rattle.fst_program.specs.declared.goal.Choice.TheVariants as choice
use Rattle.fst_program.specs.declared.goal.SiteKind.{SiteKind}
use Rattle.fst_program.specs.declared.goal.SiteKind.TheVariants as kind
use Rattle.fst_program.specs.Plain.{plain_fun}
use Rattle.fst_program.specs.Texts.{Cm, c_ret, c_let, c_if, Fn, Prog, fun_at, if_there, is_user}
use Rattle.fst_program.specs.Paths.{Gl, Way, CallWalk, Rest, all_raised, all_divisions, call_walk, clause_terms, count, demands_of, divisions, divisor_sites, ensures_site, fun_goals, fun_walk, given, goal_site, input_vars, over, own_input, own_vars, raised, sides, start, suppose_all, term_sites, walk}
use Rattle.fst_top.specs.Built.{CmBuilt, ClauseBuilt, FnBuilt, sorts_of, var_of}
use Rattle.fst_top.specs.Goals.{TmSimple, AllSimple, CmSimple, GivenSimple, FunSimple, State, bound, supposed, sides_of, ends, end_goal, end_of, start_of, simple_goals}
use Rattle.fst_top.proofs.BuiltGood.{all-raised-none, no-refinements}

-- ---- built text is simple

pub term-simple : (Ss : List Srt) (t : Tm) (S : Srt) → TmPropositional Ss t S → TmSimple t
term-simple Ss (t_var i) S h = tt
term-simple Ss (t_int n) S h = absurd h
term-simple Ss (t_bool b) S h = tt
term-simple Ss t_unit S h = tt
term-simple Ss (t_prim op.Eq T (t_more t (t_more u t_end)) at) S h = (term-simple Ss t h.2.0 h.2.1.1, (term-simple Ss u h.2.0 h.2.1.2, tt))
term-simple Ss (t_prim o T ts at) S h = absurd h
term-simple Ss (t_if c t u) S h = (term-simple Ss c s_bool h.1, term-simple Ss t s_bool h.2, term-simple Ss u s_bool h.3)
term-simple Ss (t_app k T ts) S h = absurd h
term-simple Ss (t_let x t u) S h = absurd h

text-simple : (Ss : List Srt) (c : Cm) (S : Srt) → CmBuilt Ss c S → CmSimple c
text-simple Ss (c_ret t) S h = term-simple Ss t S h
text-simple Ss (c_let x (c_ret t) c) S h = (term-simple Ss t h.0 h.1.0, text-simple (h.0 ∷ Ss) c S h.1.1)
text-simple Ss (c_if t c d) S h = (term-simple Ss t s_bool h.0, text-simple Ss c S h.1, text-simple Ss d S h.2)
text-simple Ss c S h = absurd h

given-simple : (Ss : List Srt) (phi : Option Tm) → ClauseBuilt Ss phi → GivenSimple phi
given-simple Ss None h = tt
given-simple Ss (Some phi) h = term-simple Ss phi s_bool h

pub fun-simple : (f : Fn) → FnBuilt f → FunSimple f
fun-simple f h = record {
  needs = given-simple (sorts_of f.params) f.needs h.needs;
  gives = given-simple (f.sort ∷ sorts_of f.params) f.gives h.gives;
  body = text-simple (sorts_of f.params) f.body f.sort h.body;
}

-- ---- simple terms hold no divisions

mutual
  no-divisions : (cs : List Tm) (t : Tm) → TmSimple t → divisions cs t ≡ []
  no-divisions cs (t_var i) h = refl
  no-divisions cs (t_int n) h = refl
  no-divisions cs (t_bool b) h = refl
  no-divisions cs t_unit h = refl
  no-divisions cs (t_prim op.Eq S ts at) h = ap (λ ds. ds ++ []) (none-in-all cs ts h)
  no-divisions cs (t_prim o S ts at) h = absurd h
  no-divisions cs (t_if c t u) h = rw (no-divisions cs c h.0, no-divisions (cs ++ c ∷ []) t h.1, no-divisions (cs ++ negation c ∷ []) u h.2) refl
  no-divisions cs (t_app k S ts) h = absurd h
  no-divisions cs (t_let x t u) h = absurd h

  none-in-all : (cs : List Tm) (ts : Tms) → AllSimple ts → all_divisions cs ts ≡ []
  none-in-all cs t_end h = refl
  none-in-all cs (t_more t ts) h = rw (no-divisions cs t h.0, none-in-all cs ts h.1) refl

-- ---- the walk over simple text

module _ (P : Prog) (site : SiteKind → (place : ℕ) → Tm → Way → List Gl) (call : CallWalk P Gl site) (vars : List Vr) (k : Rest P Gl site) where
  -- the way of these variables
  abbrev pub way_at : State → Way
  way_at s = record { vars = vars; hyps = s.hyps; choices = s.choices }

  no-sites : (t : Tm) (us : List Tm) (w : Way) → TmSimple t → term_sites P Gl site t us w ≡ []
  no-sites t us w h = ap (λ ds. divisor_sites P Gl site ds us w) (no-divisions [] t h)

  sides-are : (u : Tm) (s : State) (left right : Way → List Gl) (f g : State → List Gl)
      → ((s1 : State) → s1.terms ≡ s.terms → left (way_at s1) ≡ f s1) → ((s1 : State) → s1.terms ≡ s.terms → right (way_at s1) ≡ g s1)
      → over (sides u (way_at s)) (λ side. if side.first then left side.way else right side.way) ≡ sides_of u s f g
  sides-are (t_bool true) s left right f g p q = append-nil (left (way_at s)) ∙ p s refl
  sides-are (t_bool false) s left right f g p q = append-nil (right (way_at s)) ∙ q s refl
  sides-are u s left right f g p q = ap₂ ◌++◌ (p (supposed u choice.Then s) refl) (append-nil (right (way_at (supposed (negation u) choice.Else s))) ∙ q (supposed (negation u) choice.Else s) refl)

  walk-ends : (c : Cm) (s : State) (input : Tm) → CmSimple c → walk P Gl site call c s.terms input (way_at s) k ≡ ends (λ s1 t. k (way_at s1) t) c s
  walk-ends (c_ret t) s input h = ap (λ gs. gs ++ k (way_at s) (put s.terms t)) (no-sites t s.terms (way_at s) h)
  walk-ends (c_let x (c_ret t) c) s input h =
      let w = way_at s in
      ap (λ gs. gs ++ walk P Gl site call c (put s.terms t ∷ all_raised (count w) w s.terms) (raised (count w) w input) w k) (no-sites t s.terms w h.0)
      ∙ ap (λ us. walk P Gl site call c (put s.terms t ∷ us) (raised (count w) w input) w k) (all-raised-none (count w) w s.terms refl)
      ∙ walk-ends c (bound (put s.terms t) s) (raised (count w) w input) h.1
  walk-ends (c_if t c d) s input h =
      let w = way_at s in
      ap (λ gs. gs ++ over (sides (put s.terms t) w) (λ side. if side.first then walk P Gl site call c s.terms input side.way k else walk P Gl site call d s.terms input side.way k)) (no-sites t s.terms w h.0)
      ∙ sides-are (put s.terms t) s (λ w1. walk P Gl site call c s.terms input w1 k) (λ w1. walk P Gl site call d s.terms input w1 k) _ _
      (λ s1 e. ap (λ us. walk P Gl site call c us input (way_at s1) k) (sym e) ∙ walk-ends c s1 input h.1)
      (λ s1 e. ap (λ us. walk P Gl site call d us input (way_at s1) k) (sym e) ∙ walk-ends d s1 input h.2)
  walk-ends c s input h = absurd h

-- ---- functions

module _ (P : Prog) (k : ℕ) (f : Fn) (built : FnBuilt f) where
  abbrev own : List Tm
  own = vars_from 0 (length f.params)

  abbrev params : List Vr
  params = reverse (map var_of f.params)

  own-are : own_vars f ≡ own
  own-are = ap (λ x. vars_from (if is_user x then 1 else 0) (length f.params)) built.pure

  terms-are : clause_terms f.effect (reverse (own_vars f)) (own_input f) ≡ own
  terms-are = ap (λ x. clause_terms x (reverse (own_vars f)) (own_input f)) built.pure ∙ reverse-reverse (own_vars f) ∙ own-are

  demands-are : demands_of f (reverse (own_vars f)) (own_input f) ≡ given f.needs own
  demands-are = ap₂ ◌++◌ (no-refinements f.params (reverse (own_vars f)) [] built.params) (ap (given f.needs) terms-are)

  supposed-given : (phi : Option Tm) → suppose_all (given phi own) (record { vars = params; hyps = []; choices = [] }) ≡ record { vars = params; hyps = given phi own; choices = [] }
  supposed-given None = refl
  supposed-given (Some phi) = refl

  start-is : start P f ≡ record { vars = params; hyps = given f.needs own; choices = [] }
  start-is = ap₂ (λ phis xs. suppose_all phis (record { vars = xs ++ params; hyps = []; choices = [] })) demands-are (ap (input_vars P) built.pure) ∙ supposed-given f.needs

  -- the goal for ensures at the end of a way
  ensures-is : (s : State) (t : Tm) → ensures_site P k f (record { vars = params; hyps = s.hyps; choices = s.choices }) t ≡ end_of k f s t
  ensures-is s t =
      let w : Way = record { vars = params; hyps = s.hyps; choices = s.choices } in
      let same : count w ≡ count (start P f) = sym (ap count start-is) in
      ap (λ us. over (given f.gives (t ∷ us)) (λ phi. goal_site k kind.Ensures f.place phi w)) (all-raised-none (count (start P f)) w _ same ∙ terms-are)
      ∙ go f.gives
    where
      go : (phi : Option Tm) → over (given phi (t ∷ own)) (λ phi. goal_site k kind.Ensures f.place phi (record { vars = params; hyps = s.hyps; choices = s.choices })) ≡ over (given phi (t ∷ own)) (λ phi. end_goal k f s phi ∷ [])
      go None = refl
      go (Some phi) = ap (λ xs. (record { kind = kind.Ensures; fun = k; place = f.place; choices = reverse s.choices; sequent = record { vars = xs; hyps = reverse s.hyps; goal = put (t ∷ own) phi } }) ∷ []) (reverse-reverse (map var_of f.params))

  walk-is : fun_walk P f Gl (goal_site k) (ensures_site P k f) ≡ simple_goals k f
  walk-is =
      let call = call_walk P f Gl (goal_site k) in
      ap₂ (λ us w. walk P Gl (goal_site k) call f.body us (own_input f) w (ensures_site P k f)) own-are start-is
      ∙ walk-ends P (goal_site k) call params (ensures_site P k f) f.body (start_of f) (own_input f) (fun-simple f built).body
      ∙ ap (λ (g : State → Tm → List Gl). ends g f.body (start_of f)) (λ i s t. ensures-is s t i)

-- the goals of a built function
pub fun-goals-simple : (P : Prog) (k : ℕ) (f : Fn) → fun_at P k ≡ Some f → FnBuilt f → fun_goals P k ≡ simple_goals k f
fun-goals-simple P k f q built = ap (λ o. if_there o (λ f. fun_walk P f Gl (goal_site k) (ensures_site P k f)) []) q ∙ walk-is P k f built

-- the function of a program that the code holds
pub fun-plain : (fs : List Fun) (k : ℕ) (f : Fun) → slice_get fs k ≡ Some f → if_there (slice_get (map (λ (f : Fun). Some (plain_fun f)) fs) k) (λ (f : Option Fn). f) None ≡ Some (plain_fun f)
fun-plain [] zero f e = cc
fun-plain [] (suc k) f e = cc
fun-plain (g ∷ gs) zero f e = ap (λ (o : Option Fun). if_there o (λ f. Some (plain_fun f)) None) e
fun-plain (g ∷ gs) (suc k) f e = fun-plain gs k f e
