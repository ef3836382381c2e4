-- What transformers and goals have to do with one another, and with texts.
use Rattle.std.specs.Prelude.{◌≡◌, ℕ, Bool, true, false, List, [], ◌∷◌, ◌++◌, map, reverse, Some, ⊤}
use Rattle.fst_base.specs.Values.{Val, HasSorts}
use Rattle.fst_terms.specs.Meaning.{Env, Meaning, value, Truth, AllTrue, HasVars, Vr}
use Rattle.fst_program.specs.declared.goal.SiteKind.{SiteKind}
use Rattle.fst_program.specs.declared.goal.SiteKind.TheVariants as kind
use Rattle.fst_program.specs.Texts.{Fn, Prog, fun_at}
use Rattle.fst_program.specs.Good.{IfGiven}
use Rattle.fst_program.specs.Paths.{Gl, Path, start, goal_site, ensures_site, clause_terms, own_vars, own_input, fun_goals, fun_paths, GoalsValid}
use Rattle.fst_program.specs.Sorted.{IsSorted}
use Rattle.fst_program.specs.Discipline.{IsDisciplined}
use Rattle.fst_star.specs.Transformers.{Wt, Wts, w_post, w_need, w_given, w_fresh, w_ways, w_hole, w_hole_tail, w_then, w_none, w_way, no_holes, safe, demands, IsClosed}
use Rattle.fst_star.specs.Walking.{wp_walk}
use Rattle.fst_star.specs.Inference.{infer_fun, start_terms}

-- the goals that a transformer of function k gives
abbrev pub goals_by : Prog → (k : ℕ) → Fn → Wt → List Gl
goals_by P k f v = wp_walk Gl (goal_site k) v (start_terms P f) (start P f) (ensures_site P k f)

-- the values of a function's variables, the last first, that meet its refinements and requires
pub record Begins (P : Prog) (M : Meaning) (f : Fn) (e : Env) : Type 0 where
  pub sorts : HasSorts (map (λ (x : Vr). x.sort) (start P f).vars) e
  pub hyps : AllTrue M (start P f).hyps e

-- the result meets the function's ensures
abbrev pub Meets : Prog → Meaning → Fn → Env → Val → Type 0
Meets P M f e r = IfGiven M f.gives (r ∷ map (λ t. value M t e) (clause_terms f.effect (reverse (own_vars f)) (own_input f)))

-- the transformer is safe, and its results meet the ensures
pub record IsFine (P : Prog) (M : Meaning) (f : Fn) (v : Wt) (e : Env) : Type 0 where
  pub is_safe : safe M no_holes v e
  pub meets : (r : Val) → demands M no_holes v e r → Meets P M f e r

-- the goals of a function are those that its inferred transformer gives
abbrev pub GoalsMeetPaths : Prog → Type 0
GoalsMeetPaths P = IsSorted P → IsDisciplined P → (k : ℕ) (f : Fn) → fun_at P k ≡ Some f → goals_by P k f (infer_fun P f) ≡ fun_goals P k

-- of each transformer without holes: where the goals that it gives are valid, it is fine in each environment in which the function begins
abbrev pub ValidGoalsMakeSafe : Prog → Type 0
ValidGoalsMakeSafe P = (M : Meaning) (k : ℕ) (f : Fn) (v : Wt) → fun_at P k ≡ Some f → IsClosed v
    → GoalsValid M (goals_by P k f v) → (e : Env) → Begins P M f e → IsFine P M f v e

-- and the other way round
abbrev pub SafeMakesGoalsValid : Prog → Type 0
SafeMakesGoalsValid P = (M : Meaning) (k : ℕ) (f : Fn) (v : Wt) → fun_at P k ≡ Some f → IsClosed v
    → ((e : Env) → Begins P M f e → IsFine P M f v e) → GoalsValid M (goals_by P k f v)

-- ---- environment by environment

abbrev pub is_ensures : SiteKind → Bool
is_ensures kind.Ensures = true
is_ensures _ = false

-- a transformer without a need of kind Ensures
abbrev mutual
  pub AsksNoEnsures : Wt → Type 0
  AsksNoEnsures (w_post t) = ⊤
  AsksNoEnsures (w_need phi m at w) = (is_ensures m ≡ false) × AsksNoEnsures w
  AsksNoEnsures (w_given phi w) = AsksNoEnsures w
  AsksNoEnsures (w_fresh x S w) = AsksNoEnsures w
  AsksNoEnsures (w_ways ws) = AskNoEnsures ws
  AsksNoEnsures (w_hole h ts x w) = AsksNoEnsures w
  AsksNoEnsures (w_hole_tail h ts) = ⊤
  AsksNoEnsures (w_then w1 x w2) = AsksNoEnsures w1 × AsksNoEnsures w2

  pub AskNoEnsures : Wts → Type 0
  AskNoEnsures w_none = ⊤
  AskNoEnsures (w_way c phi w more) = AsksNoEnsures w × AskNoEnsures more

-- the goal is true in each extension of e that makes its hypotheses true
abbrev pub HoldsIn : Meaning → Env → Gl → Type 0
HoldsIn M e g = (new : Env) → HasVars g.sequent.vars (new ++ e) → AllTrue M g.sequent.hyps (new ++ e) → Truth M g.sequent.goal (new ++ e)

-- so is each of the goals of kind Ensures, for true, or each of the others, for false
abbrev pub HoldWhere : Meaning → Env → (ensures : Bool) → List Gl → Type 0
HoldWhere M e b [] = ⊤
HoldWhere M e b (g ∷ gs) = (is_ensures g.kind ≡ b → HoldsIn M e g) × HoldWhere M e b gs

-- the transformer is safe in e exactly where the goals that aren't of kind Ensures hold there, and demands only results that meet the
-- ensures exactly where the others do
pub record GoalsTell (P : Prog) (M : Meaning) (k : ℕ) (f : Fn) (v : Wt) (e : Env) : Type 0 where
  pub safe_where : HoldWhere M e false (goals_by P k f v) → safe M no_holes v e
  pub where_safe : safe M no_holes v e → HoldWhere M e false (goals_by P k f v)
  pub meets_where : HoldWhere M e true (goals_by P k f v) → (r : Val) → demands M no_holes v e r → Meets P M f e r
  pub where_meets : ((r : Val) → demands M no_holes v e r → Meets P M f e r) → HoldWhere M e true (goals_by P k f v)

-- so it is of each transformer without holes and without a need of kind Ensures, as the inferred ones are
pub record GoalsTellOfEach (P : Prog) : Type 0 where
  pub tell : (M : Meaning) (k : ℕ) (f : Fn) (v : Wt) → fun_at P k ≡ Some f → IsClosed v → AsksNoEnsures v → (e : Env) → Begins P M f e → GoalsTell P M k f v e
  pub inferred : (f : Fn) → IsClosed (infer_fun P f) × AsksNoEnsures (infer_fun P f)

-- ---- paths

-- the path has the result, for some values of the variables that it made, which make its hypotheses true
pub record Takes (M : Meaning) (e : Env) (r : Val) (p : Path) : Type 0 where
  pub new : Env
  pub vars : HasVars p.vars (new ++ e)
  pub hyps : AllTrue M p.hyps (new ++ e)
  pub gives : value M p.result (new ++ e) ≡ r

-- of some one in the list
pub record Among {A : Type 0} (Q : A → Type 0) (list : List A) : Type 0 where
  pub before : List A
  pub one : A
  pub after : List A
  pub is : list ≡ before ++ one ∷ after
  pub holds : Q one

-- the inferred transformer demands exactly the results of the function's paths
pub record DemandsPaths (P : Prog) (M : Meaning) (k : ℕ) (f : Fn) (e : Env) : Type 0 where
  pub to_path : (r : Val) → demands M no_holes (infer_fun P f) e r → Among (Takes M e r) (fun_paths P k)
  pub from_path : (r : Val) → Among (Takes M e r) (fun_paths P k) → demands M no_holes (infer_fun P f) e r

abbrev pub TransformersEqualPaths : Prog → Type 0
TransformersEqualPaths P = IsSorted P → IsDisciplined P → (M : Meaning) (k : ℕ) (f : Fn) → fun_at P k ≡ Some f
    → (e : Env) → Begins P M f e → DemandsPaths P M k f e
