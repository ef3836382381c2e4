-- The goals of simple functions: a walk over text without calls and without divisions.
use Rattle.std.specs.Prelude.{ℕ, true, false, Bool, List, [], ◌∷◌, ◌++◌, map, length, reverse, Option, Some, None, ⊤}
use Rattle.fst_base.specs.declared.op.Op.TheVariants as op
use Rattle.fst_terms.specs.Terms.{Tm, Tms, t_var, t_bool, t_unit, t_prim, t_if, t_end, t_more}
use Rattle.fst_terms.specs.Formulas.{negation, put, vars_from}
use Rattle.fst_terms.specs.Propositional.{IsPropositional}
use Rattle.fst_program.specs.declared.goal.SiteKind.TheVariants as kind
use Rattle.fst_program.specs.declared.goal.Choice.{Choice}
use Rattle.fst_program.specs.declared.goal.Choice.TheVariants as choice
use Rattle.fst_program.specs.Texts.{Cm, c_ret, c_let, c_if, Fn}
use Rattle.fst_program.specs.Paths.{Gl, given, over}
use Rattle.fst_top.specs.Built.{var_of}

-- ---- simple text

-- variables, literals, equations and ifs
abbrev mutual
  pub TmSimple : Tm → Type 0
  TmSimple (t_var i) = ⊤
  TmSimple (t_bool b) = ⊤
  TmSimple t_unit = ⊤
  TmSimple (t_prim op.Eq S ts at) = AllSimple ts
  TmSimple (t_if c t u) = TmSimple c × TmSimple t × TmSimple u
  TmSimple _ = ⊥

  pub AllSimple : Tms → Type 0
  AllSimple t_end = ⊤
  AllSimple (t_more t ts) = TmSimple t × AllSimple ts

-- a let of a term, an `if`, or a term
abbrev pub CmSimple : Cm → Type 0
CmSimple (c_ret t) = TmSimple t
CmSimple (c_let x (c_ret t) c) = TmSimple t × CmSimple c
CmSimple (c_if t c d) = TmSimple t × CmSimple c × CmSimple d
CmSimple _ = ⊥

abbrev pub GivenSimple : Option Tm → Type 0
GivenSimple None = ⊤
GivenSimple (Some t) = TmSimple t

pub record FunSimple (f : Fn) : Type 0 where
  pub needs : GivenSimple f.needs
  pub gives : GivenSimple f.gives
  pub body : CmSimple f.body

-- ---- ways

-- where a way stands: the terms of its variables, its hypotheses and its choices, each list with the last first
pub record State : Type 0 where
  pub terms : List Tm
  pub hyps : List Tm
  pub choices : List Choice

-- with one variable more
abbrev pub bound : Tm → State → State
bound t s = record { terms = t ∷ s.terms; hyps = s.hyps; choices = s.choices }

-- on a side of an if
abbrev pub supposed : Tm → Choice → State → State
supposed phi c s = record { terms = s.terms; hyps = phi ∷ s.hyps; choices = c ∷ s.choices }

-- the sides of an if: a literal takes its one way
abbrev pub sides_of : Tm → State → (left right : State → List Gl) → List Gl
sides_of (t_bool true) s left right = left s
sides_of (t_bool false) s left right = right s
sides_of u s left right = left (supposed u choice.Then s) ++ right (supposed (negation u) choice.Else s)

abbrev pub is_literal : Tm → Bool
is_literal (t_bool b) = true
is_literal _ = false

-- what k gives at the ends of the ways through simple text, with their results
abbrev pub ends : (k : State → Tm → List Gl) → Cm → State → List Gl
ends k (c_ret t) s = k s (put s.terms t)
ends k (c_let x (c_ret t) c) s = ends k c (bound (put s.terms t) s)
ends k (c_if t c d) s = sides_of (put s.terms t) s (λ s1. ends k c s1) (λ s1. ends k d s1)
ends k _ s = []

-- ---- goals

-- the goal of function k, f, for a formula at the end of a way
abbrev pub end_goal : (k : ℕ) → Fn → State → Tm → Gl
end_goal k f s phi = record { kind = kind.Ensures; fun = k; place = f.place; choices = reverse s.choices; sequent = record { vars = map var_of f.params; hyps = reverse s.hyps; goal = phi } }

-- that for its ensures on the result t, where it has one
abbrev pub end_of : (k : ℕ) → Fn → State → Tm → List Gl
end_of k f s t = over (given f.gives (t ∷ vars_from 0 (length f.params))) (λ phi. end_goal k f s phi ∷ [])

-- a body begins with the parameters as its variables, and with requires as a hypothesis
abbrev pub start_of : Fn → State
start_of f = record { terms = vars_from 0 (length f.params); hyps = given f.needs (vars_from 0 (length f.params)); choices = [] }

abbrev pub simple_goals : (k : ℕ) → Fn → List Gl
simple_goals k f = ends (end_of k f) f.body (start_of f)

-- ---- propositional goals

-- every goal's sequent is propositional
abbrev pub GoalsPropositional : List Gl → Type 0
GoalsPropositional [] = ⊤
GoalsPropositional (g ∷ gs) = IsPropositional g.sequent × GoalsPropositional gs
