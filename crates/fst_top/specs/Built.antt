-- The first programs: PURE functions over bool and unit, without calls.
use Rattle.std.specs.Prelude.{◌≡◌, ℕ, List, [], ◌∷◌, Option, Some, None, map, reverse, ⊤, false}
use Rattle.fst_base.specs.Sorts.{Srt, s_bool}
use Rattle.fst_terms.specs.Terms.{Tm}
use Rattle.fst_terms.specs.Meaning.{Vr}
use Rattle.fst_terms.specs.Propositional.{SortPropositional, TmPropositional}
use Rattle.fst_program.specs.declared.effect.Effect.TheVariants as effect
use Rattle.fst_program.specs.Texts.{Cm, c_ret, c_let, c_if, Prm, Fn, Prog, fun_at}

-- a let of a term, an `if`, or a term
abbrev pub CmBuilt : (Ss : List Srt) → Cm → (S : Srt) → Type 0
CmBuilt Ss (c_ret t) S = TmPropositional Ss t S
CmBuilt Ss (c_let x (c_ret t) c) S = (T : Srt) × (TmPropositional Ss t T × CmBuilt (T ∷ Ss) c S)
CmBuilt Ss (c_if t c d) S = TmPropositional Ss t s_bool × CmBuilt Ss c S × CmBuilt Ss d S
CmBuilt Ss _ S = ⊥

-- the parameters have built sorts, and none is a ghost one or has a refinement
abbrev pub ParamsBuilt : List Prm → Type 0
ParamsBuilt [] = ⊤
ParamsBuilt (p ∷ ps) = SortPropositional p.sort × (p.hidden ≡ false) × (p.refine ≡ None) × ParamsBuilt ps

-- the parameter as a variable
abbrev pub var_of : Prm → Vr
var_of p = record { name = p.name; sort = p.sort }

abbrev pub sorts_of : List Prm → List Srt
sorts_of ps = reverse (map (λ p. p.sort) ps)

abbrev pub ClauseBuilt : (Ss : List Srt) → Option Tm → Type 0
ClauseBuilt Ss None = ⊤
ClauseBuilt Ss (Some phi) = TmPropositional Ss phi s_bool

pub record FnBuilt (f : Fn) : Type 0 where
  pub pure : f.effect ≡ effect.Pure
  pub params : ParamsBuilt f.params
  pub sort : SortPropositional f.sort
  pub needs : ClauseBuilt (sorts_of f.params) f.needs
  pub gives : ClauseBuilt (f.sort ∷ sorts_of f.params) f.gives
  pub measures : f.measures ≡ []
  pub body : CmBuilt (sorts_of f.params) f.body f.sort

-- no effects, no lifts, and functions that are built, each in a group of its own
pub record IsBuilt (P : Prog) : Type 0 where
  pub effects : P.effects ≡ []
  pub lifts : P.lifts ≡ []
  pub funs : (k : ℕ) (f : Fn) → fun_at P k ≡ Some f → FnBuilt f
  pub groups : (k : ℕ) (f : Fn) → fun_at P k ≡ Some f → f.group ≡ k
