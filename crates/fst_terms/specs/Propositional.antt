-- Propositional terms and sequents: those over bool and unit.
use Rattle.std.specs.Prelude.{◌≡◌, List, [], ◌∷◌, Some, slice_get, ⊤}
use Rattle.fst_base.specs.declared.op.Op.TheVariants as op
use Rattle.fst_base.specs.Sorts.{Srt, s_unit, s_bool}
use Rattle.fst_terms.specs.Terms.{Tm, t_var, t_bool, t_unit, t_prim, t_if, t_end, t_more}
use Rattle.fst_terms.specs.Meaning.{Vr, Sqt}
use Rattle.fst_terms.specs.Flats.{sorts_of_vars}

abbrev pub SortPropositional : Srt → Type 0
SortPropositional s_bool = ⊤
SortPropositional s_unit = ⊤
SortPropositional _ = ⊥

-- a variable, a literal, an equation, or an `if` at bool; it has the sort S, where Ss are the sorts of its variables
abbrev pub TmPropositional : (Ss : List Srt) → Tm → (S : Srt) → Type 0
TmPropositional Ss (t_var i) S = slice_get Ss i ≡ Some S
TmPropositional Ss (t_bool b) S = S ≡ s_bool
TmPropositional Ss t_unit S = S ≡ s_unit
TmPropositional Ss (t_prim op.Eq T (t_more t (t_more u t_end)) at) S = (S ≡ s_bool) × (T ≡ s_bool) × ((U : Srt) × (SortPropositional U × TmPropositional Ss t U × TmPropositional Ss u U))
TmPropositional Ss (t_if c t u) S = (S ≡ s_bool) × TmPropositional Ss c s_bool × TmPropositional Ss t s_bool × TmPropositional Ss u s_bool
TmPropositional Ss _ S = ⊥

-- these formulas are propositional
abbrev pub FormulasPropositional : (Ss : List Srt) → List Tm → Type 0
FormulasPropositional Ss [] = ⊤
FormulasPropositional Ss (t ∷ ts) = TmPropositional Ss t s_bool × FormulasPropositional Ss ts

abbrev pub VarsPropositional : List Vr → Type 0
VarsPropositional [] = ⊤
VarsPropositional (x ∷ xs) = SortPropositional x.sort × VarsPropositional xs

pub record IsPropositional (s : Sqt) : Type 0 where
  pub vars : VarsPropositional s.vars
  pub hyps : FormulasPropositional (sorts_of_vars s.vars) s.hyps
  pub goal : TmPropositional (sorts_of_vars s.vars) s.goal s_bool
