-- The equations that hold whatever the marks, as they are found.
use Rattle.std.specs.Prelude.{ℕ, zero, suc, Bool, true, false, List, [], ◌∷◌, ◌++◌, get_or}
use Rattle.fst_base.specs.Sorts.{Srt, s_unit, s_pair}
use Rattle.fst_terms.specs.Terms.{Tm, t_unit}
use Rattle.fst_terms.specs.Flats.{Flt}
use Rattle.fst_terms.specs.Formulas.{sort_of}
use Rattle.fst_terms.specs.Marks.{var_sorts}
use Rattle.fst_terms.specs.Branches.{eta_pair}
use Rattle.fst_cert.specs.declared.line.Line.TheVariants as line
use Rattle.fst_congruence.specs.declared.equation.Equation.{Equation}
use Rattle.fst_congruence.specs.Numbered.{number_of}

-- term i equals the pair of its components, where that has a number
abbrev pub pair_equation : (i pair : ℕ) → List Equation
pair_equation i zero = []
pair_equation i (suc r) = record { left = i; right = suc r; by = line.Eta i } ∷ []

-- term i equals ()
abbrev pub unit_equation : (i unit : ℕ) → List Equation
unit_equation i r = record { left = i; right = r; by = line.Unit i } ∷ []

-- the equation of the term t, whose number is i, by its sort
abbrev pub always_by : List Tm → (i : ℕ) → Tm → Srt → List Equation
always_by ts i t (s_pair S T) = pair_equation i (number_of ts (eta_pair S T t))
always_by ts i t s_unit = unit_equation i (number_of ts t_unit)
always_by ts i t _ = []

abbrev pub always_at : (Ss : List Srt) → List Tm → ℕ → List Equation
always_at Ss ts k = always_by ts (suc k) (get_or ts k t_unit) (sort_of Ss (get_or ts k t_unit))

-- those of the first n terms
abbrev pub always_of : (Ss : List Srt) → List Tm → ℕ → List Equation
always_of Ss ts zero = []
always_of Ss ts (suc n) = always_of Ss ts n ++ always_at Ss ts n

-- ---- sorts

abbrev pub is_pair : Srt → Bool
is_pair (s_pair S T) = true
is_pair _ = false

abbrev pub is_unit : Srt → Bool
is_unit s_unit = true
is_unit _ = false
