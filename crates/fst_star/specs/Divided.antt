-- Divisions as the code lists them.
use Rattle.std.specs.Prelude.{ℕ, if◌then◌else◌, List, [], ◌∷◌, map, get_or}
use Rattle.fst_base.specs.declared.op.Op.{Op}
use Rattle.fst_terms.specs.Formulas.{equation, negation, nought, put}
use Rattle.fst_terms.specs.Terms.{Tm, t_unit, plain_term}
use Rattle.fst_program.specs.Paths.{Division, is_division}
use Rattle.fst_star.specs.declared.dividing.Division.{Division as Listed}
use Rattle.fst_star.specs.Translation.{implied}

abbrev pub plain_division : Listed → Division
plain_division d = record { conditions = map plain_term d.conditions; divisor = plain_term d.divisor; place = d.at.at }

-- the division that an operator is itself
abbrev pub own_division : (conditions : List Tm) → Op → (args : List Tm) → (place : ℕ) → List Division
own_division cs o ts at = if is_division o then record { conditions = cs; divisor = get_or ts 1 t_unit; place = at } ∷ [] else []

-- the divisor isn't 0 where its conditions are true, with us for the variables
abbrev pub nonzero : (us conditions : List Tm) → (divisor : Tm) → Tm
nonzero us cs d = implied (map (put us) cs) (negation (equation (put us d) nought))
