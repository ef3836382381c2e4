-- How congruence reads atoms, and the equations that marks give.
use Rattle.std.specs.Prelude.{◌≡◌, ℕ, zero, suc, true, false, List, [], ◌∷◌, ◌++◌, length, get_or, Option, Some, None, Contains}
use Rattle.fst_terms.specs.Terms.{Tm, t_bool}
use Rattle.fst_terms.specs.Flats.{Flt}
use Rattle.fst_terms.specs.declared.flat.Mark.{Mark}
use Rattle.fst_terms.specs.declared.flat.Mark.TheVariants as mark
use Rattle.fst_terms.specs.Skeletons.{arg_of, rest_of}
use Rattle.fst_terms.specs.Marks.{Marking, at_number, is_equation, is_at_most}
use Rattle.fst_cert.specs.declared.line.Line.TheVariants as line
use Rattle.fst_cert.specs.Proving.{eqn, equation_by}
use Rattle.fst_congruence.specs.declared.equation.Equation.{Equation}
use Rattle.fst_congruence.specs.Closures.{IsGivenLine}
use Rattle.fst_congruence.specs.Numbered.{term_at, IsNumber}
use Rattle.fst_cases.specs.declared.roles.Role.{Role}
use Rattle.fst_cases.specs.declared.roles.Role.TheVariants as role
use Rattle.fst_cases.specs.declared.roles.Roles.{Roles}

-- the number of a term
pub record IsNumberOf (f : Flt) (i : ℕ) (t : Tm) : Type 0 where
  pub number : IsNumber f.terms i
  pub is : term_at f.terms i ≡ t

-- the role of an atom
pub data IsRole (f : Flt) (t : Tm) : Role → Type 0 where
  role_equation : (l r : ℕ) → is_equation t ≡ true → IsNumberOf f l (arg_of t) → IsNumberOf f r (rest_of t) → IsRole f t (role.Equation l r)
  role_order : is_equation t ≡ false → is_at_most t ≡ true → IsRole f t role.Order
  role_truth : (i : ℕ) → is_equation t ≡ false → is_at_most t ≡ false → IsNumberOf f i t → IsRole f t (role.Truth i)

-- the roles of a flat form's atoms
pub record AreRoles (f : Flt) (rs : Roles) : Type 0 where
  pub yes : IsNumberOf f rs.yes (t_bool true)
  pub no : IsNumberOf f rs.no (t_bool false)
  pub count : length rs.atoms ≡ length f.atoms
  pub each : (a : ℕ) (t : Tm) (r : Role) → at_number f.atoms a ≡ Some t → at_number rs.atoms a ≡ Some r → IsRole f t r

-- ---- equations

abbrev pub Sides : Type 0
Sides = ℕ × ℕ

abbrev pub truth_number : Roles → Mark → ℕ
truth_number rs mark.True = rs.yes
truth_number rs _ = rs.no

abbrev pub if_true : Mark → Sides → Option Sides
if_true mark.True s = Some s
if_true _ s = None

-- the sides of the equation of an atom with this mark
abbrev pub given_of : Roles → Role → Mark → Option Sides
given_of rs (role.Equation l r) m = if_true m (l, r)
given_of rs role.Order m = None
given_of rs (role.Truth i) m = Some (i, truth_number rs m)

abbrev pub put_sides : (atom : ℕ) → Option Sides → List Equation
put_sides a None = []
put_sides a (Some s) = record { left = s.0; right = s.1; by = line.Given a } ∷ []

-- the equation of the atom at this place
abbrev pub equation_at : Roles → List Mark → ℕ → List Equation
equation_at rs ms k = put_sides (suc k) (given_of rs (get_or rs.atoms k role.Order) (get_or ms k mark.False))

-- the equations of the first n atoms
abbrev pub given_equations : Roles → List Mark → ℕ → List Equation
given_equations rs ms zero = []
given_equations rs ms (suc n) = given_equations rs ms n ++ equation_at rs ms n

-- the equations that hold whatever the marks: of pairs with the pairs of their components, and of unit terms
pub record AreAlways (f : Flt) (es : List Equation) : Type 0 where
  pub given : (e : Equation) → Contains es e → IsGivenLine e.by × (((look : Marking) → equation_by f look [] e.by ≡ Some (eqn (term_at f.terms e.left) (term_at f.terms e.right))) × (IsNumber f.terms e.left × IsNumber f.terms e.right))
  pub pairs : (i : ℕ) (look : Marking) (t u : Tm) → equation_by f look [] (line.Eta i) ≡ Some (eqn t u) → (e : Equation) × (Contains es e × ((term_at f.terms e.left ≡ t) × (term_at f.terms e.right ≡ u)))
  pub units : (i : ℕ) (look : Marking) (t u : Tm) → equation_by f look [] (line.Unit i) ≡ Some (eqn t u) → (e : Equation) × (Contains es e × ((term_at f.terms e.left ≡ t) × (term_at f.terms e.right ≡ u)))
