-- What a search makes of a flat form once.
use Rattle.std.specs.Prelude.{ℕ, List, map, get_or, true, false}
use Rattle.fst_base.specs.declared.op.Op.TheVariants as op
use Rattle.fst_terms.specs.Terms.{Tm, t_bool, t_unit, t_prim, listed}
use Rattle.fst_terms.specs.Flats.{Flt}
use Rattle.fst_congruence.specs.Numbered.{number_of}
use Rattle.fst_cases.specs.declared.roles.Role.{Role}
use Rattle.fst_cases.specs.declared.roles.Role.TheVariants as role
use Rattle.fst_cases.specs.declared.roles.Roles.{Roles}

-- the role of an atom, with the numbers that are found of its sides or of itself
abbrev pub role_by : List Tm → Tm → Role
role_by ts (t_prim op.Eq S args at) = role.Equation (number_of ts (get_or (listed args) 0 t_unit)) (number_of ts (get_or (listed args) 1 t_unit))
role_by ts (t_prim op.Le S args at) = role.Order
role_by ts t = role.Truth (number_of ts t)

abbrev pub roles_by : Flt → Roles
roles_by f = record { yes = number_of f.terms (t_bool true); no = number_of f.terms (t_bool false); atoms = map (role_by f.terms) f.atoms }
