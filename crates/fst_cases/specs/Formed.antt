-- What the search asks of a flat form.
use Rattle.std.specs.Prelude.{◌≡◌, ℕ, suc, true, false, List, [], ◌∷◌, Some, ⊤}
use Rattle.fst_terms.specs.Terms.{Tm, t_bool, t_unit}
use Rattle.fst_terms.specs.Flats.{Flt}
use Rattle.fst_terms.specs.Skeletons.{skeleton, atoms_in, arg_of, rest_of}
use Rattle.fst_terms.specs.Marks.{at_number, atom_number, var_sorts}
use Rattle.fst_terms.specs.Branches.{IsNumbered}
use Rattle.fst_congruence.specs.Numbered.{IsNumbering}

-- each of the terms has the property
abbrev pub Each : (Tm → Type 0) → List Tm → Type 0
Each P [] = ⊤
Each P (t ∷ ts) = P t × Each P ts

-- the term is one of the atoms
abbrev pub IsAtom : Flt → Tm → Type 0
IsAtom f t = (k : ℕ) × (atom_number f t ≡ suc k)

-- each atom of the formula is one of the atoms
abbrev pub HasAtoms : Flt → Tm → Type 0
HasAtoms f phi = Each (IsAtom f) (atoms_in (skeleton (var_sorts f) phi))

-- terms are numbered with their arguments; so are atoms, their sides and the literals; formulas have their atoms
pub record IsFormed (f : Flt) : Type 0 where
  pub numbering : IsNumbering f.terms
  pub atoms : (a : ℕ) (t : Tm) → at_number f.atoms a ≡ Some t → IsNumbered f t
  pub sides : (a : ℕ) (t : Tm) → at_number f.atoms a ≡ Some t → IsNumbered f (arg_of t) × IsNumbered f (rest_of t)
  pub yes_numbered : IsNumbered f (t_bool true)
  pub no_numbered : IsNumbered f (t_bool false)
  pub unit_numbered : IsNumbered f t_unit
  pub formulas : Each (HasAtoms f) f.formulas
  pub goal : HasAtoms f f.goal
