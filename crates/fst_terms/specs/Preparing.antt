-- What the steps of preparing a sequent give.
use Rattle.std.specs.Prelude.{Bool, List, ◌∷◌, ◌++◌, Option, None}
use Rattle.fst_base.specs.declared.op.Op.{Op}
use Rattle.fst_base.specs.declared.op.Op.TheVariants as op
use Rattle.fst_base.specs.Sorts.{Srt, s_unit, s_bool}
use Rattle.fst_terms.specs.Terms.{Tm, Tms, t_end, t_more}
use Rattle.fst_terms.specs.Formulas.{sort_of}
use Rattle.fst_terms.specs.Same.{firsts}
use Rattle.fst_terms.specs.Flats.{Flt, agree, reads, all_atoms_in, parts_of_each, literals, sorts_of_vars}
use Rattle.fst_terms.specs.declared.atoms.Equation.{Equation}
use Rattle.fst_terms.specs.declared.atoms.Equation.TheVariants as equation
use Rattle.fst_terms.specs.declared.flat.Mark.{Mark}

-- how an equation of terms of this sort is read
abbrev pub equation_at : Srt → Equation
equation_at s_unit = equation.Units
equation_at s_bool = equation.Bools
equation_at _ = equation.Atom

-- how a term of an operator is read: an equation by the sort of its sides, and another one as an atom
abbrev pub operator_form : (Ss : List Srt) → Op → Tms → Equation
operator_form Ss op.Eq (t_more t (t_more u t_end)) = equation_at (sort_of Ss t)
operator_form Ss _ _ = equation.Atom

-- the value of an equation of two bools under marks of the first atoms
abbrev pub read_equation : Flt → List Mark → Tms → Option Bool
read_equation f ms (t_more t (t_more u t_end)) = agree (reads f ms t) (reads f ms u)
read_equation f ms _ = None

-- the atoms of a flat form with these facts, after those that it has
abbrev pub atoms_with : Flt → (extra : List Tm) → List Tm
atoms_with f extra = firsts f.atoms (all_atoms_in (sorts_of_vars f.vars) (f.formulas ++ f.goal ∷ extra))

-- the flat form with these facts, and with its atoms and terms
abbrev pub numbered : Flt → (extra : List Tm) → Flt
numbered f extra = record { vars = f.vars; formulas = f.formulas ++ extra; hyps = f.hyps; goal = f.goal; terms = firsts f.terms (parts_of_each (atoms_with f extra) ++ literals); atoms = atoms_with f extra }
