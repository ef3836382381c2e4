-- The skeleton of a primitive: an equation of two bools is read through, another relation is taken apart by its operator.
use Rattle.std.specs.Prelude.{Bool, false, not, List}
use Rattle.fst_base.specs.declared.op.Op.{Op}
use Rattle.fst_base.specs.declared.op.Op.TheVariants as op
use Rattle.fst_base.specs.Sorts.{Srt}
use Rattle.fst_terms.specs.Terms.{Tm, Tms, t_end, t_more}
use Rattle.fst_terms.specs.Formulas.{sort_of}
use Rattle.fst_terms.specs.Naming.{is_data}
use Rattle.fst_terms.specs.Skeletons.{Skl, k_atom, atoms_in, skeleton, equal, at_most_form, less_form}

-- the atoms of a formula, from left to right
abbrev pub atoms_of_formula : (Ss : List Srt) → Tm → List Tm
atoms_of_formula Ss phi = atoms_in (skeleton Ss phi)

-- an equation of two bools
abbrev pub is_same : (Ss : List Srt) → Op → Tms → Bool
is_same Ss op.Eq (t_more t (t_more u t_end)) = not (is_data (sort_of Ss t))
is_same Ss _ _ = false

-- the skeleton of a primitive that is none; w is the primitive itself
abbrev pub relation : (Ss : List Srt) → Op → Tms → (w : Tm) → Skl
relation Ss op.Le (t_more t (t_more u t_end)) w = at_most_form t u
relation Ss op.Lt (t_more t (t_more u t_end)) w = less_form t u
relation Ss op.Eq (t_more t (t_more u t_end)) w = equal (sort_of Ss t) t u
relation Ss _ _ w = k_atom w

-- that of a primitive of two arguments
abbrev pub relation_two : (Ss : List Srt) → Op → (t u w : Tm) → Skl
relation_two Ss op.Le t u w = at_most_form t u
relation_two Ss op.Lt t u w = less_form t u
relation_two Ss op.Eq t u w = equal (sort_of Ss t) t u
relation_two Ss _ t u w = k_atom w
