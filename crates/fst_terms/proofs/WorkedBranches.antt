-- Worked branches: open ones, and one that is too wide.
use Rattle.std.proofs.Common.{◌≡◌, ℕ, [], ◌∷◌, refl}
use Rattle.std.specs.Prelude.{codes, List, ℤ, pos, neg_ℤ, true, false}
use Rattle.fst_base.specs.declared.op.Op.TheVariants as op
use Rattle.fst_base.specs.Sorts.{s_bool, s_int, s_list}
use Rattle.fst_terms.specs.Terms.{t_var, t_int, t_bool, t_unit, t_prim, t_if, row}
use Rattle.fst_terms.specs.Flats.{Flt}
use Rattle.std.specs.Prelude.{get_or}
use Rattle.fst_terms.specs.declared.flat.Mark.{Mark}
use Rattle.fst_terms.specs.declared.flat.Mark.TheVariants as mark
use Rattle.fst_terms.specs.Marks.{marks_of}
use Rattle.fst_terms.specs.Branches.{IsLeft, IsOpen, IsTooWide}
use Rattle.fst_terms.proofs.VerdictLemmas.{AreLabels, no-clash, no-contradiction}
use Rattle.std.proofs.Common.{inl, inr, arith}
use Rattle.std.proofs.lemmas.List.Elements.{All-nil, All-cons}
use Rattle.fst_terms.specs.Rows.{Rw}
use Rattle.fst_terms.specs.Linear.{Ineq, row_of}
use Rattle.fst_terms.specs.Marks.{term_number, var_sorts, ineq, mark_ineqs}
use Rattle.fst_terms.specs.Branches.{Given, AreRows}

abbrev comm : Flt
comm = record { vars = (record { name = codes "x"; sort = s_int } ∷ record { name = codes "y"; sort = s_int } ∷ []); formulas = ([]); hyps = 0; goal = (t_prim op.Eq s_bool (row ((t_prim op.Mul s_int (row ((t_var 1) ∷ (t_var 0) ∷ [])) 0) ∷ (t_prim op.Mul s_int (row ((t_var 0) ∷ (t_var 1) ∷ [])) 0) ∷ [])) 0); terms = ((t_prim op.Eq s_bool (row ((t_prim op.Mul s_int (row ((t_var 1) ∷ (t_var 0) ∷ [])) 0) ∷ (t_prim op.Mul s_int (row ((t_var 0) ∷ (t_var 1) ∷ [])) 0) ∷ [])) 0) ∷ (t_prim op.Mul s_int (row ((t_var 1) ∷ (t_var 0) ∷ [])) 0) ∷ (t_var 1) ∷ (t_var 0) ∷ (t_prim op.Mul s_int (row ((t_var 0) ∷ (t_var 1) ∷ [])) 0) ∷ (t_bool true) ∷ (t_bool false) ∷ t_unit ∷ []); atoms = ((t_prim op.Eq s_bool (row ((t_prim op.Mul s_int (row ((t_var 1) ∷ (t_var 0) ∷ [])) 0) ∷ (t_prim op.Mul s_int (row ((t_var 0) ∷ (t_var 1) ∷ [])) 0) ∷ [])) 0) ∷ []) }

abbrev comm_marks : List Mark
comm_marks = (mark.Less ∷ [])

abbrev comm_labels : List ℕ
comm_labels = (0 ∷ 1 ∷ 2 ∷ 3 ∷ 4 ∷ 5 ∷ 6 ∷ 7 ∷ 8 ∷ [])

abbrev comm_values : ℕ → ℤ
comm_values u = get_or ((pos 0) ∷ (pos 0) ∷ (neg_ℤ (pos 3)) ∷ (pos 0) ∷ (pos 0) ∷ (neg_ℤ (pos 2)) ∷ (pos 0) ∷ (pos 0) ∷ (pos 0) ∷ []) u (pos 0)

comm_kept : AreLabels comm (marks_of comm_marks) comm_labels 1 comm_values
comm_kept = record { equations = refl; truths = refl; pairs = refl; units = refl; args = refl; parts = refl }

comm_left : IsLeft comm comm_marks
comm_left = record {
  marked = (refl, tt);
  formulas = tt;
  goal = refl;
  no_clash = no-clash comm (marks_of comm_marks) comm_labels 1 comm_values (record { kept = comm_kept; different = refl; unequal = refl });
}

comm_open : IsOpen comm comm_marks
comm_open = record { left = comm_left; no_contradiction = no-contradiction comm (marks_of comm_marks) comm_labels 1 comm_values (record { kept = comm_kept; positive = omega arith; marks = refl; pairs = refl }) }

abbrev head : Flt
head = record { vars = (record { name = codes "l"; sort = (s_list s_int) } ∷ []); formulas = ((t_prim op.Eq s_bool (row ((t_var 0) ∷ (t_prim op.Nil (s_list s_int) (row ([])) 0) ∷ [])) 0) ∷ []); hyps = 1; goal = (t_bool false); terms = ((t_prim op.Eq s_bool (row ((t_var 0) ∷ (t_prim op.Nil (s_list s_int) (row ([])) 0) ∷ [])) 0) ∷ (t_var 0) ∷ (t_prim op.Nil (s_list s_int) (row ([])) 0) ∷ (t_bool true) ∷ (t_bool false) ∷ t_unit ∷ []); atoms = ((t_prim op.Eq s_bool (row ((t_var 0) ∷ (t_prim op.Nil (s_list s_int) (row ([])) 0) ∷ [])) 0) ∷ []) }

abbrev head_marks : List Mark
head_marks = (mark.True ∷ [])

abbrev head_labels : List ℕ
head_labels = (0 ∷ 1 ∷ 2 ∷ 2 ∷ 4 ∷ 5 ∷ 6 ∷ [])

abbrev head_values : ℕ → ℤ
head_values u = get_or ((pos 0) ∷ (pos 0) ∷ (pos 0) ∷ (pos 0) ∷ (pos 0) ∷ (pos 0) ∷ (pos 0) ∷ []) u (pos 0)

head_kept : AreLabels head (marks_of head_marks) head_labels 1 head_values
head_kept = record { equations = refl; truths = refl; pairs = refl; units = refl; args = refl; parts = refl }

head_left : IsLeft head head_marks
head_left = record {
  marked = (refl, tt);
  formulas = (refl, tt);
  goal = refl;
  no_clash = no-clash head (marks_of head_marks) head_labels 1 head_values (record { kept = head_kept; different = refl; unequal = refl });
}

head_open : IsOpen head head_marks
head_open = record { left = head_left; no_contradiction = no-contradiction head (marks_of head_marks) head_labels 1 head_values (record { kept = head_kept; positive = omega arith; marks = refl; pairs = refl }) }

abbrev divide : Flt
divide = record { vars = (record { name = codes "n"; sort = s_int } ∷ record { name = codes "d"; sort = s_int } ∷ []); formulas = ([]); hyps = 0; goal = (t_if (t_prim op.Eq s_bool (row ((t_var 0) ∷ (t_int (pos 0)) ∷ [])) 0) (t_bool false) (t_bool true)); terms = ((t_prim op.Eq s_bool (row ((t_var 0) ∷ (t_int (pos 0)) ∷ [])) 0) ∷ (t_var 0) ∷ (t_int (pos 0)) ∷ (t_bool true) ∷ (t_bool false) ∷ t_unit ∷ []); atoms = ((t_prim op.Eq s_bool (row ((t_var 0) ∷ (t_int (pos 0)) ∷ [])) 0) ∷ []) }

abbrev divide_marks : List Mark
divide_marks = (mark.True ∷ [])

abbrev divide_labels : List ℕ
divide_labels = (0 ∷ 1 ∷ 2 ∷ 2 ∷ 4 ∷ 5 ∷ 6 ∷ [])

abbrev divide_values : ℕ → ℤ
divide_values u = get_or ((pos 0) ∷ (pos 0) ∷ (pos 0) ∷ (pos 0) ∷ (pos 0) ∷ (pos 0) ∷ (pos 0) ∷ []) u (pos 0)

divide_kept : AreLabels divide (marks_of divide_marks) divide_labels 1 divide_values
divide_kept = record { equations = refl; truths = refl; pairs = refl; units = refl; args = refl; parts = refl }

divide_left : IsLeft divide divide_marks
divide_left = record {
  marked = (refl, tt);
  formulas = tt;
  goal = refl;
  no_clash = no-clash divide (marks_of divide_marks) divide_labels 1 divide_values (record { kept = divide_kept; different = refl; unequal = refl });
}

divide_open : IsOpen divide divide_marks
divide_open = record { left = divide_left; no_contradiction = no-contradiction divide (marks_of divide_marks) divide_labels 1 divide_values (record { kept = divide_kept; positive = omega arith; marks = refl; pairs = refl }) }

abbrev down : Flt
down = record { vars = (record { name = codes "n"; sort = s_int } ∷ []); formulas = ((t_if (t_prim op.Eq s_bool (row ((t_var 0) ∷ (t_int (pos 0)) ∷ [])) 0) (t_bool false) (t_bool true)) ∷ []); hyps = 1; goal = (t_if (t_prim op.Le s_bool (row ((t_int (pos 0)) ∷ (t_prim op.Sub s_int (row ((t_var 0) ∷ (t_int (pos 1)) ∷ [])) 0) ∷ [])) 0) (t_prim op.Lt s_bool (row ((t_prim op.Sub s_int (row ((t_var 0) ∷ (t_int (pos 1)) ∷ [])) 0) ∷ (t_var 0) ∷ [])) 0) (t_bool false)); terms = ((t_prim op.Eq s_bool (row ((t_var 0) ∷ (t_int (pos 0)) ∷ [])) 0) ∷ (t_var 0) ∷ (t_int (pos 0)) ∷ (t_prim op.Le s_bool (row ((t_int (pos 0)) ∷ (t_prim op.Sub s_int (row ((t_var 0) ∷ (t_int (pos 1)) ∷ [])) 0) ∷ [])) 0) ∷ (t_prim op.Sub s_int (row ((t_var 0) ∷ (t_int (pos 1)) ∷ [])) 0) ∷ (t_int (pos 1)) ∷ (t_prim op.Le s_bool (row ((t_var 0) ∷ (t_prim op.Sub s_int (row ((t_var 0) ∷ (t_int (pos 1)) ∷ [])) 0) ∷ [])) 0) ∷ (t_bool true) ∷ (t_bool false) ∷ t_unit ∷ []); atoms = ((t_prim op.Eq s_bool (row ((t_var 0) ∷ (t_int (pos 0)) ∷ [])) 0) ∷ (t_prim op.Le s_bool (row ((t_int (pos 0)) ∷ (t_prim op.Sub s_int (row ((t_var 0) ∷ (t_int (pos 1)) ∷ [])) 0) ∷ [])) 0) ∷ (t_prim op.Le s_bool (row ((t_var 0) ∷ (t_prim op.Sub s_int (row ((t_var 0) ∷ (t_int (pos 1)) ∷ [])) 0) ∷ [])) 0) ∷ []) }

abbrev down_marks : List Mark
down_marks = (mark.Less ∷ mark.False ∷ mark.False ∷ [])

abbrev down_labels : List ℕ
down_labels = (0 ∷ 1 ∷ 2 ∷ 3 ∷ 4 ∷ 5 ∷ 6 ∷ 7 ∷ 8 ∷ 9 ∷ 10 ∷ [])

abbrev down_values : ℕ → ℤ
down_values u = get_or ((pos 0) ∷ (pos 0) ∷ (neg_ℤ (pos 3)) ∷ (pos 0) ∷ (pos 0) ∷ (pos 0) ∷ (pos 0) ∷ (pos 0) ∷ (pos 0) ∷ (pos 0) ∷ (pos 0) ∷ []) u (pos 0)

down_kept : AreLabels down (marks_of down_marks) down_labels 1 down_values
down_kept = record { equations = refl; truths = refl; pairs = refl; units = refl; args = refl; parts = refl }

down_left : IsLeft down down_marks
down_left = record {
  marked = (refl, (refl, (refl, tt)));
  formulas = (refl, tt);
  goal = refl;
  no_clash = no-clash down (marks_of down_marks) down_labels 1 down_values (record { kept = down_kept; different = refl; unequal = refl });
}

down_open : IsOpen down down_marks
down_open = record { left = down_left; no_contradiction = no-contradiction down (marks_of down_marks) down_labels 1 down_values (record { kept = down_kept; positive = omega arith; marks = refl; pairs = refl }) }

abbrev big : Flt
big = record { vars = (record { name = codes "x"; sort = s_int } ∷ record { name = codes "y"; sort = s_int } ∷ []); formulas = ((t_if (t_prim op.Le s_bool (row ((t_prim op.Mul s_int (row ((t_int (pos 85070591730234615865843651857942052864)) ∷ (t_var 1) ∷ [])) 0) ∷ (t_prim op.Mul s_int (row ((t_int (pos 3)) ∷ (t_var 0) ∷ [])) 0) ∷ [])) 0) (t_prim op.Le s_bool (row ((t_prim op.Mul s_int (row ((t_int (pos 85070591730234615865843651857942052865)) ∷ (t_var 0) ∷ [])) 0) ∷ (t_prim op.Mul s_int (row ((t_int (pos 7)) ∷ (t_var 1) ∷ [])) 0) ∷ [])) 0) (t_bool false)) ∷ []); hyps = 1; goal = (t_prim op.Le s_bool (row ((t_var 1) ∷ (t_int (pos 0)) ∷ [])) 0); terms = ((t_prim op.Le s_bool (row ((t_prim op.Mul s_int (row ((t_int (pos 85070591730234615865843651857942052864)) ∷ (t_var 1) ∷ [])) 0) ∷ (t_prim op.Mul s_int (row ((t_int (pos 3)) ∷ (t_var 0) ∷ [])) 0) ∷ [])) 0) ∷ (t_prim op.Mul s_int (row ((t_int (pos 85070591730234615865843651857942052864)) ∷ (t_var 1) ∷ [])) 0) ∷ (t_int (pos 85070591730234615865843651857942052864)) ∷ (t_var 1) ∷ (t_prim op.Mul s_int (row ((t_int (pos 3)) ∷ (t_var 0) ∷ [])) 0) ∷ (t_int (pos 3)) ∷ (t_var 0) ∷ (t_prim op.Le s_bool (row ((t_prim op.Mul s_int (row ((t_int (pos 85070591730234615865843651857942052865)) ∷ (t_var 0) ∷ [])) 0) ∷ (t_prim op.Mul s_int (row ((t_int (pos 7)) ∷ (t_var 1) ∷ [])) 0) ∷ [])) 0) ∷ (t_prim op.Mul s_int (row ((t_int (pos 85070591730234615865843651857942052865)) ∷ (t_var 0) ∷ [])) 0) ∷ (t_int (pos 85070591730234615865843651857942052865)) ∷ (t_prim op.Mul s_int (row ((t_int (pos 7)) ∷ (t_var 1) ∷ [])) 0) ∷ (t_int (pos 7)) ∷ (t_prim op.Le s_bool (row ((t_var 1) ∷ (t_int (pos 0)) ∷ [])) 0) ∷ (t_int (pos 0)) ∷ (t_bool true) ∷ (t_bool false) ∷ t_unit ∷ []); atoms = ((t_prim op.Le s_bool (row ((t_prim op.Mul s_int (row ((t_int (pos 85070591730234615865843651857942052864)) ∷ (t_var 1) ∷ [])) 0) ∷ (t_prim op.Mul s_int (row ((t_int (pos 3)) ∷ (t_var 0) ∷ [])) 0) ∷ [])) 0) ∷ (t_prim op.Le s_bool (row ((t_prim op.Mul s_int (row ((t_int (pos 85070591730234615865843651857942052865)) ∷ (t_var 0) ∷ [])) 0) ∷ (t_prim op.Mul s_int (row ((t_int (pos 7)) ∷ (t_var 1) ∷ [])) 0) ∷ [])) 0) ∷ (t_prim op.Le s_bool (row ((t_var 1) ∷ (t_int (pos 0)) ∷ [])) 0) ∷ []) }

abbrev big_marks : List Mark
big_marks = (mark.True ∷ mark.True ∷ mark.False ∷ [])

abbrev big_labels : List ℕ
big_labels = (0 ∷ 1 ∷ 2 ∷ 3 ∷ 4 ∷ 5 ∷ 6 ∷ 7 ∷ 8 ∷ 9 ∷ 10 ∷ 11 ∷ 12 ∷ 13 ∷ 14 ∷ 15 ∷ 16 ∷ 17 ∷ [])

abbrev big_values : ℕ → ℤ
big_values u = get_or ((pos 0) ∷ (pos 0) ∷ (pos 0) ∷ (pos 0) ∷ (pos 0) ∷ (pos 0) ∷ (pos 0) ∷ (pos 0) ∷ (pos 0) ∷ (pos 0) ∷ (pos 0) ∷ (pos 0) ∷ (pos 0) ∷ (pos 0) ∷ (pos 0) ∷ (pos 0) ∷ (pos 0) ∷ (pos 0) ∷ []) u (pos 0)

big_kept : AreLabels big (marks_of big_marks) big_labels 1 big_values
big_kept = record { equations = refl; truths = refl; pairs = refl; units = refl; args = refl; parts = refl }

big_left : IsLeft big big_marks
big_left = record {
  marked = (refl, (refl, (refl, tt)));
  formulas = (refl, tt);
  goal = refl;
  no_clash = no-clash big (marks_of big_marks) big_labels 1 big_values (record { kept = big_kept; different = refl; unequal = refl });
}

abbrev big_first : Ineq
big_first = get_or (mark_ineqs (var_sorts big) (get_or big.atoms 0 t_unit) mark.True) 0 (ineq t_unit t_unit (pos 0))

abbrev big_second : Ineq
big_second = get_or (mark_ineqs (var_sorts big) (get_or big.atoms 1 t_unit) mark.True) 0 (ineq t_unit t_unit (pos 0))

abbrev big_row : Ineq → Rw
big_row d = row_of (term_number big) d

abbrev big_rows : List Rw
big_rows = big_row big_first ∷ big_row big_second ∷ []

abbrev IsBigRow : Rw → Type 0
IsBigRow r = (d : Ineq) × (Given big (marks_of big_marks) d × (r ≡ big_row d))

big_are_rows : AreRows big (marks_of big_marks) big_rows
big_are_rows =
    All-cons IsBigRow (big_row big_first) (big_row big_second ∷ [])
    (big_first, (inl (record { number = 1; atom = get_or big.atoms 0 t_unit; mark = mark.True; has = record { atom = refl; mark = refl }; given = (0, omega arith, refl) }), refl))
    (All-cons IsBigRow (big_row big_second) []
    (big_second, (inl (record { number = 2; atom = get_or big.atoms 1 t_unit; mark = mark.True; has = record { atom = refl; mark = refl }; given = (0, omega arith, refl) }), refl))
    (All-nil IsBigRow))

big_too_wide : IsTooWide big big_marks
big_too_wide = record {
  left = big_left;
  wide = inr (
    big_rows,
    (
      big_are_rows,
      record {
        unknown = 4;
        first = big_row big_second;
        second = big_row big_first;
        first_derived = (inl ((inl ((inl ((inl ((1, omega arith, refl), refl)), refl)), refl)), refl));
        second_derived = (inl ((inl ((inl ((inl ((0, omega arith, refl), refl)), refl)), refl)), refl));
        opposite = record { up = record { lt = tt }; down = record { lt = tt } };
        wide = refl;
      },
    ),
  );
}
