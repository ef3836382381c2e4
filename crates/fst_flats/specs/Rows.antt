-- Data facts by how many arguments a term has.
use Rattle.std.specs.Prelude.{ℤ, pos, nat_abs, if◌then◌else◌, List, [], ◌∷◌, Option, Some, None}
use Rattle.std.specs.Ordering.{int_eq}
use Rattle.fst_base.specs.declared.op.Op.{Op}
use Rattle.fst_base.specs.declared.op.Op.TheVariants as op
use Rattle.fst_base.specs.Sorts.{Srt, s_int, s_list}
use Rattle.fst_base.specs.Primitives.{in128}
use Rattle.fst_terms.specs.Terms.{Tm, t_int, t_prim}
use Rattle.fst_flats.specs.Preparing.{only}
use Rattle.fst_terms.specs.Formulas.{at_most, equation, less, nought, sort_of}
use Rattle.fst_terms.specs.DataFacts.{either_fact, implies, is_sort_among, len_term, list_fact, multiple, nil_term, op_term, option_fact, quotient_facts}

-- the list whose length a term is
abbrev pub measured : Tm → Option Tm
measured (t_prim op.Len S ts at) = only ts
measured _ = None

-- the number of a literal
abbrev pub literal_of : Tm → Option ℤ
literal_of (t_int n) = Some n
literal_of _ = None

-- the facts of a term without arguments, t itself
abbrev pub nullary_facts : (lens : List Srt) → Op → Srt → (t : Tm) → List Tm
nullary_facts lens op.Nil S t = if is_sort_among S lens then equation (len_term t) nought ∷ [] else []
nullary_facts lens _ S t = []

-- the facts of a term t of one argument u
abbrev pub unary_facts : (Ss : List Srt) → Op → Srt → (u t : Tm) → List Tm
unary_facts Ss op.Len S u t = at_most nought t ∷ implies (at_most t nought) (equation u (nil_term (sort_of Ss u))) ∷ []
unary_facts Ss op.Hd S u t = list_fact (s_list S) u ∷ []
unary_facts Ss op.Tl S u t = list_fact S u ∷ []
unary_facts Ss op.The S u t = option_fact S u ∷ []
unary_facts Ss op.Outl S u t = either_fact (sort_of Ss u) u ∷ []
unary_facts Ss op.Outr S u t = either_fact (sort_of Ss u) u ∷ []
unary_facts Ss _ S u t = []

-- the facts of a cons t of the tail r
abbrev pub cons_facts : (lens : List Srt) → Srt → (r t : Tm) → List Tm
cons_facts lens S r t = if is_sort_among S lens then equation (len_term t) (op_term op.Add s_int (len_term r ∷ t_int (pos 1) ∷ [])) ∷ [] else []

-- u is below the next multiple of k
abbrev pub upper_facts : (u : Tm) → ℤ → List Tm
upper_facts u k = if in128 (pos (nat_abs k)) then less u (op_term op.Add s_int (multiple u k ∷ t_int (pos (nat_abs k)) ∷ [])) ∷ [] else []

-- the facts of the quotient t of u and k
abbrev pub quotient_rows : (u : Tm) → ℤ → (t : Tm) → List Tm
quotient_rows u k t = if int_eq k (pos 0) then equation t nought ∷ [] else quotient_facts u k

-- those of the remainder t of u and k, where k is not 0; and those of a remainder
abbrev pub remainder_facts : (u : Tm) → ℤ → (t : Tm) → List Tm
remainder_facts u k t = equation t (op_term op.Sub s_int (u ∷ multiple u k ∷ [])) ∷ quotient_facts u k

abbrev pub remainder_rows : (u : Tm) → ℤ → (t : Tm) → List Tm
remainder_rows u k t = if int_eq k (pos 0) then equation t nought ∷ [] else remainder_facts u k t

-- the facts of a term t of u and of a literal
abbrev pub division_facts : Op → (u : Tm) → Option ℤ → (t : Tm) → List Tm
division_facts op.Div u (Some k) t = quotient_rows u k t
division_facts op.Rem u (Some k) t = remainder_rows u k t
division_facts _ u _ t = []

-- the facts of a term t of two arguments u and r
abbrev pub binary_facts : (lens : List Srt) → Op → Srt → (u r t : Tm) → List Tm
binary_facts lens op.Cons S u r t = cons_facts lens S r t
binary_facts lens o S u r t = division_facts o u (literal_of r) t

-- what f gives of one thing, where there is one
abbrev pub given : {A : Type 0} → (Tm → A) → Option Tm → List A
given f None = []
given f (Some u) = f u ∷ []
