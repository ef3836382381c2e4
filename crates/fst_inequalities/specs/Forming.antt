-- Linear forms of terms as code finds them.
use Rattle.std.specs.Prelude.{◌≡◌, Bool, true, false, Result, Err, IfOk, OnOk, MatchResult}
use Rattle.fst_base.specs.declared.op.Op.{Op}
use Rattle.fst_base.specs.declared.op.Op.TheVariants as op
use Rattle.fst_terms.specs.Terms.{Tm}
use Rattle.fst_terms.specs.Flats.{Flt}
use Rattle.fst_terms.specs.Linear.{linear, unknown_row, is_wide_term}
use Rattle.fst_terms.specs.Marks.{term_number}
use Rattle.fst_terms.specs.Rows.{Rw, IsRow, is_wide_row}
use Rattle.fst_rows.specs.declared.fault.RowFault.{RowFault}
use Rattle.fst_rows.specs.declared.fault.RowFault.TheVariants as fault
use Rattle.fst_rows.specs.declared.row.Row.{Row}
use Rattle.fst_rows.specs.Plain.{plain_row}
use Rattle.fst_inequalities.specs.declared.reading.Shape.{Shape}
use Rattle.fst_inequalities.specs.declared.reading.Shape.TheVariants as shape

-- the linear form of a term, in which no number is wide
pub record IsForm (f : Flt) (t : Tm) (r : Rw) : Type 0 where
  pub is : r ≡ linear (term_number f) t
  pub ordered : IsRow r
  pub narrow : is_wide_term (term_number f) t ≡ false

-- it is found; where a number is past 128 bits, one of the form is
unfoldable pub Forms : Flt → Tm → Result Row RowFault → Type 0
Forms f t r = MatchResult r (λ row. IsForm f t (plain_row row)) (λ e. e ≡ fault.PastRange → is_wide_term (term_number f) t ≡ true)

-- the term as an unknown, by its number
unfoldable pub IsUnknown : Flt → Tm → Result Row RowFault → Type 0
IsUnknown f t r = MatchResult r (λ row. plain_row row ≡ unknown_row (term_number f t)) (λ e. e ≡ fault.PastRange → ⊥)

-- the term isn't read through
abbrev pub IsOpaque : Flt → Tm → Type 0
IsOpaque f t = (linear (term_number f) t ≡ unknown_row (term_number f t)) × (is_wide_term (term_number f) t ≡ is_wide_row (linear (term_number f) t))

-- a row that is made; where a number is past 128 bits, the row is wide
pub record Making (r : Result Row RowFault) (c : Rw) : Type 0 where
  pub ok : IfOk r (λ x. plain_row x ≡ c)
  pub ordered : IfOk r (λ x. IsRow (plain_row x))
  pub narrow : OnOk r (is_wide_row c ≡ false)
  pub past : r ≡ Err fault.PastRange → is_wide_row c ≡ true

-- how a primitive of two arguments is read
abbrev pub shape_of : Op → Shape
shape_of op.Add = shape.Sum false
shape_of op.Sub = shape.Sum true
shape_of op.Mul = shape.Product
shape_of _ = shape.Unknown

abbrev pub sum_op : (minus : Bool) → Op
sum_op false = op.Add
sum_op true = op.Sub
