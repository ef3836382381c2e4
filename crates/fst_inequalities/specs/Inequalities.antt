-- Rows of the inequalities 0 <= t - u and 0 <= t - u - 1.
use Rattle.std.specs.Prelude.{◌≡◌, ℤ, pos, Bool, true, false, Result, MatchResult}
use Rattle.fst_terms.specs.Terms.{Tm}
use Rattle.fst_terms.specs.Flats.{Flt}
use Rattle.fst_terms.specs.Linear.{Ineq, constant_row, minus_one, row_of, is_wide_ineq}
use Rattle.fst_terms.specs.Marks.{ineq, term_number}
use Rattle.fst_terms.specs.Rows.{Rw, IsRow, summed}
use Rattle.fst_rows.specs.declared.fault.RowFault.{RowFault}
use Rattle.fst_rows.specs.declared.fault.RowFault.TheVariants as fault
use Rattle.fst_rows.specs.declared.row.Row.{Row}
use Rattle.fst_rows.specs.Plain.{plain_row}

abbrev pub more : (less : Bool) → ℤ
more false = pos 0
more true = minus_one

-- the inequality of two terms: with `less` the right one is below the left one
abbrev pub between : Tm → Tm → (less : Bool) → Ineq
between t u less = ineq t u (more less)

-- the difference of two forms, before tightening
abbrev pub before : Rw → Rw → (less : Bool) → Rw
before a b less = summed (pos 1) (summed (pos 1) a minus_one b) (pos 1) (constant_row (more less))

-- the row of an inequality, in which and in whose forms no number is wide
pub record IsRowOf (f : Flt) (d : Ineq) (r : Rw) : Type 0 where
  pub is : r ≡ row_of (term_number f) d
  pub ordered : IsRow r
  pub narrow : is_wide_ineq (term_number f) d ≡ false

-- it is found; where a number is past 128 bits, the inequality is wide
unfoldable pub Rows : Flt → Ineq → Result Row RowFault → Type 0
Rows f d r = MatchResult r (λ row. IsRowOf f d (plain_row row)) (λ e. e ≡ fault.PastRange → is_wide_ineq (term_number f) d ≡ true)
