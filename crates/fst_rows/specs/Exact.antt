-- Sums and differences of rows before tightening.
use Rattle.std.specs.Prelude.{ℤ, pos, Bool, true, false}
use Rattle.fst_terms.specs.Linear.{minus_one}
use Rattle.fst_terms.specs.Rows.{Rw, summed}

-- 1, or -1 where something is taken away
abbrev pub sign : (minus : Bool) → ℤ
sign false = pos 1
sign true = minus_one

-- the sum of two rows, or their difference
abbrev pub plus : Rw → (minus : Bool) → Rw → Rw
plus a m b = summed (pos 1) a (sign m) b
