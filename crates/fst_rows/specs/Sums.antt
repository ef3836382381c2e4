-- Wide sums of two products, and of the coefficients of two rows.
use Rattle.std.specs.Prelude.{ℤ, Bool, not, ◌||◌, ◌+ℤ◌, ◌*ℤ◌, List}
use Rattle.fst_base.specs.Primitives.{in128}
use Rattle.fst_terms.specs.Rows.{Cf, some_wide, some_wide_times, merged}

-- one of the products p m and q n, or their sum, is outside 128 bits
abbrev pub is_wide_sum : ℤ → ℤ → ℤ → ℤ → Bool
is_wide_sum p m q n = not (in128 (p *ℤ m)) || (not (in128 (q *ℤ n)) || not (in128 (p *ℤ m +ℤ q *ℤ n)))

-- the same for the coefficients of two rows
abbrev pub are_wide : ℤ → List Cf → ℤ → List Cf → Bool
are_wide p cs q ds = some_wide_times p cs || (some_wide_times q ds || some_wide (merged p cs q ds))
