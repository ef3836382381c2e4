-- Rows 0 <= constant + sum of by * unknown, over whole numbers of any size: their solutions, tightening and sums.
use Rattle.std.specs.Prelude.{◌≡◌, ◌≢◌, ℕ, suc, ◌≤◌, ℤ, pos, ◌+ℤ◌, ◌*ℤ◌, ◌≤ℤ◌, ◌<ℤ◌, Bool, false, not, ◌||◌, ◌==◌, if◌then◌else◌, nat_lt, List, [], ◌∷◌, unsigned_abs, ⊤}
use Rattle.std.specs.Ordering.{int_eq}
use Rattle.std.specs.Int.{int_div_euclid}
use Rattle.fst_base.specs.Primitives.{in128}
use Rattle.fst_terms.specs.Gcd.{gcd}

-- by times the unknown of that number
pub record Cf : Type 0 where
  pub unknown : ℕ
  pub by : ℤ

-- the row 0 <= constant + sum of coefs
pub record Rw : Type 0 where
  pub constant : ℤ
  pub coefs : List Cf

-- no coefficient is 0, and they stand in rising order of their unknowns, each at least the first number
abbrev pub Rise : ℕ → List Cf → Type 0
Rise from [] = ⊤
Rise from (c ∷ cs) = (from ≤ c.unknown) × (c.by ≢ pos 0) × Rise (suc c.unknown) cs

abbrev pub IsRow : Rw → Type 0
IsRow r = Rise 0 r.coefs

-- ---- solutions

-- the sum of the coefficients, where unknown u has the value x u
abbrev pub sum_at : (ℕ → ℤ) → List Cf → ℤ
sum_at x [] = pos 0
sum_at x (c ∷ cs) = c.by *ℤ x c.unknown +ℤ sum_at x cs

-- s times the right side of the row, where unknown u has the value x u / s
abbrev pub value_at : ℕ → (ℕ → ℤ) → Rw → ℤ
value_at s x r = pos s *ℤ r.constant +ℤ sum_at x r.coefs

-- the values x u / s solve the row
abbrev pub SolvesOver : ℕ → (ℕ → ℤ) → Rw → Type 0
SolvesOver s x r = pos 0 ≤ℤ value_at s x r

-- the whole numbers x u solve the row
abbrev pub Solves : (ℕ → ℤ) → Rw → Type 0
Solves x r = SolvesOver 1 x r

-- the row is 0 <= c with negative c, which nothing solves
pub record IsBelow (r : Rw) : Type 0 where
  pub none : r.coefs ≡ []
  pub negative : r.constant <ℤ pos 0

-- ---- sums of rows

-- the coefficient n of unknown u before the others; it is left out where n is 0
abbrev pub put : ℕ → ℤ → List Cf → List Cf
put u n cs = if int_eq n (pos 0) then cs else record { unknown = u; by = n } ∷ cs

-- p times the coefficients
abbrev pub times : ℤ → List Cf → List Cf
times p [] = []
times p (c ∷ cs) = put c.unknown (p *ℤ c.by) (times p cs)

-- p times the coefficient c and then the sum of what follows it, and q times the coefficients ds, by rising unknowns
abbrev pub beside : ℤ → Cf → (List Cf → List Cf) → ℤ → List Cf → List Cf
beside p c rest q [] = put c.unknown (p *ℤ c.by) (rest [])
beside p c rest q (d ∷ ds) =
    if nat_lt c.unknown d.unknown then put c.unknown (p *ℤ c.by) (rest (d ∷ ds)) else
    (if nat_lt d.unknown c.unknown then put d.unknown (q *ℤ d.by) (beside p c rest q ds) else
    put c.unknown (p *ℤ c.by +ℤ q *ℤ d.by) (rest ds))

-- p times the first coefficients and q times the second ones, by rising unknowns
abbrev pub merged : ℤ → List Cf → ℤ → List Cf → List Cf
merged p [] q ds = times q ds
merged p (c ∷ cs) q ds = beside p c (merged p cs q) q ds

-- p times row a and q times row b
abbrev pub summed : ℤ → Rw → ℤ → Rw → Rw
summed p a q b = record { constant = p *ℤ a.constant +ℤ q *ℤ b.constant; coefs = merged p a.coefs q b.coefs }

-- ---- tightening

-- the greatest common divisor of the coefficients, 0 where there is none
abbrev pub divisor : List Cf → ℕ
divisor [] = 0
divisor (c ∷ cs) = gcd (unsigned_abs c.by) (divisor cs)

-- the g-th part of a number, rounded down
abbrev pub part_of : ℕ → ℤ → ℤ
part_of g n = int_div_euclid n (pos g)

abbrev pub parts : ℕ → List Cf → List Cf
parts g [] = []
parts g (c ∷ cs) = record { unknown = c.unknown; by = part_of g c.by } ∷ parts g cs

abbrev pub parted : ℕ → Rw → Rw
parted g r = record { constant = part_of g r.constant; coefs = parts g r.coefs }

-- the coefficients divided by their greatest common divisor, and the constant likewise, rounded down
abbrev pub tight : Rw → Rw
tight r = if divisor r.coefs == 0 then r else parted (divisor r.coefs) r

-- the tightened sum of p times row a and q times row b
abbrev pub combined : ℤ → Rw → ℤ → Rw → Rw
combined p a q b = tight (summed p a q b)

-- ---- wide combinations

-- some coefficient is outside 128 bits
abbrev pub some_wide : List Cf → Bool
some_wide [] = false
some_wide (c ∷ cs) = not (in128 c.by) || some_wide cs

-- p times some coefficient is
abbrev pub some_wide_times : ℤ → List Cf → Bool
some_wide_times p [] = false
some_wide_times p (c ∷ cs) = not (in128 (p *ℤ c.by)) || some_wide_times p cs

-- a number of the row is outside 128 bits
abbrev pub is_wide_row : Rw → Bool
is_wide_row r = not (in128 r.constant) || some_wide r.coefs

-- p times a number of the row is
abbrev pub is_wide_times : ℤ → Rw → Bool
is_wide_times p r = not (in128 (p *ℤ r.constant)) || some_wide_times p r.coefs

-- a product of p with a number of a, a product of q with a number of b, or the sum of two such products that belong to one unknown or to the constants is outside 128 bits
abbrev pub is_wide : ℤ → Rw → ℤ → Rw → Bool
is_wide p a q b = is_wide_times p a || (is_wide_times q b || is_wide_row (summed p a q b))
