-- What is known of the rows in the course of an elimination.
use Rattle.std.specs.Prelude.{◌≡◌, ◌⊎◌, true, ℕ, suc, ◌+◌, ◌<◌, ◌≤◌, ℤ, pos, ◌≤ℤ◌, ◌<ℤ◌, List, [], ◌∷◌, length, slice_index, min, Option, Some, None, MatchOption, All, Contains}
use Rattle.fst_rows.specs.declared.row.Row.{Row}
use Rattle.fst_terms.specs.Rows.{Cf, Rw, Rise, tight, is_wide, IsBelow}
use Rattle.fst_terms.specs.Elimination.{coef, share, cancelled, Derived, MeetsWide}
use Rattle.fst_linear.specs.Refutations.{Refutes}
use Rattle.fst_linear.specs.declared.derivation.Made.{Made}
use Rattle.fst_linear.specs.declared.pairs.Pair.{Pair}
use Rattle.fst_linear.specs.declared.pairs.Pair.TheVariants.{New, Below, Wide}
use Rattle.fst_linear.specs.declared.sweep.Turn.{Turn}
use Rattle.fst_linear.specs.declared.sweep.Turn.TheVariants.{Done, Refuted, TooWide}
use Rattle.fst_linear.specs.Derivations.{given_rows, made_steps, at}

-- more rows were made, and the earlier ones stayed
pub record Grows (given : List Row) (old new : List Made) : Type 0 where
  pub longer : length old ≤ length new
  pub same : (i : ℕ) → i < length given + length old → at given new i ≡ at given old i

-- a row that elimination derives, without unknowns below u
pub record Alive (given : List Rw) (u : ℕ) (r : Rw) : Type 0 where
  pub rises : Rise u r.coefs
  pub derived : Derived given u r
  pub sound : IsBelow r → ⊥

-- the rows at these places are alive
pub record Lives (given : List Row) (made : List Made) (u : ℕ) (live : List ℕ) : Type 0 where
  pub within : All (λ i. i < length given + length made) live
  pub alive : All (λ i. Alive (given_rows given) u (at given made i)) live

-- the two multipliers that cancel unknown u
pub record AreShares (u : ℕ) (a b : Rw) (p q : ℤ) : Type 0 where
  pub first : p ≡ share u a b
  pub second : q ≡ share u b a
  pub first_least : pos 1 ≤ℤ p
  pub second_least : pos 1 ≤ℤ q

-- with these multipliers the sum is wide
pub record SharesWide (u : ℕ) (a b : Rw) : Type 0 where
  pub wide : is_wide (share u a b) a (share u b a) b ≡ true

-- the sum of rows i and j that cancels unknown u
abbrev pub sum_at_places : List Row → List Made → ℕ → ℕ → ℕ → Rw
sum_at_places given made u i j = tight (cancelled u (at given made i) (at given made j))

-- what a pair of rows with opposite signs gives
abbrev pub Paired : List Row → List Made → List Made → ℕ → ℕ → ℕ → Pair → Type 0
Paired given old new u i j (New k) = (k < length given + length new) × (at given new k ≡ sum_at_places given old u i j) × (IsBelow (at given new k) → ⊥)
Paired given old new u i j Below = Refutes (given_rows given) (made_steps new)
Paired given old new u i j Wide = MeetsWide (given_rows given)

-- among the places is that of the sum of rows i and j
abbrev pub HasPair : List Row → List Made → ℕ → ℕ → ℕ → List ℕ → Type 0
HasPair given made u i j after = (k : ℕ) × Contains after k × (at given made k ≡ sum_at_places given made u i j)

-- all sums of row i with one of the first rows were made
pub record Sweeps (given : List Row) (made : List Made) (u i : ℕ) (downs : List ℕ) (count : ℕ) (old after : List ℕ) : Type 0 where
  pub lives : Lives given made (suc u) after
  pub kept : (k : ℕ) → Contains old k → Contains after k
  pub pairs : (n : ℕ) → n < count → HasPair given made u i (slice_index downs n) after

-- all sums of one of the first rows with one of the others were made
pub record SweepsAll (given : List Row) (made : List Made) (u : ℕ) (ups : List ℕ) (count : ℕ) (downs old after : List ℕ) : Type 0 where
  pub lives : Lives given made (suc u) after
  pub kept : (k : ℕ) → Contains old k → Contains after k
  pub pairs : (m n : ℕ) → m < count → n < length downs → HasPair given made u (slice_index ups m) (slice_index downs n) after

-- what an elimination of one unknown gives, where P holds if it comes to its end
abbrev pub Swept : List Row → List Made → Type 0 → Turn → Type 0
Swept given new P Done = P
Swept given new P Refuted = Refutes (given_rows given) (made_steps new)
Swept given new P TooWide = MeetsWide (given_rows given)

-- the first rows, parted by the sign of the unknown
pub record Split (given : List Row) (made : List Made) (u : ℕ) (live : List ℕ) (count : ℕ) (without ups downs : List ℕ) : Type 0 where
  pub without_live : Lives given made (suc u) without
  pub ups_live : Lives given made u ups
  pub downs_live : Lives given made u downs
  pub without_zero : All (λ i. coef (at given made i) u ≡ pos 0) without
  pub ups_up : All (λ i. pos 0 <ℤ coef (at given made i) u) ups
  pub downs_down : All (λ i. coef (at given made i) u <ℤ pos 0) downs
  pub each : (n : ℕ) → n < count → Contains without (slice_index live n) ⊎ (Contains ups (slice_index live n) ⊎ Contains downs (slice_index live n))

-- the smaller of a number and the first unknown
abbrev pub least_of : Option ℕ → List Cf → Option ℕ
least_of best [] = best
least_of None (c ∷ cs) = Some c.unknown
least_of (Some u) (c ∷ cs) = Some (min u c.unknown)

-- no row has unknowns, or none below u, which isn't below the first number
abbrev pub Bounds : List Row → List Made → ℕ → List ℕ → ℕ → Option ℕ → Type 0
Bounds given made from live count best = MatchOption best
    ((n : ℕ) → n < count → (at given made (slice_index live n)).coefs ≡ [])
    (λ u. (from ≤ u) × ((n : ℕ) → n < count → Rise u (at given made (slice_index live n)).coefs))
