-- Solutions that are carried back through eliminations.
use Rattle.std.specs.Prelude.{◌≡◌, ℕ, suc, ◌<◌, List, [], map, length, slice_index}
use Rattle.fst_rows.specs.declared.row.Row.{Row}
use Rattle.fst_terms.specs.Rows.{Rw, IsBelow}
use Rattle.fst_terms.specs.Solutions.{Solvable}
use Rattle.fst_linear.specs.declared.derivation.Made.{Made}
use Rattle.fst_linear.specs.Derivations.{given_rows, at}
use Rattle.fst_linear.specs.Living.{Lives}

-- the rows at these places
abbrev pub rows_at : List Row → List Made → List ℕ → List Rw
rows_at given made live = map (at given made) live

-- the rows after an elimination are alive, and a solution of them gives one of the rows before it
pub record LiftsOut (given : List Row) (old new : List Made) (u : ℕ) (live after : List ℕ) : Type 0 where
  pub lives : Lives given new (suc u) after
  pub back : Solvable (rows_at given new after) → Solvable (rows_at given old live)

-- a solution of the live rows gives one of the given ones
pub record Lifts (given : List Row) (made : List Made) (live : List ℕ) : Type 0 where
  pub back : Solvable (rows_at given made live) → Solvable (given_rows given)

-- the places of the first rows, none of which is 0 <= c with negative c
pub record Starting (given : List Row) (count : ℕ) (live : List ℕ) : Type 0 where
  pub many : length live ≡ count
  pub same : (k : ℕ) → k < count → slice_index live k ≡ k
  pub sound : (k : ℕ) → k < count → IsBelow (at given [] k) → ⊥
