-- Steps that make rows from rows, and what it means that they refute the first ones.
use Rattle.std.specs.Prelude.{◌≡◌, ℕ, ◌-◌, ◌≤◌, ℤ, pos, ◌≤ℤ◌, false, List, [], ◌∷◌, ◌++◌, length, slice_index_or, ⊤}
use Rattle.fst_terms.specs.Rows.{Rw, combined, is_wide, IsBelow}
use Rattle.fst_terms.specs.Elimination.{no_row}

-- the tightened sum of p times row i and q times row j, where rows are numbered from 1
pub record Stp : Type 0 where
  pub p : ℤ
  pub i : ℕ
  pub q : ℤ
  pub j : ℕ

-- row i, counted from 1
abbrev pub numbered : List Rw → ℕ → Rw
numbered rows i = slice_index_or rows (i - 1) no_row

abbrev pub made_by : List Rw → Stp → Rw
made_by rows s = combined s.p (numbered rows s.i) s.q (numbered rows s.j)

-- the step names rows, has multipliers of at least 1, and isn't wide
pub record IsStep (rows : List Rw) (s : Stp) : Type 0 where
  pub p : pos 1 ≤ℤ s.p
  pub i : (1 ≤ s.i) × (s.i ≤ length rows)
  pub q : pos 1 ≤ℤ s.q
  pub j : (1 ≤ s.j) × (s.j ≤ length rows)
  pub narrow : is_wide s.p (numbered rows s.i) s.q (numbered rows s.j) ≡ false

-- each step makes one more row from the rows before it
abbrev pub AreSteps : List Rw → List Stp → Type 0
AreSteps rows [] = ⊤
AreSteps rows (s ∷ ss) = IsStep rows s × AreSteps (rows ++ made_by rows s ∷ []) ss

-- the given rows, and then the rows of the steps
abbrev pub replay : List Rw → List Stp → List Rw
replay rows [] = rows
replay rows (s ∷ ss) = replay (rows ++ made_by rows s ∷ []) ss

-- the last row is 0 <= c with negative c; without steps a given row is
abbrev pub EndsBelow : List Rw → List Stp → Type 0
EndsBelow rows [] = (i : ℕ) × (1 ≤ i) × (i ≤ length rows) × IsBelow (numbered rows i)
EndsBelow rows ss = IsBelow (numbered (replay rows ss) (length (replay rows ss)))

pub record Refutes (rows : List Rw) (ss : List Stp) : Type 0 where
  pub steps : AreSteps rows ss
  pub ends : EndsBelow rows ss
