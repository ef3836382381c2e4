-- Rows made by steps from given ones.
use Rattle.std.specs.Prelude.{◌≡◌, ℕ, List, ◌++◌, map, slice_index_or}
use Rattle.fst_rows.specs.declared.row.Row.{Row}
use Rattle.fst_rows.specs.Plain.{plain_row}
use Rattle.fst_terms.specs.Rows.{Rw}
use Rattle.fst_terms.specs.Elimination.{no_row}
use Rattle.fst_linear.specs.Refutations.{Stp, AreSteps, replay}
use Rattle.fst_linear.specs.Steps.{plain_step}
use Rattle.fst_linear.specs.declared.derivation.Made.{Made}

-- the steps make the rows from the given ones
pub record Derives (given rows : List Rw) (ss : List Stp) : Type 0 where
  pub steps : AreSteps given ss
  pub made : given ++ rows ≡ replay given ss

abbrev pub given_rows : List Row → List Rw
given_rows = map plain_row

abbrev pub made_rows : List Made → List Rw
made_rows = map (λ m. plain_row m.row)

abbrev pub made_steps : List Made → List Stp
made_steps = map (λ m. plain_step m.step)

-- the given rows and then the made ones
abbrev pub all_rows : List Row → List Made → List Rw
all_rows given made = given_rows given ++ made_rows made

-- a row, counted from 0
abbrev pub at : List Row → List Made → ℕ → Rw
at given made i = slice_index_or (all_rows given made) i no_row
