-- What an answer says of the rows.
use Rattle.std.specs.Prelude.{◌≡◌, ℕ, ◌<◌, List, [], length, slice_index_or, ⊤}
use Rattle.fst_terms.specs.Rows.{Rw, IsBelow}
use Rattle.fst_terms.specs.Elimination.{Contradicts, MeetsWide, no_row}
use Rattle.fst_terms.specs.Solutions.{Solvable}
use Rattle.fst_linear.specs.Refutations.{Refutes}
use Rattle.fst_linear.specs.Steps.{plain_steps}
use Rattle.fst_linear.specs.declared.answer.LinearAnswer.{LinearAnswer}
use Rattle.fst_linear.specs.declared.answer.LinearAnswer.TheVariants.{Steps, NoCombination, TooWide}

-- quotients of whole numbers and a common scale solve all rows, so that no natural multipliers sum them to a contradiction
pub record Unrefuted (rows : List Rw) : Type 0 where
  pub solution : Solvable rows
  pub consistent : Contradicts rows → ⊥

-- the steps refute the rows; nothing does; or a combination that elimination makes is wide
abbrev pub Answered : List Rw → LinearAnswer → Type 0
Answered rows (Steps ss) = Refutes rows (plain_steps ss)
Answered rows NoCombination = Unrefuted rows
Answered rows TooWide = MeetsWide rows

-- there are no steps where one of the rows is 0 <= c with negative c
abbrev pub IsShort : List Rw → LinearAnswer → Type 0
IsShort rows (Steps ss) = (i : ℕ) → i < length rows → IsBelow (slice_index_or rows i no_row) → plain_steps ss ≡ []
IsShort rows _ = ⊤
