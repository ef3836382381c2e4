-- What calls that print a part append, and what they keep.
use Rattle.std.specs.Prelude.{◌≡◌, ℕ, zero, suc, List, [], ◌++◌, codes}

-- what stands before the item of this number of a list, from 0
abbrev pub separator : ℕ → List ℕ
separator zero = []
separator (suc n) = codes "; "

-- the whole begins with the front
pub record IsFront (front whole : List ℕ) : Type 0 where
  pub more : List ℕ
  pub whole_is : whole ≡ front ++ more
