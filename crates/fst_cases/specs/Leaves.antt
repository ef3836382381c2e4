-- What the search finds of a branch in which every atom is marked.
use Rattle.std.specs.Prelude.{◌≡◌, ℕ, ◌<◌, ℤ, false, Some, IsTrue, List, Contains}
use Rattle.fst_terms.specs.Terms.{Tm}
use Rattle.fst_terms.specs.Flats.{Flt, truth_of}
use Rattle.fst_terms.specs.declared.flat.Mark.{Mark}
use Rattle.fst_terms.specs.Skeletons.{arg_of, rest_of}
use Rattle.fst_terms.specs.Rows.{Rw, SolvesOver}
use Rattle.fst_terms.specs.Linear.{Ineq, row_of}
use Rattle.fst_terms.specs.Marks.{Marking, marks_of, term_number, var_sorts, is_equation, reads, AllRead}
use Rattle.fst_terms.specs.Branches.{IsNumbered, HasMark, differ, Joined, Given, AllFit}

-- labels of numbered terms: joined terms have one; no two different constructors have one, and no sides of a false equation
pub record AreApart (f : Flt) (look : Marking) (label : Tm → ℕ) : Type 0 where
  pub joined : (t u : Tm) → IsNumbered f t → IsNumbered f u → Joined f look t u → label t ≡ label u
  pub different : (t u : Tm) → IsNumbered f t → IsNumbered f u → IsTrue (differ t u) → label t ≡ label u → ⊥
  pub unequal : (a : ℕ) (t : Tm) (m : Mark) → HasMark f look a t m → IsTrue (is_equation t) → truth_of m ≡ false → label (arg_of t) ≡ label (rest_of t) → ⊥

-- the branch is read to its end, and its labels are apart
pub record IsLeaf (f : Flt) (ms : List Mark) : Type 0 where
  pub marked : AllFit (var_sorts f) f.atoms ms
  pub formulas : AllRead f (marks_of ms) f.formulas
  pub goal : reads f (marks_of ms) f.goal ≡ Some false
  pub label : Tm → ℕ
  pub apart : AreApart f (marks_of ms) label

-- these rows have a solution, and it solves every row of the marking
pub record IsSolved (f : Flt) (look : Marking) : Type 0 where
  pub scale : ℕ
  pub positive : 0 < scale
  pub values : ℕ → ℤ
  pub solves : (d : Ineq) → Given f look d → SolvesOver scale values (row_of (term_number f) d)

-- each row of the marking is among these
abbrev pub HoldsEach : Flt → Marking → List Rw → Type 0
HoldsEach f look rows = (d : Ineq) → Given f look d → Contains rows (row_of (term_number f) d)
