-- Refutations of a marking: marks that are used, and lines that end every branch that has them.
use Rattle.std.specs.Prelude.{◌≡◌, ℕ, ◌<◌, true, if◌then◌else◌, nat_eq, List, [], ◌∷◌, ◌++◌, length, Option, Some, None, IsTrue, ⊤}
use Rattle.fst_terms.specs.Terms.{Tm}
use Rattle.fst_terms.specs.Flats.{Flt, rank}
use Rattle.fst_terms.specs.declared.flat.Mark.{Mark}
use Rattle.fst_terms.specs.Rows.{Rw}
use Rattle.fst_terms.specs.Marks.{Marking, marks_of, var_sorts, fits}
use Rattle.fst_cert.specs.Proving.{Mk, marking_of, on, Eqn, row_by, is_verdict, Owed, owed_branch, same_mark, first_bad}
use Rattle.fst_congruence.specs.Explained.{equations_by}
use Rattle.fst_cert.specs.declared.line.Line.{Line}
use Rattle.fst_cert.specs.declared.line.Line.TheVariants as line

-- ---- markings by what they say

-- each mark of the first is one of the second, where a false atom may be ordered too
abbrev pub Within : Marking → Marking → Type 0
Within core look = (a : ℕ) (m : Mark) → core a ≡ Some m → (n : Mark) × ((look a ≡ Some n) × (same_mark m n ≡ true))

-- the marking with this mark of atom a
abbrev pub put : ℕ → Mark → Marking → Marking
put a m look b = if nat_eq a b then Some m else look b

-- no atom after the first n is marked
abbrev pub UnmarkedAfter : ℕ → Marking → Type 0
UnmarkedAfter n look = (a : ℕ) → n < a → look a ≡ None

-- ---- refutations

-- the lines prove all that is owed
abbrev pub Settles : Flt → List Owed → List Line → Type 0
Settles f os ls = (at : ℕ) → first_bad f os ls at ≡ None

-- the lines prove this, and whatever is owed after it is left to the lines after them
abbrev pub Ends : Flt → Owed → List Line → Type 0
Ends f o ls = (os : List Owed) (more : List Line) → Settles f os more → Settles f (o ∷ os) (ls ++ more)

-- the lines end every branch that has the marks of the core and none after the first n atoms; they can use the ended shares
abbrev pub IsRefuted : Flt → (ended : List (List Mk)) → (n : ℕ) → (core : Marking) → List Line → Type 0
IsRefuted f ended n core ls = (ms : List Mk) → Within core (marking_of ms) → UnmarkedAfter n (marking_of ms) → Ends f (owed_branch ended ms) ls

-- ---- a closing

-- the rows after these lines, where each holds
abbrev pub rows_after : Flt → Marking → List Eqn → List Rw → List Line → Option (List Rw)
rows_after f look es rows [] = Some rows
rows_after f look es rows (l ∷ ls) = on (row_by f look es rows l) (λ r. rows_after f look es (rows ++ r ∷ []) ls)

-- equation lines, row lines and a verdict that hold one after the other under these marks
pub record Closes (f : Flt) (look : Marking) (equations rows : List Line) (verdict : Line) : Type 0 where
  pub gives : List Eqn
  pub sums : List Rw
  pub equations_hold : equations_by f look [] equations ≡ Some gives
  pub rows_hold : rows_after f look gives [] rows ≡ Some sums
  pub ends : is_verdict f look gives sums verdict ≡ true

-- the lines of a closing
abbrev pub closing : (equations rows : List Line) → Line → List Line
closing es rs v = line.Close (length es) (length rs) ∷ es ++ (rs ++ v ∷ [])

-- ---- the branches that stand before an answer

-- the branch with the marks of these first atoms is refuted
pub record IsRefutedAt (f : Flt) (ms : List Mark) : Type 0 where
  pub core : Marking
  pub lines : List Line
  pub within : Within core (marks_of ms)
  pub refuted : IsRefuted f [] (length ms) core lines

-- after the marks `before`, each mark that stands before the branch's own is refuted, atom by atom
abbrev pub LeftRefuted : Flt → (before : List Mark) → (atoms : List Tm) → (branch : List Mark) → Type 0
LeftRefuted f before (t ∷ ts) (n ∷ ns) =
    ((m : Mark) → IsTrue (fits (var_sorts f) t m) → rank m < rank n → IsRefutedAt f (before ++ m ∷ [])) × LeftRefuted f (before ++ n ∷ []) ts ns
LeftRefuted f before _ _ = ⊤
