-- The lines that a line stands on, and a log without the lines that its last one does not need.
use Rattle.std.specs.Prelude.{◌≡◌, ℕ, ◌+◌, ◌<◌, Bool, true, false, List, length, get_or, map, ⊤}
use Rattle.fst_congruence.specs.declared.equation.Equation.{Equation}
use Rattle.fst_cert.specs.declared.line.Line.{Line}
use Rattle.fst_cert.specs.declared.line.Line.TheVariants as line
use Rattle.fst_congruence.specs.declared.node.Node.{Node}
use Rattle.fst_congruence.specs.Classes.{label_at}
use Rattle.fst_congruence.specs.declared.classes.Classes.{Classes}
use Rattle.fst_congruence.specs.declared.explain.Reasons.{Reasons}
use Rattle.fst_congruence.specs.declared.extract.Needed.{Needed}
use Rattle.fst_congruence.specs.Lines.{At, Because, Valid}
use Rattle.fst_congruence.specs.Closures.{GivenLines}

-- P holds of the number of each line that this one stands on; 0 may stand for none
abbrev pub Stands : (ℕ → Type 0) → Line → Type 0
Stands P (line.Flip i) = P i
Stands P (line.Chain i j) = P i × P j
Stands P (line.Same i j reasons) = (k : ℕ) → k < length reasons → P (get_or reasons k 0)
Stands P (line.Part i k) = P i
Stands P _ = ⊤

-- the line with new numbers for the lines that it stands on
abbrev pub renumbered : List ℕ → Line → Line
renumbered numbers (line.Flip i) = line.Flip (get_or numbers i 0)
renumbered numbers (line.Chain i j) = line.Chain (get_or numbers i 0) (get_or numbers j 0)
renumbered numbers (line.Same i j reasons) = line.Same i j (map (λ r. get_or numbers r 0) reasons)
renumbered numbers (line.Part i k) = line.Part (get_or numbers i 0) k
renumbered numbers l = l

-- the line of this number is wanted
abbrev pub IsWanted : List Bool → ℕ → Type 0
IsWanted wanted i = get_or wanted i false ≡ true

-- each line stands on earlier ones
abbrev pub EarlierLines : List Equation → Type 0
EarlierLines log = (k : ℕ) → k < length log → (d : Equation) → Stands (λ r. r < k + 1) (get_or log k d).by

-- the lines from place n on, where they are wanted, stand on wanted ones
abbrev pub WantedFrom : List Equation → List Bool → ℕ → Type 0
WantedFrom log wanted n = (k : ℕ) → k < length log → n < k + 1 → IsWanted wanted (k + 1) → (d : Equation) → Stands (IsWanted wanted) (get_or log k d).by

-- what is at a line of the old log is at its new number
abbrev pub Moved : (log new : List Equation) (numbers : List ℕ) → ℕ → Type 0
Moved log new numbers r = (x y : ℕ) → At log r x y → At new (get_or numbers r 0) x y

-- the wanted ones of the first n lines of a log stand in the new one
pub record Copied (log new : List Equation) (wanted : List Bool) (numbers : List ℕ) (n : ℕ) : Type 0 where
  pub count : length numbers ≡ n + 1
  pub none : get_or numbers 0 0 ≡ 0
  pub moved : (r : ℕ) → r < n + 1 → IsWanted wanted r → Moved log new numbers r
  pub valid : (ns : List Node) (es : List Equation) → GivenLines es → Valid ns es log → Valid ns es new

-- the lines that two of a log's lines need, these two among them
pub record Keeps (log : List Equation) (kept : Needed) (first second : ℕ) : Type 0 where
  pub count : length kept.numbers ≡ length log + 1
  pub none : get_or kept.numbers 0 0 ≡ 0
  pub first_moved : Moved log kept.log kept.numbers first
  pub second_moved : Moved log kept.log kept.numbers second
  pub valid : (ns : List Node) (es : List Equation) → GivenLines es → Valid ns es log → Valid ns es kept.log

-- lines of classes, on which the reasons stand why two terms equal their labels
pub record ReasonsOf (c : Classes) (r : Reasons) (left right : ℕ) : Type 0 where
  pub first : Because r.log r.first left (label_at c.labels left)
  pub second : Because r.log r.second right (label_at c.labels right)
  pub valid : (ns : List Node) (es : List Equation) → GivenLines es → Valid ns es c.log → Valid ns es r.log
