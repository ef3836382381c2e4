-- Joined terms that clash, by the labels of a closure.
use Rattle.std.specs.Prelude.{◌≡◌, ℕ, ◌<◌, Bool, false, List, length, get_or, Option, Some, None}
use Rattle.fst_terms.specs.Flats.{Flt, truth_of}
use Rattle.fst_terms.specs.declared.flat.Mark.{Mark}
use Rattle.fst_terms.specs.declared.flat.Mark.TheVariants as mark
use Rattle.fst_terms.specs.Terms.{Tm}
use Rattle.fst_terms.specs.Marks.{Marking, marks_of}
use Rattle.fst_congruence.specs.Classes.{label_at}
use Rattle.fst_congruence.specs.Closures.{ClosureView, IsExact}
use Rattle.fst_congruence.specs.Explained.{AreEquations, AreGiven}
use Rattle.fst_congruence.specs.Joined.{node_at}
use Rattle.fst_congruence.specs.Makers.{FoundDifferent}
use Rattle.fst_congruence.specs.Numbered.{nodes_of, number_of, IsComplete, IsNumbering}
use Rattle.fst_cases.specs.Leaves.{AreApart}
use Rattle.fst_cases.specs.Verdicts.{IsOf}
use Rattle.fst_cases.specs.declared.clashes.Sides.{Sides}
use Rattle.fst_cases.specs.declared.verdict.Leaf.{Leaf}
use Rattle.fst_cases.specs.declared.roles.Role.{Role}
use Rattle.fst_cases.specs.declared.roles.Role.TheVariants as role

-- this is the number of a term
pub record IsTerm (c : ClosureView) (i : ℕ) : Type 0 where
  pub within : i < length c.labels
  pub some : 0 < (node_at c.nodes i).kind

-- both are, and the closure joins them
pub record AreJoined (c : ClosureView) (i j : ℕ) : Type 0 where
  pub first : IsTerm c i
  pub second : IsTerm c j
  pub same : label_at c.labels i ≡ label_at c.labels j

-- the closure is one of the terms of a flat form under equations that hold under the marks
pub record IsExplained (f : Flt) (look : Marking) (c : ClosureView) : Type 0 where
  pub nodes : c.nodes ≡ nodes_of f.terms
  pub complete : IsComplete f.terms
  pub given : AreGiven f look c.equations

-- the sides of an equation that isn't true, where they are joined
abbrev pub JoinedSides : ClosureView → Role → Mark → ℕ → Option Sides → Type 0
JoinedSides c r m k None = (i j : ℕ) → r ≡ role.Equation i j → truth_of m ≡ false → AreJoined c i j → ⊥
JoinedSides c r m k (Some s) = (r ≡ role.Equation s.left s.right) × (truth_of m ≡ false) × (s.at ≡ k) × AreJoined c s.left s.right

-- the sides of such an equation, or there is none
abbrev pub FoundUnequal : ClosureView → List Role → List Mark → Option Sides → Type 0
FoundUnequal c rs ms None = (k : ℕ) → k < length ms → JoinedSides c (get_or rs k role.Order) (get_or ms k mark.False) k None
FoundUnequal c rs ms (Some s) = (s.at < length ms) × JoinedSides c (get_or rs s.at role.Order) (get_or ms s.at mark.False) s.at (Some s)

-- ---- a closure under marks of all atoms

-- the label of a term: that of its number
abbrev pub label_of : Flt → List ℕ → Tm → ℕ
label_of f labels t = label_at labels (number_of f.terms t)

-- the closure of a flat form's terms under the equations of these marks, one for each atom
pub record IsClosureOf (f : Flt) (ms : List Mark) (c : ClosureView) : Type 0 where
  pub numbering : IsNumbering f.terms
  pub nodes : c.nodes ≡ nodes_of f.terms
  pub equations : AreEquations f (marks_of ms) c.equations
  pub count : length c.labels ≡ length c.nodes
  pub exact : IsExact c.nodes c.equations c.labels
  pub full : length ms ≡ length f.atoms

-- a false equation whose sides are joined refutes the branch, or there is none
abbrev pub MayBeUnequal : Flt → List Role → List Mark → ClosureView → Option Leaf → Type 0
MayBeUnequal f rs ms c None = FoundUnequal c rs ms None
MayBeUnequal f rs ms c (Some l) = IsOf f ms l

-- two joined terms with different constructors do, or there are none
abbrev pub MayDiffer : Flt → List Mark → ClosureView → (truth : Bool) → Option Leaf → Type 0
MayDiffer f ms c b None = FoundDifferent c b None
MayDiffer f ms c b (Some l) = IsOf f ms l

-- a clash refutes the branch, or its labels are apart
abbrev pub MayClash : Flt → List Mark → ClosureView → Option Leaf → Type 0
MayClash f ms c None = AreApart f (marks_of ms) (label_of f c.labels)
MayClash f ms c (Some l) = IsOf f ms l
