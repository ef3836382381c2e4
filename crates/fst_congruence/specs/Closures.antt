-- What a closure keeps, and what an explanation is.
use Rattle.std.specs.Prelude.{◌≡◌, ◌↔◌, ℕ, ◌<◌, List, length, map, Contains, ⊤}
use Rattle.fst_congruence.specs.declared.classes.Classes.{Classes}
use Rattle.fst_congruence.specs.declared.equation.Equation.{Equation}
use Rattle.fst_cert.specs.declared.line.Line.{Line}
use Rattle.fst_cert.specs.declared.line.Line.TheVariants as line
use Rattle.fst_congruence.specs.declared.node.Node.{Node}
use Rattle.fst_congruence.specs.Joined.{Joined}
use Rattle.fst_congruence.specs.Lines.{At, Valid}
use Rattle.fst_congruence.specs.Classes.{label_at, IsClosed}
use Rattle.fst_congruence.specs.Steps.{Fits}

-- a closure as contracts see it: the terms, the equations, and the label of each term
pub record ClosureView : Type 0 where
  pub nodes : List Node
  pub equations : List Equation
  pub labels : List ℕ

-- a line that gives an equation by itself
abbrev pub IsGivenLine : Line → Type 0
IsGivenLine (line.Given atom) = ⊤
IsGivenLine (line.Eta term) = ⊤
IsGivenLine (line.Unit term) = ⊤
IsGivenLine _ = ⊥

abbrev pub GivenLines : List Equation → Type 0
GivenLines es = (e : Equation) → Contains es e → IsGivenLine e.by

-- the closure of these terms and equations
pub record IsClosure (ns : List Node) (es : List Equation) (c : Classes) : Type 0 where
  pub given : GivenLines es
  pub fits : Fits ns c
  pub valid : Valid ns es c.log
  pub closed : IsClosed ns es c.labels

-- labels are equal exactly where the least congruence joins the terms
abbrev pub IsExact : List Node → List Equation → List ℕ → Type 0
IsExact ns es labels = (i j : ℕ) → i < length ns → j < length ns → (label_at labels i ≡ label_at labels j) ↔ Joined ns es i j

-- these lines hold one after the other, and the last one gives left = right; log has the lines with the equations that they give
pub record Explains (ns : List Node) (es : List Equation) (lines : List Line) (left right : ℕ) : Type 0 where
  pub log : List Equation
  pub valid : Valid ns es log
  pub by : map (λ (e : Equation). e.by) log ≡ lines
  pub last : At log (length log) left right
