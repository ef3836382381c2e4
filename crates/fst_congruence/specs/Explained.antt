-- Explanations over terms, by the rules of certificates; equations of a marking.
use Rattle.std.specs.Prelude.{◌≡◌, ◌↔◌, ℕ, List, [], ◌∷◌, ◌++◌, length, Option, Some, Contains}
use Rattle.fst_base.specs.Sorts.{Srt}
use Rattle.fst_terms.specs.Terms.{Tm}
use Rattle.fst_terms.specs.Flats.{Flt}
use Rattle.fst_terms.specs.Marks.{Marking, at_number}
use Rattle.fst_terms.specs.Branches as branch
use Rattle.fst_terms.specs.Sentences.{IsFlat}
use Rattle.fst_cert.specs.declared.line.Line.{Line}
use Rattle.fst_cert.specs.Proving.{on, Eqn, eqn, equation_by}
use Rattle.fst_congruence.specs.declared.equation.Equation.{Equation}
use Rattle.fst_congruence.specs.Closures.{IsGivenLine, GivenLines}
use Rattle.fst_congruence.specs.Joined.{Joined}
use Rattle.fst_congruence.specs.Numbered.{term_at, IsNumber, IsNumbering, nodes_of}

-- what equation lines give one after the other, after these equations, where all of them hold
abbrev pub equations_by : Flt → Marking → List Eqn → List Line → Option (List Eqn)
equations_by f look es [] = Some es
equations_by f look es (l ∷ ls) = on (equation_by f look es l) (λ e. equations_by f look (es ++ e ∷ []) ls)

-- the lines hold in a `close`, and the last one gives t = u
pub record Gives (f : Flt) (look : Marking) (lines : List Line) (t u : Tm) : Type 0 where
  pub equations : List Eqn
  pub hold : equations_by f look [] lines ≡ Some equations
  pub last : at_number equations (length equations) ≡ Some (eqn t u)

-- the lines of these equations hold under the marks, and give them
abbrev pub AreGiven : Flt → Marking → List Equation → Type 0
AreGiven f look es = (e : Equation) → Contains es e → equation_by f look [] e.by ≡ Some (eqn (term_at f.terms e.left) (term_at f.terms e.right))

-- these are the equations that the marks give: of marked atoms, of pairs with the pairs of their components, and of unit terms
pub record AreEquations (f : Flt) (look : Marking) (es : List Equation) : Type 0 where
  pub lines : GivenLines es
  pub given : AreGiven f look es
  pub numbered : (e : Equation) → Contains es e → IsNumber f.terms e.left × IsNumber f.terms e.right
  pub all : (l : Line) (t u : Tm) → IsGivenLine l → equation_by f look [] l ≡ Some (eqn t u) → (e : Equation) × (Contains es e × ((term_at f.terms e.left ≡ t) × (term_at f.terms e.right ≡ u)))

-- the least relation on numbers under the equations of a marking is the one on terms
abbrev pub JoinedLaw : Type 0
JoinedLaw = (f : Flt) (look : Marking) (es : List Equation) → IsNumbering f.terms → AreEquations f look es → (i j : ℕ) → IsNumber f.terms i → IsNumber f.terms j
    → Joined (nodes_of f.terms) es i j ↔ branch.Joined f look (term_at f.terms i) (term_at f.terms j)

-- the numbered terms of a flat form are different, hold their arguments, and constructors have their arities
abbrev pub FlatsAreNumbered : Type 1
FlatsAreNumbered = (Applies : (k : ℕ) → List Srt → (S : Srt) → Type 0) (f : Flt) → IsFlat Applies f → IsNumbering f.terms
