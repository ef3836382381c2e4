-- Skeletons whose atoms are numbers.
use Rattle.std.specs.Prelude.{◌≡◌, ℕ, List, [], ◌∷◌, true, false, Result, Ok, IfOk, Option, Bool, ◌||◌, if◌then◌else◌, map}
use Rattle.fst_base.specs.declared.memory.OutOfMemory.{OutOfMemory}
use Rattle.fst_terms.specs.Terms.{Tm, Tms, t_end, t_more, plain_term}
use Rattle.fst_base.specs.Sorts.{Srt}
use Rattle.fst_base.specs.declared.op.Op.{Op}
use Rattle.fst_base.specs.declared.op.Op.TheVariants as op
use Rattle.fst_terms.specs.Formulas.{equation}
use Rattle.fst_shapes.specs.Sides.{are_made, are_by, is_list_term}
use Rattle.fst_terms.specs.Same.{same_term}
use Rattle.fst_terms.specs.declared.term.Term.{Term}
use Rattle.fst_terms.specs.Marks.{number_by, one_more}
use Rattle.fst_terms.specs.Skeletons.{Skl, k_truth, k_atom, k_if, k_same, same_atom, made_by, skeleton}
use Rattle.fst_shapes.specs.declared.shapes.Shape.{Shape}
use Rattle.fst_shapes.specs.declared.shapes.Shape.TheVariants as shape

-- the skeleton with the number of each atom
abbrev pub shaped : (number : Tm → ℕ) → Skl → Shape
shaped n (k_truth b) = shape.Truth b
shaped n (k_atom t) = shape.Atom (n t)
shaped n (k_if c p q) = shape.If (shaped n c) (shaped n p) (shaped n q)
shaped n (k_same p q) = shape.Same (shaped n p) (shaped n q)

-- the number of an atom among these, from 1; 0 for none
abbrev pub number_in : List Term → Tm → ℕ
number_in ts t = number_by same_atom (map plain_term ts) t

-- what is made, where there is memory, is this skeleton
unfoldable pub Shapes : (number : Tm → ℕ) → Result Shape OutOfMemory → Skl → Type 0
Shapes n r k = IfOk r (λ made. made ≡ shaped n k)

-- an `if` of three that were made
pub record IsChoice (test left right : Result Shape OutOfMemory) (made : Shape) : Type 0 where
  pub first : Shape
  pub second : Shape
  pub third : Shape
  pub test_is : test ≡ Ok first
  pub left_is : left ≡ Ok second
  pub right_is : right ≡ Ok third
  pub is : made ≡ shape.If first second third

-- a term, or the same turned round, is this one
abbrev pub is_either : (t turned u : Tm) → Bool
is_either t s u = same_term t u || same_term s u

-- the number of the first of these that passes the test, from 1; 0 for none
abbrev pub first_by : (Tm → Bool) → List Tm → ℕ
first_by p [] = 0
first_by p (u ∷ us) = if p u then 1 else one_more (first_by p us)

-- the heads of two lists before the end of both
abbrev pub before_end : List Shape → Shape → Shape
before_end [] end = end
before_end (s ∷ ss) end = shape.If s (before_end ss end) (shape.Truth false)

-- ---- equations by how their sides meet

-- the equation, but where both begin with constructors, which differ
abbrev pub unless_made : Option Op → Option Op → (t u : Tm) → Skl
unless_made p q t u = if are_made p q then k_truth false else k_atom (equation t u)

-- that of two lists of which not both are conses of two arguments
abbrev pub ends_equal : Tm → Option Op → Tm → Skl
ends_equal t q u = if is_list_term t then (if are_by op.Nil (made_by t) q then k_truth true else unless_made (made_by t) q t u) else k_atom (equation t u)

-- that of two bools
abbrev pub bools_form : (Ss : List Srt) → Tms → Skl
bools_form Ss (t_more t (t_more u t_end)) = k_same (skeleton Ss t) (skeleton Ss u)
bools_form Ss _ = k_truth true
