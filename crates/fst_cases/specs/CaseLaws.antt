-- The laws on refutations.
use Rattle.std.specs.Prelude.{◌≡◌, ℕ, true, false, None, List, [], length}
use Rattle.fst_terms.specs.Terms.{Tm}
use Rattle.fst_terms.specs.Flats.{Flt, truth_of}
use Rattle.fst_terms.specs.declared.flat.Mark.{Mark}
use Rattle.fst_terms.specs.Skeletons.{arg_of, rest_of}
use Rattle.fst_terms.specs.Marks.{Marking, is_equation}
use Rattle.fst_terms.specs.Branches.{HasMark, differ}
use Rattle.fst_cert.specs.declared.line.Line.{Line}
use Rattle.fst_cert.specs.declared.line.Line.TheVariants as line
use Rattle.fst_cert.specs.Proving.{Mk, Proves}
use Rattle.fst_congruence.specs.Explained.{Gives}
use Rattle.fst_cases.specs.Refuting.{IsRefuted, closing}

-- lines that refute the branch without marks prove the goal
abbrev pub NothingLaw : Type 0
NothingLaw = (f : Flt) (ls : List Line) → IsRefuted f [] 0 (λ a. None) ls → Proves f ls

-- an explanation of two terms with different constructors, or of the sides of a false equation, refutes every branch with its marks
pub record ClashLaw (f : Flt) (ended : List (List Mk)) (n : ℕ) (core : Marking) (ls : List Line) : Type 0 where
  pub differ : (t u : Tm) → (g : Gives f core ls t u) → differ t u ≡ true → IsRefuted f ended n core (closing ls [] (line.Differ (length g.equations)))
  pub unequal : (a : ℕ) (t : Tm) (m : Mark) → HasMark f core a t m → is_equation t ≡ true → truth_of m ≡ false → (g : Gives f core ls (arg_of t) (rest_of t)) → IsRefuted f ended n core (closing ls [] (line.Unequal a (length g.equations)))
