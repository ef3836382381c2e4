-- The four phases behind the reader: what a program is refused with, and what it is.
use Rattle.std.specs.Prelude.{◌≡◌, List, [], ◌∷◌, map, Option, None, IsTrue}
use Rattle.fst_trees.specs.declared.word.Word.{Word}
use Rattle.fst_program.specs.Texts.{Prog}
use Rattle.fst_program.specs.Sorted.{IsSorted}
use Rattle.fst_program.specs.Discipline.{IsDisciplined}
use Rattle.fst_names.specs.declared.broken.Broken.{Broken}
use Rattle.fst_names.specs.declared.reference.Ref.{Ref}
use Rattle.fst_names.specs.Broken.{first_broken}
use Rattle.fst_names.specs.Names.{named, broken_names}
use Rattle.fst_names.specs.Trees.{WDecl}
use Rattle.fst_effects.specs.Definitions.{broken_definitions, core_effects, core_lifts, lifts_of}
use Rattle.fst_sorting.specs.Lifts.{broken_lifts}
use Rattle.fst_sorting.specs.Functions.{broken_funs, core_program}
use Rattle.fst_sorting.specs.Written.{are_written}

-- the first phase with a broken rule answers
abbrev pub phase : List Broken → (later : Option Broken) → Option Broken
phase [] later = later
phase (b ∷ bs) later = first_broken (b ∷ bs)

abbrev pub lift_phase : List (WDecl Ref) → List Broken
lift_phase ds = broken_lifts (core_effects ds) [] (core_lifts ds) (map (λ l. l.place) (lifts_of ds))

-- the broken rule that answers: names, effect definitions and texts of lifts, lifts, functions
abbrev pub front_refusal : List (WDecl Word) → Option Broken
front_refusal ds = phase (broken_names ds) (phase (broken_definitions (named ds)) (phase (lift_phase (named ds)) (phase (broken_funs (named ds)) None)))

-- the program that the declarations are
abbrev pub program_of : List (WDecl Word) → Prog
program_of ds = core_program (named ds)

-- a program that the laws on runs speak of
pub record IsWellFormed (P : Prog) : Type 0 where
  pub sorted : IsSorted P
  pub disciplined : IsDisciplined P

-- a text that the grammar gives, and that isn't refused, is a well-sorted program that obeys the discipline
abbrev pub FrontLaw : List (WDecl Word) → Type 0
FrontLaw ds = IsTrue (are_written ds) → front_refusal ds ≡ None → IsWellFormed (program_of ds)
