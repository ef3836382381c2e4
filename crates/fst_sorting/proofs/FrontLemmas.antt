-- A program that isn't refused is well sorted and keeps the discipline.
use Rattle.std.proofs.Common.{◌≡◌, Bool, true, false, List, [], ◌∷◌, Option, Some, None, IsTrue, refl, if◌then◌else◌}
use Rattle.fst_trees.specs.declared.word.Word.{Word}
use Rattle.fst_program.specs.Sorted.{IsSorted}
use Rattle.fst_program.specs.Discipline.{IsDisciplined}
use Rattle.fst_names.specs.declared.broken.Broken.{Broken}
use Rattle.fst_names.specs.Broken.{first_broken, least, is_before}
use Rattle.fst_names.specs.Names.{start, named, broken_names}
use Rattle.fst_names.specs.Trees.{WDecl}
use Rattle.fst_effects.specs.Definitions.{broken_definitions}
use Rattle.fst_sorting.specs.Functions.{broken_funs}
use Rattle.fst_sorting.specs.Written.{are_written}
use Rattle.fst_sorting.specs.Front.{phase, lift_phase, front_refusal, program_of, FrontLaw}
use Rattle.fst_sorting.proofs.ProgramLemmas.{program-sorted}
use Rattle.fst_sorting.proofs.DeclarationLemmas.{program-scoped}
use Rattle.fst_sorting.proofs.DisciplineLemmas.{funs-up-to, program-disciplined}

some-first : (b : Broken) (o : Option Broken) → least (Some b) o ≡ None → ⊥
some-first b None e = cc
some-first b (Some c) e = go (is_before b c) e
  where
    go : (t : Bool) → (if t then Some b else Some c) ≡ None → ⊥
    go true e = cc
    go false e = cc

-- a phase that refuses nothing leaves the later ones
phase-none : (bs : List Broken) (o : Option Broken) → phase bs o ≡ None → (bs ≡ []) × (o ≡ None)
phase-none [] o e = (refl, e)
phase-none (b ∷ bs) o e = absurd (some-first b (first_broken bs) e)

-- no rule of any phase is broken
pub record Unbroken (ds : List (WDecl Word)) : Type 0 where
  pub names : broken_names ds ≡ []
  pub definitions : broken_definitions (named ds) ≡ []
  pub lifts : lift_phase (named ds) ≡ []
  pub funs : broken_funs (named ds) ≡ []

pub unrefused-unbroken : (ds : List (WDecl Word)) → front_refusal ds ≡ None → Unbroken ds
unrefused-unbroken ds e =
    let one = phase-none (broken_names ds) _ e in
    let two = phase-none (broken_definitions (named ds)) _ one.1 in
    let three = phase-none (lift_phase (named ds)) _ two.1 in
    let four = phase-none (broken_funs (named ds)) _ three.1 in
    record { names = one.0; definitions = two.0; lifts = three.0; funs = four.0 }

-- the first half of the law of the front
pub front-sorted : (ds : List (WDecl Word)) → IsTrue (are_written ds) → front_refusal ds ≡ None → IsSorted (program_of ds)
front-sorted ds w e =
    let u = unrefused-unbroken ds e in
    program-sorted (named ds) (program-scoped ds w u.names) u.definitions u.funs

pub front-disciplined : (ds : List (WDecl Word)) → IsTrue (are_written ds) → front_refusal ds ≡ None → IsDisciplined (program_of ds)
front-disciplined ds w e =
    let u = unrefused-unbroken ds e in
    program-disciplined (named ds) (program-scoped ds w u.names) (λ k f g. funs-up-to ds start ds k f w u.names g) u.lifts u.funs

-- the law of the front
pub front-law : (ds : List (WDecl Word)) → FrontLaw ds
front-law ds w e = record { sorted = front-sorted ds w e; disciplined = front-disciplined ds w e }
