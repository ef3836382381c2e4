-- What erasure keeps: the outcomes of good functions, sorts, and what a run of code relies on.
use Rattle.std.specs.Prelude.{◌≡◌, ℕ, true, false, if◌then◌else◌, List, [], ◌∷◌, Some, IsTrue}
use Rattle.fst_base.specs.Values.{Val}
use Rattle.fst_terms.specs.Meaning.{Meaning}
use Rattle.fst_program.specs.Texts.{Prm, Fn, Prog, fun_at, is_ghost, is_total}
use Rattle.fst_program.specs.Erasure.{erased, erased_run}
use Rattle.fst_program.specs.Good.{HaveAll, HasInput, Pre, Post, IsFine, IsOver, Settles, body_run, AllGood}
use Rattle.fst_program.specs.Sorted.{IsSorted}
use Rattle.fst_program.specs.Discipline.{IsDisciplined}
use Rattle.fst_code.specs.Sound.{is_sound}

-- the arguments of the parameters that aren't ghost ones
abbrev pub shown_values : List Prm → List Val → List Val
shown_values [] vs = vs
shown_values (p ∷ ps) [] = []
shown_values (p ∷ ps) (v ∷ vs) = if p.hidden then shown_values ps vs else v ∷ shown_values ps vs

module _ (P : Prog) (M : Meaning) where
  -- what the erased run of function k does: the bounded run of the program has its outcome, from some allowance on; the outcome is fine,
  -- and without DIV some fuel ends the run
  pub record IsKept (k : ℕ) (f : Fn) (vs : List Val) (s : Val) : Type 0 where
    pub same : (F : ℕ) → Settles (body_run P M f vs s true F) (λ o. erased_run P k F (shown_values f.params vs) s ≡ o)
    pub fine : (F : ℕ) → IsFine (Post M f vs s) (erased_run P k F (shown_values f.params vs) s)
    pub ends : IsTrue (is_total P f.effect) → (F : ℕ) × IsOver (erased_run P k F (shown_values f.params vs) s)

-- where all functions are good, erasure keeps the outcomes of those that aren't GHOST, on arguments and an input of their sorts that meet
-- refinements and requires
abbrev pub ErasureKeeps : Prog → Type 0
ErasureKeeps P =
    IsSorted P → IsDisciplined P → (M : Meaning) → AllGood P M → (k : ℕ) (f : Fn) (vs : List Val) (s : Val) → fun_at P k ≡ Some f → is_ghost f.effect ≡ false
    → HaveAll f.params vs → HasInput P f.effect s → Pre M f vs s → IsKept P M k f vs s

abbrev pub ErasedSorted : Prog → Type 0
ErasedSorted P = IsSorted P → IsDisciplined P → IsSorted (erased P)

abbrev pub ErasedSound : Prog → Type 0
ErasedSound P = IsSorted P → IsDisciplined P → IsTrue (is_sound (erased P))
