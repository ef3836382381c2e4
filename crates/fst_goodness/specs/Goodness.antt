-- Where every goal of a program is valid, every function of it is good.
use Rattle.std.specs.Prelude.{◌≡◌, ℕ, ◌≤◌, ◌<◌, List, Some, IsTrue}
use Rattle.fst_base.specs.Values.{Val, Has, HasSorts}
use Rattle.fst_terms.specs.Meaning.{Meaning}
use Rattle.fst_program.specs.Texts.{Fn, Prog, fun_at, result_sort, is_total}
use Rattle.fst_program.specs.Good.{HaveAll, HasInput, Pre, Post, Good, AllGood}
use Rattle.fst_program.specs.Applications.{IsMeaning, split}
use Rattle.fst_program.specs.Paths.{fun_goals, goals_of, GoalsValid}
use Rattle.fst_program.specs.Sorted.{place_of, InputHas, param_sorts, IsSorted}
use Rattle.fst_program.specs.Discipline.{IsDisciplined}

-- where the goals of all functions up to group n are valid, these functions are good: so the goals of one group may rest on the good
-- functions of earlier ones
abbrev pub GroupLaw : Prog → Type 0
GroupLaw P = IsSorted P → IsDisciplined P → (M : Meaning) → IsMeaning P M → (n : ℕ)
    → ((k : ℕ) (f : Fn) → fun_at P k ≡ Some f → f.group ≤ n → GoalsValid M (fun_goals P k))
    → (k : ℕ) (f : Fn) → fun_at P k ≡ Some f → f.group ≤ n → Good P M f

abbrev pub GoodLaw : Prog → Type 0
GoodLaw P = IsSorted P → IsDisciplined P → (M : Meaning) → IsMeaning P M → GoalsValid M (goals_of P) → AllGood P M

-- applications on arguments and an input of their sorts have a value of their sort
abbrev pub MeaningSortLaw : Prog → Type 0
MeaningSortLaw P = IsSorted P → (M : Meaning) → IsMeaning P M → (k : ℕ) (f : Fn) (vs : List Val) → fun_at P k ≡ Some f
    → HasSorts (param_sorts P f) (split f.effect vs).0 → InputHas P (place_of f.effect) (split f.effect vs).1 → Has (result_sort P f.effect f.sort) (M k vs)

-- where the goals of each group are valid once the functions of earlier groups are good, all goals are valid and all functions good:
-- facts on applied functions may be used in a group's goals
abbrev pub StepLaw : Prog → Type 0
StepLaw P = IsSorted P → IsDisciplined P → (M : Meaning) → IsMeaning P M
    → ((n : ℕ) → ((k : ℕ) (f : Fn) → fun_at P k ≡ Some f → f.group < n → Good P M f) → (k : ℕ) (f : Fn) → fun_at P k ≡ Some f → f.group ≡ n → GoalsValid M (fun_goals P k))
    → GoalsValid M (goals_of P) × AllGood P M

-- the application of a good total function, on arguments and an input that meet what it asks for, has a value that meets its ensures
abbrev pub ApplicationLaw : Prog → Type 0
ApplicationLaw P = (M : Meaning) → IsMeaning P M → (k : ℕ) (f : Fn) (vs : List Val) → fun_at P k ≡ Some f → Good P M f → IsTrue (is_total P f.effect)
    → HaveAll f.params (split f.effect vs).0 → HasInput P f.effect (split f.effect vs).1 → Pre M f (split f.effect vs).0 (split f.effect vs).1
    → Post M f (split f.effect vs).0 (split f.effect vs).1 (M k vs)
