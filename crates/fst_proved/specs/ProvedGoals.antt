-- Where the flat form of each goal of a program has a proof, every function of it is good.
use Rattle.std.specs.Prelude.{◌≡◌, ℕ, List, [], ◌∷◌, Some, ⊤}
use Rattle.fst_terms.specs.Meaning.{Meaning}
use Rattle.fst_program.specs.Texts.{Fn, Prog, fun_at}
use Rattle.fst_program.specs.Good.{AllGood}
use Rattle.fst_program.specs.Applications.{IsMeaning}
use Rattle.fst_program.specs.Paths.{Gl, fun_goals, goals_of, GoalsValid}
use Rattle.fst_program.specs.Sorted.{IsSorted}
use Rattle.fst_cert.specs.declared.line.Line.{Line}
use Rattle.fst_program.specs.Discipline.{IsDisciplined}
use Rattle.fst_program.specs.FunctionFacts.{flat_in}
use Rattle.fst_cert.specs.Proving.{Proves}
use Rattle.fst_terms.specs.Sentences.{KeepsSorts, IsFlat, IsTrueFlat}
use Rattle.fst_goodness.specs.FunctionSentences.{AppliesBelow}

-- each of these goals of function k has a proof of its flat form
abbrev pub AllProved : Prog → (k : ℕ) → List Gl → Type 0
AllProved P k [] = ⊤
AllProved P k (g ∷ gs) = ((ls : List Line) × Proves (flat_in P k g.sequent) ls) × AllProved P k gs

-- the flat form of each goal of each function has a proof; its facts are of the functions that the goal applies, which stand in groups before
abbrev pub GoalsProved : Prog → Type 0
GoalsProved P = (k : ℕ) (f : Fn) → fun_at P k ≡ Some f → AllProved P k (fun_goals P k)

abbrev pub ProvedGoalsLaw : Prog → Type 0
ProvedGoalsLaw P =
    IsSorted P → IsDisciplined P → (M : Meaning) → IsMeaning P M → GoalsProved P → GoalsValid M (goals_of P) × AllGood P M

-- the same where each flat form is known to be true once the functions of earlier groups are good, by a proof or otherwise
abbrev pub AllTrueFlats : Prog → Meaning → (n k : ℕ) → List Gl → Type 0
AllTrueFlats P M n k [] = ⊤
AllTrueFlats P M n k (g ∷ gs) = IsTrueFlat (AppliesBelow P n) M (flat_in P k g.sequent) × AllTrueFlats P M n k gs

-- these flat forms are of well-sorted formulas of functions of groups before n
abbrev pub AllFlat : Prog → (n k : ℕ) → List Gl → Type 0
AllFlat P n k [] = ⊤
AllFlat P n k (g ∷ gs) = IsFlat (AppliesBelow P n) (flat_in P k g.sequent) × AllFlat P n k gs

abbrev pub TrueFlatsLaw : Prog → Type 0
TrueFlatsLaw P =
    IsSorted P → IsDisciplined P → (M : Meaning) → IsMeaning P M
    → ((k : ℕ) (f : Fn) → fun_at P k ≡ Some f → KeepsSorts (AppliesBelow P f.group) M → AllFlat P f.group k (fun_goals P k) → AllTrueFlats P M f.group k (fun_goals P k))
    → GoalsValid M (goals_of P) × AllGood P M
