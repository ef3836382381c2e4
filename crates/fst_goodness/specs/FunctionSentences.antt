-- The main sentence on a program's facts.
use Rattle.std.specs.Prelude.{◌≡◌, ℕ, ◌<◌, List, [], Some, IsTrue}
use Rattle.fst_base.specs.Sorts.{Srt}
use Rattle.fst_terms.specs.Meaning.{Env, Meaning, AllTrue, Sqt, HasVars}
use Rattle.fst_program.specs.Texts.{Fn, Prog, fun_at, is_total}
use Rattle.fst_program.specs.Applications.{IsMeaning}
use Rattle.fst_program.specs.Good.{Good}
use Rattle.fst_program.specs.Sorted.{Applies, IsSorted}
use Rattle.fst_terms.specs.Sentences.{IsSequent}
use Rattle.fst_program.specs.Discipline.{IsDisciplined}
use Rattle.fst_program.specs.FunctionFacts.{function_facts}

-- all functions before n are good
abbrev pub GoodBelow : Prog → Meaning → ℕ → Type 0
GoodBelow P M n = (k : ℕ) (f : Fn) → fun_at P k ≡ Some f → f.group < n → Good P M f

-- the applications of functions without DIV that stand in groups before n
abbrev pub AppliesBelow : Prog → ℕ → (k : ℕ) → List Srt → (S : Srt) → Type 0
AppliesBelow P n k Ss S = Applies P k Ss S × ((f : Fn) → fun_at P k ≡ Some f → (f.group < n) × IsTrue (is_total P f.effect))

-- where the functions of the first n groups are good and the sequent applies these alone, the facts of functions are formulas of the same
-- kind, and true
pub record FactsHold (P : Prog) (M : Meaning) (n : ℕ) (s : Sqt) (depth : ℕ) : Type 0 where
  pub formed : IsSequent (AppliesBelow P n) s (function_facts P s depth)
  pub holds : (e : Env) → HasVars s.vars e → AllTrue M (function_facts P s depth) e

abbrev pub FunctionFactsTrue : Prog → Type 0
FunctionFactsTrue P =
    IsSorted P → IsDisciplined P → (M : Meaning) → IsMeaning P M → (n : ℕ) → GoodBelow P M n → (s : Sqt) (depth : ℕ) → IsSequent (AppliesBelow P n) s [] → FactsHold P M n s depth
