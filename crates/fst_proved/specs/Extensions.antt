-- The facts of a flat form are true: every environment of a sequent goes on to one of its flat form in which they are.
use Rattle.std.specs.Prelude.{ℕ, []}
use Rattle.fst_terms.specs.Meaning.{Env, Meaning, HasVars, Sqt}
use Rattle.fst_terms.specs.Sentences.{IsSequent, Extends}
use Rattle.fst_program.specs.Texts.{Prog}
use Rattle.fst_program.specs.Applications.{IsMeaning}
use Rattle.fst_program.specs.Discipline.{IsDisciplined}
use Rattle.fst_program.specs.FunctionFacts.{flat_in}
use Rattle.fst_program.specs.Sorted.{IsSorted}
use Rattle.fst_goodness.specs.FunctionSentences.{GoodBelow, AppliesBelow}

-- where a sequent names functions without DIV of groups before n alone, and all functions of these groups are good, each environment of the
-- sequent goes on to the flat form's variables: the facts of functions and names, the data facts and the arrangements are true in it, and
-- hypotheses and goal are true in it exactly where they were
abbrev pub FactsExtend : Prog → Type 0
FactsExtend P =
    IsSorted P → IsDisciplined P → (M : Meaning) → IsMeaning P M → (n : ℕ) → GoodBelow P M n → (k : ℕ) (s : Sqt) → IsSequent (AppliesBelow P n) s []
    → (e : Env) → HasVars s.vars e → Extends (AppliesBelow P n) M s (flat_in P k s) e
