-- A proof of the flat form of a sequent shows that the sequent is valid.
use Rattle.std.specs.Prelude.{ℕ, List, []}
use Rattle.fst_terms.specs.Meaning.{Meaning, IsValid, Sqt}
use Rattle.fst_program.specs.Texts.{Prog}
use Rattle.fst_program.specs.Applications.{IsMeaning}
use Rattle.fst_program.specs.Sorted.{IsSorted}
use Rattle.fst_cert.specs.declared.line.Line.{Line}
use Rattle.fst_cert.specs.Proving.{Proves}
use Rattle.fst_program.specs.FunctionFacts.{flat_in}
use Rattle.fst_terms.specs.Sentences.{KeepsSorts, IsSequent, IsFlat, IsTrueFlat}
use Rattle.fst_program.specs.Discipline.{IsDisciplined}
use Rattle.fst_goodness.specs.FunctionSentences.{GoodBelow, AppliesBelow}

-- the flat form of a sequent is one of well-sorted formulas, and where it is true the sequent is valid
pub record FlatStands (P : Prog) (M : Meaning) (n : ℕ) (k : ℕ) (s : Sqt) : Type 0 where
  pub keeps : KeepsSorts (AppliesBelow P n) M
  pub flat : IsFlat (AppliesBelow P n) (flat_in P k s)
  pub shows : IsTrueFlat (AppliesBelow P n) M (flat_in P k s) → IsValid M s

abbrev pub FlatShows : Prog → Type 0
FlatShows P =
    IsSorted P → IsDisciplined P → (M : Meaning) → IsMeaning P M → (n : ℕ) → GoodBelow P M n → (k : ℕ) (s : Sqt) → IsSequent (AppliesBelow P n) s []
    → FlatStands P M n k s

-- so a proof of the flat form of a sequent shows that the sequent is valid
abbrev pub ProofShows : Prog → Type 0
ProofShows P =
    IsSorted P → IsDisciplined P → (M : Meaning) → IsMeaning P M → (n : ℕ) → GoodBelow P M n → (k : ℕ) (s : Sqt) (ls : List Line) → IsSequent (AppliesBelow P n) s []
    → Proves (flat_in P k s) ls → IsValid M s
