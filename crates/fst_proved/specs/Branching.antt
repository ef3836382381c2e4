-- Every environment of a flat form agrees with exactly one branch.
use Rattle.std.specs.Prelude.{ℕ}
use Rattle.fst_terms.specs.Sentences.{BranchThere}
use Rattle.fst_program.specs.Texts.{Prog}
use Rattle.fst_goodness.specs.FunctionSentences.{AppliesBelow}

-- for flat forms of well-sorted formulas that apply functions without DIV of groups before n
abbrev pub BranchLaw : Prog → Type 0
BranchLaw P = (n : ℕ) → BranchThere (AppliesBelow P n)
