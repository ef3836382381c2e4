-- What the search for an open branch answers.
use Rattle.std.specs.Prelude.{◌≡◌, List, [], Option, Some, None}
use Rattle.fst_terms.specs.Meaning.{Meaning, IsValid, Sqt}
use Rattle.fst_terms.specs.Flats.{Flt, flat_of, plain_flat, IsOpen, IsFirstOpen}
use Rattle.fst_terms.specs.declared.flat.Branch.{Branch}
use Rattle.fst_terms.specs.declared.flat.Mark.{Mark}
use Rattle.fst_top.specs.declared.branches.Verdict.{Verdict}
use Rattle.fst_top.specs.declared.branches.Verdict.TheVariants as verdict

-- the first open branch, or none
abbrev pub FirstOpen : Flt → Option Branch → Type 0
FirstOpen f (Some branch) = IsFirstOpen f branch.marks
FirstOpen f None = (ms : List Mark) → IsOpen f ms → ⊥

-- the flat form is that of the sequent, these marks are its first open branch, and the sequent isn't valid
pub record IsRefuted (s : Sqt) (f : Flt) (ms : List Mark) : Type 0 where
  pub flat : f ≡ flat_of s []
  pub first : IsFirstOpen f ms
  pub invalid : (M : Meaning) → IsValid M s → ⊥

-- the sequent is valid, or a branch refutes it
abbrev pub Judged : Sqt → Verdict → Type 0
Judged s verdict.Valid = (M : Meaning) → IsValid M s
Judged s (verdict.Open flat branch) = IsRefuted s (plain_flat flat) branch.marks
