-- What the steps of an answer give.
use Rattle.std.specs.Prelude.{◌≡◌, ◌⊎◌, ◌<◌, ◌≤◌, ◌^◌, ℕ, List, [], ◌∷◌, length, map, Option, Some, None, ⊤}
use Rattle.fst_base.specs.declared.value.Value.{Value}
use Rattle.fst_base.specs.Sorts.{Srt}
use Rattle.fst_base.specs.Values.{Val, v_unit, plain_value}
use Rattle.fst_terms.specs.Meaning.{Meaning, IsValid}
use Rattle.fst_terms.specs.Flats.{flat_of, IsFirstOpen}
use Rattle.fst_terms.specs.declared.flat.Mark.{Mark}
use Rattle.fst_program.specs.Texts.{Prm, Prog}
use Rattle.fst_program.specs.Plain.{plain_program}
use Rattle.fst_program.specs.Erasure.{erased_run}
use Rattle.fst_program.specs.Paths.{Gl, goals_of, GoalsValid}
use Rattle.fst_program.specs.Runs.{Outcome}
use Rattle.fst_top.specs.declared.arguments.Arguments.{Arguments}
use Rattle.fst_top.specs.declared.arguments.Arguments.TheVariants as arguments
use Rattle.fst_top.specs.declared.judging.Judged.{Judged}
use Rattle.fst_top.specs.declared.judging.Judged.TheVariants as judged
use Rattle.fst_top.specs.declared.reading.Reading.{Reading}
use Rattle.fst_top.specs.declared.reading.Reading.TheVariants as reading
use Rattle.fst_top.specs.declared.status.Answer.{Answer}
use Rattle.fst_top.specs.Statuses.{number_of}
use Rattle.fst_top.specs.Printed.{no_text}
use Rattle.fst_top.specs.Built.{IsBuilt}
use Rattle.fst_top.specs.Arguments.{IsArgument, AreArguments, IsBadArgument}
use Rattle.fst_top.specs.Answers.{Reads, Checked, IsUnread, IsNoOf, Ended, Ran}

-- the answer of `check` over the text
abbrev pub IsAnswer : (text : List ℕ) → Answer → Type 0
IsAnswer text a = Checked text (number_of a.status) a.text

-- the program of the text, or the answer where it is none of the first programs
abbrev pub IsRead : (text : List ℕ) → Reading → Type 0
IsRead text (reading.Program p) = Reads text (plain_program p) × IsBuilt (plain_program p) × (length p.funs ≤ 1000)
IsRead text (reading.Refused a) = (number_of a.status ≡ 2) × IsUnread text a.text

-- all goals are valid, and there are so many; or the text is a no about the first that isn't
abbrev pub IsJudged : (text : List ℕ) → Prog → List Gl → Judged → Type 0
IsJudged text P gs (judged.Valid n) = (n ≡ length gs) × ((M : Meaning) → GoalsValid M gs)
IsJudged text P gs (judged.No printed) = IsNoOf P gs text printed

-- the number of goals is less than this one
abbrev pub AreFewer : (most : ℕ) → Judged → Type 0
AreFewer most (judged.Valid n) = n < most
AreFewer most (judged.No printed) = ⊤

-- a no about one goal, with its first open branch
pub record IsNoAbout (text : List ℕ) (P : Prog) (g : Gl) (printed : List ℕ) : Type 0 where
  pub marks : List Mark
  pub open_branch : IsFirstOpen (flat_of g.sequent []) marks
  pub fails : (M : Meaning) → IsValid M g.sequent → ⊥
  pub text_is : printed ≡ no_text P g marks text

-- the goal is valid, or the text is a no about it
abbrev pub IsJudgedGoal : (text : List ℕ) → Prog → Gl → Option (List ℕ) → Type 0
IsJudgedGoal text P g None = (M : Meaning) → IsValid M g.sequent
IsJudgedGoal text P g (Some printed) = IsNoAbout text P g printed

-- ---- runs

-- the value that the word is, or there is none
abbrev pub IsArgumentRead : Srt → (word : List ℕ) → Option Value → Type 0
IsArgumentRead S word None = (v : Val) → IsArgument S word v → ⊥
IsArgumentRead S word (Some v) = IsArgument S word (plain_value v)

-- the values of the words, or the first word that is bad
abbrev pub IsTaken : List Prm → (words : List (List ℕ)) → Arguments → Type 0
IsTaken ps ws (arguments.Values vs) = AreArguments ps ws (map plain_value vs)
IsTaken ps ws (arguments.Bad k) = IsBadArgument ps ws k × (k < 2 ^ 127)

-- the answer is the end of a run with this outcome
abbrev pub IsEnd : Outcome → Answer → Type 0
IsEnd o a = Ended o (number_of a.status) a.text

-- the answer where function k is run on some values: a no, or the end of the run
abbrev pub IsProvedRun : (text : List ℕ) → Prog → (k fuel : ℕ) → List Val → Answer → Type 0
IsProvedRun text P k fuel vs a =
    ((number_of a.status ≡ 1) × IsNoOf P (goals_of P) text a.text)
    ⊎ (((M : Meaning) → GoalsValid M (goals_of P)) × IsEnd (erased_run P k fuel vs v_unit) a)

-- the answer of `run` over the text
abbrev pub IsRunAnswer : (text : List ℕ) → (fuel : ℕ) → (words : List (List ℕ)) → Answer → Type 0
IsRunAnswer text fuel words a = Ran text fuel words (number_of a.status) a.text
