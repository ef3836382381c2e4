-- Which text and status are due for which words and bytes.
use Rattle.std.specs.Prelude.{◌≡◌, ◌⊎◌, ℕ, ◌<◌, ◌≤◌, ◌^◌, nat_lt, nat_le, Bool, true, false, ◌&&◌, not, if◌then◌else◌, List, [], ◌∷◌, ◌++◌, length, Option, Some, None, codes, bytes_eq}
use Rattle.std.specs.Char.{is_ascii_digit}
use Rattle.std.specs.List.{list_all, list_any}
use Rattle.std.specs.Str.Parse.{digits_value}
use Rattle.fst_base.specs.declared.place.Pos.{Pos}
use Rattle.fst_base.specs.declared.rule.Rule.{Rule}
use Rattle.fst_base.specs.declared.rule.Rule.TheVariants as rule
use Rattle.fst_base.specs.Values.{Val, v_unit}
use Rattle.fst_text.specs.Scans.{tokens, token_text}
use Rattle.fst_terms.specs.Meaning.{Meaning, IsValid}
use Rattle.fst_terms.specs.Flats.{flat_of, IsFirstOpen}
use Rattle.fst_terms.specs.declared.flat.Mark.{Mark}
use Rattle.fst_program.specs.Texts.{Fn, Prog, fun_at}
use Rattle.fst_program.specs.Entry.{main_of}
use Rattle.fst_program.specs.Erasure.{erased_run}
use Rattle.fst_program.specs.Paths.{Gl, goals_of, GoalsValid}
use Rattle.fst_program.specs.Runs.{Outcome, Done, Out}
use Rattle.fst_trees.specs.declared.word.Word.{Word}
use Rattle.fst_trees.specs.declared.decl.Decl.{Decl}
use Rattle.fst_syntax.specs.Program.{IsProgram, IsRefused}
use Rattle.fst_top.specs.Arguments.{AreArguments, IsBadArgument}
use Rattle.fst_top.specs.Elaboration.{only_if, program_of}
use Rattle.fst_top.specs.Printed.{refusal_text, plain_refusal_text, bad_argument_text, not_built_text, read_fault_text, yes_text, no_text, value_text, out_of_fuel_text}
use Rattle.fst_top.specs.Help.{help_text, version_text}

-- ---- what a text is

-- the greatest number of bytes of a file
abbrev pub longest : ℕ
longest = 2 ^ 20

-- the word stands among the tokens of the text
abbrev pub has_word : (text word : List ℕ) → Bool
has_word text word = list_any (λ t. bytes_eq (token_text text t) word) (tokens text)

-- the program of these declarations, where it is one of the first programs: no depth of unfolding is written either
abbrev pub program_in : (text : List ℕ) → List (Decl Word) → Option Prog
program_in text decls = only_if (not (has_word text (codes "unfold"))) (program_of decls)

-- the text is one of the first programs
pub record Reads (text : List ℕ) (P : Prog) : Type 0 where
  pub decls : List (Decl Word)
  pub program : IsProgram text decls
  pub first : program_in text decls ≡ Some P

-- ---- the answers of `check`

-- every goal is valid
pub record IsYes (text printed : List ℕ) : Type 0 where
  pub P : Prog
  pub reads : Reads text P
  pub valid : (M : Meaning) → GoalsValid M (goals_of P)
  pub text_is : printed ≡ yes_text P

-- the first of these goals that isn't valid, and its first open branch; all before it are valid
pub record FirstNo (goals : List Gl) (goal : Gl) (marks : List Mark) : Type 0 where
  pub before : List Gl
  pub after : List Gl
  pub goals_are : goals ≡ before ++ goal ∷ after
  pub valid : (M : Meaning) → GoalsValid M before
  pub open_branch : IsFirstOpen (flat_of goal.sequent []) marks
  pub fails : (M : Meaning) → IsValid M goal.sequent → ⊥

-- a no about the first of these goals that isn't valid
pub record IsNoOf (P : Prog) (goals : List Gl) (text printed : List ℕ) : Type 0 where
  pub goal : Gl
  pub marks : List Mark
  pub first : FirstNo goals goal marks
  pub text_is : printed ≡ no_text P goal marks text

-- some goal isn't valid
pub record IsNo (text printed : List ℕ) : Type 0 where
  pub P : Prog
  pub reads : Reads text P
  pub no : IsNoOf P (goals_of P) text printed

-- a rule of reading is broken
pub record IsRefusal (text printed : List ℕ) : Type 0 where
  pub short : length text ≤ longest
  pub broken : Rule
  pub at : Pos
  pub refused : IsRefused text broken at
  pub text_is : printed ≡ refusal_text broken text at.at

-- it is a program, and not one of the first programs
pub record IsUnbuilt (text printed : List ℕ) : Type 0 where
  pub decls : List (Decl Word)
  pub program : IsProgram text decls
  pub other : program_in text decls ≡ None
  pub text_is : printed ≡ not_built_text

abbrev pub TooLong : (text printed : List ℕ) → Type 0
TooLong text printed = (longest < length text) × (printed ≡ plain_refusal_text rule.TooLong)

-- the file isn't read as one of the first programs
abbrev pub IsUnread : (text printed : List ℕ) → Type 0
IsUnread text printed = TooLong text printed ⊎ IsRefusal text printed ⊎ IsUnbuilt text printed

-- the status and the text of `check` over the bytes of a file
abbrev pub Checked : (text : List ℕ) → (status : ℕ) → (printed : List ℕ) → Type 0
Checked text status printed =
    ((status ≡ 0) × IsYes text printed)
    ⊎ ((status ≡ 1) × IsNo text printed)
    ⊎ ((status ≡ 2) × IsUnread text printed)

-- ---- the answers of `run`

-- the function that a run begins with
pub record Main (text : List ℕ) : Type 0 where
  pub P : Prog
  pub reads : Reads text P
  pub number : ℕ
  pub is_main : main_of P ≡ Some number
  pub fun : Fn
  pub there : fun_at P number ≡ Some fun

-- that function, and the values that the argument words are
pub record Entry (text : List ℕ) (words : List (List ℕ)) : Type 0 where
  pub main : Main text
  pub values : List Val
  pub arguments : AreArguments main.fun.params words values

-- no function is named main
pub record IsMainless (text printed : List ℕ) : Type 0 where
  pub P : Prog
  pub reads : Reads text P
  pub none : main_of P ≡ None
  pub text_is : printed ≡ plain_refusal_text rule.NoMain

-- an argument word is missing, is one too many, or is no value of its sort
pub record IsMisfit (text : List ℕ) (words : List (List ℕ)) (printed : List ℕ) : Type 0 where
  pub main : Main text
  pub word : ℕ
  pub bad : IsBadArgument main.fun.params words word
  pub text_is : printed ≡ bad_argument_text word

-- some goal isn't valid, so nothing runs
pub record IsUnproved (text : List ℕ) (words : List (List ℕ)) (printed : List ℕ) : Type 0 where
  pub entry : Entry text words
  pub no : IsNoOf entry.main.P (goals_of entry.main.P) text printed

-- the status and the text of a run with this outcome; the first programs meet no other outcomes
abbrev pub Ended : Outcome → (status : ℕ) → (printed : List ℕ) → Type 0
Ended (Done v left) status printed = (status ≡ 0) × (printed ≡ value_text v)
Ended Out status printed = (status ≡ 4) × (printed ≡ out_of_fuel_text)
Ended _ status printed = ⊥

-- every goal is valid, and main of the erased program is run
pub record IsRun (text : List ℕ) (fuel : ℕ) (words : List (List ℕ)) (status : ℕ) (printed : List ℕ) : Type 0 where
  pub entry : Entry text words
  pub valid : (M : Meaning) → GoalsValid M (goals_of entry.main.P)
  pub ended : Ended (erased_run entry.main.P entry.main.number fuel entry.values v_unit) status printed

-- the status and the text of `run` over the bytes of a file
abbrev pub Ran : (text : List ℕ) → (fuel : ℕ) → (words : List (List ℕ)) → (status : ℕ) → (printed : List ℕ) → Type 0
Ran text fuel words status printed =
    ((status ≡ 2) × IsUnread text printed)
    ⊎ ((status ≡ 3) × IsMainless text printed)
    ⊎ ((status ≡ 3) × IsMisfit text words printed)
    ⊎ ((status ≡ 1) × IsUnproved text words printed)
    ⊎ IsRun text fuel words status printed

-- ---- commands

-- the most units of fuel
abbrev pub most_fuel : ℕ
most_fuel = 10000000

-- the fuel that the word is: decimal digits
abbrev pub fuel_of : (word : List ℕ) → Option ℕ
fuel_of word = if nat_lt 0 (length word) && list_all is_ascii_digit word && nat_le (digits_value 10 word) most_fuel then Some (digits_value 10 word) else None

pub data Command : Type 0 where
  help : Command
  version : Command
  check : (file : List ℕ) → Command
  run : (file : List ℕ) → (fuel : ℕ) → (words : List (List ℕ)) → Command
  bad_fuel : Command

-- `run` with the fuel that its word is
abbrev pub run_with : Option ℕ → (file : List ℕ) → (words : List (List ℕ)) → Command
run_with None file words = bad_fuel
run_with (Some fuel) file words = run file fuel words

-- the command that the words are
abbrev pub command_of : List (List ℕ) → Option Command
command_of (word ∷ []) = if bytes_eq word (codes "--help") then Some help else if bytes_eq word (codes "--version") then Some version else None
command_of (word ∷ file ∷ []) = if bytes_eq word (codes "check") then Some (check file) else None
command_of (word ∷ file ∷ fuel ∷ words) = if bytes_eq word (codes "run") then Some (run_with (fuel_of fuel) file words) else None
command_of _ = None

-- the file that a command fetches
abbrev pub file_of : Option Command → Option (List ℕ)
file_of (Some (check file)) = Some file
file_of (Some (run file fuel words)) = Some file
file_of _ = None

-- the status and the text that are due for a command, where each file has the bytes that are given
abbrev pub DueTo : Option Command → (given : List ℕ → List ℕ) → (status : ℕ) → (printed : List ℕ) → Type 0
DueTo None given status printed = (status ≡ 3) × (printed ≡ plain_refusal_text rule.BadWords)
DueTo (Some help) given status printed = (status ≡ 0) × (printed ≡ help_text)
DueTo (Some version) given status printed = (status ≡ 0) × (printed ≡ version_text)
DueTo (Some (check file)) given status printed = Checked (given file) status printed
DueTo (Some (run file fuel words)) given status printed = Ran (given file) fuel words status printed
DueTo (Some bad_fuel) given status printed = (status ≡ 3) × (printed ≡ plain_refusal_text rule.BadFuel)

-- those that are due for the words
abbrev pub Due : (words : List (List ℕ)) → (given : List ℕ → List ℕ) → (status : ℕ) → (printed : List ℕ) → Type 0
Due words given status printed = DueTo (command_of words) given status printed

-- a fetch or a put failed, or memory wanted
abbrev pub IsFault : (status : ℕ) → Type 0
IsFault status = (status ≡ 7) ⊎ (status ≡ 8) ⊎ (status ≡ 10)
