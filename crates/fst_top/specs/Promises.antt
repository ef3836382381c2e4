-- What the top call promises of each call of it.
use Rattle.std.specs.Prelude.{◌≡◌, ◌⊎◌, ℕ, List, Option, Some, take}
use Rattle.fst_base.specs.Values.{Val}
use Rattle.fst_outside.specs.Outside.{bytes_given, with_piece, IsOneMore}
use Rattle.fst_terms.specs.Meaning.{Meaning}
use Rattle.fst_program.specs.Texts.{Prog}
use Rattle.fst_program.specs.Good.{AllGood}
use Rattle.fst_top.specs.Answers.{check, run, help, version, command_of, Reads, Entry, Due, IsFault}
use Rattle.fst_top.specs.Headline.{Gives, RunsOut, RunsWell}
use Rattle.fst_top.specs.Help.{help_text, version_text}
use Rattle.fst_top.specs.Outcomes.{Fetched, Given}
use Rattle.fst_top.specs.Printed.{read_fault_text, value_text, out_of_fuel_text}

-- the bytes of the file of a name: those that the shelf tells, else those that it read in the call
abbrev pub given_by : (told : List ℕ → Option (List ℕ)) → (read : List ℕ) → (file : List ℕ) → List ℕ
given_by told read file = bytes_given (told file) read

-- A call with these words, over a shelf that gives these bytes, tells these names as fetched before and after, and failed where
-- `unread` holds; and over a sink that holds these bytes before and after, counts these calls, and failed where `unwritten`
-- holds. It ends with this status.
pub record Promises (words : List (List ℕ)) (given : List ℕ → List ℕ) (unread unwritten : Type 0)
    (fetched_before fetched_after : Option (List (List ℕ))) (before after : Option (List ℕ)) (calls_before calls_after : Option ℕ)
    (status : ℕ) : Type 0 where
  -- what is answered is due
  pub answer : IsFault status ⊎ ((printed : List ℕ) × (Due words given status printed × (after ≡ with_piece before printed)))
  -- what is due is answered
  pub only : (s : ℕ) (printed : List ℕ) → Due words given s printed → IsFault status ⊎ ((status ≡ s) × (after ≡ with_piece before printed))
  pub help : command_of words ≡ Some help → IsFault status ⊎ ((status ≡ 0) × (after ≡ with_piece before help_text))
  pub version : command_of words ≡ Some version → IsFault status ⊎ ((status ≡ 0) × (after ≡ with_piece before version_text))
  -- after a yes every function is good
  pub yes_is_good : status ≡ 0 → (file : List ℕ) → command_of words ≡ Some (check file)
      → (P : Prog) × (Reads (given file) P × ((M : Meaning) → AllGood P M))
  -- and main's runs end, aren't stuck, meet its ensures on arguments that meet its requires, and are answered as they end
  pub main_runs_well : status ≡ 0 → (file : List ℕ) → command_of words ≡ Some (check file)
      → (arguments : List (List ℕ)) (e : Entry (given file) arguments) → RunsWell (given file) arguments e
  -- a value is that of the written meaning
  pub run_gives : status ≡ 0 → (file : List ℕ) (fuel : ℕ) (arguments : List (List ℕ)) → command_of words ≡ Some (run file fuel arguments)
      → (value : Val) × (Gives (given file) fuel arguments value × (after ≡ with_piece before (value_text value)))
  -- out of fuel is that of the written meaning too
  pub run_is_out : status ≡ 4 → (file : List ℕ) (fuel : ℕ) (arguments : List (List ℕ)) → command_of words ≡ Some (run file fuel arguments)
      → RunsOut (given file) fuel arguments × (after ≡ with_piece before out_of_fuel_text)
  pub never_stuck : (status ≡ 5 → ⊥) × (status ≡ 6 → ⊥)
  -- a fetch failed, and nothing else is said
  pub read_fault : status ≡ 7 → unread × (after ≡ with_piece before read_fault_text)
  -- a put failed, and wrote a front of the text
  pub write_fault : status ≡ 8 → unwritten
      × ((printed : List ℕ) × (n : ℕ) × (s : ℕ) × (Given (command_of words) given unread s printed × (after ≡ with_piece before (take n printed))))
  pub no_memory : status ≡ 10 → after ≡ before
  -- nothing is fetched but the command's file, once
  pub fetched : Fetched (command_of words) fetched_before fetched_after
  -- at most one put
  pub one_put : (calls_after ≡ calls_before) ⊎ IsOneMore calls_before calls_after
