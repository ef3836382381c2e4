-- What a machine's answer says of the written meaning.
use Rattle.std.specs.Prelude.{◌≡◌, ℕ, map, ⊤}
use Rattle.fst_base.specs.Values.{plain_value}
use Rattle.fst_program.specs.Runs.{Outcome, Done, Out, Wide, Stuck}
use Rattle.fst_code.specs.Plain.{plain_code}
use Rattle.fst_machine.specs.CodeRuns.{input_value, code_run}
use Rattle.fst_machine.specs.declared.machine.Answer.{Answer}
use Rattle.fst_machine.specs.declared.machine.Answer.TheVariants as answer
use Rattle.fst_machine.specs.declared.machine.Machine.{Machine}

-- the outcome that a machine has to answer
abbrev pub outcome : Machine → (fuel : ℕ) → Outcome
outcome m fuel = code_run (plain_code m.code.now) m.main fuel (map plain_value m.args) (input_value m.input)

-- the answer tells the outcome; want of memory tells none
abbrev pub Answers : Outcome → Answer → Type 0
Answers o (answer.Done v) = (left : ℕ) × (o ≡ Done (plain_value v) left)
Answers o answer.OutOfFuel = o ≡ Out
Answers o answer.PastRange = o ≡ Wide
Answers o (answer.Stuck at) = o ≡ Stuck at.at
Answers o answer.NoMemory = ⊤
