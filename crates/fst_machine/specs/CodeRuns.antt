-- Runs of a function of code.
use Rattle.std.specs.Prelude.{◌≡◌, ℕ, true, List, reverse, Option, Some, None, Result, Ok, Err, IsTrue, ⊤}
use Rattle.fst_base.specs.Values.{Val, v_unit, plain_value}
use Rattle.fst_base.specs.declared.value.Value.{Value}
use Rattle.fst_program.specs.Texts.{Prog, if_there, fun_at}
use Rattle.fst_program.specs.Runs.{Outcome, Done, Out, Wide, Stuck, ev}
use Rattle.fst_code.specs.Sound.{is_sound, is_there}
use Rattle.fst_machine.specs.declared.stop.Stop.{Stop}
use Rattle.fst_machine.specs.declared.stop.Stop.TheVariants as stop

-- unit stands for an input that isn't there
abbrev pub input_value : Option Value → Val
input_value None = v_unit
input_value (Some v) = plain_value v

-- the bounded run of function k on arguments and an input; code holds no formula and no ghost part, so it needs neither a meaning of
-- applications nor an allowance
abbrev pub code_run : Prog → (k fuel : ℕ) → List Val → (input : Val) → Outcome
code_run P k fuel vs s = if_there (fun_at P k) (λ f. ev (λ k vs. v_unit) P fuel 0 true (reverse vs) s f.body) (Stuck 0)

-- the code is sound, and function k is there
abbrev pub IsReady : Prog → (k : ℕ) → Type 0
IsReady P k = IsTrue (is_sound P) × IsTrue (is_there P k)

-- a result or a fault tells the outcome; want of memory tells none
abbrev pub Told : Outcome → Result (Option Value) Stop → Type 0
Told o (Ok (Some v)) = (left : ℕ) × (o ≡ Done (plain_value v) left)
Told o (Ok None) = o ≡ Out
Told o (Err stop.PastRange) = o ≡ Wide
Told o (Err (stop.Stuck p)) = o ≡ Stuck p.at
Told o (Err stop.NoMemory) = ⊤
