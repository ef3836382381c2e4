-- What an answer says of the runs of main by the written meaning.
use Rattle.std.specs.Prelude.{◌≡◌, ℕ, ◌<◌, ◌≤◌, true, List}
use Rattle.fst_base.specs.Values.{Val, v_unit}
use Rattle.fst_terms.specs.Meaning.{Meaning}
use Rattle.fst_program.specs.Runs.{Outcome, Done, Out}
use Rattle.fst_program.specs.Good.{AllGood, Pre, Post, body_run}
use Rattle.fst_top.specs.Answers.{Entry, Ran}
use Rattle.fst_top.specs.Printed.{value_text, out_of_fuel_text}

module _ (text : List ℕ) (words : List (List ℕ)) (e : Entry text words) where
  -- the bounded run of main's body on the values of the words, with this much fuel and this allowance
  abbrev pub main_run : Meaning → (fuel G : ℕ) → Outcome
  main_run M fuel G = body_run e.main.P M e.main.fun e.values v_unit true fuel G

  -- main's ensures holds of the value where its requires holds of the arguments
  abbrev pub Meets : Val → Type 0
  Meets v = (M : Meaning) → Pre M e.main.fun e.values v_unit → Post M e.main.fun e.values v_unit v

  -- some number of units ends main's runs: from there on each run gives the one result, which meets main's ensures, and the
  -- command `run` answers it; with less each run is out of fuel, and so `run` answers
  pub record RunsWell : Type 0 where
    pub units : ℕ
    pub result : Val
    pub meets : Meets result
    pub gives : (M : Meaning) (fuel G : ℕ) → units ≤ fuel → (left : ℕ) × (main_run M fuel G ≡ Done result left)
    pub runs_out : (M : Meaning) (fuel G : ℕ) → fuel < units → main_run M fuel G ≡ Out
    pub answered : (fuel : ℕ) → units ≤ fuel → Ran text fuel words 0 (value_text result)
    pub unanswered : (fuel : ℕ) → fuel < units → Ran text fuel words 4 out_of_fuel_text

-- every function is good, and main's runs with this much fuel give the value, which meets main's ensures
pub record Gives (text : List ℕ) (fuel : ℕ) (words : List (List ℕ)) (v : Val) : Type 0 where
  pub entry : Entry text words
  pub good : (M : Meaning) → AllGood entry.main.P M
  pub gives : (M : Meaning) (G : ℕ) → (left : ℕ) × (main_run text words entry M fuel G ≡ Done v left)
  pub meets : Meets text words entry v

-- every function is good, and main's runs with this much fuel are out of fuel
pub record RunsOut (text : List ℕ) (fuel : ℕ) (words : List (List ℕ)) : Type 0 where
  pub entry : Entry text words
  pub good : (M : Meaning) → AllGood entry.main.P M
  pub runs_out : (M : Meaning) (G : ℕ) → main_run text words entry M fuel G ≡ Out
