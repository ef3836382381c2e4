-- What an application of a function unfolds to: a fact for each way of its body.
use Rattle.std.specs.Prelude.{◌≡◌, ℕ, List, map, Option, Some, None, IsTrue, ⊤}
use Rattle.fst_base.specs.Values.{HasSorts}
use Rattle.fst_terms.specs.Terms.{Tm, row}
use Rattle.fst_terms.specs.Meaning.{Env, Meaning, value, AllTrue, Vr}
use Rattle.fst_program.specs.Texts.{Fn, Prog, if_there, fun_at, effect_at, is_total}
use Rattle.fst_program.specs.Good.{Good}
use Rattle.fst_program.specs.Applications.{IsMeaning}
use Rattle.fst_program.specs.Sorted.{Applies, FormSorted, place_of, InputHas, param_sorts, IsSorted}
use Rattle.fst_program.specs.Runs.{input_to}
use Rattle.fst_terms.specs.Sorted.{TmsSorted}
use Rattle.fst_program.specs.Discipline.{IsDisciplined}
use Rattle.fst_program.specs.FunctionFacts.{with_input, unfolded, posted}

-- the term of an input has the sort that the effect takes, where these are the variables
abbrev pub InputTerm : Prog → List Vr → (place : Option ℕ) → Tm → Type 0
InputTerm P vars None s = ⊤
InputTerm P vars (Some E) s = if_there (effect_at P E) (λ d. FormSorted P (map (λ x. x.sort) vars) s d.input) ⊥

-- where function k, f is good and without DIV, the facts of unfolding its application t to well-sorted arguments are true
abbrev pub UnfoldLaw : Prog → Type 0
UnfoldLaw P = IsSorted P → IsDisciplined P → (M : Meaning) → IsMeaning P M → (k : ℕ) (f : Fn) → fun_at P k ≡ Some f → Good P M f → IsTrue (is_total P f.effect)
    → (vars : List Vr) (e : Env) (ts : List Tm) (s : Tm)
    → TmsSorted (Applies P) (map (λ x. x.sort) vars) (row ts) (param_sorts P f) → InputTerm P vars (place_of f.effect) s
    → HasSorts (param_sorts P f) (map (λ t. value M t e) ts) → InputHas P (place_of f.effect) (value M s e) → input_to f.effect (value M s e) ≡ value M s e
    → (t : Tm) → value M t e ≡ M k (with_input f.effect (map (λ t. value M t e) ts) (value M s e))
    → AllTrue M (unfolded P vars t f ts s) e

-- where function k, f is good and without DIV, the postcondition of its application t is true
abbrev pub PostLaw : Prog → Type 0
PostLaw P = (M : Meaning) → IsMeaning P M → (k : ℕ) (f : Fn) → fun_at P k ≡ Some f → Good P M f → IsTrue (is_total P f.effect)
    → (e : Env) (ts : List Tm) (s : Tm)
    → HasSorts (param_sorts P f) (map (λ t. value M t e) ts) → InputHas P (place_of f.effect) (value M s e) → input_to f.effect (value M s e) ≡ value M s e
    → (t : Tm) → value M t e ≡ M k (with_input f.effect (map (λ t. value M t e) ts) (value M s e))
    → AllTrue M (posted t f ts s) e
