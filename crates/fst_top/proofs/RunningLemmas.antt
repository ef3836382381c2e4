-- From the steps of a run to the answer that is due.
use Rattle.std.proofs.Common.{◌≡◌, ◌⊎◌, inl, inr, ℕ, List, Result, Ok, Err, IfOk, sym, ap, subst}
use Rattle.fst_base.specs.Values.{Val, v_unit}
use Rattle.fst_machine.specs.CodeRuns.{code_run}
use Rattle.fst_program.specs.Erasure.{erased, erased_run}
use Rattle.fst_program.specs.Runs.{Outcome, Done, Out}
use Rattle.fst_program.specs.Texts.{Prog}
use Rattle.fst_top.specs.Arguments.{IsBadArgument}
use Rattle.fst_top.specs.Answers.{Main, Entry}
use Rattle.fst_top.specs.Answering.{IsEnd, IsProvedRun, IsRunAnswer}
use Rattle.fst_top.specs.Printed.{value_text, out_of_fuel_text, bad_argument_text}
use Rattle.fst_top.specs.Statuses.{number_of}
use Rattle.fst_top.specs.declared.status.Answer.{Answer}
use Rattle.fst_top.specs.declared.status.Status.TheVariants as status

pub if-ok : {A E : Type 0} (r : Result A E) (P Q : A → Type 0) → ((a : A) → P a → Q a) → IfOk r P → IfOk r Q
if-ok (Ok a) P Q f h = f a h
if-ok (Err e) P Q f h = tt

-- ---- the end of a run of the code, which is the program erased

module _ (P Q : Prog) (k fuel : ℕ) (vs : List Val) (same : Q ≡ erased P) where
  pub done-is-end : (v : Val) → (left : ℕ) × (code_run Q k fuel vs v_unit ≡ Done v left) → (a : Answer) → (a.status ≡ status.Done) × (a.text ≡ value_text v) → IsEnd (erased_run P k fuel vs v_unit) a
  done-is-end v h a s =
      let run : erased_run P k fuel vs v_unit ≡ Done v h.0 = subst (λ R. code_run R k fuel vs v_unit ≡ Done v h.0) same h.1 in
      subst (λ o. IsEnd o a) (sym run) (ap number_of s.0, s.1)

  pub out-is-end : code_run Q k fuel vs v_unit ≡ Out → (a : Answer) → (a.status ≡ status.OutOfFuel) × (a.text ≡ out_of_fuel_text) → IsEnd (erased_run P k fuel vs v_unit) a
  out-is-end h a s =
      let run : erased_run P k fuel vs v_unit ≡ Out = subst (λ R. code_run R k fuel vs v_unit ≡ Out) same h in
      subst (λ o. IsEnd o a) (sym run) (ap number_of s.0, s.1)

-- ---- answers

module _ (text : List ℕ) (words : List (List ℕ)) (fuel : ℕ) where
  pub proved-is-answer : (e : Entry text words) (a : Answer) → IsProvedRun text e.main.P e.main.number fuel e.values a → IsRunAnswer text fuel words a
  proved-is-answer e a (inl h) = inr (inr (inr (inl (h.0, record { entry = e; no = h.1 }))))
  proved-is-answer e a (inr h) = inr (inr (inr (inr (record { entry = e; valid = h.0; ended = h.1 }))))

  pub bad-is-answer : (m : Main text) (k : ℕ) → IsBadArgument m.fun.params words k → (a : Answer) → (a.status ≡ status.BadWords) × (a.text ≡ bad_argument_text k) → IsRunAnswer text fuel words a
  bad-is-answer m k b a s = inr (inr (inl (ap number_of s.0, record { main = m; word = k; bad = b; text_is = s.1 })))
