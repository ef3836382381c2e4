-- The number of calls of a sink.
use Rattle.std.proofs.Common.{◌≡◌, ℕ, ◌-◌, ◌^◌, ◌<◌, true, nat_lt, Some, None, sym, ◌∙◌, arith, inl, inr}
use Rattle.std.proofs.lemmas.Bool.{cases_Bool, cond-true, cond-false}
use Rattle.std.proofs.lemmas.Bool.Decides.{nat_tests}
use Rattle.fst_outside.specs.Outside.{IsOneMore}
use Rattle.fst_outside.specs.Memory.{next_call, calls_told}

told_below : (calls n : ℕ) → calls_told calls ≡ Some n → (calls < 2 ^ 64 - 1) × (calls ≡ n)
told_below calls n e = elim (cases_Bool (nat_lt calls (2 ^ 64 - 1))) [
  | inl t ↦ (grind (arith, nat_tests), let s : Some calls ≡ Some n = sym (cond-true _ _ _ t) ∙ e in cc)
  | inr t ↦ absurd (let s : None ≡ Some n = sym (cond-false _ _ _ t) ∙ e in cc)
]

-- one more call is told where it was told before
pub one_more : (calls : ℕ) → IsOneMore (calls_told calls) (calls_told (next_call calls))
one_more calls n e =
    let told = told_below (next_call calls) n e in
    let t : nat_lt calls (2 ^ 64 - 1) ≡ true = grind (arith, nat_tests) in
    (calls, (cond-true _ _ _ t, omega arith))
