-- The digits of a number of 128 bits.
use Rattle.std.proofs.Common.{◌≡◌, ℕ, ◌+◌, ◌/◌, ◌%◌, ◌<◌, ◌≤◌, ◌^◌, List, [], ◌∷◌, ◌++◌, Result, Ok, Err, OnOk, arith, append_assoc, sym, ap, ◌∙◌}
use Rattle.std.specs.Fmt.{decimal}
use Rattle.std.proofs.lemmas.Fmt.{decimal_step_wide, decimal_digit}

-- what is so where a call succeeds
pub where_ok : {T E P Q : Type 0} (r : Result T E) → (P → Q) → OnOk r P → OnOk r Q
where_ok (Ok x) f h = f h
where_ok (Err e) f h = tt

pub last_digit : (old front new : List ℕ) (n : ℕ) → 10 ≤ n → n < 2 ^ 128 → front ≡ old ++ decimal (n / 10) → new ≡ front ++ (48 + n % 10) ∷ []
    → new ≡ old ++ decimal n
last_digit old front new n h l e f =
    f ∙ ap (λ k. k ++ (48 + n % 10) ∷ []) e ∙ append_assoc old (decimal (n / 10)) ((48 + n % 10) ∷ [])
    ∙ ap (λ k. old ++ k) (sym (decimal_step_wide n h (omega arith)))

pub only_digit : (old new : List ℕ) (n : ℕ) → n < 10 → new ≡ old ++ (48 + n % 10) ∷ [] → new ≡ old ++ decimal n
only_digit old new n h e = e ∙ ap (λ d. old ++ (48 + d) ∷ []) (omega arith) ∙ ap (λ k. old ++ k) (sym (decimal_digit n h))
