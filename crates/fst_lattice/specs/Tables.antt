-- The table of the first lifts of paths, as the code holds it: a row for each effect, with an entry for each effect.
use Rattle.std.specs.Prelude.{ℕ, zero, suc, Bool, true, false, ◌&&◌, ◌||◌, nat_eq, List, [], ◌∷◌, ◌++◌, Option, Some, None, slice_get, if◌then◌else◌}

-- the values of f at the numbers below n, in order
abbrev pub tabled : {A : Type 0} → (f : ℕ → A) → (n : ℕ) → List A
tabled f zero = []
tabled f (suc n) = tabled f n ++ f n ∷ []

abbrev pub entry_in : Option (List (Option ℕ)) → ℕ → Option ℕ
entry_in None E = None
entry_in (Some row) E = flat (slice_get row E)
  where
    flat : Option (Option ℕ) → Option ℕ
    flat None = None
    flat (Some o) = o

-- the first lift of the path from effect D to effect E
abbrev pub step_in : List (List (Option ℕ)) → (D E : ℕ) → Option ℕ
step_in rows D E = entry_in (slice_get rows D) E

abbrev pub is_there : {A : Type 0} → Option A → Bool
is_there None = false
is_there (Some a) = true

-- whether there is a path, the empty one counted
abbrev pub reaches : List (List (Option ℕ)) → (D E : ℕ) → Bool
reaches rows D E = nat_eq D E || is_there (step_in rows D E)

-- the first lift with lift n, from one effect to another, added
abbrev pub next_step : List (List (Option ℕ)) → (n from to : ℕ) → (D E : ℕ) → Option ℕ
next_step rows n from to D E =
    if reaches rows D E then step_in rows D E else
    (if reaches rows D from && reaches rows to E then (if nat_eq D from then Some n else step_in rows D from) else None)

-- some number below n passes
abbrev pub some_below : (n : ℕ) → (ℕ → Bool) → Bool
some_below zero test = false
some_below (suc n) test = some_below n test || test n

-- a lift makes a second path among the first n effects
abbrev pub second_path : List (List (Option ℕ)) → (from to n : ℕ) → Bool
second_path rows from to n = some_below n (λ D. reaches rows D from && some_below n (λ E. reaches rows to E && reaches rows D E))
