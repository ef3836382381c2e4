-- The words of what a shelf and a sink promise.
use Rattle.std.specs.Prelude.{◌≡◌, ℕ, ◌+◌, ◌^◌, ◌<◌, ◌⊎◌, List, [], ◌∷◌, ◌++◌, Option, Some, None}
use Rattle.std.specs.Option.{option_map}

-- the count rose in the call, or stands at its last value as the call ends
abbrev pub Rose : ℕ → ℕ → Type 0
Rose old new = (old < new) ⊎ (new + 1 ≡ 2 ^ 64)

-- the names after the fetch of one more
abbrev pub with_name : Option (List (List ℕ)) → List ℕ → Option (List (List ℕ))
with_name names name = option_map (λ ns. ns ++ name ∷ []) names

-- the bytes of a file that was fetched: those that are told, else those that the fetch read
abbrev pub bytes_given : Option (List ℕ) → List ℕ → List ℕ
bytes_given None read = read
bytes_given (Some bytes) read = bytes

-- the bytes after one more piece
abbrev pub with_piece : Option (List ℕ) → List ℕ → Option (List ℕ)
with_piece written piece = option_map (λ bytes. bytes ++ piece) written

-- the number of calls after one more call: where it is told then, it was told before
abbrev pub IsOneMore : Option ℕ → Option ℕ → Type 0
IsOneMore old new = (n : ℕ) → new ≡ Some n → (m : ℕ) × ((old ≡ Some m) × (n ≡ m + 1))

-- a folder of files: the bytes that the last fetch read, and the count of faults
pub record FolderState : Type 0 where
  pub bytes_read : List ℕ
  pub faults : ℕ
