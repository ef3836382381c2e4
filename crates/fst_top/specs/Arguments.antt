-- The argument words of a run.
use Rattle.std.specs.Prelude.{◌≡◌, ◌⊎◌, ℕ, suc, List, [], ◌∷◌, ⊤}
use Rattle.fst_base.specs.Primitives.{InRange}
use Rattle.fst_base.specs.Sorts.{Srt}
use Rattle.fst_base.specs.Values.{Val}
use Rattle.fst_program.specs.Texts.{Prm}
use Rattle.fst_values.specs.Texts.{IsText}

-- the word is a text of the value, whose numbers lie within 128 bits
abbrev pub IsArgument : Srt → (word : List ℕ) → Val → Type 0
IsArgument S word v = IsText S v word × InRange v

-- the words are these values of the parameters' sorts, one for each parameter
abbrev pub AreArguments : List Prm → (words : List (List ℕ)) → List Val → Type 0
AreArguments [] [] [] = ⊤
AreArguments (p ∷ ps) (w ∷ ws) (v ∷ vs) = IsArgument p.sort w v × AreArguments ps ws vs
AreArguments _ _ _ = ⊥

-- word k, where the first one is word 1, is the first that is missing, is one too many, or is no value of its sort
abbrev pub IsBadArgument : List Prm → (words : List (List ℕ)) → (k : ℕ) → Type 0
IsBadArgument [] [] k = ⊥
IsBadArgument [] (w ∷ ws) k = k ≡ 1
IsBadArgument (p ∷ ps) [] k = k ≡ 1
IsBadArgument (p ∷ ps) (w ∷ ws) k =
    ((k ≡ 1) × ((v : Val) → IsArgument p.sort w v → ⊥))
    ⊎ ((v : Val) × (IsArgument p.sort w v × ((j : ℕ) × ((k ≡ suc j) × IsBadArgument ps ws j))))
