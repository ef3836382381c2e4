-- Arguments of a known form.
use Rattle.std.specs.Prelude.{ℤ, List, [], ◌∷◌, ◌≡◌, ◌⊎◌}
use Rattle.fst_base.specs.declared.value.Value.{Value}
use Rattle.fst_base.specs.declared.value.Value.TheVariants as V

abbrev pub AreNone : List Value → Type 0
AreNone vs = vs ≡ []

abbrev pub AreTwoInts : List Value → Type 0
AreTwoInts vs = (a b : ℤ) × (vs ≡ V.Int a ∷ V.Int b ∷ [])

abbrev pub IsOneInt : List Value → Type 0
IsOneInt vs = (a : ℤ) × (vs ≡ V.Int a ∷ [])

abbrev pub IsOne : List Value → Type 0
IsOne vs = (a : Value) × (vs ≡ a ∷ [])

abbrev pub AreTwo : List Value → Type 0
AreTwo vs = (a b : Value) × (vs ≡ a ∷ b ∷ [])

abbrev pub IsOnePair : List Value → Type 0
IsOnePair vs = (a b : Value) × (vs ≡ V.Pair a b ∷ [])

abbrev pub IsOneOption : List Value → Type 0
IsOneOption vs = (vs ≡ V.Nothing ∷ []) ⊎ ((a : Value) × (vs ≡ V.Just a ∷ []))

abbrev pub IsOneEither : List Value → Type 0
IsOneEither vs = ((a : Value) × (vs ≡ V.Left a ∷ [])) ⊎ ((a : Value) × (vs ≡ V.Right a ∷ []))

abbrev pub IsOneList : List Value → Type 0
IsOneList vs = (xs : List Value) × (vs ≡ V.List xs ∷ [])

abbrev pub IsOneAndList : List Value → Type 0
IsOneAndList vs = (a : Value) × ((xs : List Value) × (vs ≡ a ∷ V.List xs ∷ []))
