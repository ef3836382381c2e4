-- Tokens, their kinds, and lists of kinds as sets.
use Rattle.std.specs.Prelude.{◌≡◌, Bool, true, false, not, ◌||◌, ◌&&◌, List, [], ◌∷◌, map}

-- Kinds with a test of equality, and tokens, each of a kind and at a place. `End` stands for the end of the tokens.
-- `example` is a token of each kind.
pub record Alphabet : Type 1 where
  pub Kind : Type 0
  pub Token : Type 0
  pub Place : Type 0
  pub same : Kind → Kind → Bool
  pub End : Kind
  pub kind : Token → Kind
  pub place : Token → Place
  pub example : Kind → Token

-- The test decides equality, and the examples are of their kinds.
pub record Sound (K : Alphabet) : Type 0 where
  pub equal : (j k : K.Kind) → K.same j k ≡ true → j ≡ k
  pub reflexive : (k : K.Kind) → K.same k k ≡ true
  pub exemplary : (k : K.Kind) → K.kind (K.example k) ≡ k

-- both empty, or with the same first token
abbrev pub Like : {A : Type 0} → List A → List A → Type 0
Like [] [] = Unit {0}
Like (t ∷ ts) (u ∷ us) = t ≡ u
Like _ _ = ⊥

module _ (K : Alphabet) where
  -- the kind of the next token
  abbrev pub next : List K.Token → K.Kind
  next [] = K.End
  next (t ∷ ts) = K.kind t

  -- an example of each of these kinds, in order
  abbrev pub examples : List K.Kind → List K.Token
  examples ks = map K.example ks

  abbrev pub has : List K.Kind → K.Kind → Bool
  has [] k = false
  has (j ∷ js) k = K.same k j || has js k

  abbrev pub within : List K.Kind → List K.Kind → Bool
  within [] ks = true
  within (j ∷ js) ks = has ks j && within js ks

  abbrev pub apart : List K.Kind → List K.Kind → Bool
  apart [] ks = true
  apart (j ∷ js) ks = not (has ks j) && apart js ks
