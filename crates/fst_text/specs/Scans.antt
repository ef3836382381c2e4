-- The tokens of a text, and the place of the first fault.
use Rattle.std.specs.Prelude.{ℕ, zero, suc, ◌+◌, ◌-◌, ◌<◌, ◌≤◌, nat_lt, List, [], ◌∷◌, Option, Some, None, Result, Ok, Err, length, drop, slice_range, if◌then◌else◌}
use Rattle.fst_text.specs.declared.token.Kind.{Kind}
use Rattle.fst_text.specs.declared.token.Token.{Token}
use Rattle.fst_text.specs.Blanks.{blanks_len}
use Rattle.fst_text.specs.Tokens.{lexeme, IsLongest}

-- the offset behind the blanks and comments that stand at an offset
abbrev pub start_at : List ℕ → ℕ → ℕ
start_at text at = at + blanks_len (drop at text)

abbrev pub token_from : ℕ → Option (Kind × ℕ) → Option Token
token_from at None = None
token_from at (Some (kind, size)) = Some (record { kind = kind; from = at; to = at + size })

-- the next token from an offset on
abbrev pub token_at : List ℕ → ℕ → Option Token
token_at text at = token_from (start_at text at) (lexeme (drop (start_at text at) text))

-- the token, if there is one, and those that follow it
abbrev pub followed : Option Token → (ℕ → List Token) → List Token
followed None following = []
followed (Some t) following = t ∷ following t.to

-- at most k tokens from an offset on, up to the end or the first byte that begins none
abbrev pub tokens_within : ℕ → List ℕ → ℕ → List Token
tokens_within zero text at = []
tokens_within (suc k) text at = followed (token_at text at) (tokens_within k text)

-- all tokens from an offset on: there are no more than bytes
unfoldable pub tokens_from : List ℕ → ℕ → List Token
tokens_from text at = tokens_within (length text - at) text at

-- the offset at which the last of the tokens ends
abbrev pub end_of : ℕ → List Token → ℕ
end_of at [] = at
end_of at (t ∷ ts) = end_of t.to ts

-- the offset, from an offset on, of the first byte that begins no token, if it is not the end
unfoldable pub fault_from : List ℕ → ℕ → Option ℕ
fault_from text at = let end = start_at text (end_of at (tokens_from text at)) in
    if nat_lt end (length text) then Some end else None

-- a text, and the offset up to which it is scanned
pub record Scan : Type 0 where
  pub text : List ℕ
  pub at : ℕ

-- the tokens that are left, and the fault behind them
abbrev pub tokens_left : Scan → List Token
tokens_left s = tokens_from s.text s.at

abbrev pub fault_left : Scan → Option ℕ
fault_left s = fault_from s.text s.at

-- the tokens of a text, and its fault
abbrev pub tokens : List ℕ → List Token
tokens text = tokens_from text 0

abbrev pub fault : List ℕ → Option ℕ
fault text = fault_from text 0

-- the bytes of a token
abbrev pub token_text : List ℕ → Token → List ℕ
token_text text t = slice_range text t.from t.to

-- the token lies in the text, holds a byte, and is the longest that begins at its place
pub record IsTokenOf (text : List ℕ) (t : Token) : Type 0 where
  pub some : t.from < t.to
  pub within : t.to ≤ length text
  pub longest : IsLongest t.kind (t.to - t.from) (drop t.from text)

-- the spans stand in order between two offsets, none is empty, and no two share a byte
abbrev pub InOrder : ℕ → ℕ → List Token → Type 0
InOrder at end [] = at ≤ end
InOrder at end (t ∷ ts) = (at ≤ t.from) × (t.from < t.to) × InOrder t.to end ts

-- the token that an answer holds
abbrev pub given : Result (Option Token) ℕ → Option Token
given (Ok found) = found
given (Err at) = None
