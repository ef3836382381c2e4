-- What a token is, and the longest token at the front of some bytes.
use Rattle.std.specs.Prelude.{◌≡◌, ◌≢◌, ℕ, ◌≤◌, nat_lt, true, List, [], ◌∷◌, Option, Some, None, length, take, encode_utf8_all, if◌then◌else◌}
use Rattle.std.specs.List.{list_all, prefix_len}
use Rattle.std.specs.Str.{all_scalars}
use Rattle.std.specs.Char.{is_ascii_digit}
use Rattle.fst_text.specs.declared.token.Kind.{Kind}
use Rattle.fst_text.specs.declared.token.Kind.TheVariants.{Word, Ident, Number, Mark}
use Rattle.fst_text.specs.Characters.{starts_name, continues_name, name_len}
use Rattle.fst_text.specs.declared.word.Word as word
use Rattle.fst_text.specs.declared.mark.Mark as mark
use Rattle.fst_text.specs.Words.{word_of}
use Rattle.fst_text.specs.Marks.{IsMark, longest_mark}

-- the bytes are an identifier: a character that may begin one, and characters that may go on with it
pub record IsName (bs : List ℕ) : Type 0 where
  pub first : ℕ
  pub rest : List ℕ
  pub scalars : all_scalars (first ∷ rest) ≡ true
  pub starts : starts_name first ≡ true
  pub continues : list_all continues_name rest ≡ true
  pub bytes : bs ≡ encode_utf8_all (first ∷ rest)

-- the bytes are a token of this kind
abbrev pub IsToken : Kind → List ℕ → Type 0
IsToken (Word w) bs = IsName bs × (word_of bs ≡ Some w)
IsToken Ident bs = IsName bs × (word_of bs ≡ None)
IsToken Number bs = (bs ≢ []) × (list_all is_ascii_digit bs ≡ true)
IsToken (Mark m) bs = IsMark m bs

-- the first n bytes are a token of this kind, and no token at the front is longer
pub record IsLongest (kind : Kind) (n : ℕ) (bs : List ℕ) : Type 0 where
  pub within : n ≤ length bs
  pub token : IsToken kind (take n bs)
  pub longest : (other : Kind) (m : ℕ) → m ≤ length bs → IsToken other (take m bs) → m ≤ n

-- no token begins here
abbrev pub BeginsNone : List ℕ → Type 0
BeginsNone bs = (kind : Kind) (m : ℕ) → m ≤ length bs → ¬ (IsToken kind (take m bs))

-- the kind of an identifier that is that word, or none
abbrev pub kind_from : Option word.Word → Kind
kind_from (Some w) = Word w
kind_from None = Ident

abbrev pub kind_of : List ℕ → Kind
kind_of name = kind_from (word_of name)

-- a mark and its size as a token
abbrev pub marked : Option (mark.Mark × ℕ) → Option (Kind × ℕ)
marked (Some (m, n)) = Some (Mark m, n)
marked None = None

-- the kind and the length of the longest token at the front: of an identifier, a number and a mark at most one begins there
abbrev pub lexeme : List ℕ → Option (Kind × ℕ)
lexeme bs = let name = name_len bs in let digits = prefix_len is_ascii_digit bs in
    if nat_lt 0 name then Some (kind_of (take name bs), name)
    else (if nat_lt 0 digits then Some (Number, digits)
    else marked (longest_mark bs))
