-- Tokens of value texts: marks, words and numerals, each with the blanks after it.
use Rattle.std.specs.Prelude.{◌≡◌, ℕ, Bool, ◌||◌, ◌==◌, List, [], ◌∷◌, length, drop, take_while, if◌then◌else◌}
use Rattle.std.specs.Char.{is_ascii_alphanumeric}
use Rattle.std.specs.Str.Parse.{IsNumeral, digits_value}

-- a space, tab, line feed or carriage return
abbrev pub is_blank : ℕ → Bool
is_blank b = b == 32 || b == 9 || b == 10 || b == 13

-- what is left after the blanks at the front
abbrev pub skip : List ℕ → List ℕ
skip [] = []
skip (b ∷ bs) = if is_blank b then skip bs else b ∷ bs

-- the longest run of letters and digits at the front, and what is left after it
abbrev pub word : List ℕ → List ℕ
word bs = take_while is_ascii_alphanumeric bs

abbrev pub after_word : List ℕ → List ℕ
after_word bs = drop (length (word bs)) bs

-- a mark, which is one byte, and the blanks after it lie between these bytes and their rest
abbrev pub Mark : (mark : ℕ) → (from to : List ℕ) → Type 0
Mark mark from to = (bs : List ℕ) × ((from ≡ mark ∷ bs) × (to ≡ skip bs))

-- a word, which ends where no letter and no digit follows, and the blanks after it
abbrev pub Word : (name : List ℕ) → (from to : List ℕ) → Type 0
Word name from to = (word from ≡ name) × (to ≡ skip (after_word from))

-- a numeral of the number n, which may have zeros at its front, and the blanks after it
abbrev pub Numeral : (n : ℕ) → (from to : List ℕ) → Type 0
Numeral n from to = IsNumeral 10 (word from) × (digits_value 10 (word from) ≡ n) × (to ≡ skip (after_word from))
