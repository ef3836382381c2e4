-- The marks of the language.
use Rattle.std.specs.Prelude.{◌≡◌, ℕ, List, [], ◌∷◌, Option, Some, None, ◌⊎◌, take, codes}
use Rattle.fst_text.specs.declared.mark.Mark.{Mark}
use Rattle.fst_text.specs.declared.mark.Mark.TheVariants as mark
use Rattle.fst_text.specs.Words.{looked_up}

-- the marks of one, two and three bytes
abbrev pub marks_of_1 : List (List ℕ × Mark)
marks_of_1 = (codes "(", mark.LeftParen)
    ∷ (codes ")", mark.RightParen)
    ∷ (codes "[", mark.LeftBracket)
    ∷ (codes "]", mark.RightBracket)
    ∷ (codes "{", mark.LeftBrace)
    ∷ (codes "}", mark.RightBrace)
    ∷ (codes ",", mark.Comma)
    ∷ (codes ";", mark.Semicolon)
    ∷ (codes ":", mark.Colon)
    ∷ (codes "|", mark.Bar)
    ∷ (codes "=", mark.Equal)
    ∷ (codes "<", mark.Less)
    ∷ (codes ">", mark.Greater)
    ∷ (codes "+", mark.Plus)
    ∷ (codes "-", mark.Minus)
    ∷ (codes "*", mark.Star)
    ∷ (codes "/", mark.Slash)
    ∷ (codes "%", mark.Percent)
    ∷ []

abbrev pub marks_of_2 : List (List ℕ × Mark)
marks_of_2 = (codes "::", mark.ColonColon)
    ∷ (codes "||", mark.BarBar)
    ∷ (codes "->", mark.Arrow)
    ∷ (codes "!=", mark.NotEqual)
    ∷ (codes "<=", mark.LessEqual)
    ∷ (codes ">=", mark.GreaterEqual)
    ∷ (codes "&&", mark.AmpAmp)
    ∷ []

abbrev pub marks_of_3 : List (List ℕ × Mark)
marks_of_3 = (codes "==>", mark.Implies)
    ∷ []

-- the bytes are the mark
abbrev pub IsMark : Mark → List ℕ → Type 0
IsMark m bs = (looked_up marks_of_1 bs ≡ Some m) ⊎ ((looked_up marks_of_2 bs ≡ Some m) ⊎ (looked_up marks_of_3 bs ≡ Some m))

-- the mark of so many bytes, if there is one, else what is left to look at
abbrev pub sized : Option Mark → ℕ → Option (Mark × ℕ) → Option (Mark × ℕ)
sized (Some m) n other = Some (m, n)
sized None n other = other

-- the longest mark at the front, and how many bytes it has
abbrev pub longest_mark : List ℕ → Option (Mark × ℕ)
longest_mark bs = sized (looked_up marks_of_3 (take 3 bs)) 3 (sized (looked_up marks_of_2 (take 2 bs)) 2 (sized (looked_up marks_of_1 (take 1 bs)) 1 None))
