-- Texts of values.
use Rattle.std.specs.Prelude.{◌≡◌, ℕ, true, false, List, [], ◌++◌, ℤ, pos, neg_ℤ, codes, ◌⊎◌}
use Rattle.std.specs.Fmt.{signed_decimal}
use Rattle.fst_base.specs.Sorts.{Srt, s_unit, s_bool, s_int, s_pair, s_opt, s_list, s_either}
use Rattle.fst_base.specs.Values.{Val, v_unit, v_bool, v_int, v_pair, v_none, v_some, v_nil, v_cons, v_inl, v_inr}
use Rattle.fst_values.specs.Tokens.{skip, Mark, Word, Numeral}

-- the marks ( ) , - ; [ ]
abbrev pub open_round : ℕ
open_round = 40

abbrev pub close_round : ℕ
close_round = 41

abbrev pub comma : ℕ
comma = 44

abbrev pub minus : ℕ
minus = 45

abbrev pub semicolon : ℕ
semicolon = 59

abbrev pub open_square : ℕ
open_square = 91

abbrev pub close_square : ℕ
close_square = 93

-- a numeral, or a minus and a numeral
abbrev pub Integer : ℤ → (from to : List ℕ) → Type 0
Integer n from to = ((m : ℕ) × (Numeral m from to × (n ≡ pos m)))
    ⊎ ((m : ℕ) × ((k : List ℕ) × (Mark minus from k × Numeral m k to × (n ≡ neg_ℤ (pos m)))))

-- between these bytes and their rest lies a text of the value, at the sort
abbrev mutual
  pub Text : Srt → Val → (from to : List ℕ) → Type 0
  Text s_unit v_unit from to = (k : List ℕ) × (Mark open_round from k × Mark close_round k to)
  Text s_bool (v_bool true) from to = Word (codes "true") from to
  Text s_bool (v_bool false) from to = Word (codes "false") from to
  Text s_int (v_int n) from to = Integer n from to
  Text (s_pair S T) (v_pair a b) from to = (k l m n : List ℕ)
      × (Mark open_round from k × Text S a k l × Mark comma l m × Text T b m n × Mark close_round n to)
  Text (s_opt S) v_none from to = Word (codes "none") from to
  Text (s_opt S) (v_some a) from to = (k : List ℕ) × (Word (codes "some") from k × Text S a k to)
  Text (s_list S) v_nil from to = (k : List ℕ) × (Mark open_square from k × Mark close_square k to)
  Text (s_list S) (v_cons a b) from to = (k l : List ℕ) × (Mark open_square from k × Text S a k l × More S b l to)
  Text (s_either S T) (v_inl a) from to = (k : List ℕ) × (Word (codes "inl") from k × Text S a k to)
  Text (s_either S T) (v_inr a) from to = (k : List ℕ) × (Word (codes "inr") from k × Text T a k to)
  Text _ _ from to = ⊥

  -- the rest of a list's text, behind an item
  pub More : Srt → Val → (from to : List ℕ) → Type 0
  More S v_nil from to = Mark close_square from to
  More S (v_cons a b) from to = (k l : List ℕ) × (Mark semicolon from k × Text S a k l × More S b l to)
  More S _ from to = ⊥

-- the bytes are a text of the value, at the sort
abbrev pub IsText : Srt → Val → List ℕ → Type 0
IsText S v bytes = Text S v (skip bytes) []

-- the printed text of a value
abbrev mutual
  pub text_of : Val → List ℕ
  text_of v_unit = codes "()"
  text_of (v_bool true) = codes "true"
  text_of (v_bool false) = codes "false"
  text_of (v_int n) = signed_decimal n
  text_of (v_pair a b) = codes "(" ++ text_of a ++ codes ", " ++ text_of b ++ codes ")"
  text_of v_none = codes "none"
  text_of (v_some a) = codes "some " ++ text_of a
  text_of v_nil = codes "[]"
  text_of (v_cons a b) = codes "[" ++ text_of a ++ text_of_more b
  text_of (v_inl a) = codes "inl " ++ text_of a
  text_of (v_inr a) = codes "inr " ++ text_of a

  -- what is printed of a list behind an item
  pub text_of_more : Val → List ℕ
  text_of_more (v_cons a b) = codes "; " ++ text_of a ++ text_of_more b
  text_of_more _ = codes "]"
