-- What stands between tokens: blanks and comments.
use Rattle.std.specs.Prelude.{ℕ, ◌+◌, ◌==◌, ◌||◌, Bool, List, [], ◌∷◌, take, drop, codes, bytes_eq, if◌then◌else◌}
use Rattle.fst_text.specs.Characters.{stays_in_comment, run_len, many}

-- a space, a tab, a line feed or a carriage return
abbrev pub is_blank : ℕ → Bool
is_blank b = b == 32 || b == 9 || b == 10 || b == 13

-- how many bytes the blank or the comment at the front has, 0 where none begins there;
-- a comment runs from // up to a line feed, the end, or a byte that is not UTF-8
abbrev pub blank_len : List ℕ → ℕ
blank_len [] = 0
blank_len (b ∷ bs) = if is_blank b then 1
    else (if bytes_eq (take 2 (b ∷ bs)) (codes "//") then 2 + run_len stays_in_comment (drop 2 (b ∷ bs)) else 0)

-- how many bytes the blanks and comments at the front have
abbrev pub blanks_len : List ℕ → ℕ
blanks_len = many blank_len
