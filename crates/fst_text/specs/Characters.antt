-- The characters at the front of some bytes, as UTF-8.
use Rattle.std.specs.Prelude.{ℕ, zero, suc, ◌+◌, ◌==◌, ◌||◌, Bool, not, List, Option, Some, None, length, drop, if◌then◌else◌}
use Rattle.bstr.specs.Utf8.{decoded}
use Rattle.unicode_ident.specs.Ident.{is_xid_start, is_xid_continue}
use Rattle.fst_text.specs.declared.character.Class.{Class}
use Rattle.fst_text.specs.declared.character.Class.TheVariants as class

-- an identifier may begin with the character
abbrev pub starts_name : ℕ → Bool
starts_name c = is_xid_start c || c == 95

-- an identifier may go on with the character
abbrev pub continues_name : ℕ → Bool
continues_name c = is_xid_continue c

-- a comment goes on over the character
abbrev pub stays_in_comment : ℕ → Bool
stays_in_comment c = not (c == 10)

-- the test of a class of characters
abbrev pub test_of : Class → ℕ → Bool
test_of class.Start = starts_name
test_of class.Continue = continues_name
test_of class.Comment = stays_in_comment

-- the size of a character that passes the test, else 0
abbrev pub size_if : (ℕ → Bool) → Option ℕ → ℕ → ℕ
size_if p None size = 0
size_if p (Some c) size = if p c then size else 0

-- how many bytes the first character has, 0 where it fails the test or no character begins there
abbrev pub char_len : (ℕ → Bool) → List ℕ → ℕ
char_len p bs = size_if p (decoded bs).char (decoded bs).size

-- how many bytes at the front the pieces take that f measures, one after another, up to the first of no bytes
abbrev pub many_within : (List ℕ → ℕ) → ℕ → List ℕ → ℕ
many_within f zero bs = 0
many_within f (suc k) bs = if f bs == 0 then 0 else f bs + many_within f k (drop (f bs) bs)

-- there are no more pieces than bytes
unfoldable pub many : (List ℕ → ℕ) → List ℕ → ℕ
many f bs = many_within f (length bs) bs

-- how many bytes the characters at the front have that pass the test
abbrev pub run_len : (ℕ → Bool) → List ℕ → ℕ
run_len p = many (char_len p)

-- how many bytes the identifier at the front has, 0 where none begins there
abbrev pub name_len : List ℕ → ℕ
name_len bs = let first = char_len starts_name bs in
    if first == 0 then 0 else first + run_len continues_name (drop first bs)
