-- The text of a token is UTF-8.
use Rattle.std.proofs.Common.{◌≡◌, ℕ, nat_lt, ◌<◌, Bool, true, false, ◌&&◌, List, [], ◌∷◌, ◌++◌, refl, sym, subst, inl, inr, arith}
use Rattle.std.proofs.lemmas.Str.{IsUtf8-from_ascii}
use Rattle.std.proofs.lemmas.Str.Ascii.{IsAscii-nil, IsAscii-cons}
use Rattle.std.proofs.lemmas.Bool.Decides.{nat_tests}
use Rattle.std.specs.Str.{IsUtf8, IsAscii}
use Rattle.std.specs.List.{list_all, All}
use Rattle.std.proofs.lemmas.List.Elements.{All-nil, All-cons, All-append}
use Rattle.fst_syntax.specs.declared.lexeme.Lexeme.{Lexeme}
use Rattle.fst_syntax.specs.Tokens.{HasText}
use Rattle.std.specs.Char.{is_ascii_digit}
use Rattle.fst_text.specs.declared.token.Kind.{Kind}
use Rattle.fst_text.specs.declared.token.Kind.TheVariants as kind
use Rattle.fst_text.specs.declared.mark.Mark.{Mark}
use Rattle.fst_text.specs.Marks.{IsMark, marks_of_1, marks_of_2, marks_of_3}
use Rattle.fst_text.proofs.MarkLemmas.{row-has}
use Rattle.fst_text.specs.Tokens.{IsName, IsToken}

name_utf8 : (bs : List ℕ) → IsName bs → IsUtf8 bs
name_utf8 bs n = (n.first ∷ n.rest, (n.scalars, sym n.bytes))

both : (a b : Bool) → a && b ≡ true → (a ≡ true) × (b ≡ true)
both true b e = (refl, e)
both false b e = absurd (cc)

low : (b : ℕ) → nat_lt b 128 ≡ true → b < 128
low b e = grind (arith, nat_tests)

low_ascii : (bs : List ℕ) → list_all (λ b. nat_lt b 128) bs ≡ true → IsAscii bs
low_ascii [] e = IsAscii-nil
low_ascii (b ∷ bs) e = let p = both (nat_lt b 128) (list_all (λ b. nat_lt b 128) bs) e in IsAscii-cons b bs (low b p.0) (low_ascii bs p.1)

abbrev is_low : List ℕ → Bool
is_low = list_all (λ b. nat_lt b 128)

mark_ascii : (m : Mark) (bs : List ℕ) → IsMark m bs → IsAscii bs
mark_ascii m bs (inl a) = low_ascii bs (row-has is_low marks_of_1 refl bs m a)
mark_ascii m bs (inr (inl b)) = low_ascii bs (row-has is_low marks_of_2 refl bs m b)
mark_ascii m bs (inr (inr d)) = low_ascii bs (row-has is_low marks_of_3 refl bs m d)

digit_ascii : (b : ℕ) → is_ascii_digit b ≡ true → b < 128
digit_ascii b e = grind (arith, nat_tests)

number_ascii : (bs : List ℕ) → list_all is_ascii_digit bs ≡ true → IsAscii bs
number_ascii [] e = IsAscii-nil
number_ascii (b ∷ bs) e = let p = both (is_ascii_digit b) (list_all is_ascii_digit bs) e in IsAscii-cons b bs (digit_ascii b p.0) (number_ascii bs p.1)

pub token_utf8 : (k : Kind) (bs : List ℕ) → IsToken k bs → IsUtf8 bs
token_utf8 (kind.Word w) bs t = name_utf8 bs t.0
token_utf8 kind.Ident bs t = name_utf8 bs t.0
token_utf8 kind.Number bs t = IsUtf8-from_ascii bs (number_ascii bs t.1)
token_utf8 (kind.Mark m) bs t = IsUtf8-from_ascii bs (mark_ascii m bs t)

pub all_texts_pushed : (xs ys : List Lexeme) (x : Lexeme) → All HasText xs → HasText x → ys ≡ xs ++ (x ∷ []) → All HasText ys
all_texts_pushed xs ys x all one e = subst (All HasText) (sym e) (All-append HasText xs (x ∷ []) all (All-cons HasText x [] one (All-nil HasText)))
