-- Digits, and the number that they write.
use Rattle.std.proofs.Common.{◌≡◌, ℕ, ◌+◌, ◌-◌, ◌*◌, ◌<◌, ◌≤◌, List, length, take, get_or, [], ◌∷◌, true, ◌&&◌, nat_lt, arith, refl, ap, ap₂, ◌∙◌}
use Rattle.std.specs.Int.{IsInRange}
use Rattle.std.specs.Char.{digit_value, is_ascii_digit}
use Rattle.std.specs.List.{list_all}
use Rattle.std.specs.Str.Parse.{AllDigits, IsNumeral, digits_value}
use Rattle.std.proofs.lemmas.Int.Digits.{digits_value_more}
use Rattle.std.proofs.lemmas.Str.Parse.{digit_at, digits_value-take-le}
use Rattle.std.proofs.lemmas.Bool.Decides.{nat_tests}
use Rattle.std.proofs.lemmas.Bool.{and_parts}
use Rattle.fst_values.specs.Reading.{is_numeral}

-- a byte from '0' to '9' writes the digit of its place
digit_value_is : (c : ℕ) → IsInRange 48 57 c → digit_value c ≡ c - 48
digit_value_is c h = let l = h.0 in let r = h.1 in grind (arith, nat_tests)

-- one more digit
pub digit_more : (ds : List ℕ) (i : ℕ) → AllDigits 10 ds → i < length ds
    → digits_value 10 (take (i + 1) ds) ≡ digits_value 10 (take i ds) * 10 + (get_or ds i 0 - 48)
digit_more ds i h l = digits_value_more 10 ds i l ∙ ap (λ d. digits_value 10 (take i ds) * 10 + d) (digit_value_is _ (digit_at ds i h l))

-- what the first digits write is no greater
pub digit_more-le : (ds : List ℕ) (i : ℕ) → AllDigits 10 ds → i < length ds
    → digits_value 10 (take i ds) * 10 + (get_or ds i 0 - 48) ≤ digits_value 10 ds
digit_more-le ds i h l = let e = digit_more ds i h l in let m = digits_value-take-le 10 ds (i + 1) (omega arith) in omega arith

-- the test of numerals says what it means

digit_below : (c : ℕ) → is_ascii_digit c ≡ true → digit_value c < 10
digit_below c e = grind (arith, nat_tests)

digit_tells : (c : ℕ) → digit_value c < 10 → is_ascii_digit c ≡ true
digit_tells c h = grind (arith, nat_tests)

all-digits : (ds : List ℕ) → list_all is_ascii_digit ds ≡ true → AllDigits 10 ds
all-digits [] e = tt
all-digits (d ∷ ds) e = let h = and_parts _ _ e in (digit_below d h.0, all-digits ds h.1)

digits-all : (ds : List ℕ) → AllDigits 10 ds → list_all is_ascii_digit ds ≡ true
digits-all [] h = refl
digits-all (d ∷ ds) h = rw (digit_tells d h.0) (digits-all ds h.1)

pub numeral-digits : (ds : List ℕ) → is_numeral ds ≡ true → AllDigits 10 ds
numeral-digits ds e = all-digits ds (and_parts (nat_lt 0 (length ds)) _ e).1

positive : (n : ℕ) → 0 < n → nat_lt 0 n ≡ true
positive n h = grind (arith, nat_tests)

is_positive : (n : ℕ) → nat_lt 0 n ≡ true → 0 < n
is_positive n e = grind (arith, nat_tests)

pub numeral-is : (ds : List ℕ) → is_numeral ds ≡ true → IsNumeral 10 ds
numeral-is ds e = (is_positive _ (and_parts (nat_lt 0 (length ds)) (list_all is_ascii_digit ds) e).0, numeral-digits ds e)

pub is-numeral : (ds : List ℕ) → IsNumeral 10 ds → is_numeral ds ≡ true
is-numeral ds h = ap₂ ◌&&◌ (positive _ h.0) (digits-all ds h.1)
