-- The fuel that a word is, read by `from_str_radix`.
use Rattle.std.proofs.Common.{◌≡◌, ℕ, ◌+◌, ◌-◌, ◌*◌, ◌<◌, ◌≤◌, ◌^◌, Bool, true, false, ◌&&◌, if◌then◌else◌, List, length, Option, Some, None, Result, Ok, Err, refl, sym, ap, ◌∙◌, subst, arith, rules}
use Rattle.std.specs.Prelude.{nat_lt, nat_le}
use Rattle.std.specs.Char.{digit_value, is_ascii_digit}
use Rattle.std.specs.Int.{IsInRange}
use Rattle.std.specs.List.{list_all}
use Rattle.std.specs.Result.{OkIff}
use Rattle.std.specs.Str.Parse.{digits_value, digits_value_after, ParsesUnsigned}
use Rattle.std.proofs.lemmas.Bool.{and_parts}
use Rattle.std.proofs.lemmas.Str.{digit_value_digit}
use Rattle.std.proofs.lemmas.Str.Parse.{IsNumeralModel, numerals_by_fold, parse_digits}
use Rattle.fst_top.specs.Answers.{fuel_of, most_fuel}

-- digits and the number that they write
abbrev Digits : List ℕ → Type 0
Digits ds = list_all is_ascii_digit ds ≡ true

digit-is : (c : ℕ) → IsInRange 48 57 c → digit_value c ≡ c - 48
digit-is c within = let e = digit_value_digit c within in omega (arith, e)

numerals : IsNumeralModel Digits (digits_value 10)
numerals = numerals_by_fold Digits (search rules) (digits_value_after 10) (record { empty = λ n. refl; more = λ n c cs within. ap (λ d. digits_value_after 10 (n * 10 + d) cs) (digit-is c within) })

read-as : {E : Type 0} (w : List ℕ) (r : Result ℕ E) → ParsesUnsigned 64 10 w r → Digits w → OkIff r ((0 < length w) × (digits_value 10 w < 2 ^ 64)) (digits_value 10 w)
read-as w r h d = parse_digits numerals 64 w r h d

-- a word of digits that is read is the fuel that it writes, up to the most
pub fuel-read : (E : Type 0) (w : List ℕ) (n : ℕ) → ParsesUnsigned {E = E} 64 10 w (Ok n) → Digits w → fuel_of w ≡ (if nat_le n most_fuel then Some n else None)
fuel-read E w n h d =
    let told : ((0 < length w) × (digits_value 10 w < 2 ^ 64)) × (n ≡ digits_value 10 w) = read-as {E = E} w (Ok n) h d in
    let some : nat_lt 0 (length w) ≡ true = grind (arith, told.0.0) in
    rw (some, d, told.1) refl

-- one that is not read is no fuel
pub fuel-not-read : {E : Type 0} (w : List ℕ) (e : E) → ParsesUnsigned 64 10 w (Err e) → fuel_of w ≡ None
fuel-not-read w e h = go (nat_lt 0 (length w) && list_all is_ascii_digit w && nat_le (digits_value 10 w) most_fuel) refl
  where
    go : (b : Bool) → (nat_lt 0 (length w) && list_all is_ascii_digit w && nat_le (digits_value 10 w) most_fuel) ≡ b → (if b then Some (digits_value 10 w) else None) ≡ None
    go false q = refl
    go true q =
        let first = and_parts (nat_lt 0 (length w) && list_all is_ascii_digit w) _ q in
        let second = and_parts (nat_lt 0 (length w)) _ first.0 in
        let some : 0 < length w = grind (arith, second.0) in
        let most : digits_value 10 w ≤ most_fuel = grind (arith, first.1) in
        let fits : digits_value 10 w < 2 ^ 64 = omega (arith, most) in
        absurd (read-as w (Err e) h second.1 (some, fits))
