-- The identifier at the front.
use Rattle.std.proofs.Common.{◌≡◌, ℕ, ◌+◌, ◌<◌, ◌≤◌, true, false, ◌&&◌, ◌||◌, ◌==◌, List, [], ◌∷◌, ◌++◌, length, take, drop, get_or, sym, ap, subst, ◌∙◌, arith, inl, inr, append_assoc, length-append, length-drop}
use Rattle.std.proofs.Math.Seq.{take-append-add, drop-append_seam}
use Rattle.std.proofs.lemmas.List.{take-append-drop, length-take-le}
use Rattle.std.proofs.lemmas.Bool.{cases_Bool, cond-true, cond-false, and_parts}
use Rattle.std.proofs.lemmas.Bool.Decides.{nat_tests}
use Rattle.std.proofs.lemmas.Str.{char_from_byte}
use Rattle.std.specs.Char.{encode_utf8, is_ascii_alphabetic}
use Rattle.std.specs.Str.{encode_utf8_all, all_scalars}
use Rattle.std.specs.List.{list_all}
use Rattle.unicode_ident.proofs.IdentLemmas.{is_xid_start-ascii}
use Rattle.fst_text.specs.Characters.{starts_name, continues_name, char_len, run_len, name_len}
use Rattle.fst_text.specs.Tokens.{IsName}
use Rattle.fst_text.proofs.ManyLemmas.{many-within}
use Rattle.fst_text.proofs.CharacterLemmas.{IsPassing, ArePassing, char_len-within, char_len-passing, char_len-encode, encode-some, run_len-passing, run_len-longest}

name_len-some : (bs : List ℕ) → 0 < char_len starts_name bs
    → name_len bs ≡ char_len starts_name bs + run_len continues_name (drop (char_len starts_name bs) bs)
name_len-some bs some = let t : char_len starts_name bs == 0 ≡ false = grind (arith, nat_tests) in cond-false _ _ _ t

name_len-none : (bs : List ℕ) → char_len starts_name bs ≡ 0 → name_len bs ≡ 0
name_len-none bs none = let t : char_len starts_name bs == 0 ≡ true = grind (arith, nat_tests) in cond-true _ _ _ t

first_of_name : (bs : List ℕ) → 0 < name_len bs → 0 < char_len starts_name bs
first_of_name bs some = elim (cases_Bool (char_len starts_name bs == 0)) [
  | inl t ↦ let none : char_len starts_name bs ≡ 0 = grind (arith, nat_tests) in absurd (omega (arith, name_len-none bs none))
  | inr t ↦ grind (arith, nat_tests)
]

pub name_len-within : (bs : List ℕ) → name_len bs ≤ length bs
name_len-within bs = elim (cases_Bool (char_len starts_name bs == 0)) [
  | inl t ↦ let none : char_len starts_name bs ≡ 0 = grind (arith, nat_tests) in omega (arith, name_len-none bs none)
  | inr t ↦
      let some : 0 < char_len starts_name bs = grind (arith, nat_tests) in
      let first = (char_len-within starts_name).within bs in
      let rest = many-within _ (char_len-within continues_name) (drop (char_len starts_name bs) bs) in
      omega (arith, name_len-some bs some, first, rest, length-drop (char_len starts_name bs) bs)
]

named : (bs : List ℕ) (n : ℕ) → IsPassing starts_name bs → ArePassing continues_name (take n (drop (char_len starts_name bs) bs))
    → IsName (take (char_len starts_name bs + n) bs)
named bs n first rest =
    let at = char_len starts_name bs in
    let front = encode_utf8 first.char in
    record {
      first = first.char;
      rest = rest.chars;
      scalars = ap (λ b. b && all_scalars rest.chars) first.spelled.scalar ∙ rest.scalars;
      starts = first.passes;
      continues = rest.pass;
      bytes = ap (take (at + n)) first.spelled.bytes ∙ ap (λ k. take (k + n) (front ++ drop at bs)) (sym first.spelled.width)
          ∙ take-append-add front (drop at bs) n ∙ ap (λ r. front ++ r) rest.spelled;
    }

-- what is measured is an identifier
pub name_len-name : (bs : List ℕ) → 0 < name_len bs → IsName (take (name_len bs) bs)
name_len-name bs some =
    let first = first_of_name bs some in
    subst (λ n. IsName (take n bs)) (sym (name_len-some bs first))
    (named bs _ (char_len-passing starts_name bs first) (run_len-passing continues_name (drop (char_len starts_name bs) bs)))

name_len-of : (c : ℕ) (cs rest : List ℕ) → all_scalars (c ∷ cs) ≡ true → starts_name c ≡ true → list_all continues_name cs ≡ true
    → length (encode_utf8_all (c ∷ cs)) ≤ name_len (encode_utf8 c ++ (encode_utf8_all cs ++ rest))
name_len-of c cs rest scalars starts continues =
    let scalar = and_parts _ _ scalars in
    let front = encode_utf8 c in
    let back = encode_utf8_all cs ++ rest in
    let size : char_len starts_name (front ++ back) ≡ length front = char_len-encode starts_name c back scalar.0 starts in
    let first : 0 < char_len starts_name (front ++ back) = omega (arith, size, encode-some c) in
    let rest_is : drop (char_len starts_name (front ++ back)) (front ++ back) ≡ back = ap (λ n. drop n (front ++ back)) size ∙ drop-append_seam front back in
    let more = run_len-longest continues_name cs rest scalar.1 continues in
    omega (arith, name_len-some (front ++ back) first, ap (run_len continues_name) rest_is, size, more, length-append front (encode_utf8_all cs))

-- and no identifier at the front is longer
pub name_len-longest : (bs : List ℕ) (m : ℕ) → m ≤ length bs → IsName (take m bs) → m ≤ name_len bs
name_len-longest bs m within name =
    let front = encode_utf8_all (name.first ∷ name.rest) in
    let split : bs ≡ encode_utf8 name.first ++ (encode_utf8_all name.rest ++ drop m bs)
    = sym (take-append-drop m bs) ∙ ap (λ w. w ++ drop m bs) name.bytes ∙ append_assoc (encode_utf8 name.first) (encode_utf8_all name.rest) (drop m bs) in
    let long = name_len-of name.first name.rest (drop m bs) name.scalars name.starts name.continues in
    omega (arith, ap name_len split, long, ap length name.bytes, length-take-le m bs within)

-- an ASCII byte that begins an identifier is a letter or an underscore
pub name-head : (bs : List ℕ) → 0 < name_len bs → get_or bs 0 0 < 128 → (is_ascii_alphabetic (get_or bs 0 0) || (get_or bs 0 0 == 95)) ≡ true
name-head bs some low =
    let first = first_of_name bs some in
    let passing = char_len-passing starts_name bs first in
    let long : 0 < length bs = omega (arith, (char_len-within starts_name).within bs) in
    let head = char_from_byte bs (drop (char_len starts_name bs) bs) passing.char passing.spelled.bytes low long in
    ap (λ b. b || (get_or bs 0 0 == 95)) (sym (is_xid_start-ascii (get_or bs 0 0) low)) ∙ subst (λ c. starts_name c ≡ true) head passing.passes

pub no_empty_name : ¬ (IsName [])
no_empty_name name =
    omega (arith, ap length name.bytes, length-append (encode_utf8 name.first) (encode_utf8_all name.rest), encode-some name.first)
