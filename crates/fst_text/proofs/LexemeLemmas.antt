-- The longest token at the front.
use Rattle.std.proofs.Common.{◌≡◌, ℕ, ◌<◌, ◌≤◌, Bool, true, false, ◌||◌, not, ◌==◌, nat_lt, List, [], Option, Some, None, length, take, get_or, refl, sym, ap, subst, ◌∙◌, arith, inl, inr, ◌⊎◌, length-take-le}
use Rattle.std.proofs.lemmas.Bool.{cases_Bool, cond-true, cond-false, and_parts}
use Rattle.std.proofs.lemmas.Bool.Decides.{nat_tests}
use Rattle.std.proofs.lemmas.List.Sums.{prefix_len-le-length}
use Rattle.std.specs.Char.{is_ascii_digit, is_ascii_alphabetic}
use Rattle.std.specs.List.{prefix_len}
use Rattle.fst_text.specs.declared.token.Kind.{Kind}
use Rattle.fst_text.specs.declared.token.Kind.TheVariants.{Word, Ident, Number, Mark}
use Rattle.fst_text.specs.Characters.{name_len}
use Rattle.fst_text.specs.declared.mark.Mark as mark
use Rattle.fst_text.specs.Words.{word_of}
use Rattle.fst_text.specs.Marks.{longest_mark}
use Rattle.fst_text.specs.Tokens.{IsName, IsToken, IsLongest, BeginsNone, kind_of, marked, lexeme}
use Rattle.fst_text.proofs.NameLemmas.{no_empty_name, name_len-within, name_len-name, name_len-longest, name-head}
use Rattle.fst_text.proofs.MarkLemmas.{prefix_len-all, prefix_len-longest, prefix_len-head, size_of, mark_len, mark_len-longest, longest_mark-mark, there, mark-head}

abbrev pub number_len : List ℕ → ℕ
number_len = prefix_len is_ascii_digit

pub lexeme-name : (bs : List ℕ) (name : ℕ) (kind : Kind) → name ≡ name_len bs → 0 < name → kind ≡ kind_of (take name bs)
    → Some (kind, name) ≡ lexeme bs
lexeme-name bs name kind is some kind_is =
    let t : nat_lt 0 (name_len bs) ≡ true = grind (arith, nat_tests) in
    ap (λ k. Some (k, name)) kind_is ∙ ap (λ n. Some (kind_of (take n bs), n)) is ∙ sym (cond-true _ _ _ t)

no_name : (bs : List ℕ) → name_len bs ≡ 0 → nat_lt 0 (name_len bs) ≡ false
no_name bs e = grind (arith, nat_tests)

pub lexeme-number : (bs : List ℕ) (n : ℕ) → name_len bs ≡ 0 → n ≡ number_len bs → 0 < n → Some (Number, n) ≡ lexeme bs
lexeme-number bs n none is some =
    let t : nat_lt 0 (number_len bs) ≡ true = grind (arith, nat_tests) in
    ap (λ k. Some (Number, k)) is ∙ sym (cond-false _ _ _ (no_name bs none) ∙ cond-true _ _ _ t)

-- where no identifier and no number begins, a mark may
pub lexeme-mark : (bs : List ℕ) (found : Option (mark.Mark × ℕ)) → name_len bs ≡ 0 → number_len bs ≡ 0 → found ≡ longest_mark bs → marked found ≡ lexeme bs
lexeme-mark bs found none no_digit is =
    let f : nat_lt 0 (number_len bs) ≡ false = grind (arith, nat_tests) in
    ap marked is ∙ sym (cond-false _ _ _ (no_name bs none) ∙ cond-false _ _ _ f)

-- where an identifier begins, no number and no mark does
digit_apart : (b : ℕ) → is_ascii_digit b ≡ true → (is_ascii_alphabetic b || (b == 95)) ≡ true → ⊥
digit_apart b digit letter = grind (arith, nat_tests)

digit_low : (b : ℕ) → is_ascii_digit b ≡ true → b < 128
digit_low b digit = grind (arith, nat_tests)

pub number-apart : (bs : List ℕ) → 0 < name_len bs → number_len bs ≡ 0
number-apart bs name = elim (cases_Bool (number_len bs == 0)) [
  | inl t ↦ grind (arith, nat_tests)
  | inr t ↦
      let some : 0 < number_len bs = grind (arith, nat_tests) in
      let digit = prefix_len-head is_ascii_digit bs some in
      absurd (digit_apart (get_or bs 0 0) digit (name-head bs name (digit_low (get_or bs 0 0) digit)))
]

not_both : (b : Bool) → b ≡ true → not b ≡ true → ⊥
not_both true e f = cc
not_both false e f = cc

pub mark-apart_name : (bs : List ℕ) → 0 < name_len bs → mark_len bs ≡ 0
mark-apart_name bs name = elim (cases_Bool (mark_len bs == 0)) [
  | inl t ↦ grind (arith, nat_tests)
  | inr t ↦
      let some : 0 < mark_len bs = grind (arith, nat_tests) in
      let head = and_parts _ _ (mark-head bs some) in
      let low : get_or bs 0 0 < 128 = let l = head.0 in grind (arith, nat_tests) in
      absurd (not_both _ (name-head bs name low) (and_parts _ _ head.1).0)
]

pub mark-apart_number : (bs : List ℕ) → 0 < number_len bs → mark_len bs ≡ 0
mark-apart_number bs number = elim (cases_Bool (mark_len bs == 0)) [
  | inl t ↦ grind (arith, nat_tests)
  | inr t ↦
      let some : 0 < mark_len bs = grind (arith, nat_tests) in
      let head = and_parts _ _ (mark-head bs some) in
      absurd (not_both _ (prefix_len-head is_ascii_digit bs number) (and_parts _ _ head.1).1)
]

-- no token at the front is longer than the three measures
bounded : (bs : List ℕ) (n : ℕ) → name_len bs ≤ n → number_len bs ≤ n → mark_len bs ≤ n
    → (other : Kind) (m : ℕ) → m ≤ length bs → IsToken other (take m bs) → m ≤ n
bounded bs n a b d (Word w) m le token = omega (arith, name_len-longest bs m le token.0)
bounded bs n a b d Ident m le token = omega (arith, name_len-longest bs m le token.0)
bounded bs n a b d Number m le token = omega (arith, prefix_len-longest is_ascii_digit bs m le token.1)
bounded bs n a b d (Mark k) m le token = omega (arith, mark_len-longest bs m k le token)

name_token : (w : List ℕ) → IsName w → IsToken (kind_of w) w
name_token w name = elim (there (word_of w)) [
  | inl (word, is) ↦ rw is (name, is)
  | inr is ↦ rw is (name, is)
]

pub name-longest : (bs : List ℕ) → 0 < name_len bs → IsLongest (kind_of (take (name_len bs) bs)) (name_len bs) bs
name-longest bs some = record {
  within = name_len-within bs;
  token = name_token (take (name_len bs) bs) (name_len-name bs some);
  longest = bounded bs (name_len bs) (omega arith) (omega (arith, number-apart bs some)) (omega (arith, mark-apart_name bs some));
}

pub number-longest : (bs : List ℕ) → name_len bs ≡ 0 → 0 < number_len bs → IsLongest Number (number_len bs) bs
number-longest bs none some =
    let within = prefix_len-le-length is_ascii_digit bs in
    record {
      within = within;
      token = (λ e. absurd (omega (arith, ap length e, length-take-le (number_len bs) bs within)), prefix_len-all is_ascii_digit bs);
      longest = bounded bs (number_len bs) (omega arith) (omega arith) (omega (arith, mark-apart_number bs some));
    }

pub mark-longest : (bs : List ℕ) (m : mark.Mark) (n : ℕ) → name_len bs ≡ 0 → number_len bs ≡ 0 → longest_mark bs ≡ Some (m, n) → IsLongest (Mark m) n bs
mark-longest bs m n none no_digit is =
    let longest = longest_mark-mark bs m n is in
    record {
      within = longest.within;
      token = longest.mark;
      longest = bounded bs n (omega arith) (omega arith) (omega (arith, ap size_of is));
    }

no_token : (kind : Kind) → ¬ (IsToken kind [])
no_token (Word w) (name, is) = no_empty_name name
no_token Ident (name, is) = no_empty_name name
no_token Number (some, all) = some refl
no_token (Mark m) (inl e) = cc
no_token (Mark m) (inr (inl e)) = cc
no_token (Mark m) (inr (inr e)) = cc

pub nothing-begins : (bs : List ℕ) → name_len bs ≡ 0 → number_len bs ≡ 0 → mark_len bs ≡ 0 → BeginsNone bs
nothing-begins bs none no_digit no_mark kind m le token =
    let empty : m ≡ 0 = omega (arith, bounded bs 0 (omega arith) (omega arith) (omega arith) kind m le token) in
    no_token kind (subst (λ k. IsToken kind (take k bs)) empty token)

-- a token of at least a byte, and no longer one
abbrev Fits : List ℕ → Kind × ℕ → Type 0
Fits bs found = (0 < found.1) × IsLongest found.0 found.1 bs

some_is : {A : Type 0} (x y : A) → Some x ≡ Some y → x ≡ y
some_is x y e = cc

by_measures : (bs : List ℕ) → ((found : Kind × ℕ) × ((lexeme bs ≡ Some found) × Fits bs found)) ⊎ ((lexeme bs ≡ None) × BeginsNone bs)
by_measures bs = elim (cases_Bool (name_len bs == 0)) [
  | inr t ↦ let some : 0 < name_len bs = grind (arith, nat_tests) in
      inl ((kind_of (take (name_len bs) bs), name_len bs), (sym (lexeme-name bs _ _ refl some refl), (some, name-longest bs some)))
  | inl t ↦ let none : name_len bs ≡ 0 = grind (arith, nat_tests) in elim (cases_Bool (number_len bs == 0)) [
    | inr u ↦ let some : 0 < number_len bs = grind (arith, nat_tests) in
        inl ((Number, number_len bs), (sym (lexeme-number bs _ none refl some), (some, number-longest bs none some)))
    | inl u ↦ let no_digit : number_len bs ≡ 0 = grind (arith, nat_tests) in elim (there (longest_mark bs)) [
      | inl ((m, n), is) ↦
          inl ((Mark m, n), (sym (lexeme-mark bs (Some (m, n)) none no_digit (sym is)), ((longest_mark-mark bs m n is).some, mark-longest bs m n none no_digit is)))
      | inr is ↦
          inr (sym (lexeme-mark bs None none no_digit (sym is)), nothing-begins bs none no_digit (ap size_of is))
    ]
  ]
]

-- what is computed is the longest token
pub lexeme-longest : (bs : List ℕ) (found : Kind × ℕ) → lexeme bs ≡ Some found → (0 < found.1) × IsLongest found.0 found.1 bs
lexeme-longest bs found e = elim (by_measures bs) [
  | inl (one, (is, fits)) ↦ subst (Fits bs) (some_is one found (sym is ∙ e)) fits
  | inr (is, _) ↦ absurd (let n : None ≡ Some found = sym is ∙ e in cc)
]

-- and where nothing is computed, none begins
pub lexeme-none : (bs : List ℕ) → lexeme bs ≡ None → BeginsNone bs
lexeme-none bs e = elim (by_measures bs) [
  | inl (one, (is, fits)) ↦ absurd (let n : None ≡ Some one = sym e ∙ is in cc)
  | inr (is, none) ↦ none
]
