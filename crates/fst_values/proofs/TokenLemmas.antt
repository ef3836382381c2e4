-- Marks, words and numerals are taken as they are defined.
use Rattle.std.proofs.Common.{◌≡◌, ℕ, Bool, true, false, cond, ◌==◌, List, [], ◌∷◌, drop, Some, None, refl, sym, ap, ap₂, subst, ◌∙◌, arith}
use Rattle.std.proofs.lemmas.Bool.{false≢true}
use Rattle.std.proofs.lemmas.Bool.Decides.{nat_tests}
use Rattle.std.specs.Cmp.Lexicographic.{pointwise, same_text}
use Rattle.std.specs.Str.Parse.{digits_value}
use Rattle.fst_base.specs.Values.{Val, v_int}
use Rattle.fst_values.specs.Tokens.{skip, word, Mark, Word, Numeral}
use Rattle.fst_values.specs.Reading.{starts, expected, is_word, past_word, signed, is_numeral, numeral}
use Rattle.fst_values.proofs.NumberLemmas.{numeral-is, is-numeral}
use Rattle.fst_values.proofs.StepLemmas.{some-is, chosen}

pub eqb-is : (a b : ℕ) → a == b ≡ true → a ≡ b
eqb-is a b e = grind (arith, nat_tests)

pub same-eqb : (a : ℕ) → a == a ≡ true
same-eqb a = grind (arith, nat_tests)

pub mark-sound : (mark : ℕ) (bs : List ℕ) → starts mark bs ≡ true → Mark mark bs (skip (drop 1 bs))
mark-sound mark [] e = absurd (false≢true e)
mark-sound mark (b ∷ bs) e = (bs, (ap (λ x. x ∷ bs) (eqb-is b mark e), refl))

pub starts-mark : (mark : ℕ) (from to : List ℕ) → Mark mark from to → (starts mark from ≡ true) × (skip (drop 1 from) ≡ to)
starts-mark mark from to h =
    (ap (starts mark) h.1.0 ∙ same-eqb mark, ap (λ k. skip (drop 1 k)) h.1.0 ∙ sym h.1.1)

pub expected-sound : (mark : ℕ) (bs to : List ℕ) → expected mark bs ≡ Some to → Mark mark bs to
expected-sound mark bs to e =
    let h = chosen (starts mark bs) (Some (skip (drop 1 bs))) to e in
    subst (Mark mark bs) (some-is _ _ h.1) (mark-sound mark bs h.0)

pub mark-expected : (mark : ℕ) (from to : List ℕ) → Mark mark from to → expected mark from ≡ Some to
mark-expected mark from to h =
    let s = starts-mark mark from to h in
    ap (λ t. cond t (Some (skip (drop 1 from))) None) s.0 ∙ ap (λ k. Some k) s.1

pub word-sound : (name bs : List ℕ) → is_word bs name ≡ true → Word name bs (past_word bs)
word-sound name bs e = (same_text _ _ (sym e), refl)

pub word-complete : (name from to : List ℕ) → pointwise ◌==◌ name name ≡ true → Word name from to → (is_word from name ≡ true) × (past_word from ≡ to)
word-complete name from to e h = (ap (λ w. pointwise ◌==◌ w name) h.0 ∙ e, sym h.1)

-- another word is not there
pub other_word : (name other from to : List ℕ) → pointwise ◌==◌ name other ≡ false → Word name from to → is_word from other ≡ false
other_word name other from to e h = ap (λ w. pointwise ◌==◌ w other) h.0 ∙ e

pub numeral-sound : (s : Bool) (bs : List ℕ) (w : Val) (to : List ℕ) → numeral s bs ≡ Some (w, to)
    → (n : ℕ) × (Numeral n bs to × (w ≡ v_int (signed s n)))
numeral-sound s bs w to e =
    let h = chosen (is_numeral (word bs)) (Some (v_int (signed s (digits_value 10 (word bs))), past_word bs)) (w, to) e in
    let p = some-is _ _ h.1 in
    (digits_value 10 (word bs), ((numeral-is (word bs) h.0, refl, sym (ap (λ q. q.1) p)), sym (ap (λ q. q.0) p)))

pub numeral-complete : (s : Bool) (n : ℕ) (from to : List ℕ) → Numeral n from to → numeral s from ≡ Some (v_int (signed s n), to)
numeral-complete s n from to h =
    ap (λ t. cond t (Some (v_int (signed s (digits_value 10 (word from))), past_word from)) None) (is-numeral (word from) h.0)
    ∙ ap₂ (λ m k. Some (v_int (signed s m), k)) h.1 (sym h.2)
