-- What is left behind a text is no longer than what it was read from.
use Rattle.std.proofs.Common.{◌≡◌, ℕ, suc, ◌<◌, ◌≤◌, Bool, true, false, inl, inr, List, [], ◌∷◌, length, ℤ, Some, codes, refl, ap, arith, length-drop}
use Rattle.fst_base.specs.Sorts.{Srt, s_unit, s_bool, s_int, s_pair, s_opt, s_list, s_either}
use Rattle.fst_base.specs.Values.{Val, v_unit, v_bool, v_int, v_pair, v_none, v_some, v_nil, v_cons, v_inl, v_inr}
use Rattle.fst_values.specs.Tokens.{is_blank, skip, word, after_word, Mark, Word, Numeral}
use Rattle.fst_values.specs.Texts.{Text, More, Integer, open_round, close_round, comma, minus, semicolon, open_square, close_square}
use Rattle.fst_values.specs.Reading.{expected, past_word}
use Rattle.fst_values.proofs.TokenLemmas.{expected-sound}

pub skip_step : (b : ℕ) (bs : List ℕ) (t : Bool) → is_blank b ≡ t → length (skip bs) ≤ length bs → length (skip (b ∷ bs)) ≤ length (b ∷ bs)
skip_step b bs true e h = rw e (omega arith)
skip_step b bs false e h = rw e (omega arith)

pub skip-le : (bs : List ℕ) → length (skip bs) ≤ length bs
skip-le [] = omega arith
skip-le (b ∷ bs) = skip_step b bs (is_blank b) refl (skip-le bs)

pub mark-shorter : (mark : ℕ) (from to : List ℕ) → Mark mark from to → length to < length from
mark-shorter mark from to h =
    let e : length from ≡ suc (length h.0) = ap length h.1.0 in
    let f : length to ≡ length (skip h.0) = ap length h.1.1 in
    let g = skip-le h.0 in
    omega arith

pub expected-shorter : (mark : ℕ) (from to : List ℕ) → expected mark from ≡ Some to → length to < length from
expected-shorter mark from to e = mark-shorter mark from to (expected-sound mark from to e)

pub past_word-le : (bs : List ℕ) → length (past_word bs) ≤ length bs
past_word-le bs =
    let g = skip-le (after_word bs) in
    let d = length-drop (length (word bs)) bs in
    omega arith

pub word-le : (name from to : List ℕ) → Word name from to → length to ≤ length from
word-le name from to h = let e : length to ≡ length (past_word from) = ap length h.1 in let g = past_word-le from in omega arith

pub numeral-le : (n : ℕ) (from to : List ℕ) → Numeral n from to → length to ≤ length from
numeral-le n from to h = let e : length to ≡ length (past_word from) = ap length h.2 in let g = past_word-le from in omega arith

pub integer-le : (n : ℤ) (from to : List ℕ) → Integer n from to → length to ≤ length from
integer-le n from to (inl h) = numeral-le h.0 from to h.1.0
integer-le n from to (inr h) =
    let m = mark-shorter minus from h.1.0 h.1.1.0 in
    let d = numeral-le h.0 h.1.0 to h.1.1.1 in
    omega arith

mutual
  pub text-le : (S : Srt) (v : Val) (from to : List ℕ) → Text S v from to → length to ≤ length from
  text-le s_unit v_unit from to h =
      let m = mark-shorter open_round from h.0 h.1.0 in let n = mark-shorter close_round h.0 to h.1.1 in omega arith
  text-le s_bool (v_bool true) from to h = word-le (codes "true") from to h
  text-le s_bool (v_bool false) from to h = word-le (codes "false") from to h
  text-le s_int (v_int n) from to h = integer-le n from to h
  text-le (s_pair S T) (v_pair a b) from to h =
      let k = mark-shorter open_round from h.0 h.4.0 in
      let l = text-le S a h.0 h.1 h.4.1 in
      let m = mark-shorter comma h.1 h.2 h.4.2 in
      let n = text-le T b h.2 h.3 h.4.3 in
      let o = mark-shorter close_round h.3 to h.4.4 in
      omega arith
  text-le (s_opt S) v_none from to h = word-le (codes "none") from to h
  text-le (s_opt S) (v_some a) from to h = let m = word-le (codes "some") from h.0 h.1.0 in let n = text-le S a h.0 to h.1.1 in omega arith
  text-le (s_list S) v_nil from to h =
      let m = mark-shorter open_square from h.0 h.1.0 in let n = mark-shorter close_square h.0 to h.1.1 in omega arith
  text-le (s_list S) (v_cons a b) from to h =
      let k = mark-shorter open_square from h.0 h.2.0 in
      let l = text-le S a h.0 h.1 h.2.1 in
      let m = more-le S b h.1 to h.2.2 in
      omega arith
  text-le (s_either S T) (v_inl a) from to h = let m = word-le (codes "inl") from h.0 h.1.0 in let n = text-le S a h.0 to h.1.1 in omega arith
  text-le (s_either S T) (v_inr a) from to h = let m = word-le (codes "inr") from h.0 h.1.0 in let n = text-le T a h.0 to h.1.1 in omega arith
  text-le S v from to h = absurd h

  more-le : (S : Srt) (v : Val) (from to : List ℕ) → More S v from to → length to ≤ length from
  more-le S v_nil from to h = let m = mark-shorter close_square from to h in omega arith
  more-le S (v_cons a b) from to h =
      let k = mark-shorter semicolon from h.0 h.2.0 in
      let l = text-le S a h.0 h.1 h.2.1 in
      let m = more-le S b h.1 to h.2.2 in
      omega arith
  more-le S v from to h = absurd h
