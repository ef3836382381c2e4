-- Every text is found, so it is one of one value.
use Rattle.std.proofs.Common.{◌≡◌, ℕ, zero, suc, ◌<◌, ◌≤◌, true, false, cond, inl, inr, List, [], length, drop, ℤ, Some, codes, refl, sym, ap, ◌∙◌, arith}
use Rattle.fst_base.specs.Sorts.{Srt, s_unit, s_bool, s_int, s_pair, s_opt, s_list, s_either}
use Rattle.fst_base.specs.Values.{Val, v_unit, v_bool, v_int, v_pair, v_none, v_some, v_nil, v_cons, v_inl, v_inr}
use Rattle.fst_values.specs.Tokens.{skip, word, Mark}
use Rattle.fst_values.specs.Texts.{Text, More, Integer, IsText, open_round, close_round, comma, minus, semicolon, open_square, close_square}
use Rattle.fst_values.specs.Reading.{starts, after_mark, expected, is_word, numeral, within, items, reads}
use Rattle.fst_values.proofs.StepLemmas.{some-is, goes, chooses, passes}
use Rattle.fst_values.proofs.TokenLemmas.{starts-mark, mark-expected, word-complete, other_word, numeral-complete}
use Rattle.fst_values.proofs.LengthLemmas.{mark-shorter, text-le}
use Rattle.fst_values.proofs.StartLemmas.{starts-other, starts-word, text-starts}

integer-complete : (n : ℤ) (from to : List ℕ) → Integer n from to → reads s_int from ≡ Some (v_int n, to)
integer-complete n from to (inl h) =
    let s : starts minus from ≡ false = starts-word minus (word from) from refl refl h.1.0.0.0 in
    ap (λ t. numeral t (cond t (skip (drop 1 from)) from)) s
    ∙ numeral-complete false h.0 from to h.1.0 ∙ ap (λ m. Some (v_int m, to)) (sym h.1.1)
integer-complete n from to (inr h) =
    let s = starts-mark minus from h.1.0 h.1.1.0 in
    ap (λ t. numeral t (cond t (skip (drop 1 from)) from)) s.0
    ∙ ap (numeral true) s.1
    ∙ numeral-complete true h.0 h.1.0 to h.1.1.1 ∙ ap (λ m. Some (v_int m, to)) (sym h.1.1.2)

after_mark-is : (mark : ℕ) (from to : List ℕ) → Mark mark from to → after_mark mark from ≡ to
after_mark-is mark from to h = let s = starts-mark mark from to h in chooses (starts mark from) _ from s.0 ∙ s.1

last_item : (S : Srt) (a : Val) (most : ℕ) (k l to : List ℕ) → length k < most → reads S k ≡ Some (a, l) → Mark close_square l to
    → items (reads S) most k ≡ Some (v_cons a v_nil, to)
last_item S a zero k l to h e m = absurd (omega arith)
last_item S a (suc most) k l to h e m =
    goes (reads S k) _ (a, l) e
    ∙ chooses (starts close_square l) _ _ (starts-mark close_square l to m).0
    ∙ ap (λ n. Some (v_cons a v_nil, n)) (after_mark-is close_square l to m)

next_item : (S : Srt) (a b : Val) (most : ℕ) (k l m to : List ℕ) → reads S k ≡ Some (a, l) → Mark semicolon l m
    → items (reads S) most m ≡ Some (b, to) → items (reads S) (suc most) k ≡ Some (v_cons a b, to)
next_item S a b most k l m to e f g =
    goes (reads S k) _ (a, l) e
    ∙ passes (starts close_square l) _ _ (starts-other semicolon close_square l m refl f)
    ∙ goes (expected semicolon l) _ m (mark-expected semicolon l m f)
    ∙ goes (items (reads S) most m) _ (b, to) g

mutual
  pub complete : (S : Srt) (v : Val) (from to : List ℕ) → Text S v from to → reads S from ≡ Some (v, to)
  complete s_unit v_unit from to h =
      goes (expected open_round from) _ h.0 (mark-expected open_round from h.0 h.1.0)
      ∙ goes (expected close_round h.0) _ to (mark-expected close_round h.0 to h.1.1)
  complete s_bool (v_bool true) from to h =
      let w = word-complete (codes "true") from to refl h in
      chooses (is_word from (codes "true")) _ _ w.0 ∙ ap (λ k. Some (v_bool true, k)) w.1
  complete s_bool (v_bool false) from to h =
      let w = word-complete (codes "false") from to refl h in
      passes (is_word from (codes "true")) _ _ (other_word (codes "false") (codes "true") from to refl h)
      ∙ chooses (is_word from (codes "false")) _ _ w.0 ∙ ap (λ k. Some (v_bool false, k)) w.1
  complete s_int (v_int n) from to h = integer-complete n from to h
  complete (s_pair S T) (v_pair a b) from to h =
      goes (expected open_round from) _ h.0 (mark-expected open_round from h.0 h.4.0)
      ∙ goes (reads S h.0) _ (a, h.1) (complete S a h.0 h.1 h.4.1)
      ∙ goes (expected comma h.1) _ h.2 (mark-expected comma h.1 h.2 h.4.2)
      ∙ goes (reads T h.2) _ (b, h.3) (complete T b h.2 h.3 h.4.3)
      ∙ goes (expected close_round h.3) _ to (mark-expected close_round h.3 to h.4.4)
  complete (s_opt S) v_none from to h =
      let w = word-complete (codes "none") from to refl h in
      chooses (is_word from (codes "none")) _ _ w.0 ∙ ap (λ k. Some (v_none, k)) w.1
  complete (s_opt S) (v_some a) from to h =
      let w = word-complete (codes "some") from h.0 refl h.1.0 in
      passes (is_word from (codes "none")) _ _ (other_word (codes "some") (codes "none") from h.0 refl h.1.0)
      ∙ chooses (is_word from (codes "some")) _ _ w.0
      ∙ ap (λ k. within v_some (reads S k)) w.1
      ∙ goes (reads S h.0) _ (a, to) (complete S a h.0 to h.1.1)
  complete (s_list S) v_nil from to h =
      goes (expected open_square from) _ h.0 (mark-expected open_square from h.0 h.1.0)
      ∙ chooses (starts close_square h.0) _ _ (starts-mark close_square h.0 to h.1.1).0
      ∙ ap (λ k. Some (v_nil, k)) (after_mark-is close_square h.0 to h.1.1)
  complete (s_list S) (v_cons a b) from to h =
      goes (expected open_square from) _ h.0 (mark-expected open_square from h.0 h.2.0)
      ∙ passes (starts close_square h.0) _ _ (text-starts S a h.0 h.1 h.2.1)
      ∙ items-complete S a b (suc (length h.0)) h.0 h.1 to (omega arith) (complete S a h.0 h.1 h.2.1) (text-le S a h.0 h.1 h.2.1) h.2.2
  complete (s_either S T) (v_inl a) from to h =
      let w = word-complete (codes "inl") from h.0 refl h.1.0 in
      chooses (is_word from (codes "inl")) _ _ w.0
      ∙ ap (λ k. within v_inl (reads S k)) w.1
      ∙ goes (reads S h.0) _ (a, to) (complete S a h.0 to h.1.1)
  complete (s_either S T) (v_inr a) from to h =
      let w = word-complete (codes "inr") from h.0 refl h.1.0 in
      passes (is_word from (codes "inl")) _ _ (other_word (codes "inr") (codes "inl") from h.0 refl h.1.0)
      ∙ chooses (is_word from (codes "inr")) _ _ w.0
      ∙ ap (λ k. within v_inr (reads T k)) w.1
      ∙ goes (reads T h.0) _ (a, to) (complete T a h.0 to h.1.1)
  complete S v from to h = absurd h

  items-complete : (S : Srt) (a b : Val) (most : ℕ) (k l to : List ℕ) → length k < most → reads S k ≡ Some (a, l) → length l ≤ length k → More S b l to
      → items (reads S) most k ≡ Some (v_cons a b, to)
  items-complete S a v_nil most k l to h e n m = last_item S a most k l to h e m
  items-complete S a (v_cons b c) zero k l to h e n m = absurd (omega arith)
  items-complete S a (v_cons b c) (suc most) k l to h e n m =
      let s = mark-shorter semicolon l m.0 m.2.0 in
      next_item S a (v_cons b c) most k l m.0 to e m.2.0
      (items-complete S b c most m.0 m.1 to (omega arith) (complete S b m.0 m.1 m.2.1) (text-le S b m.0 m.1 m.2.1) m.2.2)
  items-complete S a b most k l to h e n m = absurd m

-- a text at a sort is one of one value
pub one_value : (S : Srt) (v w : Val) (bytes : List ℕ) → IsText S v bytes → IsText S w bytes → v ≡ w
one_value S v w bytes h k =
    let e = sym (complete S v (skip bytes) [] h) ∙ complete S w (skip bytes) [] k in
    ap (λ p. p.0) (some-is _ _ e)
