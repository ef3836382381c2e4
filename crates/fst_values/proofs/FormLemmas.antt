-- What is read at each form of a sort, from what is read of its parts.
use Rattle.std.proofs.Common.{◌≡◌, ◌==◌, ℕ, suc, Bool, true, false, List, length, Option, Some, Result, Ok, codes, sym, ap, subst, ◌∙◌}
use Rattle.std.specs.Cmp.Lexicographic.{pointwise}
use Rattle.fst_base.specs.Sorts.{Srt, s_pair, s_opt, s_list, s_either}
use Rattle.fst_base.specs.Values.{Val, v_pair, v_some, v_inl, v_inr}
use Rattle.fst_base.specs.declared.value.Value.{Value}
use Rattle.fst_values.specs.declared.fault.ValueFault.{ValueFault}
use Rattle.fst_values.specs.Tokens.{word}
use Rattle.fst_values.specs.Texts.{open_round, close_round, comma, open_square, close_square}
use Rattle.fst_values.specs.Reading.{starts, after_mark, expected, is_word, past_word, Found, within, items, reads, Part, Gives}
use Rattle.fst_values.proofs.StepLemmas.{goes, chooses, passes}

along : (o p : Found) (r : Result (Option Value) ValueFault) (to : List ℕ) → o ≡ p → Gives p r to → Gives o r to
along o p r to e h = subst (λ q. Gives q r to) (sym e) h

wrapped : (f : Val → Val) (o : Found) (to : List ℕ) (part r : Option Value) → Gives o (Ok part) to → ((w : Val) → Part w part → Part (f w) r)
    → Gives (within f o) (Ok r) to
wrapped f o to part r h make = (f h.0, (goes o _ (h.0, to) h.1.0, make h.0 h.1.1))

-- the word that was taken is this one, or not
word_test : (bs taken name : List ℕ) (t u : Bool) → taken ≡ word bs → t ≡ pointwise ◌==◌ taken name → t ≡ u → is_word bs name ≡ u
word_test bs taken name t u e f g = ap (λ w. pointwise ◌==◌ w name) (sym e) ∙ sym f ∙ g

module _ (S T : Srt) (bs taken k to : List ℕ) (part r : Option Value) (et : taken ≡ word bs) (ek : k ≡ past_word bs) where
  pub left_found : (t : Bool) → t ≡ pointwise ◌==◌ taken (codes "inl") → t ≡ true → Gives (reads S k) (Ok part) to
      → ((w : Val) → Part w part → Part (v_inl w) r) → Gives (reads (s_either S T) bs) (Ok r) to
  left_found t e f h make =
      along _ _ (Ok r) to (chooses (is_word bs (codes "inl")) _ _ (word_test bs taken (codes "inl") t true et e f) ∙ ap (λ b. within v_inl (reads S b)) (sym ek))
      (wrapped v_inl (reads S k) to part r h make)

  pub right_found : (t u : Bool) → t ≡ pointwise ◌==◌ taken (codes "inl") → t ≡ false → u ≡ pointwise ◌==◌ taken (codes "inr") → u ≡ true
      → Gives (reads T k) (Ok part) to → ((w : Val) → Part w part → Part (v_inr w) r) → Gives (reads (s_either S T) bs) (Ok r) to
  right_found t u e f g i h make =
      along _ _ (Ok r) to (passes (is_word bs (codes "inl")) _ _ (word_test bs taken (codes "inl") t false et e f)
      ∙ chooses (is_word bs (codes "inr")) _ _ (word_test bs taken (codes "inr") u true et g i) ∙ ap (λ b. within v_inr (reads T b)) (sym ek))
      (wrapped v_inr (reads T k) to part r h make)

  pub some_found : (t u : Bool) → t ≡ pointwise ◌==◌ taken (codes "none") → t ≡ false → u ≡ pointwise ◌==◌ taken (codes "some") → u ≡ true
      → Gives (reads S k) (Ok part) to → ((w : Val) → Part w part → Part (v_some w) r) → Gives (reads (s_opt S) bs) (Ok r) to
  some_found t u e f g i h make =
      along _ _ (Ok r) to (passes (is_word bs (codes "none")) _ _ (word_test bs taken (codes "none") t false et e f)
      ∙ chooses (is_word bs (codes "some")) _ _ (word_test bs taken (codes "some") u true et g i) ∙ ap (λ b. within v_some (reads S b)) (sym ek))
      (wrapped v_some (reads S k) to part r h make)

pub pair_found : (S T : Srt) (bs k l m n to : List ℕ) (p q r : Option Value) → expected open_round bs ≡ Some k → Gives (reads S k) (Ok p) l
    → expected comma l ≡ Some m → Gives (reads T m) (Ok q) n → expected close_round n ≡ Some to
    → ((v w : Val) → Part v p → Part w q → Part (v_pair v w) r) → Gives (reads (s_pair S T) bs) (Ok r) to
pair_found S T bs k l m n to p q r e f g h i make = (
  v_pair f.0 h.0,
  (
    goes (expected open_round bs) _ k e ∙ goes (reads S k) _ (f.0, l) f.1.0 ∙ goes (expected comma l) _ m g
        ∙ goes (reads T m) _ (h.0, n) h.1.0 ∙ goes (expected close_round n) _ to i,
    make f.0 h.0 f.1.1 h.1.1,
  ),
)

pub items_found : (S : Srt) (bs k from to : List ℕ) (t : Bool) (r : Result (Option Value) ValueFault) → expected open_square bs ≡ Some k
    → t ≡ starts close_square k → t ≡ false → from ≡ after_mark close_square k
    → Gives (items (reads S) (suc (length from)) from) r to → Gives (reads (s_list S) bs) r to
items_found S bs k from to t r e f g i h =
    let s : starts close_square k ≡ false = sym f ∙ g in
    let same : from ≡ k = i ∙ passes (starts close_square k) _ k s in
    along _ _ r to (goes (expected open_square bs) _ k e ∙ passes (starts close_square k) _ _ s)
    (subst (λ b. Gives (items (reads S) (suc (length b)) b) r to) same h)
