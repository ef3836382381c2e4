-- The printed text of a value is a text of it.
use Rattle.std.proofs.Common.{◌≡◌, ℕ, suc, ◌<◌, ◌^◌, true, false, List, [], ◌∷◌, ◌++◌, length, drop, ℤ, pos, negsuc, codes, append_assoc, refl, sym, ap, subst, ◌∙◌, inl, inr, cond, arith}
use Rattle.std.proofs.lemmas.Bool.{and_parts, or_parts}
use Rattle.std.proofs.lemmas.Bool.Decides.{nat_tests}
use Rattle.std.proofs.lemmas.Fmt.{decimal_is_IsNumeral_wide}
use Rattle.std.proofs.lemmas.Int.{ints}
use Rattle.std.proofs.lemmas.List.{append-nil}
use Rattle.std.proofs.lemmas.List.Sums.{take_while-cons}
use Rattle.std.specs.Char.{digit_value, is_ascii_alphanumeric}
use Rattle.std.specs.Fmt.{decimal}
use Rattle.std.specs.List.{list_all}
use Rattle.std.specs.Str.Parse.{AllDigits, IsNumeral, digits_value}
use Rattle.fst_base.specs.Primitives.{In128, InRange}
use Rattle.fst_base.specs.Sorts.{Srt, s_unit, s_bool, s_int, s_a, s_b, s_pair, s_opt, s_list, s_either, holds_a, holds_b}
use Rattle.fst_base.specs.Values.{Val, v_unit, v_bool, v_int, v_pair, v_none, v_some, v_nil, v_cons, v_inl, v_inr, Has}
use Rattle.fst_values.specs.Tokens.{is_blank, skip, word, after_word, Mark, Word, Numeral}
use Rattle.fst_values.specs.Texts.{Text, More, Integer, IsText, text_of, text_of_more, minus}

-- ---- words and numerals before a byte that is no letter and no digit

word-front : (ds to : List ℕ) → list_all is_ascii_alphanumeric ds ≡ true → word to ≡ [] → word (ds ++ to) ≡ ds
word-front [] to h e = e
word-front (d ∷ ds) to h e =
    let k = and_parts (is_ascii_alphanumeric d) (list_all is_ascii_alphanumeric ds) h in
    take_while-cons is_ascii_alphanumeric d (ds ++ to)
    ∙ ap (λ t. cond t (d ∷ word (ds ++ to)) []) k.0 ∙ ap (λ l. d ∷ l) (word-front ds to k.1 e)

drop-front : (ds to : List ℕ) → drop (length ds) (ds ++ to) ≡ to
drop-front [] to = refl
drop-front (d ∷ ds) to = drop-front ds to

after-front : (ds to : List ℕ) → list_all is_ascii_alphanumeric ds ≡ true → word to ≡ [] → after_word (ds ++ to) ≡ to
after-front ds to h e = ap (λ l. drop (length l) (ds ++ to)) (word-front ds to h e) ∙ drop-front ds to

word_printed : (name to : List ℕ) → list_all is_ascii_alphanumeric name ≡ true → word to ≡ [] → Word name (name ++ to) (skip to)
word_printed name to h e = (word-front name to h e, ap skip (sym (after-front name to h e)))

digit_alphanumeric : (d : ℕ) → digit_value d < 10 → is_ascii_alphanumeric d ≡ true
digit_alphanumeric d h = grind (arith, nat_tests)

digits_alphanumeric : (ds : List ℕ) → AllDigits 10 ds → list_all is_ascii_alphanumeric ds ≡ true
digits_alphanumeric [] h = refl
digits_alphanumeric (d ∷ ds) h = rw (digit_alphanumeric d h.0) (digits_alphanumeric ds h.1)

digit_dark : (d : ℕ) → digit_value d < 10 → is_blank d ≡ false
digit_dark d h = grind (arith, nat_tests)

numeral-dark : (ds to : List ℕ) → IsNumeral 10 ds → skip (ds ++ to) ≡ ds ++ to
numeral-dark [] to h = absurd (omega (arith, h.0))
numeral-dark (d ∷ ds) to h = ap (λ t. cond t (skip (ds ++ to)) (d ∷ (ds ++ to))) (digit_dark d h.1.0)

numeral_printed : (n : ℕ) (to : List ℕ) → n < 10 ^ 64 → word to ≡ [] → Numeral n (decimal n ++ to) (skip to)
numeral_printed n to h e =
    let d = decimal_is_IsNumeral_wide n h in
    let all = digits_alphanumeric (decimal n) d.0.1 in
    let w = word-front (decimal n) to all e in
    (subst (IsNumeral 10) (sym w) d.0, ap (λ l. digits_value 10 l) w ∙ d.1, ap skip (sym (after-front (decimal n) to all e)))

small : (n : ℕ) → In128 (pos n) → n < 10 ^ 64
small n h = let l : n < 2 ^ 127 = omega (arith, ints, h.1) in omega arith

small_negative : (n : ℕ) → In128 (negsuc n) → suc n < 10 ^ 64
small_negative n h = let l : n < 2 ^ 127 = omega (arith, ints, h.0) in omega arith

-- ---- no printed text starts with a blank

dark_int : (n : ℤ) (to : List ℕ) → In128 n → skip (text_of (v_int n) ++ to) ≡ text_of (v_int n) ++ to
dark_int (pos n) to h = numeral-dark (decimal n) to (decimal_is_IsNumeral_wide n (small n h)).0
dark_int (negsuc n) to h = refl

dark : (v : Val) (to : List ℕ) → InRange v → skip (text_of v ++ to) ≡ text_of v ++ to
dark (v_bool true) to h = refl
dark (v_bool false) to h = refl
dark (v_int n) to h = dark_int n to h
dark v to h = refl

more-dark : (v : Val) (to : List ℕ) → skip (text_of_more v ++ to) ≡ text_of_more v ++ to
more-dark (v_cons a b) to = refl
more-dark v to = refl

more-word : (v : Val) (to : List ℕ) → word (text_of_more v ++ to) ≡ []
more-word (v_cons a b) to = refl
more-word v to = refl

integer_printed : (n : ℤ) (to : List ℕ) → In128 n → word to ≡ [] → Integer n (text_of (v_int n) ++ to) (skip to)
integer_printed (pos n) to h e = inl (n, (numeral_printed n to (small n h) e, refl))
integer_printed (negsuc n) to h e =
    let l = small_negative n h in
    let from = decimal (suc n) ++ to in
    let m : Mark minus (45 ∷ from) from = (from, (refl, sym (numeral-dark (decimal (suc n)) to (decimal_is_IsNumeral_wide (suc n) l).0))) in
    inr (suc n, (from, (m, numeral_printed (suc n) to l e, refl)))

-- ---- the printed text, before a byte that is no letter and no digit

-- a word, a space and a part
part_printed : (S : Srt) (P : List ℕ → List ℕ → Type 0) (name : List ℕ) (v : Val) (to : List ℕ)
    → ((from k rest : List ℕ) → Word name from k → Text S v k rest → P from rest)
    → list_all is_ascii_alphanumeric name ≡ true → InRange v → Text S v (text_of v ++ to) (skip to) → P (name ++ (32 ∷ (text_of v ++ to))) (skip to)
part_printed S P name v to make n r t =
    let k = text_of v ++ to in
    make (name ++ (32 ∷ k)) k (skip to) (subst (λ l. Word name (name ++ (32 ∷ k)) l) (dark v to r) (word_printed name (32 ∷ k) n refl)) t

mutual
  pub printed : (S : Srt) (v : Val) (to : List ℕ) → holds_a S ≡ false → holds_b S ≡ false → Has S v → InRange v → word to ≡ []
      → Text S v (text_of v ++ to) (skip to)
  printed s_a v to a b h r e = cc
  printed s_b v to a b h r e = cc
  printed s_unit v_unit to a b h r e = (41 ∷ to, ((41 ∷ to, (refl, refl)), (to, (refl, refl))))
  printed s_bool (v_bool true) to a b h r e = word_printed (codes "true") to refl e
  printed s_bool (v_bool false) to a b h r e = word_printed (codes "false") to refl e
  printed s_int (v_int n) to a b h r e = integer_printed n to r e
  printed (s_pair S T) (v_pair v w) to a b h r e =
      let a' = or_parts _ _ a in
      let b' = or_parts _ _ b in
      let n = 41 ∷ to in
      let m = text_of w ++ n in
      let l = 44 ∷ 32 ∷ m in
      let k = text_of v ++ l in
      let f : text_of (v_pair v w) ++ to ≡ 40 ∷ k = simp append_assoc in
      subst (λ g. Text (s_pair S T) (v_pair v w) g (skip to)) (sym f) (
        k,
        l,
        m,
        n,
        (
          (k, (refl, sym (dark v l r.0))),
          printed S v l a'.0 b'.0 h.0 r.0 refl,
          (32 ∷ m, (refl, sym (dark w n r.1))),
          printed T w n a'.1 b'.1 h.1 r.1 refl,
          (to, (refl, refl)),
        ),
      )
  printed (s_opt S) v_none to a b h r e = word_printed (codes "none") to refl e
  printed (s_opt S) (v_some v) to a b h r e =
      part_printed S (λ f t. Text (s_opt S) (v_some v) f t) (codes "some") v to (λ f k t w p. (k, (w, p))) refl r (printed S v to a b h r e)
  printed (s_list S) v_nil to a b h r e = (93 ∷ to, ((93 ∷ to, (refl, refl)), (to, (refl, refl))))
  printed (s_list S) (v_cons v w) to a b h r e =
      let l = text_of_more w ++ to in
      let k = text_of v ++ l in
      let f : text_of (v_cons v w) ++ to ≡ 91 ∷ k = simp append_assoc in
      subst (λ g. Text (s_list S) (v_cons v w) g (skip to)) (sym f) (
        k,
        l,
        (
          (k, (refl, sym (dark v l r.0))),
          subst (λ t. Text S v k t) (more-dark w to) (printed S v l a b h.0 r.0 (more-word w to)),
          more_printed S w to a b h.1 r.1 e,
        ),
      )
  printed (s_either S T) (v_inl v) to a b h r e =
      part_printed S (λ f t. Text (s_either S T) (v_inl v) f t) (codes "inl") v to (λ f k t w p. (k, (w, p))) refl r
      (printed S v to (or_parts _ _ a).0 (or_parts _ _ b).0 h r e)
  printed (s_either S T) (v_inr v) to a b h r e =
      part_printed T (λ f t. Text (s_either S T) (v_inr v) f t) (codes "inr") v to (λ f k t w p. (k, (w, p))) refl r
      (printed T v to (or_parts _ _ a).1 (or_parts _ _ b).1 h r e)
  printed S v to a b h r e = absurd h

  more_printed : (S : Srt) (v : Val) (to : List ℕ) → holds_a S ≡ false → holds_b S ≡ false → Has (s_list S) v → InRange v → word to ≡ []
      → More S v (text_of_more v ++ to) (skip to)
  more_printed S v_nil to a b h r e = (to, (refl, refl))
  more_printed S (v_cons v w) to a b h r e =
      let l = text_of_more w ++ to in
      let k = text_of v ++ l in
      let f : text_of_more (v_cons v w) ++ to ≡ 59 ∷ 32 ∷ k = simp append_assoc in
      subst (λ g. More S (v_cons v w) g (skip to)) (sym f) (
        k,
        l,
        (
          (32 ∷ k, (refl, sym (dark v l r.0))),
          subst (λ t. Text S v k t) (more-dark w to) (printed S v l a b h.0 r.0 (more-word w to)),
          more_printed S w to a b h.1 r.1 e,
        ),
      )
  more_printed S v to a b h r e = absurd h

-- the printed text of a value of the sort is a text of it, where its numbers lie within 128 bits
pub printed_is_text : (S : Srt) (v : Val) → holds_a S ≡ false → holds_b S ≡ false → Has S v → InRange v → IsText S v (text_of v)
printed_is_text S v a b h r =
    let p = printed S v [] a b h r refl in
    let e : text_of v ++ [] ≡ text_of v = append-nil (text_of v) in
    let d = ap skip (sym e) ∙ dark v [] r in
    subst (λ f. Text S v f []) (sym d) p
