-- The characters at the front.
use Rattle.std.proofs.Common.{◌≡◌, ℕ, zero, suc, ◌+◌, ◌<◌, ◌≤◌, Bool, true, ◌&&◌, ◌==◌, List, [], ◌∷◌, ◌++◌, Option, Some, None, length, take, drop, refl, sym, ap, subst, ◌∙◌, arith, inl, inr, append_assoc, length-append}
use Rattle.std.proofs.Math.Seq.{take-append-add, drop-append_seam}
use Rattle.std.proofs.lemmas.Bool.{cases_Bool, cond-true, cond-false, and_parts}
use Rattle.std.proofs.lemmas.Bool.Decides.{nat_tests}
use Rattle.std.proofs.lemmas.Str.{length-encode, len_utf8_bounds}
use Rattle.std.specs.Char.{IsScalar, encode_utf8}
use Rattle.std.specs.Str.{encode_utf8_all, all_scalars}
use Rattle.std.specs.List.{list_all}
use Rattle.bstr.specs.Utf8.{decoded}
use Rattle.bstr.proofs.lemmas.PieceLemmas.{piece-bounds}
use Rattle.bstr.proofs.lemmas.SoundLemmas.{SpellsChar, SpellsChar-decoded}
use Rattle.bstr.proofs.lemmas.EncodeLemmas.{decoded-encode}
use Rattle.fst_text.specs.Characters.{char_len, size_if, run_len, many, many_within}
use Rattle.fst_text.proofs.ManyLemmas.{IsWithin, many-step}

size_if-le : (p : ℕ → Bool) (found : Option ℕ) (size : ℕ) → size_if p found size ≤ size
size_if-le p None size = omega arith
size_if-le p (Some c) size = elim (cases_Bool (p c)) [
  | inl t ↦ rw t (omega arith)
  | inr t ↦ rw t (omega arith)
]

pub decoded-within : (bs : List ℕ) → (decoded bs).size ≤ length bs
decoded-within [] = omega arith
decoded-within (b ∷ bs) = (piece-bounds (b ∷ bs) (omega arith)).2

-- a character lies within the bytes
pub char_len-within : (p : ℕ → Bool) → IsWithin (char_len p)
char_len-within p = record { within = λ bs. omega (arith, size_if-le p (decoded bs).char (decoded bs).size, decoded-within bs) }

-- a first character that passes the test
pub record IsPassing (p : ℕ → Bool) (bs : List ℕ) : Type 0 where
  pub char : ℕ
  pub passes : p char ≡ true
  pub spelled : SpellsChar bs char (char_len p bs)

size_if-true : (p : ℕ → Bool) (found : Option ℕ) (size : ℕ) → 0 < size_if p found size
    → (c : ℕ) × ((found ≡ Some c) × ((p c ≡ true) × (size_if p found size ≡ size)))
size_if-true p None size some = absurd (omega arith)
size_if-true p (Some c) size some = elim (cases_Bool (p c)) [
  | inl t ↦ (c, (refl, (t, cond-true _ _ _ t)))
  | inr t ↦ absurd (let none : size_if p (Some c) size ≡ 0 = cond-false _ _ _ t in omega arith)
]

pub char_len-passing : (p : ℕ → Bool) (bs : List ℕ) → 0 < char_len p bs → IsPassing p bs
char_len-passing p bs some =
    let found = size_if-true p (decoded bs).char (decoded bs).size some in
    record {
      char = found.0;
      passes = found.1.1.0;
      spelled = subst (SpellsChar bs found.0) (sym found.1.1.1) (SpellsChar-decoded bs found.0 found.1.0);
    }

-- a character that passes the test is taken whole
pub char_len-encode : (p : ℕ → Bool) (c : ℕ) (rest : List ℕ) → IsScalar c → p c ≡ true
    → char_len p (encode_utf8 c ++ rest) ≡ length (encode_utf8 c)
char_len-encode p c rest scalar passes =
    ap (λ d. size_if p d.char d.size) (decoded-encode c rest scalar) ∙ cond-true _ _ _ passes

pub encode-some : (c : ℕ) → 0 < length (encode_utf8 c)
encode-some c = omega (arith, length-encode c, len_utf8_bounds c)

-- the characters at the front that pass the test
pub record ArePassing (p : ℕ → Bool) (bs : List ℕ) : Type 0 where
  pub chars : List ℕ
  pub scalars : all_scalars chars ≡ true
  pub pass : list_all p chars ≡ true
  pub spelled : bs ≡ encode_utf8_all chars

none_pass : (p : ℕ → Bool) (bs : List ℕ) (n : ℕ) → n ≡ 0 → ArePassing p (take n bs)
none_pass p bs n e = record { chars = []; scalars = refl; pass = refl; spelled = rw e refl }

one_more : (p : ℕ → Bool) (bs : List ℕ) (n : ℕ) → IsPassing p bs → ArePassing p (take n (drop (char_len p bs) bs))
    → ArePassing p (take (char_len p bs + n) bs)
one_more p bs n first rest =
    let size = first.spelled.width in
    let split : take (length (encode_utf8 first.char) + n) (encode_utf8 first.char ++ drop (char_len p bs) bs)
    ≡ encode_utf8 first.char ++ take n (drop (char_len p bs) bs) = take-append-add _ _ n in
    record {
      chars = first.char ∷ rest.chars;
      scalars = ap (λ b. b && all_scalars rest.chars) first.spelled.scalar ∙ rest.scalars;
      pass = ap (λ b. b && list_all p rest.chars) first.passes ∙ rest.pass;
      spelled = ap (take (char_len p bs + n)) first.spelled.bytes
          ∙ ap (λ k. take (k + n) (encode_utf8 first.char ++ drop (char_len p bs) bs)) (sym size)
          ∙ split ∙ ap (λ r. encode_utf8 first.char ++ r) rest.spelled;
    }

run_within-passing : (p : ℕ → Bool) (k : ℕ) (bs : List ℕ) → ArePassing p (take (many_within (char_len p) k bs) bs)
run_within-passing p zero bs = none_pass p bs 0 refl
run_within-passing p (suc k) bs = elim (cases_Bool (char_len p bs == 0)) [
  | inl t ↦ none_pass p bs _ (cond-true _ _ _ t)
  | inr t ↦
      let some : 0 < char_len p bs = grind (arith, nat_tests) in
      let step : many_within (char_len p) (suc k) bs ≡ char_len p bs + many_within (char_len p) k (drop (char_len p bs) bs) = cond-false _ _ _ t in
      subst (λ n. ArePassing p (take n bs)) (sym step)
      (one_more p bs _ (char_len-passing p bs some) (run_within-passing p k (drop (char_len p bs) bs)))
]

-- what a run takes are characters that pass the test
pub run_len-passing : (p : ℕ → Bool) (bs : List ℕ) → ArePassing p (take (run_len p bs) bs)
unfolding many
run_len-passing p bs = run_within-passing p (length bs) bs

-- and no such characters are longer
pub run_len-longest : (p : ℕ → Bool) (cs rest : List ℕ) → all_scalars cs ≡ true → list_all p cs ≡ true
    → length (encode_utf8_all cs) ≤ run_len p (encode_utf8_all cs ++ rest)
run_len-longest p [] rest scalars pass = omega arith
run_len-longest p (c ∷ cs) rest scalars pass =
    let scalar = and_parts _ _ scalars in
    let passes = and_parts _ _ pass in
    let front = encode_utf8 c in
    let back = encode_utf8_all cs ++ rest in
    let size : char_len p (front ++ back) ≡ length front = char_len-encode p c back scalar.0 passes.0 in
    let step = many-step (char_len p) (char_len-within p) (front ++ back) (omega (arith, size, encode-some c)) in
    let rest_is : drop (char_len p (front ++ back)) (front ++ back) ≡ back = ap (λ n. drop n (front ++ back)) size ∙ drop-append_seam front back in
    let whole : run_len p (front ++ back) ≡ length front + run_len p back = step ∙ ap (λ n. n + run_len p (drop (char_len p (front ++ back)) (front ++ back))) size ∙ ap (λ r. length front + run_len p r) rest_is in
    let shape : (front ++ encode_utf8_all cs) ++ rest ≡ front ++ back = append_assoc front (encode_utf8_all cs) rest in
    let more = run_len-longest p cs rest scalar.1 passes.1 in
    omega (arith, ap (run_len p) shape, whole, more, length-append front (encode_utf8_all cs))
