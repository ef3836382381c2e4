-- ASCII characters at the front.
use Rattle.std.proofs.Common.{◌≡◌, ℕ, ◌+◌, ◌<◌, ◌≤◌, Bool, true, false, ◌||◌, ◌==◌, List, [], ◌∷◌, ◌++◌, length, get_or, drop, sym, ap, ◌∙◌, arith, cond, length-drop}
use Rattle.std.proofs.lemmas.List.{drop_more}
use Rattle.std.proofs.lemmas.Bool.{cond-true, cond-false}
use Rattle.std.proofs.lemmas.Bool.Decides.{nat_tests}
use Rattle.std.proofs.lemmas.Str.{encode_ascii}
use Rattle.std.specs.Char.{IsScalar, encode_utf8, is_ascii_alphabetic}
use Rattle.unicode_ident.proofs.IdentLemmas.{is_xid_start-ascii}
use Rattle.bstr.proofs.lemmas.EncodeLemmas.{decoded-encode}
use Rattle.fst_text.specs.Characters.{starts_name, char_len, size_if, run_len}
use Rattle.fst_text.proofs.ManyLemmas.{many-within, many-stop, many-steps_at}
use Rattle.fst_text.proofs.CharacterLemmas.{char_len-within}

pub starts_name-ascii : (b : ℕ) → b < 128 → starts_name b ≡ (is_ascii_alphabetic b || (b == 95))
starts_name-ascii b low = ap (λ t. t || (b == 95)) (is_xid_start-ascii b low)

-- the first of two tests, and the second where the first fails
module _ (whole first second asked : Bool) (is : whole ≡ (first || second)) (asks : asked ≡ first) where
  pub either-first : asked ≡ true → asked ≡ whole
  either-first t = t ∙ sym (is ∙ ap (λ b. b || second) (sym asks ∙ t))

  pub either-second : asked ≡ false → second ≡ whole
  either-second f = sym (is ∙ ap (λ b. b || second) (sym asks ∙ f))

module _ (p : ℕ → Bool) (bs : List ℕ) (at : ℕ) where
  -- an ASCII byte is a character of one byte
  char_len-ascii : at < length bs → get_or bs at 0 < 128 → char_len p (drop at bs) ≡ cond (p (get_or bs at 0)) 1 0
  char_len-ascii lt low =
      let scalar : IsScalar (get_or bs at 0) = grind (arith, nat_tests) in
      let one : encode_utf8 (get_or bs at 0) ≡ get_or bs at 0 ∷ [] = encode_ascii (get_or bs at 0) low in
      let split : drop at bs ≡ encode_utf8 (get_or bs at 0) ++ drop (at + 1) bs
      = drop_more bs at 0 lt ∙ ap (λ l. l ++ drop (at + 1) bs) (sym one) in
      ap (char_len p) split ∙ ap (λ d. size_if p d.char d.size) (decoded-encode (get_or bs at 0) (drop (at + 1) bs) scalar)
      ∙ ap (λ l. cond (p (get_or bs at 0)) (length l) 0) one

  -- an ASCII character that passes is one more byte of the run
  pub ascii-steps : at < length bs → get_or bs at 0 < 128 → p (get_or bs at 0) ≡ true
      → run_len p bs ≡ at + run_len p (drop at bs) → run_len p bs ≡ at + 1 + run_len p (drop (at + 1) bs)
  ascii-steps lt low passes so_far =
      let one : char_len p (drop at bs) ≡ 1 = char_len-ascii lt low ∙ cond-true _ _ _ passes in
      many-steps_at _ (char_len-within p) bs at 1 so_far (sym one) (omega arith)

  -- the run ends at one that fails
  pub ascii-stops : at < length bs → get_or bs at 0 < 128 → p (get_or bs at 0) ≡ false → run_len p (drop at bs) ≡ 0
  ascii-stops lt low fails = many-stop _ (drop at bs) (char_len-ascii lt low ∙ cond-false _ _ _ fails)

  -- and at the end
  pub end-stops : length bs ≤ at → run_len p (drop at bs) ≡ 0
  end-stops le = omega (arith, many-within _ (char_len-within p) (drop at bs), length-drop at bs)
