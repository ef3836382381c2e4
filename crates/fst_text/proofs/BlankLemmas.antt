-- Blanks and comments at the front.
use Rattle.std.proofs.Common.{◌≡◌, ℕ, ◌≤◌, true, List, [], ◌∷◌, length, take, drop, codes, bytes_eq, ap, arith, inl, inr, length-drop, length-take}
use Rattle.std.proofs.lemmas.Bool.{cases_Bool}
use Rattle.std.proofs.lemmas.Slice.Eq.{bytes_eq-Decides}
use Rattle.fst_text.specs.Characters.{stays_in_comment}
use Rattle.fst_text.specs.Blanks.{is_blank, blank_len}
use Rattle.fst_text.proofs.ManyLemmas.{IsWithin, many-within}
use Rattle.fst_text.proofs.CharacterLemmas.{char_len-within}

-- a comment begins with two bytes
comment_begins : (bs : List ℕ) → bytes_eq (take 2 bs) (codes "//") ≡ true → 2 ≤ length bs
comment_begins bs e = let l = ap length ((bytes_eq-Decides (take 2 bs) (codes "//")).0 e) in omega (arith, l, length-take 2 bs)

within : (bs : List ℕ) → blank_len bs ≤ length bs
within [] = omega arith
within (b ∷ bs) = elim (cases_Bool (is_blank b)) [
  | inl t ↦ rw t (omega arith)
  | inr t ↦ rw t (elim (cases_Bool (bytes_eq (take 2 (b ∷ bs)) (codes "//"))) [
    | inl s ↦
        let body = many-within _ (char_len-within stays_in_comment) (drop 2 (b ∷ bs)) in
        rw s (omega (arith, body, comment_begins (b ∷ bs) s, length-drop 2 (b ∷ bs)))
    | inr s ↦ rw s (omega arith)
  ])
]

pub blank_len-within : IsWithin blank_len
blank_len-within = record { within = within }
