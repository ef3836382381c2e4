-- Pieces at the front, one after another.
use Rattle.std.proofs.Common.{◌≡◌, ℕ, zero, suc, ◌+◌, ◌<◌, ◌≤◌, ◌==◌, true, false, List, length, drop, refl, sym, ap, ◌∙◌, arith, length-drop, inl, inr}
use Rattle.std.proofs.lemmas.List.{drop-drop}
use Rattle.std.proofs.lemmas.Bool.{cond-true, cond-false, cases_Bool}
use Rattle.std.proofs.lemmas.Bool.Decides.{nat_tests}
use Rattle.fst_text.specs.Characters.{many_within, many}

-- no piece is longer than the bytes
pub record IsWithin (f : List ℕ → ℕ) : Type 0 where
  pub within : (bs : List ℕ) → f bs ≤ length bs

stops : (f : List ℕ → ℕ) (k : ℕ) (bs : List ℕ) → f bs ≡ 0 → many_within f k bs ≡ 0
stops f zero bs e = refl
stops f (suc k) bs e = let t : f bs == 0 ≡ true = grind (arith, nat_tests) in cond-true _ _ _ t

goes_on : (f : List ℕ → ℕ) (k : ℕ) (bs : List ℕ) → 0 < f bs → many_within f (suc k) bs ≡ f bs + many_within f k (drop (f bs) bs)
goes_on f k bs some = let t : f bs == 0 ≡ false = grind (arith, nat_tests) in cond-false _ _ _ t

-- the bound is of no account
same_within : (f : List ℕ → ℕ) → IsWithin f → (j k : ℕ) (bs : List ℕ) → length bs ≤ j → length bs ≤ k → many_within f j bs ≡ many_within f k bs
same_within f w zero k bs a b = let e : f bs ≡ 0 = omega (arith, w.within bs) in sym (stops f k bs e)
same_within f w j zero bs a b = let e : f bs ≡ 0 = omega (arith, w.within bs) in stops f j bs e
same_within f w (suc j) (suc k) bs a b = elim (cases_Bool (f bs == 0)) [
  | inl t ↦ let e : f bs ≡ 0 = grind (arith, nat_tests) in stops f (suc j) bs e ∙ sym (stops f (suc k) bs e)
  | inr t ↦
      let some : 0 < f bs = grind (arith, nat_tests) in
      let rest = same_within f w j k (drop (f bs) bs) (omega (arith, length-drop (f bs) bs)) (omega (arith, length-drop (f bs) bs)) in
      goes_on f j bs some ∙ ap (λ n. f bs + n) rest ∙ sym (goes_on f k bs some)
]

pub many-stop : (f : List ℕ → ℕ) (bs : List ℕ) → f bs ≡ 0 → many f bs ≡ 0
unfolding many
many-stop f bs e = stops f (length bs) bs e

pub many-step : (f : List ℕ → ℕ) → IsWithin f → (bs : List ℕ) → 0 < f bs → many f bs ≡ f bs + many f (drop (f bs) bs)
unfolding many
many-step f w bs some =
    same_within f w (length bs) (suc (length bs)) bs (omega arith) (omega arith)
    ∙ goes_on f (length bs) bs some
    ∙ ap (λ n. f bs + n) (same_within f w (length bs) (length (drop (f bs) bs)) (drop (f bs) bs) (omega (arith, length-drop (f bs) bs)) (omega arith))

-- n bytes at the front are measured, and no piece follows
pub many-stops_at : (f : List ℕ → ℕ) (bs : List ℕ) (n : ℕ) → many f bs ≡ n + many f (drop n bs) → f (drop n bs) ≡ 0 → many f bs ≡ n
many-stops_at f bs n so_far none = omega (arith, so_far, many-stop f (drop n bs) none)

-- n bytes at the front are measured, and a piece follows
pub many-steps_at : (f : List ℕ → ℕ) → IsWithin f → (bs : List ℕ) (n size : ℕ) → many f bs ≡ n + many f (drop n bs)
    → size ≡ f (drop n bs) → 0 < size → many f bs ≡ n + size + many f (drop (n + size) bs)
many-steps_at f w bs n size so_far is some =
    let step = many-step f w (drop n bs) (omega arith) in
    let rest : drop (f (drop n bs)) (drop n bs) ≡ drop (n + size) bs = drop-drop _ _ bs ∙ ap (λ k. drop (n + k) bs) (sym is) in
    omega (arith, so_far, step, ap (many f) rest)

within_within : (f : List ℕ → ℕ) → IsWithin f → (k : ℕ) (bs : List ℕ) → many_within f k bs ≤ length bs
within_within f w zero bs = omega arith
within_within f w (suc k) bs = elim (cases_Bool (f bs == 0)) [
  | inl t ↦ let e : f bs ≡ 0 = grind (arith, nat_tests) in omega (arith, stops f (suc k) bs e)
  | inr t ↦
      let some : 0 < f bs = grind (arith, nat_tests) in
      omega (arith, goes_on f k bs some, w.within bs, within_within f w k (drop (f bs) bs), length-drop (f bs) bs)
]

pub many-within : (f : List ℕ → ℕ) → IsWithin f → (bs : List ℕ) → many f bs ≤ length bs
unfolding many
many-within f w bs = within_within f w (length bs) bs
