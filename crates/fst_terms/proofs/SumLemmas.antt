-- What sums of rows give at values of the unknowns.
use Rattle.std.proofs.Common.{◌≡◌, ℕ, Bool, true, false, cond, ltb, List, [], ◌∷◌, ℤ, pos, ◌+ℤ◌, ◌*ℤ◌, ◌≤ℤ◌, refl, sym, ap, ◌∙◌, arith}
use Rattle.std.specs.Ordering.{int_eq}
use Rattle.std.proofs.lemmas.Bool.{ltb-false}
use Rattle.std.proofs.lemmas.Bool.Decides.{Decides-int_eq}
use Rattle.fst_terms.specs.Rows.{Cf, Rw, sum_at, value_at, put, times, beside, merged, summed, SolvesOver}
use Rattle.fst_terms.proofs.Differences.{dif, dif_pos, dif_sum, dif_product, dif_same, mul-least, sum-least}

pub put-sum : (x : ℕ → ℤ) (u : ℕ) (n : ℤ) (cs : List Cf) → sum_at x (put u n cs) ≡ n *ℤ x u +ℤ sum_at x cs
put-sum x u n cs = go (int_eq n (pos 0)) refl
  where
    go : (t : Bool) → int_eq n (pos 0) ≡ t → sum_at x (cond t cs (record { unknown = u; by = n } ∷ cs)) ≡ n *ℤ x u +ℤ sum_at x cs
    go true e = let z : n ≡ pos 0 = (Decides-int_eq n (pos 0)).0 e in rw z (dif_same (dif (sum_at x cs)) (dif_sum (dif_product (dif_pos 0) (dif (x u))) (dif (sum_at x cs))) (omega arith))
    go false e = refl

pub times-sum : (x : ℕ → ℤ) (p : ℤ) (cs : List Cf) → sum_at x (times p cs) ≡ p *ℤ sum_at x cs
times-sum x p [] = dif_same (dif_pos 0) (dif_product (dif p) (dif_pos 0)) (omega arith)
times-sum x p (c ∷ cs) =
    put-sum x c.unknown (p *ℤ c.by) (times p cs) ∙ ap (λ n. p *ℤ c.by *ℤ x c.unknown +ℤ n) (times-sum x p cs)
    ∙ dif_same (dif_sum (dif_product (dif_product (dif p) (dif c.by)) (dif (x c.unknown))) (dif_product (dif p) (dif (sum_at x cs))))
    (dif_product (dif p) (dif_sum (dif_product (dif c.by) (dif (x c.unknown))) (dif (sum_at x cs)))) (omega arith)

module _ (x : ℕ → ℤ) (p q : ℤ) where
  -- p c y + (p s + q t) = p (c y + s) + q t
  first_joins : (c y s t : ℤ) → p *ℤ c *ℤ y +ℤ (p *ℤ s +ℤ q *ℤ t) ≡ p *ℤ (c *ℤ y +ℤ s) +ℤ q *ℤ t
  first_joins c y s t = dif_same
      (dif_sum (dif_product (dif_product (dif p) (dif c)) (dif y)) (dif_sum (dif_product (dif p) (dif s)) (dif_product (dif q) (dif t))))
      (dif_sum (dif_product (dif p) (dif_sum (dif_product (dif c) (dif y)) (dif s))) (dif_product (dif q) (dif t))) (omega arith)

  second_joins : (d y s t : ℤ) → q *ℤ d *ℤ y +ℤ (p *ℤ s +ℤ q *ℤ t) ≡ p *ℤ s +ℤ q *ℤ (d *ℤ y +ℤ t)
  second_joins d y s t = dif_same
      (dif_sum (dif_product (dif_product (dif q) (dif d)) (dif y)) (dif_sum (dif_product (dif p) (dif s)) (dif_product (dif q) (dif t))))
      (dif_sum (dif_product (dif p) (dif s)) (dif_product (dif q) (dif_sum (dif_product (dif d) (dif y)) (dif t)))) (omega arith)

  both_join : (c d y s t : ℤ) → (p *ℤ c +ℤ q *ℤ d) *ℤ y +ℤ (p *ℤ s +ℤ q *ℤ t) ≡ p *ℤ (c *ℤ y +ℤ s) +ℤ q *ℤ (d *ℤ y +ℤ t)
  both_join c d y s t = dif_same
      (dif_sum (dif_product (dif_sum (dif_product (dif p) (dif c)) (dif_product (dif q) (dif d))) (dif y)) (dif_sum (dif_product (dif p) (dif s)) (dif_product (dif q) (dif t))))
      (dif_sum (dif_product (dif p) (dif_sum (dif_product (dif c) (dif y)) (dif s))) (dif_product (dif q) (dif_sum (dif_product (dif d) (dif y)) (dif t)))) (omega arith)

  Sums : (List Cf → List Cf) → List Cf → Type 0
  Sums rest cs = (ds : List Cf) → sum_at x (rest ds) ≡ p *ℤ sum_at x cs +ℤ q *ℤ sum_at x ds

  beside-sum : (c : Cf) (cs : List Cf) (rest : List Cf → List Cf) → Sums rest cs → Sums (beside p c rest q) (c ∷ cs)
  unfolding Sums
  beside-sum c cs rest h [] =
      put-sum x c.unknown (p *ℤ c.by) (rest []) ∙ ap (λ n. p *ℤ c.by *ℤ x c.unknown +ℤ n) (h []) ∙ first_joins c.by (x c.unknown) (sum_at x cs) (sum_at x [])
  beside-sum c cs rest h (d ∷ ds) = by_first (beside-sum c cs rest h ds) (ltb c.unknown d.unknown) (ltb d.unknown c.unknown) refl refl
    where
      by_first : sum_at x (beside p c rest q ds) ≡ p *ℤ sum_at x (c ∷ cs) +ℤ q *ℤ sum_at x ds → (s t : Bool) → ltb c.unknown d.unknown ≡ s → ltb d.unknown c.unknown ≡ t
          → sum_at x (cond s (put c.unknown (p *ℤ c.by) (rest (d ∷ ds))) (cond t (put d.unknown (q *ℤ d.by) (beside p c rest q ds)) (put c.unknown (p *ℤ c.by +ℤ q *ℤ d.by) (rest ds))))
          ≡ p *ℤ sum_at x (c ∷ cs) +ℤ q *ℤ sum_at x (d ∷ ds)
      by_first back true t e f =
          put-sum x c.unknown (p *ℤ c.by) (rest (d ∷ ds)) ∙ ap (λ n. p *ℤ c.by *ℤ x c.unknown +ℤ n) (h (d ∷ ds)) ∙ first_joins c.by (x c.unknown) (sum_at x cs) (sum_at x (d ∷ ds))
      by_first back false true e f =
          put-sum x d.unknown (q *ℤ d.by) (beside p c rest q ds) ∙ ap (λ n. q *ℤ d.by *ℤ x d.unknown +ℤ n) back ∙ second_joins d.by (x d.unknown) (sum_at x (c ∷ cs)) (sum_at x ds)
      by_first back false false e f =
          let same : d.unknown ≡ c.unknown = omega (arith, ltb-false c.unknown d.unknown e, ltb-false d.unknown c.unknown f) in
          put-sum x c.unknown (p *ℤ c.by +ℤ q *ℤ d.by) (rest ds) ∙ ap (λ n. (p *ℤ c.by +ℤ q *ℤ d.by) *ℤ x c.unknown +ℤ n) (h ds)
          ∙ both_join c.by d.by (x c.unknown) (sum_at x cs) (sum_at x ds)
          ∙ ap (λ u. p *ℤ (c.by *ℤ x c.unknown +ℤ sum_at x cs) +ℤ q *ℤ (d.by *ℤ x u +ℤ sum_at x ds)) (sym same)

  pub merged-sum : (cs ds : List Cf) → sum_at x (merged p cs q ds) ≡ p *ℤ sum_at x cs +ℤ q *ℤ sum_at x ds
  unfolding Sums
  merged-sum [] ds = times-sum x q ds ∙ dif_same (dif_product (dif q) (dif (sum_at x ds))) (dif_sum (dif_product (dif p) (dif_pos 0)) (dif_product (dif q) (dif (sum_at x ds)))) (omega arith)
  merged-sum (c ∷ cs) ds = beside-sum c cs (merged p cs q) (merged-sum cs) ds

-- the value of a sum is the sum of the values
pub summed-value : (s : ℕ) (x : ℕ → ℤ) (p : ℤ) (a : Rw) (q : ℤ) (b : Rw) → value_at s x (summed p a q b) ≡ p *ℤ value_at s x a +ℤ q *ℤ value_at s x b
summed-value s x p a q b =
    ap (λ n. pos s *ℤ (p *ℤ a.constant +ℤ q *ℤ b.constant) +ℤ n) (merged-sum x p q a.coefs b.coefs)
    ∙ go (pos s) a.constant b.constant (sum_at x a.coefs) (sum_at x b.coefs)
  where
    go : (s c d m n : ℤ) → s *ℤ (p *ℤ c +ℤ q *ℤ d) +ℤ (p *ℤ m +ℤ q *ℤ n) ≡ p *ℤ (s *ℤ c +ℤ m) +ℤ q *ℤ (s *ℤ d +ℤ n)
    go s c d m n = dif_same
        (dif_sum (dif_product (dif s) (dif_sum (dif_product (dif p) (dif c)) (dif_product (dif q) (dif d)))) (dif_sum (dif_product (dif p) (dif m)) (dif_product (dif q) (dif n))))
        (dif_sum (dif_product (dif p) (dif_sum (dif_product (dif s) (dif c)) (dif m))) (dif_product (dif q) (dif_sum (dif_product (dif s) (dif d)) (dif n)))) (omega arith)

-- what solves two rows solves their sum
pub summed-solved : (s : ℕ) (x : ℕ → ℤ) (p : ℤ) (a : Rw) (q : ℤ) (b : Rw) → pos 0 ≤ℤ p → pos 0 ≤ℤ q → SolvesOver s x a → SolvesOver s x b → SolvesOver s x (summed p a q b)
summed-solved s x p a q b f g h k = rw (summed-value s x p a q b) (sum-least _ _ (mul-least p _ f h) (mul-least q _ g k))
