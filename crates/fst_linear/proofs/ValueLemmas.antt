-- The value of a row, coefficient by coefficient.
use Rattle.std.proofs.Common.{◌≡◌, ℕ, ◌+◌, ◌<◌, List, [], ◌∷◌, ◌++◌, length, get_or, take, ℤ, ◌+ℤ◌, ◌*ℤ◌, sym, ap, ◌∙◌, arith}
use Rattle.std.proofs.lemmas.Int.{ints}
use Rattle.std.proofs.lemmas.List.{take_more}
use Rattle.std.proofs.Math.IntN.{+ℤ_assoc}
use Rattle.fst_terms.specs.Rows.{sum_at}
use Rattle.fst_rows.specs.declared.row.Coef.{Coef}
use Rattle.fst_rows.specs.Plain.{coefficients}

sum-append : (x : ℕ → ℤ) (cs : List Coef) (c : Coef) → sum_at x (coefficients (cs ++ c ∷ [])) ≡ sum_at x (coefficients cs) +ℤ c.by *ℤ x c.unknown
sum-append x [] c = omega (arith, ints)
sum-append x (d ∷ cs) c = ap (λ n. d.by *ℤ x d.unknown +ℤ n) (sum-append x cs c) ∙ sym (+ℤ_assoc (d.by *ℤ x d.unknown) (sum_at x (coefficients cs)) (c.by *ℤ x c.unknown))

pub total-more : (x : ℕ → ℤ) (cs : List Coef) (i : ℕ) (d : Coef) (start total new : ℤ) → i < length cs → total ≡ start +ℤ sum_at x (coefficients (take i cs)) → new ≡ total +ℤ (get_or cs i d).by *ℤ x (get_or cs i d).unknown
    → new ≡ start +ℤ sum_at x (coefficients (take (i + 1) cs))
total-more x cs i d start total new l e f =
    f ∙ ap (λ n. n +ℤ (get_or cs i d).by *ℤ x (get_or cs i d).unknown) e ∙ +ℤ_assoc start _ _
    ∙ ap (λ n. start +ℤ n) (sym (ap (λ t. sum_at x (coefficients t)) (take_more cs i d l) ∙ sum-append x (take i cs) (get_or cs i d)))
