-- The divisor of the coefficients from a place on.
use Rattle.std.proofs.Common.{◌≡◌, ℕ, zero, suc, ◌+◌, ◌-◌, ◌<◌, ◌≤◌, List, [], ◌∷◌, length, get_or, drop, unsigned_abs, refl, sym, ap, ◌∙◌, arith, drop-cons, ◌++◌, take, ℤ}
use Rattle.std.proofs.lemmas.List.{take_more, map-append}
use Rattle.std.specs.Int.{IsGcd}
use Rattle.fst_rows.specs.declared.row.Coef.{Coef}
use Rattle.fst_terms.specs.Gcd.{gcd}
use Rattle.fst_terms.specs.Rows.{divisor, part_of, parts}
use Rattle.fst_rows.specs.Plain.{coefficient, coefficients}
use Rattle.fst_terms.proofs.GcdLemmas.{gcd-only}

pub drop-map : (i : ℕ) (cs : List Coef) → drop i (coefficients cs) ≡ coefficients (drop i cs)
drop-map zero cs = refl
drop-map (suc i) [] = refl
drop-map (suc i) (c ∷ cs) = drop-map i cs

pub divisor-one_more : (cs : List Coef) (i g n m : ℕ) (d : Coef) → 0 < i → i ≤ length cs → n ≡ unsigned_abs (get_or cs (i - 1) d).by → m ≡ divisor (drop i (coefficients cs)) → IsGcd n m g → g ≡ divisor (drop (i - 1) (coefficients cs))
divisor-one_more cs (suc i) g n m d p l f h k =
    let j : suc i - 1 ≡ i = omega arith in
    let here : drop i cs ≡ get_or cs i d ∷ drop (suc i) cs = drop-cons cs i d (omega arith) in
    gcd-only n m g k ∙ ap (λ t. gcd t m) (rw j at f) ∙ ap (λ t. gcd (unsigned_abs (get_or cs i d).by) t) (h ∙ ap divisor (drop-map (suc i) cs))
    ∙ sym (ap divisor (ap (λ t. drop t (coefficients cs)) j ∙ drop-map i cs ∙ ap coefficients here))
divisor-one_more cs zero g n m d p l f h k = absurd (omega arith)

pub cons-of : (xs : List Coef) (d : Coef) → 0 < length xs → xs ≡ get_or xs 0 d ∷ drop 1 xs
cons-of [] d h = absurd (omega arith)
cons-of (x ∷ xs) d h = refl

parts-append : (g : ℕ) (cs : List Coef) (c : Coef) → parts g (coefficients (cs ++ c ∷ [])) ≡ parts g (coefficients cs) ++ record { unknown = c.unknown; by = part_of g c.by } ∷ []
parts-append g [] c = refl
parts-append g (d ∷ cs) c = ap (λ t. record { unknown = d.unknown; by = part_of g d.by } ∷ t) (parts-append g cs c)

pub parts-push : (g : ℕ) (cs : List Coef) (i : ℕ) (c : Coef) (n : ℤ) (out new : List Coef) → i < length cs → c ≡ get_or cs i c → n ≡ part_of g c.by → coefficients out ≡ parts g (coefficients (take i cs)) → new ≡ out ++ record { unknown = c.unknown; by = n } ∷ [] → coefficients new ≡ parts g (coefficients (take (i + 1) cs))
parts-push g cs i c n out new l e f h k =
    ap coefficients k ∙ map-append coefficient out (record { unknown = c.unknown; by = n } ∷ []) ∙ ap (λ t. t ++ record { unknown = c.unknown; by = n } ∷ []) h
    ∙ ap (λ m. parts g (coefficients (take i cs)) ++ record { unknown = c.unknown; by = m } ∷ []) f
    ∙ sym (ap (λ t. parts g (coefficients t)) (take_more cs i c l ∙ ap (λ x. take i cs ++ x ∷ []) (sym e)) ∙ parts-append g (take i cs) c)
