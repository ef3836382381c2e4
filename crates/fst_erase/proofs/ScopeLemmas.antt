-- Scopes as lists of marks, the last variable last.
use Rattle.std.proofs.Common.{◌≡◌, ℕ, zero, suc, ◌+◌, ◌-◌, ◌<◌, ◌≤◌, Bool, true, false, if◌then◌else◌, List, [], ◌∷◌, ◌++◌, reverse, map, take, length, get_or, slice_get, Some, refl, sym, ap, ◌∙◌, subst, arith}
use Rattle.std.proofs.lemmas.Option.{slice_get_read}
use Rattle.std.proofs.lemmas.List.{reverse-append}
use Rattle.std.proofs.Math.Seq.{take-append_seam, take-length}
use Rattle.fst_program.specs.Erasure.{kept}

take-next : {X : Type 0} (xs : List X) (i : ℕ) (x : X) → slice_get xs i ≡ Some x → take (suc i) xs ≡ take i xs ++ x ∷ []
take-next [] zero x q = cc
take-next [] (suc i) x q = cc
take-next (y ∷ xs) zero x q = let p : y ≡ x = cc in ap (λ y. y ∷ []) p
take-next (y ∷ xs) (suc i) x q = ap (λ zs. y ∷ zs) (take-next xs i x q)

-- what is left of a scope whose last variable is taken off
pub taken-off : (xs : List Bool) (i : ℕ) (x : Bool) → i < length xs → x ≡ get_or xs i x → reverse (take (i + 1) xs) ≡ x ∷ reverse (take i xs)
taken-off xs i x lt q =
    let n : i + 1 ≡ suc i = omega arith in
    ap (λ n. reverse (take n xs)) n ∙ ap reverse (take-next xs i x (slice_get_read xs (length xs) i x refl lt q)) ∙ reverse-append (take i xs) (x ∷ [])

-- one variable less
pub kept-next : (xs : List Bool) (at left shown index : ℕ) (x : Bool) → 0 < at → at ≤ length xs → 0 < left → x ≡ get_or xs (at - 1) x
    → shown + kept (reverse (take at xs)) left ≡ index → (if x then shown else shown + 1) + kept (reverse (take (at - 1) xs)) (left - 1) ≡ index
kept-next xs zero left shown index x p le q is h = absurd (omega (arith, p))
kept-next xs (suc at) zero shown index x p le q is h = absurd (omega (arith, q))
kept-next xs (suc at) (suc left) shown index x p le q is h =
    let n : suc at - 1 ≡ at = omega arith in
    let m : suc left - 1 ≡ left = omega arith in
    let o : at + 1 ≡ suc at = omega arith in
    let off : reverse (take (suc at) xs) ≡ x ∷ reverse (take at xs) = ap (λ n. reverse (take n xs)) (sym o) ∙ taken-off xs at x (omega (arith, le)) (is ∙ ap (λ n. get_or xs n x) n) in
    rw (n, m) (go x (subst (λ ys. shown + kept ys (suc left) ≡ index) off h))
  where
    go : (x : Bool) → shown + kept (x ∷ reverse (take at xs)) (suc left) ≡ index → (if x then shown else shown + 1) + kept (reverse (take at xs)) left ≡ index
    go true h = h
    go false h = omega (arith, h)

pub kept-start : (xs : List Bool) (index : ℕ) → 0 + kept (reverse (take (length xs) xs)) index ≡ kept (reverse xs) index
kept-start xs index = let h = ap (λ ys. kept (reverse ys) index) (take-length xs) in omega (arith, h)

-- at the last variable, and past the first one
kept-zero : (scope : List Bool) → kept scope zero ≡ zero
kept-zero [] = refl
kept-zero (g ∷ scope) = refl

pub kept-here : (xs : List Bool) (left shown index : ℕ) → left ≡ 0 → shown + kept xs left ≡ index → shown ≡ index
kept-here xs left shown index z h = let k : shown + kept xs 0 ≡ index = subst (λ n. shown + kept xs n ≡ index) z h in let o : kept xs 0 ≡ 0 = kept-zero xs in omega (arith, k, o)

pub kept-past : (xs : List Bool) (at left shown index : ℕ) → at ≡ 0 → shown + kept (reverse (take at xs)) left ≡ index → shown + left ≡ index
kept-past xs at left shown index z h = go xs (subst (λ n. shown + kept (reverse (take n xs)) left ≡ index) z h)
  where
    go : (xs : List Bool) → shown + kept (reverse (take zero xs)) left ≡ index → shown + left ≡ index
    go [] h = h
    go (x ∷ xs) h = h

-- ---- variables more

pub pushed-one : (xs ys : List Bool) (x : Bool) → ys ≡ xs ++ x ∷ [] → reverse ys ≡ x ∷ reverse xs
pushed-one xs ys x q = ap reverse q ∙ reverse-append xs (x ∷ [])

pub let-go : (xs ys zs more : List Bool) (n : ℕ) → n ≡ length xs → ys ≡ xs ++ more → zs ≡ take n ys → zs ≡ xs
let-go xs ys zs more n p q r = r ∙ ap (λ m. take m ys) p ∙ ap (take (length xs)) q ∙ take-append_seam xs more

snoc-false : {A : Type 0} (names : List A) → map (λ (x : A). false) names ++ false ∷ [] ≡ false ∷ map (λ (x : A). false) names
snoc-false [] = refl
snoc-false (x ∷ names) = ap (λ ys. false ∷ ys) (snoc-false names)

turned-false : {A : Type 0} (names : List A) → reverse (map (λ (x : A). false) names) ≡ map (λ (x : A). false) names
turned-false [] = refl
turned-false {A} (x ∷ names) = reverse-append (false ∷ []) (map (λ (x : A). false) names) ∙ ap (λ ys. ys ++ false ∷ []) (turned-false names) ∙ snoc-false names

pub pushed-names : {A : Type 0} (names : List A) (xs ys : List Bool) → ys ≡ xs ++ map (λ (x : A). false) names → reverse ys ≡ map (λ (x : A). false) names ++ reverse xs
pushed-names {A} names xs ys q = ap reverse q ∙ reverse-append xs (map (λ (x : A). false) names) ∙ ap (λ zs. zs ++ reverse xs) (turned-false names)
