-- The names in a scope of the code.
use Rattle.std.proofs.Common.{◌≡◌, ◌↔◌, ℕ, zero, suc, ◌+◌, ◌-◌, ◌<◌, ◌≤◌, Bool, true, false, ◌||◌, if◌then◌else◌, List, [], ◌∷◌, map, reverse, length, drop, slice_get, get_or, Some, None, IsTrue, arith, refl, sym, ap, subst, ◌∙◌, Decides, Bor, bytes_eq}
use Rattle.std.proofs.lemmas.Option.{slice_get_read}
use Rattle.std.proofs.lemmas.List.{get_or-reverse, get_or-map, length-map, length-reverse}
use Rattle.fst_names.specs.Names.{Names, number_from, number_of, is_among, is_some}
use Rattle.std.proofs.lemmas.Bool.{false≢true}

-- two tests of one fact
pub agree : {A : Type 0} (a b : Bool) → (IsTrue a ↔ A) → Decides b A → a ≡ b
agree true b h d = sym (d.1 (h.0 refl))
agree false true h d = absurd (false≢true (h.1 (d.0 refl)))
agree false false h d = refl

-- what stands at an index begins the rest from there
pub drop-at : {A : Type 0} (k : ℕ) (xs : List A) (x : A) → slice_get xs k ≡ Some x → drop k xs ≡ x ∷ drop (suc k) xs
drop-at zero (y ∷ ys) x q = let e : y ≡ x = cc in ap (λ z. z ∷ ys) e
drop-at (suc k) (y ∷ ys) x q = drop-at k ys x q
drop-at zero [] x q = cc
drop-at (suc k) [] x q = cc

choose-here : {A : Type 0} (t u : A) (b : Bool) → b ≡ true → (if b then t else u) ≡ t
choose-here t u b e = rw e refl

choose-there : {A : Type 0} (t u : A) (b : Bool) → b ≡ false → (if b then t else u) ≡ u
choose-there t u b e = rw e refl

pub number-here : (k : ℕ) (xs : Names) (x name : List ℕ) → slice_get xs k ≡ Some x → bytes_eq name x ≡ true → number_from k name (drop k xs) ≡ Some k
number-here k xs x name q e = ap (λ ys. number_from k name ys) (drop-at k xs x q) ∙ choose-here _ _ (bytes_eq name x) e

pub number-later : (k : ℕ) (xs : Names) (x name : List ℕ) → slice_get xs k ≡ Some x → bytes_eq name x ≡ false → number_from k name (drop k xs) ≡ number_from (suc k) name (drop (suc k) xs)
number-later k xs x name q e = ap (λ ys. number_from k name ys) (drop-at k xs x q) ∙ choose-there _ _ (bytes_eq name x) e

pub number-end : (k : ℕ) (xs : Names) (name : List ℕ) → length xs ≤ k → number_from k name (drop k xs) ≡ None
number-end k xs name h = ap (λ ys. number_from k name ys) (drop-past k xs h)
  where
    drop-past : (k : ℕ) (xs : Names) → length xs ≤ k → drop k xs ≡ []
    drop-past zero [] h = refl
    drop-past (suc k) [] h = refl
    drop-past zero (x ∷ xs) h = absurd (omega (arith, h))
    drop-past (suc k) (x ∷ xs) h = drop-past k xs (omega (arith, h))

abbrev turned : List (Bor (List ℕ)) → Names
turned bs = reverse (map (λ b. b.now) bs)

-- the k-th from the end is the k-th name
turned-at : (bs : List (Bor (List ℕ))) (n k : ℕ) (b : Bor (List ℕ)) → n ≡ length bs → k < n → b ≡ get_or bs (n - 1 - k) b → slice_get (turned bs) k ≡ Some b.now
turned-at bs n k b e lt q =
    let f = λ (b : Bor (List ℕ)). b.now in
    let long : length (map f bs) ≡ n = length-map bs f ∙ sym e in
    slice_get_read (turned bs) n k b.now (sym (length-reverse (map f bs) ∙ long)) lt
    (ap f q ∙ sym (get_or-map f bs (n - 1 - k) b b.now (omega (arith, e, lt))) ∙ ap (λ m. get_or (map f bs) (m - 1 - k) b.now) (sym long) ∙ sym (get_or-reverse (map f bs) k b.now (subst (λ m. k < m) (sym long) lt)))

pub step-here : (bs : List (Bor (List ℕ))) (n k : ℕ) (b : Bor (List ℕ)) (name : List ℕ) → n ≡ length bs → k < n → b ≡ get_or bs (n - 1 - k) b → bytes_eq name b.now ≡ true
    → number_of name (turned bs) ≡ number_from k name (drop k (turned bs)) → number_of name (turned bs) ≡ Some k
step-here bs n k b name e lt q same h = h ∙ number-here k (turned bs) b.now name (turned-at bs n k b e lt q) same

pub step-there : (bs : List (Bor (List ℕ))) (n k : ℕ) (b : Bor (List ℕ)) (name : List ℕ) → n ≡ length bs → k < n → b ≡ get_or bs (n - 1 - k) b → bytes_eq name b.now ≡ false
    → number_of name (turned bs) ≡ number_from k name (drop k (turned bs)) → number_of name (turned bs) ≡ number_from (k + 1) name (drop (k + 1) (turned bs))
step-there bs n k b name e lt q other h = let more : suc k ≡ k + 1 = omega arith in h ∙ number-later k (turned bs) b.now name (turned-at bs n k b e lt q) other ∙ ap (λ m. number_from m name (drop m (turned bs))) more

pub step-end : (bs : List (Bor (List ℕ))) (n k : ℕ) (name : List ℕ) → n ≡ length bs → n ≤ k → number_of name (turned bs) ≡ number_from k name (drop k (turned bs)) → number_of name (turned bs) ≡ None
step-end bs n k name e h q = q ∙ number-end k (turned bs) name (omega (arith, e, h, length-reverse (map (λ b. b.now) bs), length-map bs (λ (b : Bor (List ℕ)). b.now)))

-- a name with a number is one of these, and one without is none
among-from : (i : ℕ) (x : List ℕ) (ys : Names) → is_some (number_from i x ys) ≡ is_among x ys
among-from i x [] = refl
among-from i x (y ∷ ys) = go (bytes_eq x y) (among-from (suc i) x ys)
  where
    go : (b : Bool) → is_some (number_from (suc i) x ys) ≡ is_among x ys → is_some (if b then Some i else number_from (suc i) x ys) ≡ (b || is_among x ys)
    go true h = refl
    go false h = h

pub found-some : (x : List ℕ) (ys : Names) (n : ℕ) → number_of x ys ≡ Some n → is_among x ys ≡ true
found-some x ys n e = sym (among-from 0 x ys) ∙ ap is_some e

pub found-none : (x : List ℕ) (ys : Names) → number_of x ys ≡ None → is_among x ys ≡ false
found-none x ys e = sym (among-from 0 x ys) ∙ ap is_some e

pub ruleset founds = (found-some, found-none)
