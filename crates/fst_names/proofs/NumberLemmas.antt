-- Numbers of names, when one more name is behind them.
use Rattle.std.proofs.Common.{◌≡◌, ℕ, suc, ◌+◌, ◌-◌, ◌<◌, ◌≤◌, if◌then◌else◌, List, [], ◌∷◌, ◌++◌, map, length, get_or, Option, Some, None, refl, sym, ap, ◌∙◌, bytes_eq, arith, inl, inr, cond}
use Rattle.std.proofs.lemmas.Bool.{cases_Bool, cond-true, cond-false}
use Rattle.std.specs.Cmp.Lexicographic.{bytes_decides, nat_list_eq_equiv}
use Rattle.fst_names.specs.declared.globals.Head.{Head}
use Rattle.fst_names.specs.Names.{Names, or_else, number_from, fun_from}
use Rattle.fst_names.specs.Heads.{head_in}

-- one more name behind some
pub number-push : (i : ℕ) (x : List ℕ) (ys : Names) (y : List ℕ) → number_from i x (ys ++ y ∷ []) ≡ or_else (number_from i x ys) (if bytes_eq x y then Some (i + length ys) else None)
number-push i x [] y = ap (λ n. if bytes_eq x y then Some n else None) (let q : i ≡ i + 0 = omega arith in q)
number-push i x (z ∷ ys) y = elim (cases_Bool (bytes_eq x z)) [
  | inl t ↦ cond-true _ _ _ t ∙ sym (ap (λ o. or_else o (if bytes_eq x y then Some (i + length (z ∷ ys)) else None)) (cond-true _ _ _ t))
  | inr t ↦ cond-false _ _ _ t ∙ number-push (suc i) x ys y
      ∙ ap (λ n. or_else (number_from (suc i) x ys) (if bytes_eq x y then Some n else None)) (let q : suc i + length ys ≡ i + suc (length ys) = omega arith in q)
      ∙ sym (ap (λ o. or_else o (if bytes_eq x y then Some (i + length (z ∷ ys)) else None)) (cond-false _ _ _ t))
]

pub number-within : (i n : ℕ) (x : List ℕ) (ys : Names) → number_from i x ys ≡ Some n → n < i + length ys
number-within i n x [] e = absurd (let f : None ≡ Some n = e in cc)
number-within i n x (z ∷ ys) e = elim (cases_Bool (bytes_eq x z)) [
  | inl t ↦ let is : i ≡ n = some_is i n (sym (cond-true _ _ _ t) ∙ e) in omega (arith, is)
  | inr t ↦ let w = number-within (suc i) n x ys (sym (cond-false _ _ _ t) ∙ e) in omega (arith, w)
]
  where
    some_is : (i n : ℕ) → Some i ≡ Some n → i ≡ n
    some_is i n q = cc

-- ---- the first number of each name, when one more is put in unless it is there

or-none : (o : Option ℕ) → or_else o None ≡ o
or-none None = refl
or-none (Some n) = refl

-- a name that is there stays
pub put-old : (f : List ℕ → Option ℕ) (y : List ℕ) (k n : ℕ) → f y ≡ Some k → (q : List ℕ) → f q ≡ or_else (f q) (if bytes_eq q y then Some n else None)
put-old f y k n old q = elim (cases_Bool (bytes_eq q y)) [
  | inl t ↦ let is : f q ≡ Some k = ap f ((bytes_decides q y).0 t) ∙ old in is ∙ sym (ap (λ o. or_else o (if bytes_eq q y then Some n else None)) is)
  | inr t ↦ sym (ap (or_else (f q)) (cond-false _ _ _ t) ∙ or-none (f q))
]

-- a name that isn't there gets the number
pub put-new : (f g : List ℕ → Option ℕ) (y : List ℕ) (n : ℕ) → f y ≡ None → ((q : List ℕ) → g q ≡ cond (bytes_eq y q) (Some n) (f q)) → (q : List ℕ) → g q ≡ or_else (f q) (if bytes_eq q y then Some n else None)
put-new f g y n new puts q = elim (cases_Bool (bytes_eq q y)) [
  | inl t ↦ puts q ∙ cond-true _ _ _ (nat_list_eq_equiv.symm y q ∙ t) ∙ sym (ap (λ o. or_else o (if bytes_eq q y then Some n else None)) (ap f ((bytes_decides q y).0 t) ∙ new) ∙ cond-true _ _ _ t)
  | inr t ↦ puts q ∙ cond-false _ _ _ (nat_list_eq_equiv.symm y q ∙ t) ∙ sym (ap (or_else (f q)) (cond-false _ _ _ t) ∙ or-none (f q))
]

-- ---- functions by their numbers

pub record Found (hs : List Head) (i n : ℕ) (x : List ℕ) (d : Head) : Type 0 where
  pub least : i ≤ n
  pub within : n < i + length hs
  pub is : fun_from i x (map head_in hs) ≡ Some (n, head_in (get_or hs (n - i) d))

pub fun-found : (hs : List Head) (i n : ℕ) (x : List ℕ) (d : Head) → number_from i x (map (λ h. h.name.now) hs) ≡ Some n → Found hs i n x d
fun-found [] i n x d e = absurd (let f : None ≡ Some n = e in cc)
fun-found (h ∷ hs) i n x d e = elim (cases_Bool (bytes_eq x h.name.now)) [
  | inl t ↦
      let is : i ≡ n = some_is i n (sym (cond-true _ _ _ t) ∙ e) in
      record { least = omega (arith, is); within = omega (arith, is); is = cond-true _ _ _ t ∙ ap (λ m. Some (m, head_in h)) is ∙ ap (λ m. Some (n, head_in (get_or (h ∷ hs) m d))) (let z : 0 ≡ n - i = omega (arith, is) in z) }
  | inr t ↦
      let rest = fun-found hs (suc i) n x d (sym (cond-false _ _ _ t) ∙ e) in
      let l = rest.least in
      let w = rest.within in
      record {
        least = omega (arith, l);
        within = omega (arith, w);
        is = cond-false _ _ _ t ∙ rest.is ∙ ap (λ m. Some (n, head_in (get_or (h ∷ hs) m d))) (let q : suc (n - suc i) ≡ n - i = omega (arith, l) in q);
      }
]
  where
    some_is : (i n : ℕ) → Some i ≡ Some n → i ≡ n
    some_is i n q = cc

pub fun-absent : (hs : List Head) (i : ℕ) (x : List ℕ) → number_from i x (map (λ h. h.name.now) hs) ≡ None → fun_from i x (map head_in hs) ≡ None
fun-absent [] i x e = refl
fun-absent (h ∷ hs) i x e = elim (cases_Bool (bytes_eq x h.name.now)) [
  | inl t ↦ absurd (let f : Some i ≡ None = sym (cond-true _ _ _ t) ∙ e in cc)
  | inr t ↦ cond-false _ _ _ t ∙ fun-absent hs (suc i) x (sym (cond-false _ _ _ t) ∙ e)
]
