-- Items that are elaborated one after another, each with the names of those before it.
use Rattle.std.proofs.Common.{◌≡◌, ℕ, zero, suc, ◌+◌, ◌≤◌, Bool, true, false, List, [], ◌∷◌, ◌++◌, map, length, drop, slice_get, Option, Some, None, refl, sym, ap, ap₂, ◌∙◌, arith, append_assoc}
use Rattle.std.proofs.lemmas.List.{map-append, append-nil}
use Rattle.fst_top.specs.Elaboration.{given_some, only_if}
use Rattle.fst_top.proofs.ScopeLemmas.{drop-at}

-- these before those that follow
abbrev pub prepended : {A : Type 0} → List A → Option (List A) → Option (List A)
prepended xs None = None
prepended xs (Some ys) = Some (xs ++ ys)

prepended-none : {A : Type 0} (o : Option (List A)) → o ≡ prepended [] o
prepended-none None = refl
prepended-none (Some xs) = refl

prepended-twice : {A : Type 0} (xs ys : List A) (o : Option (List A)) → prepended xs (prepended ys o) ≡ prepended (xs ++ ys) o
prepended-twice xs ys None = refl
prepended-twice xs ys (Some zs) = ap Some (sym (append_assoc xs ys zs))

one-more : {A : Type 0} (x : A) (o : Option (List A)) → given_some o (λ xs. Some (x ∷ xs)) ≡ prepended (x ∷ []) o
one-more x None = refl
one-more x (Some xs) = refl

kept-if : {A : Type 0} (b : Bool) (x : A) (more : A → Option (List A)) → only_if b (given_some (more x) (λ xs. Some (x ∷ xs))) ≡ given_some (only_if b (Some x)) (λ y. prepended (y ∷ []) (more y))
kept-if true x more = one-more x (more x)
kept-if false x more = refl

-- an item that passes a test, before those that follow it
pub kept : {A : Type 0} (o : Option A) (test : A → Bool) (more : A → Option (List A)) → given_some o (λ x. only_if (test x) (given_some (more x) (λ xs. Some (x ∷ xs)))) ≡ given_some (given_some o (λ x. only_if (test x) (Some x))) (λ x. prepended (x ∷ []) (more x))
kept None test more = refl
kept (Some x) test more = kept-if (test x) x more

drop-past : {T : Type 0} (k : ℕ) (ts : List T) → length ts ≤ k → drop k ts ≡ []
drop-past zero [] h = refl
drop-past (suc k) [] h = refl
drop-past zero (t ∷ ts) h = absurd (omega (arith, h))
drop-past (suc k) (t ∷ ts) h = drop-past k ts (omega (arith, h))

-- `all k met ts` are the items from number k on, where those before have the names met
module _ {T R X : Type 0} (plain : R → X) (name : X → List ℕ) (all : ℕ → List (List ℕ) → List T → Option (List X)) where
  -- the names of those made
  abbrev pub met_in : List R → List (List ℕ)
  met_in rs = map (λ r. name (plain r)) rs

  -- the first k items have been made
  abbrev pub SoFar : List T → (k : ℕ) → List R → Type 0
  SoFar ts k rs = all 0 [] ts ≡ prepended (map plain rs) (all k (met_in rs) (drop k ts))

  pub gathers-none : (ts : List T) → SoFar ts 0 []
  gathers-none ts = prepended-none (all 0 [] ts)

  pub gathers-all : ((k : ℕ) (met : List (List ℕ)) → all k met [] ≡ Some []) → (ts : List T) (k : ℕ) (rs : List R) → length ts ≤ k → SoFar ts k rs → all 0 [] ts ≡ Some (map plain rs)
  gathers-all ends ts k rs le h = h ∙ ap (λ us. prepended (map plain rs) (all k (met_in rs) us)) (drop-past k ts le) ∙ ap (prepended (map plain rs)) (ends k (met_in rs)) ∙ ap Some (append-nil (map plain rs))

  -- item k is `next k met t`
  module _ (next : ℕ → List (List ℕ) → T → Option X) (begins : (k : ℕ) (met : List (List ℕ)) (t : T) (ts : List T) → all k met (t ∷ ts) ≡ given_some (next k met t) (λ x. prepended (x ∷ []) (all (suc k) (met ++ name x ∷ []) ts))) where
    next-of : (ts : List T) (k : ℕ) (rs : List R) (t : T) → slice_get ts k ≡ Some t → SoFar ts k rs
        → all 0 [] ts ≡ prepended (map plain rs) (given_some (next k (met_in rs) t) (λ x. prepended (x ∷ []) (all (suc k) (met_in rs ++ name x ∷ []) (drop (suc k) ts))))
    next-of ts k rs t q h = h ∙ ap (λ us. prepended (map plain rs) (all k (met_in rs) us)) (drop-at k ts t q) ∙ ap (prepended (map plain rs)) (begins k (met_in rs) t (drop (suc k) ts))

    pub gathers-next : (ts : List T) (k : ℕ) (rs : List R) (t : T) (r : R) → slice_get ts k ≡ Some t → next k (met_in rs) t ≡ Some (plain r) → SoFar ts k rs → SoFar ts (k + 1) (rs ++ r ∷ [])
    gathers-next ts k rs t r q e h =
        let one : suc k ≡ k + 1 = omega arith in
        next-of ts k rs t q h
        ∙ ap (λ o. prepended (map plain rs) (given_some o (λ x. prepended (x ∷ []) (all (suc k) (met_in rs ++ name x ∷ []) (drop (suc k) ts))))) e
        ∙ prepended-twice (map plain rs) (plain r ∷ []) (all (suc k) (met_in rs ++ name (plain r) ∷ []) (drop (suc k) ts))
        ∙ ap₂ (λ xs met. prepended xs (all (suc k) met (drop (suc k) ts))) (sym (map-append plain rs (r ∷ []))) (sym (map-append (λ r. name (plain r)) rs (r ∷ [])))
        ∙ ap (λ m. prepended (map plain (rs ++ r ∷ [])) (all m (met_in (rs ++ r ∷ [])) (drop m ts))) one

    pub gathers-no : (ts : List T) (k : ℕ) (rs : List R) (t : T) → slice_get ts k ≡ Some t → next k (met_in rs) t ≡ None → SoFar ts k rs → all 0 [] ts ≡ None
    gathers-no ts k rs t q e h = next-of ts k rs t q h ∙ ap (λ o. prepended (map plain rs) (given_some o (λ x. prepended (x ∷ []) (all (suc k) (met_in rs ++ name x ∷ []) (drop (suc k) ts))))) e
