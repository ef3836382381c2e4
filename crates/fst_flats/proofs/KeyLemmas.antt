-- The key of a row of terms, and the place of a term, as loops find them.
use Rattle.std.proofs.Common.{◌≡◌, Bool, true, false, if◌then◌else◌, ℕ, zero, suc, ◌+◌, ◌-◌, ◌<◌, ◌≤◌, nat_lt, List, [], ◌∷◌, length, get_or, take, drop, map, refl, sym, ap, ◌∙◌, arith, add-one}
use Rattle.std.proofs.lemmas.Bool.{lt-ltb}
use Rattle.std.proofs.lemmas.Bool.Decides.{nat_tests}
use Rattle.fst_terms.specs.Terms.{Tm, plain_term, plain_terms}
use Rattle.fst_terms.specs.Same.{same_term, is_among}
use Rattle.fst_terms.specs.Naming.{name_index}
use Rattle.fst_terms.proofs.SameLemmas.{same_term-decides}
use Rattle.fst_terms.specs.declared.term.Term.{Term}
use Rattle.fst_flats.specs.Keys.{mix, key, key_from, place_of}

key-suc : (h : ℕ) (ts : List Term) (k : ℕ) (d : Term) → k < length ts → key_from h (plain_terms (take (suc k) ts)) ≡ mix (key_from h (plain_terms (take k ts))) (key (plain_term (get_or ts k d)))
key-suc h [] k d l = absurd (omega arith)
key-suc h (t ∷ ts) zero d l = refl
key-suc h (t ∷ ts) (suc k) d l = key-suc (mix h (key (plain_term t))) ts k d (omega (arith, l))

pub key-more : (h now : ℕ) (ts : List Term) (k : ℕ) (d : Term) → k < length ts → now ≡ key_from h (plain_terms (take k ts)) → mix now (key (plain_term (get_or ts k d))) ≡ key_from h (plain_terms (take (k + 1) ts))
key-more h now ts k d l e = rw add-one (ap (λ n. mix n (key (plain_term (get_or ts k d)))) e ∙ sym (key-suc h ts k d l))

-- terms of different keys differ
pub keyed-other : (t u : Tm) → (key t ≡ key u → ⊥) → false ≡ same_term t u
keyed-other t u differ = sym (when (same_term t u) refl)
  where
    when : (b : Bool) → same_term t u ≡ b → b ≡ false
    when true e = absurd (differ (ap key ((same_term-decides t u).0 e)))
    when false e = refl

pub ruleset keyed = (keyed-other)

-- ---- places

-- the place in the list is k and the place in what is left after k terms, as long as the term wasn't met
pub place-here : (t : Tm) (us : List Term) (k : ℕ) (d : Term) → k < length us → same_term t (plain_term (get_or us k d)) ≡ true → place_of t (map plain_term (drop k us)) ≡ 0
place-here t [] k d l e = absurd (omega arith)
place-here t (u ∷ us) zero d l e = rw e refl
place-here t (u ∷ us) (suc k) d l e = place-here t us k d (omega (arith, l)) e

place-suc : (t : Tm) (us : List Term) (k : ℕ) (d : Term) → k < length us → same_term t (plain_term (get_or us k d)) ≡ false → place_of t (map plain_term (drop k us)) ≡ suc (place_of t (map plain_term (drop (suc k) us)))
place-suc t [] k d l e = absurd (omega arith)
place-suc t (u ∷ us) zero d l e = ap (λ b. if b then 0 else suc (place_of t (map plain_term us))) e
place-suc t (u ∷ us) (suc k) d l e = place-suc t us k d (omega (arith, l)) e

pub place-more : (t : Tm) (us : List Term) (k p : ℕ) (d : Term) → k < length us → p ≡ k + place_of t (map plain_term (drop k us)) → same_term t (plain_term (get_or us k d)) ≡ false → p ≡ k + 1 + place_of t (map plain_term (drop (k + 1) us))
place-more t us k p d l e f = rw add-one (omega (arith, e, place-suc t us k d l f))

pub place-end : (t : Tm) (us : List Term) (k : ℕ) → length us ≤ k → place_of t (map plain_term (drop k us)) ≡ 0
place-end t [] zero h = refl
place-end t [] (suc k) h = refl
place-end t (u ∷ us) zero h = absurd (omega (arith, h))
place-end t (u ∷ us) (suc k) h = place-end t us k (omega (arith, h))

lt-suc : (a b : ℕ) → nat_lt a b ≡ nat_lt (suc a) (suc b)
lt-suc a b = grind (arith, nat_tests)

-- a term has a place below the length where it is among the terms
pub among-place : (t : Tm) (us : List Tm) → is_among t us ≡ nat_lt (place_of t us) (length us)
among-place t [] = refl
among-place t (u ∷ us) = when (among-place t us) (same_term t u)
  where
    when : is_among t us ≡ nat_lt (place_of t us) (length us) → (b : Bool) → (if b then true else is_among t us) ≡ nat_lt (if b then 0 else suc (place_of t us)) (suc (length us))
    when ih true = sym (lt-ltb 0 (suc (length us)) (omega arith))
    when ih false = ih ∙ lt-suc (place_of t us) (length us)

-- the index of a name, from its place
pub index-place : (t : Tm) (us : List Tm) → name_index us t ≡ length us - 1 - place_of t us
index-place t [] = refl
index-place t (u ∷ us) = when (index-place t us) (same_term t u)
  where
    when : name_index us t ≡ length us - 1 - place_of t us → (b : Bool) → (if b then length us else name_index us t) ≡ suc (length us) - 1 - (if b then 0 else suc (place_of t us))
    when ih true = omega arith
    when ih false = omega (arith, ih)
