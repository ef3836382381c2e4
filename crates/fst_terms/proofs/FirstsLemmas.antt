-- Lists of first occurrences, as loops make them: the test of a member, and lists that are joined.
use Rattle.std.proofs.Common.{◌≡◌, ℕ, zero, suc, ◌+◌, ◌<◌, Bool, true, false, if◌then◌else◌, List, [], ◌∷◌, ◌++◌, length, get_or, take, map, refl, ap, arith, add-one, Decides}
use Rattle.std.proofs.lemmas.Bool.Decides.{same_from_decides}
use Rattle.fst_base.proofs.DecideLemmas.{decided-by}
use Rattle.fst_terms.specs.Terms.{Tm, row, listed, plain_term}
use Rattle.fst_terms.specs.Same.{same_term, is_among, firsts}
use Rattle.fst_terms.specs.declared.term.Term.{Term}
use Rattle.fst_terms.proofs.SameLemmas.{same_term-decides}
use Rattle.fst_terms.proofs.TermInduction.{term-injective}

pub listed-row : (ts : List Tm) → listed (row ts) ≡ ts
listed-row [] = refl
listed-row (t ∷ ts) = ap (◌∷◌ t) (listed-row ts)

-- the test on terms is that on their plain trees
pub same-plain : (t u : Term) (b : Bool) → Decides b (t ≡ u) → b ≡ same_term (plain_term t) (plain_term u)
same-plain t u b d = same_from_decides b (same_term (plain_term t) (plain_term u)) d (decided-by (term-injective t u) (ap plain_term) (same_term-decides (plain_term t) (plain_term u)))

-- a test that goes on where the first one fails
pub found : (b c : Bool) → c ≡ true → (if b then true else c) ≡ true
found true c e = refl
found false c e = e

pub missed : (b c d : Bool) → (if b then true else c) ≡ false → (c ≡ false → d ≡ false) → (if b then true else d) ≡ false
missed true c d e f = e
missed false c d e f = f e

pub is_among-at : (t : Term) (us : List Term) (k : ℕ) (d : Term) → k < length us → same_term (plain_term t) (plain_term (get_or us k d)) ≡ true → is_among (plain_term t) (map plain_term us) ≡ true
is_among-at t [] k d h e = absurd (omega arith)
is_among-at t (u ∷ us) zero d h e = rw e refl
is_among-at t (u ∷ us) (suc k) d h e = found (same_term (plain_term t) (plain_term u)) _ (is_among-at t us k d (omega arith) e)

is_among-suc : (t : Term) (us : List Term) (k : ℕ) (d : Term) → k < length us → is_among (plain_term t) (map plain_term (take k us)) ≡ false → same_term (plain_term t) (plain_term (get_or us k d)) ≡ false → is_among (plain_term t) (map plain_term (take (suc k) us)) ≡ false
is_among-suc t [] k d h e f = absurd (omega arith)
is_among-suc t (u ∷ us) zero d h e f = rw f refl
is_among-suc t (u ∷ us) (suc k) d h e f = missed (same_term (plain_term t) (plain_term u)) _ _ e (λ g. is_among-suc t us k d (omega arith) g f)

pub is_among-more : (t : Term) (us : List Term) (k : ℕ) (d : Term) → k < length us → is_among (plain_term t) (map plain_term (take k us)) ≡ false → same_term (plain_term t) (plain_term (get_or us k d)) ≡ false → is_among (plain_term t) (map plain_term (take (k + 1) us)) ≡ false
is_among-more t us k d h e f = rw add-one (is_among-suc t us k d h e f)

pub firsts-append : (met ts us : List Tm) → firsts met (ts ++ us) ≡ firsts (firsts met ts) us
firsts-append met [] us = refl
firsts-append met (t ∷ ts) us = firsts-append (if is_among t met then met else met ++ t ∷ []) ts us
