-- The atom at a place.
use Rattle.std.proofs.Common.{◌≡◌, ℕ, zero, suc, ◌<◌, List, [], ◌∷◌, length, map, slice_get, get_or, Some, ap, ◌∙◌, arith}
use Rattle.fst_terms.specs.Terms.{Tm, plain_term}
use Rattle.fst_terms.specs.Indices.{lets}
use Rattle.fst_terms.specs.declared.term.Term.{Term}
use Rattle.fst_cases.specs.Sides.{NoLets}

pub no-lets-at : (ts : List Term) (k : ℕ) (d : Term) → NoLets (map plain_term ts) → k < length ts → lets (plain_term (get_or ts k d)) ≡ 0
no-lets-at [] k d h l = absurd (omega (arith, l))
no-lets-at (t ∷ ts) zero d h l = h.0
no-lets-at (t ∷ ts) (suc k) d h l = no-lets-at ts k d h.1 (omega (arith, l))

pub term-at : (ts : List Term) (k : ℕ) (d : Term) (t : Tm) → k < length ts → slice_get (map plain_term ts) k ≡ Some t → plain_term (get_or ts k d) ≡ t
term-at [] k d t l q = absurd (omega (arith, l))
term-at (u ∷ ts) zero d t l q = cc
term-at (u ∷ ts) (suc k) d t l q = term-at ts k d t (omega (arith, l)) q

pub at-within : (ts : List Term) (k : ℕ) (t : Tm) → slice_get (map plain_term ts) k ≡ Some t → k < length ts
at-within [] k t q = cc
at-within (u ∷ ts) zero t q = omega arith
at-within (u ∷ ts) (suc k) t q = let l = at-within ts k t q in omega (arith, l)

-- the same as code reads it
pub no-lets-read : (ts xs : List Term) (k : ℕ) (t : Term) → xs ≡ ts → t ≡ get_or xs k t → NoLets (map plain_term ts) → k < length ts → lets (plain_term t) ≡ 0
no-lets-read ts xs k t e q h l = ap (λ u. lets (plain_term u)) (q ∙ ap (λ ys. get_or ys k t) e) ∙ no-lets-at ts k t h l

pub term-read : (ts xs : List Term) (k : ℕ) (t : Term) (u : Tm) → xs ≡ ts → t ≡ get_or xs k t → k < length ts → slice_get (map plain_term ts) k ≡ Some u → plain_term t ≡ u
term-read ts xs k t u e q l r = ap plain_term (q ∙ ap (λ ys. get_or ys k t) e) ∙ term-at ts k t u l r
