-- Lists of terms: what holds of one of them or of the first ones, and answers for each.
use Rattle.std.proofs.Common.{◌≡◌, ℕ, zero, suc, ◌+◌, ◌<◌, ◌≤◌, Bool, true, false, ◌||◌, List, [], ◌∷◌, length, get_or, take, map, refl, ap, arith, add-one}
use Rattle.fst_terms.specs.Terms.{Tm, t_more, row, plain_term, plain_terms, shift, shifts, subst, substs, free_in, free_in_some}
use Rattle.fst_terms.specs.Indices.{Raisable, AreRaisable, lets, lets_of}
use Rattle.fst_terms.specs.Flats.{cleared, all_cleared}
use Rattle.fst_terms.specs.declared.term.Term.{Term}

or-true : (b c : Bool) → c ≡ true → (b || c) ≡ true
or-true true c e = refl
or-true false c e = e

or-false : (b c : Bool) → b ≡ false → c ≡ false → (b || c) ≡ false
or-false true c e f = e
or-false false c e f = f

first-false : (b c : Bool) → (b || c) ≡ false → b ≡ false
first-false true c e = e
first-false false c e = refl

second-false : (b c : Bool) → (b || c) ≡ false → c ≡ false
second-false true c e = cc
second-false false c e = e

-- an index that occurs in one of the terms occurs in some of them
pub free_in_some-at : (i : ℕ) (ts : List Term) (k : ℕ) (d : Term) → k < length ts → free_in i (plain_term (get_or ts k d)) ≡ true → free_in_some i (plain_terms ts) ≡ true
free_in_some-at i [] k d h e = absurd (omega arith)
free_in_some-at i (t ∷ ts) zero d h e = rw e refl
free_in_some-at i (t ∷ ts) (suc k) d h e = or-true (free_in i (plain_term t)) _ (free_in_some-at i ts k d (omega arith) e)

free_in_some-suc : (i : ℕ) (ts : List Term) (k : ℕ) (d : Term) → k < length ts → free_in_some i (plain_terms (take k ts)) ≡ false → free_in i (plain_term (get_or ts k d)) ≡ false → free_in_some i (plain_terms (take (suc k) ts)) ≡ false
free_in_some-suc i [] k d h e f = absurd (omega arith)
free_in_some-suc i (t ∷ ts) zero d h e f = or-false (free_in i (plain_term t)) _ f refl
free_in_some-suc i (t ∷ ts) (suc k) d h e f =
    or-false (free_in i (plain_term t)) _ (first-false _ (free_in_some i (plain_terms (take k ts))) e) (free_in_some-suc i ts k d (omega arith) (second-false (free_in i (plain_term t)) _ e) f)

-- an index that occurs in none of the first k terms and not in the next one
pub free_in_some-more : (i : ℕ) (ts : List Term) (k : ℕ) (d : Term) → k < length ts → free_in_some i (plain_terms (take k ts)) ≡ false → free_in i (plain_term (get_or ts k d)) ≡ false → free_in_some i (plain_terms (take (k + 1) ts)) ≡ false
free_in_some-more i ts k d h e f = rw add-one (free_in_some-suc i ts k d h e f)

pub AreRaisable-at : (from by : ℕ) (ts : List Term) (k : ℕ) (d : Term) → k < length ts → AreRaisable from by (plain_terms ts) → Raisable from by (plain_term (get_or ts k d))
AreRaisable-at from by [] k d h r = absurd (omega arith)
AreRaisable-at from by (t ∷ ts) zero d h r = r.0
AreRaisable-at from by (t ∷ ts) (suc k) d h r = AreRaisable-at from by ts k d (omega arith) r.1

pub lets_of-at : (ts : List Term) (k : ℕ) (d : Term) → k < length ts → lets (plain_term (get_or ts k d)) ≤ lets_of (plain_terms ts)
lets_of-at [] k d h = absurd (omega arith)
lets_of-at (t ∷ ts) zero d h = omega arith
lets_of-at (t ∷ ts) (suc k) d h = omega (arith, lets_of-at ts k d (omega arith))

pub shifts-row : (from by : ℕ) (ts : List Term) → row (map (λ t. shift from by (plain_term t)) ts) ≡ shifts from by (plain_terms ts)
shifts-row from by [] = refl
shifts-row from by (t ∷ ts) = ap (t_more (shift from by (plain_term t))) (shifts-row from by ts)

pub substs-row : (i : ℕ) (u : Tm) (ts : List Term) → row (map (λ t. subst i u (plain_term t)) ts) ≡ substs i u (plain_terms ts)
substs-row i u [] = refl
substs-row i u (t ∷ ts) = ap (t_more (subst i u (plain_term t))) (substs-row i u ts)

pub cleared-row : (n : ℕ) (ts : List Term) → row (map (λ t. cleared n (plain_term t)) ts) ≡ all_cleared n (plain_terms ts)
cleared-row n [] = refl
cleared-row n (t ∷ ts) = ap (t_more (cleared n (plain_term t))) (cleared-row n ts)
