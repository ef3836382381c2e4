-- No environment that makes the formulas true and the goal false agrees with a branch that stands before one whose left siblings are
-- refuted.
use Rattle.std.proofs.Common.{◌≡◌, inl, inr, ℕ, zero, suc, ◌+◌, ◌≤◌, Bool, true, false, if◌then◌else◌, nat_eq, List, [], ◌∷◌, ◌++◌, length, slice_get, Some, None, refl, sym, ◌∙◌, subst, arith}
use Rattle.std.proofs.lemmas.Bool.{false≢true, eqb-true, eq-eqb}
use Rattle.fst_base.specs.Sorts.{Srt}
use Rattle.fst_terms.specs.Terms.{Tm}
use Rattle.fst_terms.specs.Meaning.{Env, Meaning, Truth, AllTrue, HasVars}
use Rattle.fst_terms.specs.Flats.{Flt}
use Rattle.fst_terms.specs.declared.flat.Mark.{Mark}
use Rattle.fst_terms.specs.declared.flat.Mark.TheVariants as mark
use Rattle.fst_terms.specs.Marks.{Marking, marks_of, var_sorts, MarkHolds, Agrees}
use Rattle.fst_terms.specs.Branches.{AllFit, Earlier}
use Rattle.fst_cert.specs.Proving.{Mk, marking_of, same_mark, owed_branch}
use Rattle.fst_terms.specs.Sentences.{KeepsSorts, IsFlat, NoneBefore}
use Rattle.fst_cases.specs.Refuting.{Within, UnmarkedAfter, Settles, IsRefutedAt, LeftRefuted}
use Rattle.fst_cert.proofs.ProofTruths.{all-shown}
use Rattle.fst_cases.proofs.RefutationRules.{no-more, joined-lists}

-- ---- the marks of the first atoms, by number

abbrev numbered_from : ℕ → List Mark → List Mk
numbered_from n [] = []
numbered_from n (m ∷ ms) = record { atom = n; mark = m } ∷ numbered_from (suc n) ms

numbered-is : (n : ℕ) (ms : List Mark) (k a : ℕ) → a ≡ n + k → marking_of (numbered_from n ms) a ≡ slice_get ms k
numbered-is n [] k a q = refl
numbered-is n (m ∷ ms) zero a q = subst (λ b. (if b then Some m else marking_of (numbered_from (suc n) ms) a) ≡ Some m) (sym (eq-eqb n a (omega (arith, q)))) refl
numbered-is n (m ∷ ms) (suc k) a q = go (numbered-is (suc n) ms k a (omega (arith, q))) (nat_eq n a) refl
  where
    go : marking_of (numbered_from (suc n) ms) a ≡ slice_get ms k → (b : Bool) → nat_eq n a ≡ b → (if b then Some m else marking_of (numbered_from (suc n) ms) a) ≡ slice_get ms k
    go ih true p = absurd (omega (arith, eqb-true n a p, q))
    go ih false p = ih

zero-unmarked : (n : ℕ) (ms : List Mark) → marking_of (numbered_from (suc n) ms) 0 ≡ None
zero-unmarked n [] = refl
zero-unmarked n (m ∷ ms) = go (zero-unmarked (suc n) ms) (nat_eq (suc n) 0) refl
  where
    go : marking_of (numbered_from (suc (suc n)) ms) 0 ≡ None → (b : Bool) → nat_eq (suc n) 0 ≡ b → (if b then Some m else marking_of (numbered_from (suc (suc n)) ms) 0) ≡ None
    go ih true p = absurd (omega (arith, eqb-true (suc n) 0 p))
    go ih false p = ih

numbered-marks : (ms : List Mark) (a : ℕ) → marking_of (numbered_from 1 ms) a ≡ marks_of ms a
numbered-marks ms zero = zero-unmarked 0 ms
numbered-marks ms (suc a) = numbered-is 1 ms a (suc a) (omega arith)

past-end : (ms : List Mark) (k : ℕ) → length ms ≤ k → slice_get ms k ≡ None
past-end [] k h = refl
past-end (m ∷ ms) zero h = absurd (omega (arith, h))
past-end (m ∷ ms) (suc k) h = past-end ms k (omega (arith, h))

unmarked-after : (ms : List Mark) → UnmarkedAfter (length ms) (marking_of (numbered_from 1 ms))
unmarked-after ms zero h = absurd (omega (arith, h))
unmarked-after ms (suc a) h = numbered-marks ms (suc a) ∙ past-end ms a (omega (arith, h))

-- ---- environments

-- an environment agrees with less
pub agrees-less : (M : Meaning) (f : Flt) (core look : Marking) (e : Env) → Within core look → Agrees M f look e → Agrees M f core e
agrees-less M f core look e within agrees a t m p q =
    let n = within a m q in
    holds t m n.0 n.1.1 (agrees a t n.0 p n.1.0)
  where
    holds : (t : Tm) (m n : Mark) → same_mark m n ≡ true → MarkHolds M t n e → MarkHolds M t m e
    holds t mark.True mark.True h q = q
    holds t mark.False mark.False h q = q
    holds t mark.False mark.Less h q = q.0
    holds t mark.False mark.Greater h q = q.0
    holds t mark.Less mark.Less h q = q
    holds t mark.Greater mark.Greater h q = q
    holds t m n h q = absurd (false≢true h)

-- the first marks of a longer list
first-marks : (ms ns : List Mark) (k : ℕ) (m : Mark) → slice_get ms k ≡ Some m → slice_get (ms ++ ns) k ≡ Some m
first-marks [] ns k m q = cc
first-marks (n ∷ ms) ns zero m q = q
first-marks (n ∷ ms) ns (suc k) m q = first-marks ms ns k m q

agrees-first : (M : Meaning) (f : Flt) (ms ns : List Mark) (e : Env) → Agrees M f (marks_of (ms ++ ns)) e → Agrees M f (marking_of (numbered_from 1 ms)) e
agrees-first M f ms ns e agrees zero t m p q = cc
agrees-first M f ms ns e agrees (suc a) t m p q = agrees (suc a) t m p (first-marks ms ns a m (sym (numbered-marks ms (suc a)) ∙ q))

-- where these marks are refuted, an environment that agrees with them and makes the formulas true makes the goal true
pub refuted-shows : (Applies : (k : ℕ) → List Srt → (S : Srt) → Type 0) (M : Meaning) → KeepsSorts Applies M → (f : Flt) → IsFlat Applies f → (e : Env) → HasVars f.vars e → AllTrue M f.formulas e
    → (ms ns : List Mark) → IsRefutedAt f ms → Agrees M f (marks_of (ms ++ ns)) e → Truth M f.goal e
refuted-shows Applies M keeps f flat e has true-formulas ms ns r agrees =
    subst (λ f. HasVars f.vars e → AllTrue M f.formulas e → Settles f (owed_branch [] (numbered_from 1 ms) ∷ []) r.lines → Agrees M f (marking_of (numbered_from 1 ms)) e → Truth M f.goal e) (sym flat.is)
    (λ h i s a. (all-shown Applies M keeps flat.made flat.formed e h i (owed_branch [] (numbered_from 1 ms) ∷ []) r.lines 1 (s 1)).0 tt a)
    has true-formulas settled (agrees-first M f ms ns e agrees)
  where
    settled : Settles f (owed_branch [] (numbered_from 1 ms) ∷ []) r.lines
    settled = subst (Settles f (owed_branch [] (numbered_from 1 ms) ∷ [])) (no-more r.lines)
        (r.refuted (numbered_from 1 ms) (λ a m q. let w = r.within a m q in (w.0, (numbered-marks ms a ∙ w.1.0, w.1.1))) (unmarked-after ms) [] [] (λ at. refl))

-- ---- branches before

pub left-refuted-before : (Applies : (k : ℕ) → List Srt → (S : Srt) → Type 0) (f : Flt) → IsFlat Applies f → (ms : List Mark) → LeftRefuted f [] f.atoms ms → NoneBefore Applies f ms
left-refuted-before Applies f flat ms left M keeps e ns has true-formulas off fit earlier agrees = go [] f.atoms ms ns left fit earlier agrees
  where
    both : Truth M f.goal e → ⊥
    both h = let z = sym off ∙ h in cc

    go : (before : List Mark) (ts : List Tm) (ms ns : List Mark) → LeftRefuted f before ts ms → AllFit (var_sorts f) ts ns → Earlier ns ms → Agrees M f (marks_of (before ++ ns)) e → ⊥
    go before (t ∷ ts) (m ∷ ms) (n ∷ ns) l h (inl less) a =
        both (refuted-shows Applies M keeps f flat e has true-formulas (before ++ n ∷ []) ns (l.0 n h.0 less) (subst (λ w. Agrees M f (marks_of w) e) (sym (joined-lists before (n ∷ []) ns)) a))
    go before (t ∷ ts) (m ∷ ms) (n ∷ ns) l h (inr same) a =
        go (before ++ m ∷ []) ts ms ns l.1 h.1 same.1 (subst (λ w. Agrees M f (marks_of w) e) (sym (joined-lists before (m ∷ []) ns)) (subst (λ w. Agrees M f (marks_of (before ++ w ∷ ns)) e) same.0 a))
    go before [] ms (n ∷ ns) l h i a = absurd h
    go before (t ∷ ts) ms [] l h i a = absurd h
    go before [] ms [] l h i a = absurd i
    go before (t ∷ ts) [] (n ∷ ns) l h i a = absurd i
