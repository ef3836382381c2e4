-- At most one answer is due.
use Rattle.std.proofs.Common.{◌≡◌, ◌⊎◌, inl, inr, ℕ, zero, suc, ◌<◌, Bool, true, false, List, [], ◌∷◌, ◌++◌, length, refl, sym, ap, ap₂, ◌∙◌, subst, arith}
use Rattle.std.specs.Prelude.{⊤}
use Rattle.fst_base.specs.Values.{Val, v_unit}
use Rattle.fst_terms.specs.Terms.{Tm}
use Rattle.fst_terms.specs.Meaning.{Meaning, IsValid}
use Rattle.fst_terms.specs.Flats.{Flt, flat_of, rank, Earlier, IsOpen, IsFirstOpen}
use Rattle.fst_terms.specs.declared.flat.Mark.{Mark}
use Rattle.fst_terms.specs.declared.flat.Mark.TheVariants as mark
use Rattle.fst_program.specs.Paths.{Gl, GoalsValid}
use Rattle.fst_top.specs.Answers.{FirstNo}

-- ---- the first goal that isn't valid

-- a meaning of applications
abbrev pub some_meaning : Meaning
some_meaning = λ k vs. v_unit

-- the first goals of two splits of a list, before which all are valid, are one goal
first-goal : (before b : List Gl) (goal g : Gl) (after a : List Gl) → before ++ goal ∷ after ≡ b ++ g ∷ a
    → GoalsValid some_meaning before → GoalsValid some_meaning b → (IsValid some_meaning goal.sequent → ⊥) → (IsValid some_meaning g.sequent → ⊥) → goal ≡ g
first-goal [] [] goal g after a e v w n m = cc
first-goal [] (h ∷ b) goal g after a e v w n m = let same : goal ≡ h = cc in absurd (n (subst (λ x. IsValid some_meaning x.sequent) (sym same) w.0))
first-goal (h ∷ before) [] goal g after a e v w n m = let same : h ≡ g = cc in absurd (m (subst (λ x. IsValid some_meaning x.sequent) same v.0))
first-goal (h ∷ before) (i ∷ b) goal g after a e v w n m = let tails : before ++ goal ∷ after ≡ b ++ g ∷ a = cc in first-goal before b goal g after a tails v.1 w.1 n m

-- ---- the first open branch

abbrev Compared : {A : Type 0} → A → A → Type 0 → Type 0 → Type 0
Compared a b less more = (a ≡ b) ⊎ (less ⊎ more)

compare-marks : (m n : Mark) → Compared m n (rank m < rank n) (rank n < rank m)
compare-marks mark.True mark.True = inl refl
compare-marks mark.True n = after-true n
  where
    after-true : (n : Mark) → Compared mark.True n (rank mark.True < rank n) (rank n < rank mark.True)
    after-true mark.True = inl refl
    after-true mark.False = inr (inl (omega arith))
    after-true mark.Less = inr (inl (omega arith))
    after-true mark.Greater = inr (inl (omega arith))
compare-marks mark.False mark.True = inr (inr (omega arith))
compare-marks mark.False mark.False = inl refl
compare-marks mark.False mark.Less = inr (inl (omega arith))
compare-marks mark.False mark.Greater = inr (inl (omega arith))
compare-marks mark.Less mark.True = inr (inr (omega arith))
compare-marks mark.Less mark.False = inr (inr (omega arith))
compare-marks mark.Less mark.Less = inl refl
compare-marks mark.Less mark.Greater = inr (inl (omega arith))
compare-marks mark.Greater mark.True = inr (inr (omega arith))
compare-marks mark.Greater mark.False = inr (inr (omega arith))
compare-marks mark.Greater mark.Less = inr (inr (omega arith))
compare-marks mark.Greater mark.Greater = inl refl

compare-branches : (ms ns : List Mark) → length ms ≡ length ns → Compared ms ns (Earlier ms ns) (Earlier ns ms)
compare-branches [] [] e = inl refl
compare-branches [] (n ∷ ns) e = absurd (omega (arith, e))
compare-branches (m ∷ ms) [] e = absurd (omega (arith, e))
compare-branches (m ∷ ms) (n ∷ ns) e = go (compare-marks m n) (compare-branches ms ns (omega (arith, e)))
  where
    rest : m ≡ n → Compared ms ns (Earlier ms ns) (Earlier ns ms) → Compared (m ∷ ms) (n ∷ ns) (Earlier (m ∷ ms) (n ∷ ns)) (Earlier (n ∷ ns) (m ∷ ms))
    rest q (inl h) = inl (ap₂ ◌∷◌ q h)
    rest q (inr (inl h)) = inr (inl (inr (q, h)))
    rest q (inr (inr h)) = inr (inr (inr (sym q, h)))

    go : Compared m n (rank m < rank n) (rank n < rank m) → Compared ms ns (Earlier ms ns) (Earlier ns ms) → Compared (m ∷ ms) (n ∷ ns) (Earlier (m ∷ ms) (n ∷ ns)) (Earlier (n ∷ ns) (m ∷ ms))
    go (inl q) h = rest q h
    go (inr (inl q)) h = inr (inl (inl q))
    go (inr (inr q)) h = inr (inr (inl q))

-- a flat form has one first open branch
first-branch : (f : Flt) (ms ns : List Mark) → IsFirstOpen f ms → IsFirstOpen f ns → ms ≡ ns
first-branch f ms ns h k = go (compare-branches ms ns (h.opens.marked ∙ sym k.opens.marked))
  where
    go : Compared ms ns (Earlier ms ns) (Earlier ns ms) → ms ≡ ns
    go (inl e) = e
    go (inr (inl e)) = absurd (k.none_before ms e h.opens)
    go (inr (inr e)) = absurd (h.none_before ns e k.opens)

pub first-no-goal : (gs : List Gl) (goal g : Gl) (ms ns : List Mark) → FirstNo gs goal ms → FirstNo gs g ns → goal ≡ g
first-no-goal gs goal g ms ns h k = first-goal h.before k.before goal g h.after k.after (sym h.goals_are ∙ k.goals_are) (h.valid some_meaning) (k.valid some_meaning) (h.fails some_meaning) (k.fails some_meaning)

pub first-no-marks : (gs : List Gl) (goal g : Gl) (ms ns : List Mark) → FirstNo gs goal ms → FirstNo gs g ns → ms ≡ ns
first-no-marks gs goal g ms ns h k = first-branch (flat_of goal.sequent []) ms ns h.open_branch (subst (λ x. IsFirstOpen (flat_of x.sequent []) ns) (sym (first-no-goal gs goal g ms ns h k)) k.open_branch)

-- not all goals are valid where one of them isn't
pub no-not-yes : (before : List Gl) (goal : Gl) (after : List Gl) → GoalsValid some_meaning (before ++ goal ∷ after) → (IsValid some_meaning goal.sequent → ⊥) → ⊥
no-not-yes [] goal after v n = n v.0
no-not-yes (h ∷ before) goal after v n = no-not-yes before goal after v.1 n
