-- Values that solve the rows of a marking: those of a class follow from the rows with one term of it, where the divisor of each other
-- difference divides its constant.
use Rattle.std.proofs.Common.{◌≡◌, ◌⊎◌, inl, inr, ℕ, ◌<◌, ℤ, pos, negsuc, neg_ℤ, ◌+ℤ◌, ◌*ℤ◌, ◌≤ℤ◌, Bool, true, false, cond, eqb, List, [], ◌∷◌, refl, sym, ap, ap₂, ◌∙◌, subst, arith}
use Prim.Native.Nat.{◌∣◌}
use Rattle.std.specs.Prelude.{unsigned_abs}
use Rattle.std.specs.List.{All}
use Rattle.std.proofs.lemmas.Int.{ints}
use Rattle.std.proofs.lemmas.List.Elements.{All-head, All-tail}
use Rattle.fst_terms.specs.Terms.{Tm}
use Rattle.fst_terms.specs.Flats.{Flt}
use Rattle.fst_terms.specs.Rows.{Cf, Rw, sum_at, value_at, SolvesOver, divisor, part_of, parts, parted, summed, tight}
use Rattle.fst_terms.specs.Linear.{Ineq, linear, minus_one, constant_row, row_before, row_of}
use Rattle.fst_terms.specs.Marks.{Marking, term_number, ineq}
use Rattle.fst_terms.specs.Branches.{Given, OfMark, OfJoined}
use Rattle.fst_terms.proofs.Differences.{dif, dif_pos, dif_sum, dif_product, dif_same, dif_neg}
use Rattle.fst_terms.proofs.SumLemmas.{summed-value}
use Rattle.fst_terms.proofs.TightLemmas.{divisor-divides, part-whole, positive, solved-tight}
use Rattle.fst_cases.specs.Leaves.{IsSolved}

module _ (s : ℕ) (x : ℕ → ℤ) where
  -- ---- tightening that loses nothing

  -- the divisor divides the constant, or there are no coefficients
  abbrev pub IsWhole : Rw → Type 0
  IsWhole r = (divisor r.coefs ≡ 0) ⊎ (divisor r.coefs ∣ unsigned_abs r.constant)

  parts-whole : (g : ℕ) (cs : List Cf) → 0 < g → All (λ c. g ∣ unsigned_abs c.by) cs → sum_at x cs ≡ pos g *ℤ sum_at x (parts g cs)
  parts-whole g [] p h = dif_same (dif_pos 0) (dif_product (dif_pos g) (dif_pos 0)) (omega arith)
  parts-whole g (c ∷ cs) p h =
      let P : Cf → Type 0 = λ d. g ∣ unsigned_abs d.by in
      ap (λ n. n *ℤ x c.unknown +ℤ sum_at x cs) (sym (part-whole g c.by p (All-head P c cs h))) ∙ ap (λ n. pos g *ℤ part_of g c.by *ℤ x c.unknown +ℤ n) (parts-whole g cs p (All-tail P c cs h))
      ∙ go (pos g) (part_of g c.by) (x c.unknown) (sum_at x (parts g cs))
    where
      go : (g a y t : ℤ) → g *ℤ a *ℤ y +ℤ g *ℤ t ≡ g *ℤ (a *ℤ y +ℤ t)
      go g a y t = dif_same (dif_sum (dif_product (dif_product (dif g) (dif a)) (dif y)) (dif_product (dif g) (dif t))) (dif_product (dif g) (dif_sum (dif_product (dif a) (dif y)) (dif t))) (omega arith)

  -- a whole number is at least 0 where g times it is 0
  none-below : (g : ℕ) (t : ℤ) → 0 < g → pos g *ℤ t ≡ pos 0 → pos 0 ≤ℤ t
  none-below g (pos t) p e = omega (arith, ints)
  none-below g (negsuc t) p e = absurd (omega (arith, ints, e, p))

  parted-whole : (g : ℕ) (r : Rw) → 0 < g → All (λ c. g ∣ unsigned_abs c.by) r.coefs → g ∣ unsigned_abs r.constant → value_at s x r ≡ pos 0 → SolvesOver s x (parted g r)
  parted-whole g r p d w h =
      none-below g _ p (
      go (pos g) (pos s) (part_of g r.constant) (sum_at x (parts g r.coefs))
      ∙ ap₂ (λ c n. pos s *ℤ c +ℤ n) (part-whole g r.constant p w) (sym (parts-whole g r.coefs p d)) ∙ h)
    where
      go : (g s a t : ℤ) → g *ℤ (s *ℤ a +ℤ t) ≡ s *ℤ (g *ℤ a) +ℤ g *ℤ t
      go g s a t = dif_same (dif_product (dif g) (dif_sum (dif_product (dif s) (dif a)) (dif t))) (dif_sum (dif_product (dif s) (dif_product (dif g) (dif a))) (dif_product (dif g) (dif t))) (omega arith)

  pub tight-whole : (r : Rw) → IsWhole r → value_at s x r ≡ pos 0 → SolvesOver s x (tight r)
  tight-whole r w h = go (eqb (divisor r.coefs) 0) refl w
    where
      go : (t : Bool) → eqb (divisor r.coefs) 0 ≡ t → IsWhole r → SolvesOver s x (cond t r (parted (divisor r.coefs) r))
      go true e w = subst (λ z. pos 0 ≤ℤ z) (sym h) (omega (arith, ints))
      go false e (inl z) = absurd (let l = positive _ e in omega (arith, l, z))
      go false e (inr d) = parted-whole (divisor r.coefs) r (positive _ e) (divisor-divides r.coefs) d h

  -- ---- the value of a difference

  module _ (n : Tm → ℕ) where
    abbrev pub worth_of : Tm → ℤ
    worth_of t = value_at s x (linear n t)

    before-value : (t u : Tm) → value_at s x (row_before n (ineq t u (pos 0))) ≡ worth_of t +ℤ neg_ℤ (worth_of u)
    before-value t u =
        summed-value s x (pos 1) (summed (pos 1) (linear n t) minus_one (linear n u)) (pos 1) (constant_row (pos 0))
        ∙ ap (λ z. pos 1 *ℤ z +ℤ pos 1 *ℤ value_at s x (constant_row (pos 0))) (summed-value s x (pos 1) (linear n t) minus_one (linear n u))
        ∙ go (worth_of t) (worth_of u)
      where
        go : (a b : ℤ) → pos 1 *ℤ (pos 1 *ℤ a +ℤ minus_one *ℤ b) +ℤ pos 1 *ℤ (pos s *ℤ pos 0 +ℤ pos 0) ≡ a +ℤ neg_ℤ b
        go a b = dif_same
            (dif_sum (dif_product (dif_pos 1) (dif_sum (dif_product (dif_pos 1) (dif a)) (dif_product (dif_neg (dif_pos 1)) (dif b)))) (dif_product (dif_pos 1) (dif_sum (dif_product (dif_pos s) (dif_pos 0)) (dif_pos 0))))
            (dif_sum (dif a) (dif_neg (dif b))) (omega arith)

    -- the two rows of two terms give them one value
    pub rows-same : (t u : Tm) → SolvesOver s x (row_of n (ineq t u (pos 0))) → SolvesOver s x (row_of n (ineq u t (pos 0))) → worth_of t ≡ worth_of u
    rows-same t u h k =
        let a : pos 0 ≤ℤ (worth_of t +ℤ neg_ℤ (worth_of u)) = subst (λ z. pos 0 ≤ℤ z) (before-value t u) (solved-tight s x (row_before n (ineq t u (pos 0))) h) in
        let b : pos 0 ≤ℤ (worth_of u +ℤ neg_ℤ (worth_of t)) = subst (λ z. pos 0 ≤ℤ z) (before-value u t) (solved-tight s x (row_before n (ineq u t (pos 0))) k) in
        even (worth_of t) (worth_of u) a b
      where
        even : (a b : ℤ) → pos 0 ≤ℤ (a +ℤ neg_ℤ b) → pos 0 ≤ℤ (b +ℤ neg_ℤ a) → a ≡ b
        even a b h k = omega (arith, ints, h, k)

    -- and one value solves their rows, where tightening loses nothing
    pub same-row : (t u : Tm) → worth_of t ≡ worth_of u → IsWhole (row_before n (ineq t u (pos 0))) → SolvesOver s x (row_of n (ineq t u (pos 0)))
    same-row t u e w = tight-whole (row_before n (ineq t u (pos 0))) w (before-value t u ∙ none (worth_of t) (worth_of u) e)
      where
        none : (a b : ℤ) → a ≡ b → a +ℤ neg_ℤ b ≡ pos 0
        none a b e = omega (arith, ints, e)

-- ---- classes

-- a term of each class, whose rows with each other term of its class are solved; and the other differences lose nothing
pub record ClassesSolved (f : Flt) (look : Marking) (s : ℕ) (x : ℕ → ℤ) : Type 0 where
  pub head : Tm → Tm
  pub one : (d : Ineq) → (j : OfJoined f look d) → head j.first ≡ head j.second
  pub towards : (d : Ineq) → (j : OfJoined f look d) → SolvesOver s x (row_of (term_number f) (ineq j.first (head j.first) (pos 0))) × SolvesOver s x (row_of (term_number f) (ineq j.second (head j.second) (pos 0)))
  pub back : (d : Ineq) → (j : OfJoined f look d) → SolvesOver s x (row_of (term_number f) (ineq (head j.first) j.first (pos 0))) × SolvesOver s x (row_of (term_number f) (ineq (head j.second) j.second (pos 0)))
  pub whole : (d : Ineq) → (j : OfJoined f look d) → IsWhole s x (row_before (term_number f) (ineq j.first j.second (pos 0)))

-- values that solve the rows of marks, and those of each class with one term of it, solve every row of the marking
pub solved-classes : (f : Flt) (look : Marking) (s : ℕ) (x : ℕ → ℤ) → 0 < s → ((d : Ineq) → OfMark f look d → SolvesOver s x (row_of (term_number f) d)) → ClassesSolved f look s x → IsSolved f look
solved-classes f look s x p marks c = record { scale = s; positive = p; values = x; solves = go }
  where
    go : (d : Ineq) → Given f look d → SolvesOver s x (row_of (term_number f) d)
    go d (inl m) = marks d m
    go d (inr j) =
        let n : Tm → ℕ = term_number f in
        let t = c.towards d j in
        let b = c.back d j in
        let first = rows-same s x n j.first (c.head j.first) t.0 b.0 in
        let second = rows-same s x n j.second (c.head j.second) t.1 b.1 in
        subst (λ e. SolvesOver s x (row_of n e)) (sym j.is) (same-row s x n j.first j.second (first ∙ ap (worth_of s x n) (c.one d j) ∙ sym second) (c.whole d j))
