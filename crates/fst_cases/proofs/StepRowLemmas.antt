-- Closings by rows: the steps that refute rows as lines, and the row that they end with.
use Rattle.std.proofs.lemmas.Int.{ints}
use lib.Dec.{T}
use Rattle.std.proofs.lemmas.List.{length_push}
use Rattle.fst_cert.proofs.RowTruths.{less-or-not}
use Rattle.std.proofs.Common.{◌≡◌, ℕ, zero, suc, ◌-◌, ◌≤◌, ◌<◌, ℤ, pos, ◌≤ℤ◌, ◌<ℤ◌, Bool, true, false, not, ◌&&◌, List, [], ◌∷◌, ◌++◌, length, map, slice_get, slice_index_or, Some, refl, ap, ◌∙◌, arith}
use Rattle.std.specs.Prelude.{int_le, int_lt}
use Rattle.fst_terms.specs.Flats.{Flt}
use Rattle.fst_terms.specs.Rows.{Rw, is_wide, IsBelow}
use Rattle.fst_terms.specs.Elimination.{no_row}
use Rattle.fst_terms.specs.Linear.{is_constant}
use Rattle.fst_terms.specs.Marks.{Marking, at_number}
use Rattle.fst_cert.specs.Proving.{only_if, on, holds, Eqn, narrow_sum, row_by, is_verdict}
use Rattle.fst_cert.specs.declared.line.Line.{Line}
use Rattle.fst_cert.specs.declared.line.Line.TheVariants as line
use Rattle.fst_congruence.specs.Explained.{equations_by}
use Rattle.fst_linear.specs.Refutations.{Stp, numbered, made_by, IsStep, AreSteps, replay, EndsBelow, Refutes}
use Rattle.fst_cases.specs.Closings.{add_line}
use Rattle.fst_cases.specs.Refuting.{rows_after, Closes}
use Rattle.fst_cert.proofs.EquationTruths.{on-inv}

at-numbered : (rows : List Rw) (i : ℕ) → 1 ≤ i → i ≤ length rows → at_number rows i ≡ Some (numbered rows i)
at-numbered rows zero h l = absurd (omega (arith, h))
at-numbered rows (suc n) h l = here rows n (omega (arith, l)) ∙ ap (λ k. Some (slice_index_or rows k no_row)) (let e : n ≡ suc n - 1 = omega arith in e)
  where
    here : (rows : List Rw) (n : ℕ) → n < length rows → slice_get rows n ≡ Some (slice_index_or rows n no_row)
    here [] n h = absurd (omega (arith, h))
    here (r ∷ rows) zero h = refl
    here (r ∷ rows) (suc n) h = here rows n (omega (arith, h))

at-least : (p : ℤ) → pos 1 ≤ℤ p → int_le (pos 1) p ≡ true
at-least p h = go (int_le (pos 1) p) refl
  where
    go : (b : Bool) → int_le (pos 1) p ≡ b → b ≡ true
    go true q = refl
    go false q = absurd (let l = less-or-not (pos 1) p q in omega (arith, ints, h, l))

module _ (f : Flt) (look : Marking) (es : List Eqn) where
  step-holds : (rows : List Rw) (s : Stp) → IsStep rows s → row_by f look es rows (add_line s) ≡ Some (made_by rows s)
  step-holds rows s h =
      ap (λ o. on o (λ a. on (at_number rows s.j) (λ b. narrow_sum s.p a s.q b))) (at-numbered rows s.i h.i.0 h.i.1)
      ∙ ap (λ o. on o (λ b. narrow_sum s.p (numbered rows s.i) s.q b)) (at-numbered rows s.j h.j.0 h.j.1)
      ∙ narrow (int_le (pos 1) s.p) (int_le (pos 1) s.q) (is_wide s.p (numbered rows s.i) s.q (numbered rows s.j)) (made_by rows s) (at-least s.p h.p) (at-least s.q h.q) h.narrow
    where
      narrow : (a b c : Bool) (r : Rw) → a ≡ true → b ≡ true → c ≡ false → only_if (a && b && not c) r ≡ Some r
      narrow a b c r p q n = rw (p, q, n) refl

  -- the lines of steps make the rows that the steps make
  pub steps-hold : (rows : List Rw) (ss : List Stp) → AreSteps rows ss → rows_after f look es rows (map add_line ss) ≡ Some (replay rows ss)
  steps-hold rows [] h = refl
  steps-hold rows (s ∷ ss) h =
      ap (λ o. on o (λ r. rows_after f look es (rows ++ r ∷ []) (map add_line ss))) (step-holds rows s h.0) ∙ steps-hold (rows ++ made_by rows s ∷ []) ss h.1

  pub rows-then : (rows more all : List Rw) (ls ks : List Line) → rows_after f look es rows ls ≡ Some more → rows_after f look es more ks ≡ Some all → rows_after f look es rows (ls ++ ks) ≡ Some all
  rows-then rows more all [] ks h i = let e : rows ≡ more = cc in ap (λ rs. rows_after f look es rs ks) e ∙ i
  rows-then rows more all (l ∷ ls) ks h i =
      let r = on-inv (row_by f look es rows l) (λ r. rows_after f look es (rows ++ r ∷ []) ls) more h in
      ap (λ o. on o (λ r. rows_after f look es (rows ++ r ∷ []) (ls ++ ks))) r.1.0 ∙ rows-then (rows ++ r.0 ∷ []) more all ls ks r.1.1 i

  below-holds : (rows : List Rw) (i : ℕ) → 1 ≤ i → i ≤ length rows → IsBelow (numbered rows i) → is_verdict f look es rows (line.Below i) ≡ true
  below-holds rows i h l b =
      ap (λ o. holds o (λ r. is_constant r && int_lt r.constant (pos 0))) (at-numbered rows i h l)
      ∙ both (is_constant (numbered rows i)) (int_lt (numbered rows i).constant (pos 0)) (none (numbered rows i) b.none) (less-true (numbered rows i).constant b.negative)
    where
      both : (a b : Bool) → a ≡ true → b ≡ true → (a && b) ≡ true
      both a b p q = rw (p, q) refl

      none : (r : Rw) → r.coefs ≡ [] → is_constant r ≡ true
      none r e = ap (λ cs. is_constant (record { constant = r.constant; coefs = cs })) e

      yes : (b : Bool) → T b → b ≡ true
      yes true t = refl
      yes false t = absurd t

      less-true : (c : ℤ) → c <ℤ pos 0 → int_lt c (pos 0) ≡ true
      less-true c l = yes (int_lt c (pos 0)) l.lt

  -- the row that the steps end with
  pub ends-below : (rows : List Rw) (ss : List Stp) → EndsBelow rows ss → (i : ℕ) × (is_verdict f look es (replay rows ss) (line.Below i) ≡ true)
  ends-below rows [] h = (h.0, below-holds rows h.0 h.1 h.2 h.3)
  ends-below rows (s ∷ ss) h = let n = some rows ss in (length (replay rows (s ∷ ss)), below-holds (replay rows (s ∷ ss)) (length (replay rows (s ∷ ss))) n (omega arith) h)
    where
      longer : (rows : List Rw) (ss : List Stp) → length rows ≤ length (replay rows ss)
      longer rows [] = omega arith
      longer rows (s ∷ ss) = let h = longer (rows ++ made_by rows s ∷ []) ss in let l = length_push rows (made_by rows s) in omega (arith, h, l)

      some : (rows : List Rw) (ss : List Stp) → 1 ≤ length (replay rows (s ∷ ss))
      some rows ss = let h = longer (rows ++ made_by rows s ∷ []) ss in let l = length_push rows (made_by rows s) in omega (arith, h, l)

-- rows that lines make, and steps that refute them
pub record ClosesBelow (f : Flt) (look : Marking) (equations rows : List Line) : Type 0 where
  pub row : ℕ
  pub closes : Closes f look equations rows (line.Below row)

pub closes-rows : (f : Flt) (look : Marking) (es : List Eqn) (equations ls : List Line) (rows : List Rw) (ss : List Stp) → equations_by f look [] equations ≡ Some es → rows_after f look es [] ls ≡ Some rows → Refutes rows ss
    → ClosesBelow f look equations (ls ++ map add_line ss)
closes-rows f look es equations ls rows ss h i r =
    let b = ends-below f look es rows ss r.ends in
    record {
      row = b.0;
      closes = record {
        gives = es;
        sums = replay rows ss;
        equations_hold = h;
        rows_hold = rows-then f look es [] rows (replay rows ss) ls (map add_line ss) i (steps-hold f look es rows ss r.steps);
        ends = b.1;
      };
    }
