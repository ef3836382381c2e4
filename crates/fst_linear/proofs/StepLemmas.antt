-- Whole numbers that solve the given rows solve the rows of the steps.
use Rattle.std.proofs.Common.{ℕ, ◌-◌, ◌≤◌, List, [], ◌∷◌, ◌++◌, length, length-append, ℤ, arith}
use Rattle.std.specs.List.{All}
use Rattle.std.proofs.lemmas.List.Elements.{All-push, All-get_or}
use Rattle.fst_terms.specs.Rows.{Rw, Solves}
use Rattle.fst_terms.specs.Elimination.{no_row}
use Rattle.fst_linear.specs.Refutations.{Stp, IsStep, AreSteps, replay, made_by, numbered, Refutes}
use Rattle.fst_rows.proofs.CombinedLemmas.{combined-solved}
use Rattle.fst_terms.proofs.WitnessLemmas.{below-unsolved}

pub made-solved : (x : ℕ → ℤ) (rows : List Rw) (s : Stp) → IsStep rows s → All (Solves x) rows → Solves x (made_by rows s)
made-solved x rows s h k =
    combined-solved x s.p (numbered rows s.i) s.q (numbered rows s.j) h.p h.q
    (All-get_or (Solves x) rows (s.i - 1) no_row (omega (arith, h.i.0, h.i.1)) k) (All-get_or (Solves x) rows (s.j - 1) no_row (omega (arith, h.j.0, h.j.1)) k)

pub replay-solved : (x : ℕ → ℤ) (rows : List Rw) (ss : List Stp) → AreSteps rows ss → All (Solves x) rows → All (Solves x) (replay rows ss)
replay-solved x rows [] h k = k
replay-solved x rows (s ∷ ss) h k = replay-solved x (rows ++ made_by rows s ∷ []) ss h.1 (All-push (Solves x) rows (made_by rows s) k (made-solved x rows s h.0 k))

replay-longer : (rows : List Rw) (ss : List Stp) → length rows ≤ length (replay rows ss)
replay-longer rows [] = omega arith
replay-longer rows (s ∷ ss) = omega (arith, replay-longer (rows ++ made_by rows s ∷ []) ss, length-append rows (made_by rows s ∷ []))

-- no whole numbers solve rows that are refuted
pub refuted-unsolved : (x : ℕ → ℤ) (rows : List Rw) (ss : List Stp) → Refutes rows ss → All (Solves x) rows → ⊥
refuted-unsolved x rows [] h k = below-unsolved 1 x _ (omega arith) h.ends.3 (All-get_or (Solves x) rows (h.ends.0 - 1) no_row (omega (arith, h.ends.1, h.ends.2)) k)
refuted-unsolved x rows (s ∷ ss) h k =
    let all = replay (rows ++ made_by rows s ∷ []) ss in
    below-unsolved 1 x _ (omega arith) h.ends
    (All-get_or (Solves x) all (length all - 1) no_row (omega (arith, replay-longer (rows ++ made_by rows s ∷ []) ss, length-append rows (made_by rows s ∷ []))) (replay-solved x rows (s ∷ ss) h.steps k))
