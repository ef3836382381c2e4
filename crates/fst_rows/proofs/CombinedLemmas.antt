-- Solutions of tightened sums.
use Rattle.std.proofs.Common.{ℕ, ℤ, pos, ◌≤ℤ◌, arith}
use Rattle.std.proofs.lemmas.Int.{ints}
use Rattle.fst_terms.specs.Rows.{Rw, Solves, summed, combined}
use Rattle.fst_terms.proofs.SumLemmas.{summed-solved}
use Rattle.fst_terms.proofs.TightLemmas.{tight-solved}

-- whole numbers that solve two rows solve their tightened sum
pub combined-solved : (x : ℕ → ℤ) (p : ℤ) (a : Rw) (q : ℤ) (b : Rw) → pos 1 ≤ℤ p → pos 1 ≤ℤ q → Solves x a → Solves x b → Solves x (combined p a q b)
combined-solved x p a q b f g h k = tight-solved x (summed p a q b) (summed-solved 1 x p a q b (omega (arith, ints)) (omega (arith, ints)) h k)
