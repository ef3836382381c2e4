use Rattle.std.proofs.Common.{ℕ, ◌<◌, get_or}
use Rattle.fst_congruence.specs.declared.equation.Equation.{Equation}
use Rattle.fst_congruence.specs.Closures.{IsGivenLine}
use Rattle.fst_congruence.proofs.checks.are_equations.Given as goal

abbrev pub invariant-loop-at : goal.invariant-loop-at
invariant-loop-at l = (k : ℕ) → k < l.at → (d : Equation) → ((get_or l.equations k d).left < l.count) × (((get_or l.equations k d).right < l.count) × IsGivenLine (get_or l.equations k d).by)
