use Rattle.std.proofs.Common.{◌≡◌, None}
use Rattle.fst_lattice.specs.Tables.{tabled}
use Rattle.fst_lattice.proofs.steps.empty_row.Given as goal

abbrev pub invariant-loop-to : goal.invariant-loop-to
invariant-loop-to l = l.row ≡ tabled (λ E. None) l._to
