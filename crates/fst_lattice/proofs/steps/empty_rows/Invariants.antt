use Rattle.std.proofs.Common.{◌≡◌, None}
use Rattle.fst_lattice.specs.Tables.{tabled}
use Rattle.fst_lattice.proofs.steps.empty_rows.Given as goal

abbrev pub invariant-loop-from : goal.invariant-loop-from
invariant-loop-from l = l.rows ≡ tabled (λ D. tabled (λ E. None) l.count) l._from
