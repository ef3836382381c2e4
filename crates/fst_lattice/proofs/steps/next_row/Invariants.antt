use Rattle.std.proofs.Common.{◌≡◌}
use Rattle.fst_lattice.specs.Tables.{tabled, next_step}
use Rattle.fst_lattice.proofs.steps.next_row.Given as goal

abbrev pub invariant-loop-to : goal.invariant-loop-to
invariant-loop-to l = l.row ≡ tabled (λ E. next_step l.rows l.number l.lift.from l.lift.to l.from E) l.to
