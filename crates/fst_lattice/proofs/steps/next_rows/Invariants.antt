use Rattle.std.proofs.Common.{◌≡◌}
use Rattle.fst_lattice.specs.Tables.{tabled, next_step}
use Rattle.fst_lattice.proofs.steps.next_rows.Given as goal

abbrev pub invariant-loop-from : goal.invariant-loop-from
invariant-loop-from l = l.next ≡ tabled (λ D. tabled (λ E. next_step l.rows l.number l.lift.from l.lift.to D E) l.count) l.from
