use Rattle.std.proofs.Common.{◌≡◌}
use Rattle.fst_lattice.specs.Tables.{tabled}
use Rattle.fst_sorting.specs.Routes.{way}
use Rattle.fst_sorting.proofs.paths.table.Given as goal

abbrev pub invariant-loop-from : goal.invariant-loop-from
invariant-loop-from l = l.rows ≡ tabled (λ D. tabled (λ E. way l.routes D E) l.routes.count) l.from
