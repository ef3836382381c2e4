use Rattle.std.proofs.Common.{◌≡◌}
use Rattle.fst_lattice.specs.Tables.{tabled}
use Rattle.fst_sorting.specs.Routes.{way}
use Rattle.fst_sorting.proofs.paths.row.Given as goal

abbrev pub invariant-loop-to : goal.invariant-loop-to
invariant-loop-to l = l.row ≡ tabled (λ E. way l.routes l.from E) l.to
