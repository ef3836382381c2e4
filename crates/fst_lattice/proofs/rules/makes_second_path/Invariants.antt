use Rattle.std.proofs.Common.{◌≡◌, ◌&&◌, false}
use Rattle.fst_lattice.specs.Tables.{reaches, some_below}
use Rattle.fst_lattice.proofs.rules.makes_second_path.Given as goal

abbrev pub invariant-loop-lower : goal.invariant-loop-lower
invariant-loop-lower l = some_below l.lower (λ D. reaches l.rows D l.lift.from && some_below l.count (λ E. reaches l.rows l.lift.to E && reaches l.rows D E)) ≡ false
