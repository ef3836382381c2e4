use Rattle.std.proofs.Common.{◌≡◌, ◌&&◌, false}
use Rattle.fst_lattice.specs.Tables.{reaches, some_below}
use Rattle.fst_lattice.proofs.rules.is_joined.Given as goal

abbrev pub invariant-loop-upper : goal.invariant-loop-upper
invariant-loop-upper l = some_below l.upper (λ E. reaches l.rows l.lift.to E && reaches l.rows l.lower E) ≡ false
