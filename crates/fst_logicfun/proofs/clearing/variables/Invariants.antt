use Rattle.std.proofs.Common.{◌≡◌, ◌-◌, ◌≤◌}
use Rattle.fst_scopes.specs.Scopes.{terms_for}
use Rattle.fst_terms.specs.Formulas.{vars_from}
use Rattle.fst_logicfun.proofs.clearing.variables.Given as goal

abbrev pub invariant-loop-left : goal.invariant-loop-left
invariant-loop-left l = (terms_for l.scope ≡ vars_from l.left (l.n - l.left)) × (l.left ≤ l.n)

abbrev pub decreases-loop-left : goal.decreases-loop-left
decreases-loop-left l = l.left
