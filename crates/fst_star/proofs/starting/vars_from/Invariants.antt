use Rattle.std.proofs.Common.{◌≡◌, ◌-◌}
use Rattle.fst_terms.specs.Formulas.{vars_from}
use Rattle.fst_scopes.specs.Scopes.{terms_for}
use Rattle.fst_star.proofs.starting.vars_from.Given as goal

abbrev pub invariant-loop-at : goal.invariant-loop-at
invariant-loop-at l = terms_for l.made ≡ vars_from (l.end - l.at) l.at
