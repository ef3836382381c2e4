use Rattle.std.proofs.Common.{ℕ, ◌<◌, get_or, None}
use Rattle.fst_terms.specs.declared.flat.Mark.TheVariants as mark
use Rattle.fst_cases.specs.Clashes.{JoinedSides}
use Rattle.fst_cases.specs.declared.roles.Role.TheVariants as role
use Rattle.fst_cases.proofs.clashes.first_unequal.Given as goal

abbrev pub invariant-loop-at : goal.invariant-loop-at
invariant-loop-at l = (k : ℕ) → k < l.at → JoinedSides l.closure (get_or l.roles k role.Order) (get_or l.marks k mark.False) k None
