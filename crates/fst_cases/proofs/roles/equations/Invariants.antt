use Rattle.std.proofs.Common.{◌≡◌, ◌++◌, take}
use Rattle.fst_cases.specs.Roles.{given_equations}
use Rattle.fst_cases.proofs.roles.equations.Given as goal

abbrev pub invariant-loop-equation : goal.invariant-loop-equation
invariant-loop-equation l = l.equations ≡ take l.equation-index l.always

abbrev pub invariant-loop-at : goal.invariant-loop-at
invariant-loop-at l = l.equations ≡ l.always ++ given_equations l.roles l.marks l.at
