use Rattle.std.proofs.Common.{◌≡◌, ◌+◌, ◌≤◌, map, length}
use Rattle.fst_terms.specs.Meaning.{plain_var}
use Rattle.fst_top.specs.Printed.{count_of_name}
use Rattle.fst_top.proofs.print.branch.count_of_name.Given as goal

abbrev pub invariant-vars : goal.invariant-vars
invariant-vars l = record {
  so_far : l.count + count_of_name l.name (map plain_var l.rest) ≡ count_of_name l.name (map plain_var l.vars);
  bound : l.count + length l.rest ≤ length l.vars;
}

abbrev pub decreases-vars : goal.decreases-vars
decreases-vars l = length l.rest
