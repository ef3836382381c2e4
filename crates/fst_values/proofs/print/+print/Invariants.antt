use Rattle.std.proofs.Common.{◌≡◌, ◌++◌, map, take, codes}
use Rattle.fst_base.specs.Values.{plain_value}
use Rattle.fst_values.specs.Printing.{IsFront}
use Rattle.fst_values.proofs.ListLemmas.{printed_from}
use Rattle.fst_values.proofs.print.+print.Given as goal

abbrev pub invariant-print_list-loop-at : goal.invariant-print_list-loop-at
invariant-print_list-loop-at l = (l.out ≡ l.fn.out ++ (codes "[" ++ printed_from 0 (map plain_value (take l.at l.items)))) × IsFront l.fn.out l.out
