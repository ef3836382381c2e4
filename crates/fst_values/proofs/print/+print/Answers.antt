use Rattle.std.proofs.Common.{arith}
use Rattle.fst_values.proofs.DigitLemmas.{where_ok}
use Rattle.fst_values.proofs.Fronts.{front-grow}
use Rattle.fst_values.proofs.ListLemmas.{item_printed, list_printed}
use Rattle.fst_values.proofs.print.+print.Goals as goal

pub print_list-loop-at-preserved : goal.print_list-loop-at-preserved
print_list-loop-at-preserved t c = (
  item_printed _ _ _ _ _ _ _ c.loop-at-test.true c.loop-at.invariant.0 c.in_ok-print_separator.ensures.ok c.in_ok-print.ensures.ok c.index-items-at.is,
  front-grow _ _ _ _ (front-grow _ _ _ _ c.loop-at.invariant.1 c.in_ok-print_separator.ensures.ok) c.in_ok-print.ensures.ok,
)

pub print_list-returns-clause-ok : goal.print_list-returns-clause-ok
print_list-returns-clause-ok t c = where_ok c.extend_from_slice-2.result (λ e. list_printed _ _ _ _ _ (omega arith) c.loop-at.invariant.0 e) c.extend_from_slice-2.ensures.ok
