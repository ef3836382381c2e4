use Rattle.std.proofs.Common.{take}
use Rattle.std.specs.List.{All}
use Rattle.fst_rows.specs.Plain.{plain_row}
use Rattle.fst_terms.specs.Rows.{SolvesOver}
use Rattle.fst_linear.specs.Values.{values_of}
use Rattle.fst_linear.proofs.solution.solves.Given as goal

abbrev pub invariant-loop-row : goal.invariant-loop-row
invariant-loop-row l = All (λ r. SolvesOver l.scale (values_of l.values) (plain_row r)) (take l.row-index l.rows)
