use Rattle.std.proofs.Common.{◌≡◌, length}
use Rattle.fst_syntax.specs.Trees.{listed}
use Rattle.fst_syntax.proofs.Lists.{onto}
use Rattle.fst_term_reader.proofs.make.listed.Given as goal

abbrev pub invariant-loop-item : goal.invariant-loop-item
invariant-loop-item l = listed l.fn.at l.fn.items ≡ onto l.fn.at l.left l.list

abbrev pub decreases-loop-item : goal.decreases-loop-item
decreases-loop-item l = length l.left
