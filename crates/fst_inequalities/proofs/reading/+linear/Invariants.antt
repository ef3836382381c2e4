use Rattle.std.proofs.Common.{◌+◌, ◌*◌}
use Rattle.fst_terms.specs.Terms.{plain_term}
use Rattle.fst_inequalities.proofs.WeightLemmas.{weight}
use Rattle.fst_inequalities.proofs.reading.+linear.Given as goal

abbrev pub decreases-linear : goal.decreases-linear
decreases-linear l = weight (plain_term l.term.now) * 4 + 3

abbrev pub decreases-linear_prim : goal.decreases-linear_prim
decreases-linear_prim l = weight (plain_term l.term.now) * 4 + 2

abbrev pub decreases-linear_one : goal.decreases-linear_one
decreases-linear_one l = weight (plain_term l.term.now) * 4 + 1

abbrev pub decreases-linear_two : goal.decreases-linear_two
decreases-linear_two l = weight (plain_term l.term.now) * 4 + 1
