use Rattle.std.proofs.Common.{◌≡◌, false, take, map}
use Rattle.fst_terms.specs.Flats.{plain_flat}
use Rattle.fst_terms.specs.Searching.{some_false}
use Rattle.fst_terms.specs.Terms.{plain_term}
use Rattle.fst_top.proofs.branches.is_closed.Given as goal

abbrev pub invariant-loop-formula : goal.invariant-loop-formula
invariant-loop-formula l = some_false (plain_flat l.flat) l.marks (map plain_term (take l.formula-index l.formula-items)) ≡ false
