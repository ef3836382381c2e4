use Rattle.std.proofs.Common.{◌≡◌, map}
use Rattle.fst_shapes.specs.Preparing.{sorts_in}
use Rattle.fst_terms.specs.Terms.{plain_term}
use Rattle.fst_cases.specs.Always.{always_of}
use Rattle.fst_cases.proofs.always.equations_by_sorts.Given as goal

abbrev pub invariant-loop-at : goal.invariant-loop-at
invariant-loop-at l = l.equations ≡ always_of (sorts_in l.sorts) (map plain_term l.terms) l.at
