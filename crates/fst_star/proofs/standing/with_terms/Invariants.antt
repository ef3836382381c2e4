use Rattle.std.proofs.Common.{◌≡◌, ◌++◌, take}
use Rattle.fst_star.proofs.standing.with_terms.Given as goal

abbrev pub invariant-loop-term : goal.invariant-loop-term
invariant-loop-term l = l.made ≡ l.terms ++ take l.term-index l.more
