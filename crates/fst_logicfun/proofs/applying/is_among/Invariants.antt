use Rattle.std.proofs.Common.{◌≡◌, false, take, map}
use Rattle.fst_terms.specs.Same.{is_among}
use Rattle.fst_terms.specs.Terms.{plain_term}
use Rattle.fst_logicfun.proofs.applying.is_among.Given as goal

abbrev pub invariant-loop-other : goal.invariant-loop-other
invariant-loop-other l = is_among (plain_term l.term) (map plain_term (take l.other-index l.terms)) ≡ false
