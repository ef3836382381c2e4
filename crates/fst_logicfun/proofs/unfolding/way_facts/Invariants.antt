use Rattle.std.proofs.Common.{◌≡◌, take, map}
use Rattle.fst_terms.specs.Terms.{plain_term}
use Rattle.fst_logicfun.specs.Ways.{told}
use Rattle.fst_logicfun.proofs.unfolding.way_facts.Given as goal

abbrev pub invariant-loop-end : goal.invariant-loop-end
invariant-loop-end l = map plain_term l.made ≡ map (told (plain_term l.application)) (take l.end-index l.ends)
