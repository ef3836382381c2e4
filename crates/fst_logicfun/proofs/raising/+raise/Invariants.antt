use Rattle.std.proofs.Common.{◌≡◌, take, map}
use Rattle.fst_terms.specs.Terms.{shift, plain_term}
use Rattle.fst_logicfun.proofs.raising.+raise.Given as goal

abbrev pub invariant-raise_all-loop-term : goal.invariant-raise_all-loop-term
invariant-raise_all-loop-term l = map plain_term l.raised ≡ map (λ t. shift l.from 1 (plain_term t)) (take l.term-index l.terms)
