use Rattle.std.proofs.Common.{◌≡◌, take, map}
use Rattle.fst_terms.specs.Cleared.{cleared}
use Rattle.fst_scopes.specs.Scopes.{terms_for}
use Rattle.fst_terms.specs.Terms.{plain_term}
use Rattle.fst_logicfun.proofs.clearing.+clear.Given as goal

abbrev pub invariant-clear_all-loop-term : goal.invariant-clear_all-loop-term
invariant-clear_all-loop-term l = (map plain_term l.made ≡ map (λ t. cleared (terms_for l.initial.scope) (plain_term t)) (take l.term-index l.terms)) × (l.scope ≡ l.initial.scope)
