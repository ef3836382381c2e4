use Rattle.std.proofs.Common.{◌≡◌, take, map}
use Rattle.fst_terms.specs.Terms.{plain_term}
use Rattle.fst_terms.specs.Formulas.{put}
use Rattle.fst_scopes.specs.Scopes.{terms_for}
use Rattle.fst_logicfun.proofs.putting.+put.Given as goal

abbrev pub invariant-put_all-loop-term : goal.invariant-put_all-loop-term
invariant-put_all-loop-term l = map plain_term l.made ≡ map (λ t. put (terms_for l.scope) (plain_term t)) (take l.term-index l.terms)
