use Rattle.std.proofs.Common.{◌≡◌, take, map}
use Rattle.fst_base.specs.Sorts.{plain_sort}
use Rattle.fst_terms.specs.Terms.{plain_term}
use Rattle.fst_terms.specs.Formulas.{term_at}
use Rattle.fst_scopes.proofs.sort_putting.+term_at.Given as goal

abbrev pub invariant-terms_at-loop-term : goal.invariant-terms_at-loop-term
invariant-terms_at-loop-term l = map plain_term l.made ≡ map (λ t. term_at (plain_sort l.a) (plain_sort l.b) (plain_term t)) (take l.term-index l.terms)
