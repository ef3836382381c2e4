use Rattle.std.proofs.Common.{◌≡◌, ℕ, true, take}
use Rattle.std.specs.List.{list_all}
use Rattle.fst_terms.specs.Indices.{Stands}
use Rattle.fst_terms.specs.Terms.{plain_term}
use Rattle.fst_code.specs.Within.{term_within}
use Rattle.fst_code.proofs.term.+within.Given as goal

abbrev pub invariant-terms_within-loop-term : goal.invariant-terms_within-loop-term
invariant-terms_within-loop-term l = (n : ℕ) → Stands l.vars n → list_all (λ t. term_within n l.funs (plain_term t)) (take l.term-index l.terms) ≡ true
