use Rattle.std.proofs.Common.{◌≡◌, ℕ, ◌+◌, take, map}
use Rattle.fst_terms.specs.Indices.{Stands}
use Rattle.fst_terms.specs.Terms.{shift, subst, plain_term}
use Rattle.fst_terms.proofs.substitution.+put.Given as goal

abbrev pub invariant-put_all-loop-term : goal.invariant-put_all-loop-term
invariant-put_all-loop-term l = (depth : ℕ) → Stands l.under depth → map plain_term l.made ≡ map (λ t. subst (l.at + depth) (shift 0 depth (plain_term l.by)) (plain_term t)) (take l.term-index l.terms)
