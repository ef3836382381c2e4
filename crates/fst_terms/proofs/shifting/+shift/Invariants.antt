use Rattle.std.proofs.Common.{◌≡◌, take, map}
use Rattle.fst_terms.specs.Terms.{shift, plain_term}
use Rattle.fst_terms.proofs.shifting.+shift.Given as goal

abbrev pub invariant-shift_all-loop-term : goal.invariant-shift_all-loop-term
invariant-shift_all-loop-term l = map plain_term l.raised ≡ map (λ t. shift l.from l.by (plain_term t)) (take l.term-index l.terms)
