use Rattle.std.proofs.Common.{◌≡◌, drop, map}
use Rattle.fst_terms.specs.Terms.{plain_term}
use Rattle.fst_program.proofs.PlainLemmas.{plain_arms}
use Rattle.fst_scopes.specs.Scopes.{terms_for}
use Rattle.fst_star.specs.Inferring.{infer_arm_in, scope_at}
use Rattle.fst_star.proofs.inferring.+infer.Given as goal

abbrev pub invariant-infer_arm-loop-arm : goal.invariant-infer_arm-loop-arm
invariant-infer_arm-loop-arm l =
    infer_arm_in l.owner (scope_at l.spot) (terms_for l.spot.terms) (plain_term l.spot.input) l.at.at (plain_arms l.arms) l.con (map plain_term l.parts)
    ≡ infer_arm_in l.owner (scope_at l.spot) (terms_for l.spot.terms) (plain_term l.spot.input) l.at.at (plain_arms (drop l.arm-index l.arms)) l.con (map plain_term l.parts)
