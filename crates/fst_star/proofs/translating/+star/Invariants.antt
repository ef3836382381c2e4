use Rattle.std.proofs.Common.{◌≡◌, drop, map}
use Rattle.fst_terms.specs.Terms.{plain_term}
use Rattle.fst_program.proofs.PlainLemmas.{plain_dm_arms}
use Rattle.fst_scopes.specs.Scopes.{terms_for, sorts_in}
use Rattle.fst_star.specs.Translating.{arm_in}
use Rattle.fst_star.proofs.translating.+star.Given as goal

abbrev pub invariant-star_arm-loop-arm : goal.invariant-star_arm-loop-arm
invariant-star_arm-loop-arm l =
    arm_in l.bodies (sorts_in l.place.sorts) (terms_for l.place.terms) l.place.depth (plain_dm_arms l.arms) l.con (map plain_term l.parts)
    ≡ arm_in l.bodies (sorts_in l.place.sorts) (terms_for l.place.terms) l.place.depth (plain_dm_arms (drop l.arm-index l.arms)) l.con (map plain_term l.parts)
