use Rattle.std.proofs.Common.{◌≡◌, take, map}
use Rattle.fst_terms.specs.Terms.{plain_term}
use Rattle.fst_cases.specs.Making.{role_by}
use Rattle.fst_cases.proofs.making.roles_of.Given as goal

abbrev pub invariant-loop-atom : goal.invariant-loop-atom
invariant-loop-atom l = l.roles ≡ map (role_by (map plain_term l.terms)) (map plain_term (take l.atom-index l.atoms))
