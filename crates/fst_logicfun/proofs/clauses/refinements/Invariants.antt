use Rattle.std.proofs.Common.{◌≡◌, ◌++◌, [], map}
use Rattle.fst_program.specs.Paths.{refinements}
use Rattle.fst_program.specs.Plain.{plain_param}
use Rattle.fst_terms.specs.Terms.{plain_term}
use Rattle.fst_logicfun.proofs.ClauseLemmas.{refined_from}
use Rattle.fst_logicfun.proofs.clauses.refinements.Given as goal

abbrev pub invariant-loop-at : goal.invariant-loop-at
invariant-loop-at l = map plain_term l.made ++ refined_from l.params l.args l.at ≡ refinements (map plain_param l.params) (map plain_term l.args) []
