use Rattle.std.proofs.Common.{◌≡◌, take, map, filter}
use Rattle.fst_program.specs.FunctionFacts.{is_application}
use Rattle.fst_terms.specs.Flats.{parts_of_each}
use Rattle.fst_terms.specs.Same.{firsts}
use Rattle.fst_terms.specs.Terms.{plain_term}
use Rattle.fst_logicfun.proofs.applying.+parts.Given as goal

abbrev pub invariant-add_applications-loop-term : goal.invariant-add_applications-loop-term
invariant-add_applications-loop-term l = map plain_term l.met ≡ firsts (map plain_term l.initial.met) (filter is_application (parts_of_each (map plain_term (take l.term-index l.terms))))
