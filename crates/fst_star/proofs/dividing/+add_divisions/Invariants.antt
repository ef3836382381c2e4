use Rattle.std.proofs.Common.{◌≡◌, ◌++◌, map, take}
use Rattle.fst_program.specs.Paths.{all_divisions}
use Rattle.fst_star.specs.Divided.{plain_division}
use Rattle.fst_terms.specs.Terms.{plain_term, plain_terms}
use Rattle.fst_star.proofs.dividing.+add_divisions.Given as goal

abbrev pub invariant-add_all-loop-term : goal.invariant-add_all-loop-term
invariant-add_all-loop-term l = map plain_division l.found ≡ map plain_division l.initial.found ++ all_divisions (map plain_term l.conditions) (plain_terms (take l.term-index l.terms))
