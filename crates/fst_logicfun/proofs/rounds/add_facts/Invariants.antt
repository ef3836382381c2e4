use Rattle.std.proofs.Common.{◌≡◌, ◌++◌, take, map, flat_map}
use Rattle.fst_logicfun.specs.Rounds.{each_of}
use Rattle.fst_program.specs.Plain.{plain_program}
use Rattle.fst_terms.specs.Cleared.{cleared}
use Rattle.fst_terms.specs.Formulas.{vars_from}
use Rattle.fst_terms.specs.Terms.{plain_term}
use Rattle.fst_logicfun.proofs.rounds.add_facts.Given as goal

abbrev pub invariant-loop-term : goal.invariant-loop-term
invariant-loop-term l = map plain_term l.facts ≡ map plain_term l.initial.facts ++ map (cleared (vars_from 0 l.n)) (flat_map (each_of (plain_program l.program) l.which) (map plain_term (take l.term-index l.terms)))
