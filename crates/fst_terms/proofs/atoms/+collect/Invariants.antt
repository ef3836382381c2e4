use Rattle.std.proofs.Common.{◌≡◌, take, map}
use Rattle.fst_terms.specs.Flats.{all_atoms_in, sorts_of_vars}
use Rattle.fst_terms.specs.Meaning.{plain_var}
use Rattle.fst_terms.specs.Same.{firsts}
use Rattle.fst_terms.specs.Terms.{plain_term}
use Rattle.fst_terms.proofs.atoms.+collect.Given as goal

abbrev pub invariant-collect_all-loop-term : goal.invariant-collect_all-loop-term
invariant-collect_all-loop-term l = map plain_term l.atoms ≡ firsts (map plain_term l.initial.atoms) (all_atoms_in (sorts_of_vars (map plain_var l.vars)) (map plain_term (take l.term-index l.terms)))
