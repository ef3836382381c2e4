use Rattle.std.proofs.Common.{◌≡◌, take, map, flat_map}
use Rattle.fst_flats.specs.Preparing.{sorts_in}
use Rattle.fst_flats.specs.Relations.{atoms_of_formula}
use Rattle.fst_terms.specs.Skeletons.{first_atoms}
use Rattle.fst_terms.specs.Terms.{plain_term}
use Rattle.fst_flats.proofs.formulas.+collect.Given as goal

abbrev pub invariant-collect_all-loop-term : goal.invariant-collect_all-loop-term
invariant-collect_all-loop-term l = map plain_term l.atoms ≡ first_atoms (map plain_term l.initial.atoms) (flat_map (atoms_of_formula (sorts_in l.sorts)) (map plain_term (take l.term-index l.terms)))
