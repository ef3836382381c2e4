use Rattle.std.proofs.Common.{◌≡◌, false, take, map, flat_map}
use Rattle.fst_flats.specs.Preparing.{sorts_in}
use Rattle.fst_terms.specs.Naming.{named_in}
use Rattle.fst_terms.specs.Same.{firsts}
use Rattle.fst_terms.specs.Terms.{plain_term}
use Rattle.fst_flats.proofs.naming.name_formulas.Given as goal

abbrev pub invariant-loop-formula : goal.invariant-loop-formula
invariant-loop-formula l = map plain_term l.names ≡ firsts (map plain_term l.initial.names) (flat_map (named_in (sorts_in l.sorts) false) (map plain_term (take l.formula-index l.formulas)))
