use Rattle.std.proofs.Common.{◌≡◌, take, map}
use Rattle.fst_terms.specs.Naming.{named_among}
use Rattle.fst_flats.specs.Preparing.{sorts_in}
use Rattle.fst_terms.specs.Same.{firsts}
use Rattle.fst_terms.specs.Terms.{plain_term, plain_terms}
use Rattle.fst_flats.proofs.naming.+name.Given as goal

abbrev pub invariant-name_all-loop-term : goal.invariant-name_all-loop-term
invariant-name_all-loop-term l = map plain_term l.names ≡ firsts (map plain_term l.initial.names) (named_among (sorts_in l.sorts) l.are_arguments (plain_terms (take l.term-index l.terms)))
