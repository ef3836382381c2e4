use Rattle.std.proofs.Common.{◌≡◌, take, map}
use Rattle.fst_terms.specs.Naming.{renamed}
use Rattle.fst_flats.specs.Preparing.{sorts_in}
use Rattle.fst_terms.specs.Terms.{plain_term}
use Rattle.fst_flats.proofs.renaming.+rename.Given as goal

abbrev pub invariant-rename_all-loop-term : goal.invariant-rename_all-loop-term
invariant-rename_all-loop-term l = map plain_term l.made ≡ map (λ t. renamed (sorts_in l.sorts) (map plain_term l.names) l.are_arguments (plain_term t)) (take l.term-index l.terms)
