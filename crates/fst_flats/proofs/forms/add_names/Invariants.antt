use Rattle.std.proofs.Common.{◌≡◌, ◌++◌, take, map}
use Rattle.fst_flats.specs.Preparing.{sorts_in}
use Rattle.fst_terms.specs.Meaning.{plain_var}
use Rattle.fst_terms.specs.Naming.{name_var}
use Rattle.fst_terms.specs.Terms.{plain_term}
use Rattle.fst_flats.proofs.forms.add_names.Given as goal

abbrev pub invariant-loop-term : goal.invariant-loop-term
invariant-loop-term l = map plain_var l.vars ≡ map plain_var l.initial.vars ++ map (name_var (sorts_in l.sorts)) (map plain_term (take l.term-index l.names))
