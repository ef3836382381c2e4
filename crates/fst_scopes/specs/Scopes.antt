-- Scopes as code lists them: the last variable's last.
use Rattle.std.specs.Prelude.{List, map, reverse}
use Rattle.fst_base.specs.Sorts.{Srt, plain_sort}
use Rattle.fst_base.specs.declared.sort.Sort.{Sort}
use Rattle.fst_terms.specs.declared.term.Term.{Term}
use Rattle.fst_terms.specs.Terms.{Tm, plain_term}

-- terms for variables, the last variable's first
abbrev pub terms_for : List Term → List Tm
terms_for us = reverse (map plain_term us)

-- the sorts of variables, the last variable's first
abbrev pub sorts_in : List Sort → List Srt
sorts_in Ss = reverse (map plain_sort Ss)
