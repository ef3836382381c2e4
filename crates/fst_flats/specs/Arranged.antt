-- The arrangements of two terms.
use Rattle.std.specs.Prelude.{if◌then◌else◌, List, []}
use Rattle.fst_base.specs.Sorts.{Srt}
use Rattle.fst_terms.specs.Terms.{Tm}
use Rattle.fst_terms.specs.DataFacts.{arguments, positions, same_head}

-- those of the arguments of two terms of one head
abbrev pub arranged_pair : (Ss : List Srt) → Tm → Tm → List Tm
arranged_pair Ss t u = if same_head t u then positions Ss (arguments t) (arguments u) else []
