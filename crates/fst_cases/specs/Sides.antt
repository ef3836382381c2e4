-- Terms without lets; sides of equations.
use Rattle.std.specs.Prelude.{◌≡◌, Bool, false, List, [], ◌∷◌, ⊤}
use Rattle.fst_base.specs.Sorts.{Srt}
use Rattle.fst_terms.specs.Terms.{Tm, Tms, t_end, t_more}
use Rattle.fst_terms.specs.DataFacts.{is_int}
use Rattle.fst_terms.specs.Formulas.{sort_of}
use Rattle.fst_terms.specs.Indices.{lets}

-- none of the terms holds a let
abbrev pub NoLets : List Tm → Type 0
NoLets [] = ⊤
NoLets (t ∷ ts) = (lets t ≡ 0) × NoLets ts

-- the sides of an equation are numbers, by the first
abbrev pub are_ints : List Srt → Tms → Bool
are_ints Ss t_end = false
are_ints Ss (t_more t ts) = is_int (sort_of Ss t)
