-- Comparisons of values by their parts.
use Rattle.std.specs.Prelude.{◌≡◌, ◌<◌, ℕ, Bool, true, false, ◌&&◌, ⊤}
use Rattle.fst_base.specs.Values.{Val, same}
use Rattle.fst_cells.specs.declared.compare.Compared.{Compared}
use Rattle.fst_cells.specs.declared.compare.Compared.TheVariants as compared
use Rattle.fst_cells.specs.declared.store.Store.{Store}
use Rattle.fst_cells.specs.Trees.{IsCell}

-- what is left tells whether two values are the same
abbrev pub ComparedIs : Store → Compared → Bool → Type 0
ComparedIs m compared.Same t = t ≡ true
ComparedIs m compared.Other t = t ≡ false
ComparedIs m (compared.Parts c d) t = (v w : Val) × (IsCell m c v × IsCell m d w × (t ≡ same v w))
ComparedIs m (compared.TwoParts c d e f) t = (v w x y : Val) × (IsCell m c v × IsCell m d w × IsCell m e x × IsCell m f y × (t ≡ same v w && same x y))

-- the parts of the first value stand before this place
abbrev pub ComparedBelow : (at : ℕ) → Compared → Type 0
ComparedBelow at (compared.Parts c d) = c.at < at
ComparedBelow at (compared.TwoParts c d e f) = (c.at < at) × (e.at < at)
ComparedBelow at _ = ⊤
