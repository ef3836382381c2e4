-- Lists in cells.
use Rattle.std.specs.Prelude.{◌≡◌, List, [], ◌∷◌, Option, Some, None, ⊤}
use Rattle.fst_base.specs.Values.{Val, v_cons}
use Rattle.fst_cells.specs.declared.cell.Cell.{Cell}
use Rattle.fst_cells.specs.declared.store.Store.{Store}
use Rattle.fst_cells.specs.Trees.{IsCell}

-- the first item of a list and the rest
abbrev pub ItemIs : Store → Option (Cell × Cell) → Val → Type 0
ItemIs m (Some p) v = (a b : Val) × ((v ≡ v_cons a b) × IsCell m p.0 a × IsCell m p.1 b)
ItemIs m None v = ⊤

-- a list of these values that goes on with another one
abbrev pub onto : List Val → Val → Val
onto [] w = w
onto (v ∷ vs) w = v_cons v (onto vs w)
