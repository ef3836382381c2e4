-- The arguments of a primitive, one by one.
use Rattle.std.proofs.Common.{◌≡◌, List, [], ◌∷◌, ◌++◌, Option, Some, None, refl}
use Rattle.fst_base.specs.Values.{Val}
use Rattle.fst_base.specs.Primitives.{first, second}
use Rattle.fst_cells.specs.declared.cell.Cell.{Cell}
use Rattle.fst_cells.specs.declared.store.Store.{Store}
use Rattle.fst_cells.specs.Trees.{Keeps, IsCell, IsGiven}
use Rattle.fst_cells.specs.Made.{Filled}
use Rattle.fst_cells.proofs.TreeLemmas.{value-kept}

pub filled-are : (m : Store) (f s : Option Cell) (vs : List Val) → Filled m f s vs → IsGiven m f (first vs) × IsGiven m s (second vs)
filled-are m None None [] h = (refl, refl)
filled-are m (Some c) None (v ∷ []) h = (h, refl)
filled-are m (Some c) (Some d) (v ∷ w ∷ vs) h = h
filled-are m f s vs h = absurd h

pub filled-kept : (m m' : Store) (f s : Option Cell) (vs : List Val) → Keeps m m' → Filled m f s vs → Filled m' f s vs
filled-kept m m' None None [] n h = tt
filled-kept m m' (Some c) None (v ∷ []) n h = value-kept m m' c v n h
filled-kept m m' (Some c) (Some d) (v ∷ w ∷ vs) n h = (value-kept m m' c v n h.0, value-kept m m' d w n h.1)
filled-kept m m' f s vs n h = absurd h

pub filled-first : (m : Store) (f s : Option Cell) (c : Cell) (v : Val) (vs : List Val) → f ≡ None → Filled m f s vs → IsCell m c v → Filled m (Some c) None (vs ++ v ∷ [])
filled-first m None None c v [] q h k = k
filled-first m (Some d) s c v vs q h k = cc
filled-first m f s c v vs q h k = absurd h

pub filled-second : (m : Store) (f s : Option Cell) (c : Cell) (v : Val) (vs : List Val) → (f ≡ None → ⊥) → s ≡ None → Filled m f s vs → IsCell m c v → Filled m f (Some c) (vs ++ v ∷ [])
filled-second m None s c v vs n q h k = absurd (n refl)
filled-second m (Some d) None c v (w ∷ []) n q h k = (h, k)
filled-second m (Some d) (Some e) c v vs n q h k = cc
filled-second m f s c v vs n q h k = absurd h

pub filled-more : (m : Store) (f s : Option Cell) (c : Cell) (v : Val) (vs : List Val) → (s ≡ None → ⊥) → Filled m f s vs → Filled m f s (vs ++ v ∷ [])
filled-more m f None c v vs n h = absurd (n refl)
filled-more m (Some d) (Some e) c v (w ∷ x ∷ ws) n h = h
filled-more m f s c v vs n h = absurd h
