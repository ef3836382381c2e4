-- Places that ascend, as those of the words of a text do.
use Rattle.std.specs.Prelude.{ℕ, ◌<◌, List, [], ◌∷◌, ⊤}

-- each of these is above the place
abbrev pub Above : (place : ℕ) → List ℕ → Type 0
Above p [] = ⊤
Above p (q ∷ qs) = (p < q) × Above p qs

-- each is below those behind it
abbrev pub Ascend : List ℕ → Type 0
Ascend [] = ⊤
Ascend (p ∷ ps) = Above p ps × Ascend ps
