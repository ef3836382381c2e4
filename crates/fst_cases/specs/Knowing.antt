-- The marks that a refutation uses, by falling atoms.
use Rattle.std.specs.Prelude.{◌≡◌, ℕ, ◌<◌, if◌then◌else◌, nat_eq, nat_lt, List, [], ◌∷◌, Option, Some, None, ⊤}
use Rattle.fst_terms.specs.declared.flat.Mark.{Mark}
use Rattle.fst_terms.specs.declared.flat.Mark.TheVariants as mark
use Rattle.fst_terms.specs.Marks.{Marking}
use Rattle.fst_cases.specs.declared.known.Known.{Known}
use Rattle.fst_cases.specs.declared.merging.Turn.{Turn}
use Rattle.fst_cases.specs.declared.merging.Turn.TheVariants as turn

-- the marking that has these marks
abbrev pub look_of : List Known → Marking
look_of [] a = None
look_of (k ∷ ks) a = if nat_eq k.atom a then Some k.mark else look_of ks a

-- the atoms fall, and the first is below n
abbrev pub Falls : ℕ → List Known → Type 0
Falls n [] = ⊤
Falls n (k ∷ ks) = (k.atom < n) × Falls k.atom ks

-- ---- two lists

-- of two marks of one atom, the one that says more
abbrev pub stronger : Mark → Mark → Mark
stronger mark.False n = n
stronger m _ = m

abbrev pub both_known : Known → Known → Known
both_known k j = record { atom = k.atom; mark = stronger k.mark j.mark }

-- the mark k and what comes after it, beside a second list
abbrev pub beside : Known → (List Known → List Known) → List Known → List Known
beside k rest [] = k ∷ rest []
beside k rest (j ∷ js) =
    if nat_lt j.atom k.atom then k ∷ rest (j ∷ js) else
    (if nat_lt k.atom j.atom then j ∷ beside k rest js else both_known k j ∷ rest js)

-- the marks of two falling lists, the stronger where both have one
abbrev pub joined : List Known → List Known → List Known
joined [] js = js
joined (k ∷ ks) js = beside k (joined ks) js

-- which of two next marks comes first
abbrev pub turn_of : Known → Known → Turn
turn_of k j = if nat_lt j.atom k.atom then turn.First k else (if nat_lt k.atom j.atom then turn.Second j else turn.Both (both_known k j))

-- what comes next of two lists, and the lists after it
abbrev pub Shows : Turn → List Known → List Known → Type 0
Shows (turn.First k) ks js = (rest : List Known) × (ks ≡ k ∷ rest) × (joined ks js ≡ k ∷ joined rest js)
Shows (turn.Second j) ks js = (rest : List Known) × (js ≡ j ∷ rest) × (joined ks js ≡ j ∷ joined ks rest)
Shows (turn.Both k) ks js = (left : List Known) × ((right : List Known) × (i : Known) × (j : Known) × (ks ≡ i ∷ left) × (js ≡ j ∷ right) × (joined ks js ≡ k ∷ joined left right))
Shows turn.End ks js = (ks ≡ []) × (js ≡ [])

-- ---- the first atom

-- the mark of this atom, where it comes first
abbrev pub first_mark : List Known → ℕ → Option Mark
first_mark [] a = None
first_mark (k ∷ ks) a = if nat_eq k.atom a then Some k.mark else None

-- the marks but that of this atom, where it comes first
abbrev pub without : List Known → ℕ → List Known
without [] a = []
without (k ∷ ks) a = if nat_eq k.atom a then ks else k ∷ ks
