-- Paths of lifts between effects, and that there is at most one from one effect to another.
use Rattle.std.specs.Prelude.{◌≡◌, ℕ, suc, nat_eq, List, [], ◌∷◌, ◌++◌, Option, Some, None, slice_get, if◌then◌else◌}
use Rattle.fst_program.specs.Texts.{LftDef, if_there}

-- the numbers of lifts, each from where the one before leads to: from effect D to effect E
abbrev pub IsPath : List LftDef → (D : ℕ) → List ℕ → (E : ℕ) → Type 0
IsPath ls D [] E = D ≡ E
IsPath ls D (n ∷ ns) E = if_there (slice_get ls n) (λ l. (l.from ≡ D) × IsPath ls l.«to» ns E) ⊥

-- there is at most one path from one effect to another, the empty one counted
abbrev pub HasOnePath : List LftDef → Type 0
HasOnePath ls = (D E : ℕ) (ns ms : List ℕ) → IsPath ls D ns E → IsPath ls D ms E → ns ≡ ms

-- ---- the same as a table of paths, to which the lifts are added one after the other

-- the path from effect D to effect E, where there is one
abbrev pub Table : Type 0
Table = (D E : ℕ) → Option (List ℕ)

-- the paths of no lifts
abbrev pub no_lifts : Table
no_lifts D E = if nat_eq D E then Some [] else None

-- the first, where it is there, else the second
abbrev pub or_else : {A : Type 0} → Option A → Option A → Option A
or_else (Some a) o = Some a
or_else None o = o

-- a path up to lift n, that lift, and a path from there on
abbrev pub through : (n : ℕ) → Option (List ℕ) → Option (List ℕ) → Option (List ℕ)
through n (Some ns) (Some ms) = Some (ns ++ n ∷ ms)
through n _ _ = None

-- with lift n added: what it makes reachable goes through it once
abbrev pub with_lift : Table → (n : ℕ) → LftDef → Table
with_lift t n l D E = or_else (t D E) (through n (t D l.from) (t l.«to» E))

abbrev pub with_lifts : Table → (n : ℕ) → List LftDef → Table
with_lifts t n [] = t
with_lifts t n (l ∷ ls) = with_lifts (with_lift t n l) (suc n) ls

-- the table of these lifts
abbrev pub path : List LftDef → Table
path = with_lifts no_lifts 0
