-- The rules on lifts, and the lattice of effects that lifts make.
use Rattle.std.specs.Prelude.{◌≡◌, ◌⊎◌, ℕ, ◌<◌, List, [], ◌∷◌, ◌++◌, length, Option, Some, None, slice_get, ⊤}
use Rattle.fst_base.specs.declared.place.Pos.{Pos}
use Rattle.fst_base.specs.declared.rule.Rule.{Rule}
use Rattle.fst_base.specs.declared.rule.Rule.TheVariants as rule
use Rattle.fst_program.specs.declared.effect.Effect.{Effect}
use Rattle.fst_program.specs.declared.effect.Effect.TheVariants as effect
use Rattle.fst_program.specs.Texts.{EffDef, LftDef, if_there}
use Rattle.fst_program.specs.LiftPaths.{IsPath, HasOnePath, path}

-- ---- rules

-- the effect of this number has this base
abbrev pub HasBase : List EffDef → (E : ℕ) → Effect → Type 0
HasBase Es E base = if_there (slice_get Es E) (λ d. d.base ≡ base) ⊥

-- a lift goes from base DIV to base PURE
abbrev pub Lowers : List EffDef → LftDef → Type 0
Lowers Es l = HasBase Es l.from effect.Div × HasBase Es l.«to» effect.Pure

-- Behind these lifts one more makes a second path: some effect leads to where it begins, where it ends leads to some effect, and the
-- first leads to the second already. The empty path counts.
pub record SecondPath (before : List LftDef) (l : LftDef) : Type 0 where
  pub lower : ℕ
  pub upper : ℕ
  pub to_lift : List ℕ
  pub from_lift : List ℕ
  pub already : List ℕ
  pub begins : IsPath before lower to_lift l.from
  pub ends : IsPath before l.«to» from_lift upper
  pub there : IsPath before lower already upper

-- a lift behind these breaks no rule
pub record Keeps (Es : List EffDef) (before : List LftDef) (l : LftDef) : Type 0 where
  pub base : Lowers Es l → ⊥
  pub one_path : SecondPath before l → ⊥

-- each in turn
abbrev pub KeepFrom : List EffDef → (before : List LftDef) → List LftDef → Type 0
KeepFrom Es before [] = ⊤
KeepFrom Es before (l ∷ ls) = Keeps Es before l × KeepFrom Es (before ++ l ∷ []) ls

abbrev pub KeepRules : List EffDef → List LftDef → Type 0
KeepRules Es ls = KeepFrom Es [] ls

-- of the two rules on one lift the first is that on bases
abbrev pub Breaks : List EffDef → (before : List LftDef) → LftDef → Rule → Type 0
Breaks Es before l broken = ((broken ≡ rule.NoLift) × Lowers Es l) ⊎ ((broken ≡ rule.TwoPaths) × (Lowers Es l → ⊥) × SecondPath before l)

-- the first lift that breaks a rule breaks this one, at its place
pub record IsRefused (Es : List EffDef) (ls : List LftDef) (places : List Pos) (broken : Rule) (at : Pos) : Type 0 where
  pub before : List LftDef
  pub lift : LftDef
  pub after : List LftDef
  pub lifts : ls ≡ before ++ lift ∷ after
  pub kept : KeepRules Es before
  pub place : slice_get places (length before) ≡ Some at
  pub breaks : Breaks Es before lift broken

-- ---- lattices

-- a lift's effects are among the first n
abbrev pub IsWithin : (n : ℕ) → LftDef → Type 0
IsWithin n l = (l.from < n) × (l.«to» < n)

abbrev pub AreWithin : (n : ℕ) → List LftDef → Type 0
AreWithin n [] = ⊤
AreWithin n (l ∷ ls) = IsWithin n l × AreWithin n ls

-- the first lift of a path
abbrev pub first_of : Option (List ℕ) → Option ℕ
first_of (Some (n ∷ ns)) = Some n
first_of _ = None

-- The lifts break no rule, so there is one path at most; and the steps are the first lifts of the paths: none exactly where two effects
-- are equal or no path leads from one to the other.
pub record IsLattice (Es : List EffDef) (ls : List LftDef) (step : ℕ → ℕ → Option ℕ) : Type 0 where
  pub keep : KeepRules Es ls
  pub one_path : HasOnePath ls
  pub first : (D E : ℕ) → D < length Es → E < length Es → step D E ≡ first_of (path ls D E)
  pub some : (D E n : ℕ) → D < length Es → E < length Es → step D E ≡ Some n → (ns : List ℕ) × IsPath ls D (n ∷ ns) E
  pub none : (D E : ℕ) → D < length Es → E < length Es → step D E ≡ None → (ns : List ℕ) → IsPath ls D ns E → ns ≡ []
