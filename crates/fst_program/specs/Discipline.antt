-- What a program obeys besides its sorts: valid goals make good functions, and erasure keeps outcomes, where it does.
use Rattle.std.specs.Prelude.{◌≡◌, ◌⊎◌, ◌<◌, ◌≤◌, ℕ, length, map, reverse, Some, slice_get, ⊤}
use Rattle.fst_program.specs.declared.effect.Effect.{Effect}
use Rattle.fst_program.specs.declared.effect.Effect.TheVariants as effect
use Rattle.fst_program.specs.Erasure.{Scope}
use Rattle.fst_program.specs.Texts.{EffDef, LftDef, Fn, Prog, if_there, fun_at, effect_at, is_ghost}
use Rattle.fst_program.specs.Full.{IsFull}
use Rattle.fst_program.specs.LiftPaths.{HasOnePath}
use Rattle.fst_program.specs.Places.{base_place, CmPlaced}
use Rattle.fst_program.specs.Groups.{GivenEarlier, EachEarlier, RefinesEarlier, CmGrouped}

-- a user effect is one of the program
abbrev pub EffectThere : Prog → Effect → Type 0
EffectThere P (effect.User E) = if_there (effect_at P E) (λ d. ⊤) ⊥
EffectThere P _ = ⊤

-- which variables of a function's body are ghost ones
abbrev pub body_scope : Fn → Scope
body_scope f = reverse (map (λ p. p.hidden) f.params)

-- A function's effect is there; each part of its body stands where its effect may, ghost ones in ghost parts; its clauses apply PURE and
-- GHOST functions of earlier groups, and its body calls functions of groups up to its own, with measures where it has to end.
pub record FunDisciplined (P : Prog) (f : Fn) : Type 0 where
  pub effect_there : EffectThere P f.effect
  pub places : CmPlaced P (is_ghost f.effect) (body_scope f) f.effect f.body
  pub refines : RefinesEarlier P f.group f.params
  pub needs : GivenEarlier P f.group f.needs
  pub gives : GivenEarlier P f.group f.gives
  pub measures : EachEarlier P f.group f.measures
  pub calls : CmGrouped P f f.body

-- headers have their names: a return those of the value and the input, a bind those of two computations and the input, a lift those of
-- a computation and the input
pub record HasHeaders (P : Prog) : Type 0 where
  pub returns : (E : ℕ) (d : EffDef) → effect_at P E ≡ Some d → length d.ret_names ≡ 2
  pub binds : (E : ℕ) (d : EffDef) → effect_at P E ≡ Some d → length d.bind_names ≡ 3
  pub lifts : (n : ℕ) (l : LftDef) → slice_get P.lifts n ≡ Some l → length l.names ≡ 2

-- each match has an arm, and headers have their names; a base is PURE or DIV; no lift goes from base DIV to base PURE, and there is at
-- most one path of lifts between two effects; a group's number is at most that of its functions, and functions of a smaller group stand
-- before it; every function obeys the discipline
pub record IsDisciplined (P : Prog) : Type 0 where
  pub full : IsFull P
  pub headers : HasHeaders P
  pub bases : (E : ℕ) (d : EffDef) → effect_at P E ≡ Some d → (d.base ≡ effect.Pure) ⊎ (d.base ≡ effect.Div)
  pub lifts : (n : ℕ) (l : LftDef) → slice_get P.lifts n ≡ Some l → base_place P (effect.User l.from) ≡ effect.Div → base_place P (effect.User l.«to») ≡ effect.Div
  pub paths : HasOnePath P.lifts
  pub groups : (k : ℕ) (f : Fn) → fun_at P k ≡ Some f → f.group ≤ k
  pub order : (j k : ℕ) (f g : Fn) → fun_at P j ≡ Some f → fun_at P k ≡ Some g → f.group < g.group → j < g.group
  pub funs : (k : ℕ) (f : Fn) → fun_at P k ≡ Some f → FunDisciplined P f
