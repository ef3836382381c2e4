-- Which parts of a text may stand at which places: the effect of each part, and ghost variables in ghost parts alone.
use Rattle.std.specs.Prelude.{◌≡◌, ◌⊎◌, ℕ, Bool, true, false, List, ◌∷◌, ◌++◌, get_or, map, slice_get, ⊤}
use Rattle.fst_terms.specs.Terms.{Tm, Tms, t_var, t_int, t_bool, t_unit, t_prim, t_if, t_app, t_let, t_end, t_more}
use Rattle.fst_program.specs.declared.effect.Effect.{Effect}
use Rattle.fst_program.specs.declared.effect.Effect.TheVariants as effect
use Rattle.fst_program.specs.Erasure.{Scope}
use Rattle.fst_program.specs.Texts.{Cm, CmArms, c_ret, c_let, c_bind, c_ghost, c_assert, c_if, c_match, c_call, c_reify, c_reflect, c_return, c_lift, c_end, c_arm, Prm, Prog, if_there, fun_at, effect_at}

-- ---- ghost variables

-- whether the variable is a ghost one; past the scope's end none is
abbrev pub is_hidden : Scope → ℕ → Bool
is_hidden scope i = get_or scope i false

-- no ghost variable stands in the term
abbrev mutual
  pub TmShown : Scope → Tm → Type 0
  TmShown scope (t_var i) = is_hidden scope i ≡ false
  TmShown scope (t_int n) = ⊤
  TmShown scope (t_bool b) = ⊤
  TmShown scope t_unit = ⊤
  TmShown scope (t_prim op S ts at) = TmsShown scope ts
  TmShown scope (t_if c t u) = TmShown scope c × TmShown scope t × TmShown scope u
  TmShown scope (t_app k S ts) = TmsShown scope ts
  TmShown scope (t_let x t u) = TmShown scope t × TmShown (false ∷ scope) u

  pub TmsShown : Scope → Tms → Type 0
  TmsShown scope t_end = ⊤
  TmsShown scope (t_more t ts) = TmShown scope t × TmsShown scope ts

-- a term that is run: in a ghost part any, elsewhere one without ghost variables
abbrev pub MayRun : (ghost : Bool) → Scope → Tm → Type 0
MayRun true scope t = ⊤
MayRun false scope t = TmShown scope t

-- the arguments of a call; those of ghost parameters are ghost parts
abbrev pub ArgsPlaced : (ghost : Bool) → Scope → List Prm → Tms → Type 0
ArgsPlaced gh scope (p ∷ ps) (t_more t ts) = ((p.hidden ≡ true) ⊎ MayRun gh scope t) × ArgsPlaced gh scope ps ts
ArgsPlaced gh scope _ _ = ⊤

-- ---- effects

-- a part of the first effect stands at a place of the second: PURE parts where no user effect is wanted, others at their own
abbrev pub StandsAt : (part place : Effect) → Type 0
StandsAt effect.Pure effect.Pure = ⊤
StandsAt effect.Pure effect.Ghost = ⊤
StandsAt effect.Pure effect.Div = ⊤
StandsAt effect.Ghost effect.Ghost = ⊤
StandsAt effect.Div effect.Div = ⊤
StandsAt (effect.User D) (effect.User E) = D ≡ E
StandsAt _ _ = ⊥

module _ (P : Prog) where
  -- the place of what a plain let binds, and of what a return gives the value of: at a user effect that of the effect's base
  abbrev pub base_place : Effect → Effect
  base_place (effect.User E) = if_there (effect_at P E) (λ d. d.base) effect.Div
  base_place x = x

  -- Each part of the text stands where its effect may, and ghost variables stand in ghost parts alone. x is the effect of the place, and
  -- gh tells that the text is a ghost part itself: there ghost variables and GHOST calls may stand anywhere.
  abbrev mutual
    pub CmPlaced : (gh : Bool) → Scope → (x : Effect) → Cm → Type 0
    CmPlaced gh scope x (c_ret t) = MayRun gh scope t
    CmPlaced gh scope x (c_let y c1 c2) = CmPlaced gh scope (base_place x) c1 × CmPlaced gh (false ∷ scope) x c2
    CmPlaced gh scope x (c_bind E y c1 c2) = CmPlaced gh scope x c1 × CmPlaced gh (false ∷ scope) x c2
    CmPlaced gh scope x (c_ghost y c1 c2) = CmPlaced true scope effect.Ghost c1 × CmPlaced gh (true ∷ scope) x c2
    CmPlaced gh scope x (c_assert phi at c) = CmPlaced gh scope x c
    CmPlaced gh scope x (c_if t c1 c2) = MayRun gh scope t × CmPlaced gh scope x c1 × CmPlaced gh scope x c2
    CmPlaced gh scope x (c_match t at arms) = MayRun gh scope t × ArmsPlaced gh scope x arms
    CmPlaced gh scope x (c_call j ts at) = if_there (fun_at P j) (λ f. StandsAt f.effect x × ArgsPlaced gh scope f.params ts) ⊥
    CmPlaced gh scope x (c_reify E S c t) = StandsAt (base_place (effect.User E)) x × MayRun gh scope t × CmPlaced gh scope (effect.User E) c
    CmPlaced gh scope x (c_reflect E S y c) = CmPlaced gh (false ∷ scope) (base_place (effect.User E)) c
    CmPlaced gh scope x (c_return E c) = CmPlaced gh scope (base_place x) c
    CmPlaced gh scope x (c_lift n c) = if_there (slice_get P.lifts n) (λ l. CmPlaced gh scope (effect.User l.from) c) ⊥

    pub ArmsPlaced : (gh : Bool) → Scope → (x : Effect) → CmArms → Type 0
    ArmsPlaced gh scope x c_end = ⊤
    ArmsPlaced gh scope x (c_arm k ys c more) = CmPlaced gh (map (λ y. false) ys ++ scope) x c × ArmsPlaced gh scope x more
