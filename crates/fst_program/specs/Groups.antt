-- Formulas and calls in the order of groups: a formula names functions of earlier groups, a call those of groups up to its own.
use Rattle.std.specs.Prelude.{◌≡◌, ◌≢◌, ◌⊎◌, ◌<◌, ◌≤◌, ℕ, true, List, [], ◌∷◌, length, Option, Some, None, ⊤}
use Rattle.fst_terms.specs.Terms.{Tm, Tms, t_var, t_int, t_bool, t_unit, t_prim, t_if, t_app, t_let, t_end, t_more}
use Rattle.fst_program.specs.declared.effect.Effect.TheVariants as effect
use Rattle.fst_program.specs.Texts.{Cm, CmArms, c_ret, c_let, c_bind, c_ghost, c_assert, c_if, c_match, c_call, c_reify, c_reflect, c_return, c_lift, c_end, c_arm, Prm, Fn, Prog, if_there, fun_at, is_total}

module _ (P : Prog) where
  -- the formula applies PURE and GHOST functions of groups before this one alone
  abbrev mutual
    pub TmEarlier : (group : ℕ) → Tm → Type 0
    TmEarlier g (t_var i) = ⊤
    TmEarlier g (t_int n) = ⊤
    TmEarlier g (t_bool b) = ⊤
    TmEarlier g t_unit = ⊤
    TmEarlier g (t_prim op S ts at) = TmsEarlier g ts
    TmEarlier g (t_if c t u) = TmEarlier g c × TmEarlier g t × TmEarlier g u
    TmEarlier g (t_app k S ts) = if_there (fun_at P k) (λ f. (f.group < g) × ((f.effect ≡ effect.Pure) ⊎ (f.effect ≡ effect.Ghost))) ⊥ × TmsEarlier g ts
    TmEarlier g (t_let x t u) = TmEarlier g t × TmEarlier g u

    pub TmsEarlier : (group : ℕ) → Tms → Type 0
    TmsEarlier g t_end = ⊤
    TmsEarlier g (t_more t ts) = TmEarlier g t × TmsEarlier g ts

  abbrev pub GivenEarlier : (group : ℕ) → Option Tm → Type 0
  GivenEarlier g None = ⊤
  GivenEarlier g (Some phi) = TmEarlier g phi

  abbrev pub EachEarlier : (group : ℕ) → List Tm → Type 0
  EachEarlier g [] = ⊤
  EachEarlier g (t ∷ ts) = TmEarlier g t × EachEarlier g ts

  abbrev pub RefinesEarlier : (group : ℕ) → List Prm → Type 0
  RefinesEarlier g [] = ⊤
  RefinesEarlier g (p ∷ ps) = GivenEarlier g p.refine × RefinesEarlier g ps

  -- f calls g: g's group is f's or an earlier one; where f has to end and g is of its own group, both have measures, as many
  abbrev pub MayCall : Fn → Fn → Type 0
  MayCall f g = (g.group ≤ f.group) × (is_total P f.effect ≡ true → g.group ≡ f.group → (length f.measures ≢ 0) × (length g.measures ≡ length f.measures))

  -- the text of f calls what f may call, and its assertions name functions of earlier groups
  abbrev mutual
    pub CmGrouped : Fn → Cm → Type 0
    CmGrouped f (c_ret t) = ⊤
    CmGrouped f (c_let y c1 c2) = CmGrouped f c1 × CmGrouped f c2
    CmGrouped f (c_bind E y c1 c2) = CmGrouped f c1 × CmGrouped f c2
    CmGrouped f (c_ghost y c1 c2) = CmGrouped f c1 × CmGrouped f c2
    CmGrouped f (c_assert phi at c) = TmEarlier f.group phi × CmGrouped f c
    CmGrouped f (c_if t c1 c2) = CmGrouped f c1 × CmGrouped f c2
    CmGrouped f (c_match t at arms) = ArmsGrouped f arms
    CmGrouped f (c_call j ts at) = if_there (fun_at P j) (λ g. MayCall f g) ⊥
    CmGrouped f (c_reify E S c t) = CmGrouped f c
    CmGrouped f (c_reflect E S y c) = CmGrouped f c
    CmGrouped f (c_return E c) = CmGrouped f c
    CmGrouped f (c_lift n c) = CmGrouped f c

    pub ArmsGrouped : Fn → CmArms → Type 0
    ArmsGrouped f c_end = ⊤
    ArmsGrouped f (c_arm k ys c more) = CmGrouped f c × ArmsGrouped f more
