-- Trees whose names are resolved: each index is one of a variable in scope, each use of a function or an effect is one of a known one with
-- as many arguments; and their shape is the grammar's.
use Rattle.std.specs.Prelude.{◌≡◌, ℕ, suc, ◌+◌, ◌<◌, Bool, true, false, List, [], ◌∷◌, length, Option, Some, None, ⊤}
use Rattle.fst_base.specs.Rows.{row_args, is_inner}
use Rattle.fst_program.specs.declared.effect.Effect.{Effect}
use Rattle.fst_program.specs.declared.effect.Effect.TheVariants as effect
use Rattle.fst_program.specs.Texts.{if_there}
use Rattle.fst_names.specs.declared.reference.Ref.{Ref}
use Rattle.fst_names.specs.Names.{count_forms}
use Rattle.fst_names.specs.Trees.{WForm, WForms, f_ident, f_int, f_bool, f_unit, f_prim, f_if, f_app, f_let, f_end, f_more, WText, WPart, WArms, x_let, x_assert, x_if, x_match, x_part, p_block, p_call, p_reify, p_reflect, p_term, x_end, x_arm}
use Rattle.std.specs.Prelude.{slice_get, map}
use Rattle.fst_names.specs.Trees.{WParam, WFun, WEffect, WLift, WDecl}
use Rattle.fst_effects.specs.Known.{Known, Callee, Ctx, EffectSorts}
use Rattle.fst_effects.specs.Definitions.{effect_sorts, effects_of, lifts_of, effect_at, known_in_return, known_in_bind, known_in_lift, return_scope, input_scope}
use Rattle.fst_sorting.specs.Functions.{Placed, funs_of, known_in, effect_of, param_entry, scope_of, clause_scope, result_scope}
use Rattle.fst_sorting.specs.Written.{binds, has_arm}

-- something known takes this many arguments
abbrev pub Takes : Option Callee → (count : ℕ) → Type 0
Takes c n = if_there c (λ f. n ≡ length f.args) ⊥

module _ (K : Known) where
  -- n variables are in scope; formula tells that applications and lets may stand there
  abbrev mutual
    pub FormScoped : (formula : Bool) → (n : ℕ) → WForm Ref → Type 0
    FormScoped l n (f_ident at r) = r.index < n
    FormScoped l n (f_int at m) = ⊤
    FormScoped l n (f_bool at b) = ⊤
    FormScoped l n (f_unit at) = ⊤
    FormScoped l n (f_prim at o fs) = (is_inner o ≡ false) × (count_forms fs ≡ length (row_args o)) × FormsScoped l n fs
    FormScoped l n (f_if at c f g) = FormScoped l n c × FormScoped l n f × FormScoped l n g
    FormScoped l n (f_app at r fs) = (l ≡ true) × Takes (K.applied r) (count_forms fs) × FormsScoped l n fs
    FormScoped l n (f_let at x f g) = (l ≡ true) × FormScoped l n f × FormScoped l (suc n) g

    pub FormsScoped : (formula : Bool) → (n : ℕ) → WForms Ref → Type 0
    FormsScoped l n f_end = ⊤
    FormsScoped l n (f_more f fs) = FormScoped l n f × FormsScoped l n fs

  -- body tells that the text is a function's, and no definition's
  abbrev mutual
    pub TextScoped : (body : Bool) → (n : ℕ) → WText Ref → Type 0
    TextScoped b n (x_let true y s p c) = (b ≡ true) × PartScoped b n p × TextScoped b (suc n) c
    TextScoped b n (x_let false y s p c) = PartScoped b n p × TextScoped b (suc n) c
    TextScoped b n (x_assert f at c) = (b ≡ true) × FormScoped true n f × TextScoped b n c
    TextScoped b n (x_if f c d) = FormScoped false n f × TextScoped b n c × TextScoped b n d
    TextScoped b n (x_match f at arms) = FormScoped false n f × ArmsScoped b n arms × (has_arm arms ≡ true)
    TextScoped b n (x_part p) = PartScoped b n p

    pub PartScoped : (body : Bool) → (n : ℕ) → WPart Ref → Type 0
    PartScoped b n (p_block at c) = TextScoped b n c
    PartScoped b n (p_call at r fs) = Takes (K.called r) (count_forms fs) × FormsScoped false n fs
    PartScoped b n (p_reify at r s c f) = (b ≡ true) × if_there (K.effects r.index) (λ e. ⊤) ⊥ × TextScoped b n c × FormScoped false n f
    PartScoped b n (p_reflect at r s y c) = (b ≡ true) × if_there (K.effects r.index) (λ e. ⊤) ⊥ × TextScoped b (suc n) c
    PartScoped b n (p_term at f) = FormScoped false n f

    pub ArmsScoped : (body : Bool) → (n : ℕ) → WArms Ref → Type 0
    ArmsScoped b n x_end = ⊤
    ArmsScoped b n (x_arm at con ws c more) = (length ws ≡ binds con) × TextScoped b (binds con + n) c × ArmsScoped b n more

-- ---- declarations

pub record EffectScoped (d : WEffect Ref) : Type 0 where
  pub ret_names : length d.ret_names ≡ 2
  pub bind_names : length d.bind_names ≡ 3
  pub ret : TextScoped known_in_return false (length (return_scope (effect_sorts d))) d.ret
  pub bind : TextScoped (known_in_bind (effect_sorts d)) false (length (input_scope (effect_sorts d))) d.bind

-- the ends of a lift are two of these effects
pub record LiftScoped (Es : List EffectSorts) (l : WLift Ref) : Type 0 where
  pub from : l.from.index < length Es
  pub «to» : l.«to».index < length Es
  pub names : length l.names ≡ 2
  pub text : TextScoped (known_in_lift (effect_at Es l.from)) false (length (input_scope (effect_at Es l.«to»))) l.text

-- a user effect is known
abbrev pub EffectKnown : Known → Effect → Type 0
EffectKnown K (effect.User E) = if_there (K.effects E) (λ e. ⊤) ⊥
EffectKnown K _ = ⊤

module _ (K : Known) where
  abbrev pub FormulaScoped : Ctx → Option (WForm Ref) → Type 0
  FormulaScoped xs None = ⊤
  FormulaScoped xs (Some f) = FormScoped K true (length xs) f

  abbrev pub AllScoped : Ctx → List (WForm Ref) → Type 0
  AllScoped xs [] = ⊤
  AllScoped xs (f ∷ fs) = FormScoped K true (length xs) f × AllScoped xs fs

  -- each refinement sees the parameters up to its own
  abbrev pub ParamsScoped : Ctx → List (WParam Ref) → Type 0
  ParamsScoped xs [] = ⊤
  ParamsScoped xs (p ∷ ps) = FormulaScoped (param_entry p ∷ xs) p.refine × ParamsScoped (param_entry p ∷ xs) ps

  pub record FunScoped (t : WFun Ref) : Type 0 where
    pub effect_known : EffectKnown K (effect_of t.effect)
    pub params : ParamsScoped [] t.params
    pub needs : FormulaScoped (clause_scope K t) t.needs
    pub gives : FormulaScoped (result_scope K t) t.gives
    pub measures : AllScoped (scope_of t.params) t.measures
    pub body : TextScoped K true (length (scope_of t.params)) t.body

pub record AreScoped (ds : List (WDecl Ref)) : Type 0 where
  pub effects : (E : ℕ) (d : WEffect Ref) → slice_get (effects_of ds) E ≡ Some d → EffectScoped d
  pub lifts : (n : ℕ) (l : WLift Ref) → slice_get (lifts_of ds) n ≡ Some l → LiftScoped (map effect_sorts (effects_of ds)) l
  pub funs : (k : ℕ) (f : Placed) → slice_get (funs_of ds) k ≡ Some f → FunScoped (known_in ds) f.tree
