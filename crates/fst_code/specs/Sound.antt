-- Sound code: what a run may rely on.
use Rattle.std.specs.Prelude.{ℕ, suc, ◌+◌, Bool, true, false, not, ◌&&◌, nat_lt, List, [], ◌∷◌, length, Option, Some, None}
use Rattle.std.specs.List.{list_all}
use Rattle.fst_terms.specs.Terms.{Tm}
use Rattle.fst_program.specs.declared.effect.Effect.{Effect}
use Rattle.fst_program.specs.declared.effect.Effect.TheVariants as effect
use Rattle.fst_program.specs.Texts.{Cm, CmArms, c_ret, c_let, c_bind, c_ghost, c_assert, c_if, c_match, c_call, c_reify, c_reflect, c_return, c_lift, c_end, c_arm, Prm, EffDef, LftDef, Fn, Prog, if_there, fun_at, is_ghost}
use Rattle.fst_code.specs.Within.{term_within, terms_within, dm_within}

module _ (P : Prog) where
  -- the number is that of an effect, of a lift, of a function that is there
  abbrev pub is_effect : ℕ → Bool
  is_effect E = nat_lt E (length P.effects)

  abbrev pub is_lift : ℕ → Bool
  is_lift l = nat_lt l (length P.lifts)

  abbrev pub is_there : ℕ → Bool
  is_there j = if_there (fun_at P j) (λ f. true) false

  -- a user effect is one of the code
  abbrev pub effect_within : Effect → Bool
  effect_within (effect.User E) = is_effect E
  effect_within _ = true

  -- the text's variables are among the last n; its effects, lifts and callees are there; its terms hold no application; it has no
  -- ghost let and no assertion
  abbrev mutual
    pub text_sound : (n : ℕ) → Cm → Bool
    text_sound n (c_ret t) = term_within n 0 t
    text_sound n (c_let x c1 c2) = text_sound n c1 && text_sound (suc n) c2
    text_sound n (c_bind E x c1 c2) = is_effect E && text_sound n c1 && text_sound (suc n) c2
    text_sound n (c_ghost x c1 c2) = false
    text_sound n (c_assert phi at c) = false
    text_sound n (c_if t c1 c2) = term_within n 0 t && text_sound n c1 && text_sound n c2
    text_sound n (c_match t at arms) = term_within n 0 t && arms_sound n arms
    text_sound n (c_call j ts at) = is_there j && terms_within n 0 ts
    text_sound n (c_reify E S c t) = is_effect E && text_sound n c && term_within n 0 t
    text_sound n (c_reflect E S x c) = is_effect E && text_sound (suc n) c
    text_sound n (c_return E c) = is_effect E && text_sound n c
    text_sound n (c_lift l c) = is_lift l && text_sound n c

    pub arms_sound : (n : ℕ) → CmArms → Bool
    arms_sound n c_end = true
    arms_sound n (c_arm c xs body more) = text_sound (length xs + n) body && arms_sound n more

  -- a formula of n variables that may apply the code's functions
  abbrev pub formula_within : (n : ℕ) → Option Tm → Bool
  formula_within n None = true
  formula_within n (Some phi) = term_within n (length P.funs) phi

  -- the parameter isn't a ghost one; its refinement sees the n parameters up to its own
  abbrev pub param_sound : (n : ℕ) → Prm → Bool
  param_sound n p = not p.hidden && formula_within n p.refine

  -- the same of parameters that n others stand before
  abbrev pub params_sound : (n : ℕ) → List Prm → Bool
  params_sound n [] = true
  params_sound n (p ∷ ps) = param_sound (suc n) p && params_sound (suc n) ps

  -- the function isn't GHOST; the variables of its body are its parameters
  abbrev pub fun_sound : Fn → Bool
  fun_sound f = not (is_ghost f.effect) && effect_within f.effect && nat_lt f.group (length P.funs) && params_sound 0 f.params && text_sound (length f.params) f.body

  -- a return has two variables, the value and the input; a bind and a lift have the input
  abbrev pub effect_sound : EffDef → Bool
  effect_sound d = effect_within d.base && dm_within 2 d.ret && dm_within 1 d.bind

  abbrev pub lift_sound : LftDef → Bool
  lift_sound l = is_effect l.from && is_effect l.«to» && dm_within 1 l.text

-- every effect, every lift, and every function that is there
abbrev pub is_sound : Prog → Bool
is_sound P = list_all (effect_sound P) P.effects && list_all (lift_sound P) P.lifts && list_all (λ f. if_there f (fun_sound P) true) P.funs
