-- The core text that a text is at a place, with the returns, binds and lifts that the effects of its parts ask for.
use Rattle.std.specs.Prelude.{ℕ, true, false, List, [], ◌∷◌, map, Option, Some, None}
use Rattle.fst_base.specs.Sorts.{Srt, s_bool}
use Rattle.fst_program.specs.declared.effect.Effect.{Effect}
use Rattle.fst_program.specs.declared.effect.Effect.TheVariants as effect
use Rattle.fst_program.specs.Texts.{Cm, CmArms, c_ret, c_let, c_bind, c_ghost, c_assert, c_if, c_match, c_call, c_reify, c_reflect, c_return, c_lift, c_end, c_arm}
use Rattle.fst_program.specs.LiftPaths.{or_else}
use Rattle.fst_names.specs.declared.reference.Ref.{Ref}
use Rattle.fst_names.specs.Trees.{WText, WPart, WArms, x_let, x_assert, x_if, x_match, x_part, p_block, p_call, p_reify, p_reflect, p_term, x_end, x_arm}
use Rattle.fst_effects.specs.Known.{Ctx, Known, or_unit, sort_of}
use Rattle.fst_effects.specs.TermSorts.{given, core, cores, visible, args_of, wants_of}
use Rattle.fst_effects.specs.Patterns.{part_sorts, core_con, under}
use Rattle.fst_effects.specs.TextSorts.{entry, bound_sort, noted, input_sort, base_of, result_sort, part_effect, text_given, arms_given}

module _ (K : Known) where
  -- a part of a user effect D at a place of effect E, behind the lifts on the path from D to E, the first innermost
  abbrev pub lifted : List ℕ → Cm → Cm
  lifted [] c = c
  lifted (l ∷ ls) c = lifted ls (c_lift l c)

  abbrev pub lifted_along : Option (List ℕ) → Cm → Cm
  lifted_along None c = c
  lifted_along (Some ls) c = lifted ls c

  -- A let whose bound part has a base effect is a plain one; any other is the bind of the place's effect.
  abbrev pub bind_or_let : (place part : Effect) → (name : List ℕ) → Cm → Cm → Cm
  bind_or_let (effect.User E) (effect.User D) y c1 c2 = c_bind E y (lifted_along (K.path D E) c1) c2
  bind_or_let _ _ y c1 c2 = c_let y c1 c2

  -- a tail at a user effect: a part of a base effect is that effect's return of its value
  abbrev pub tail : (place part : Effect) → Cm → Cm
  tail (effect.User E) (effect.User D) c = lifted_along (K.path D E) c
  tail (effect.User E) _ c = c_return E c
  tail _ _ c = c

  abbrev pub tail_of : (place : Effect) → WPart Ref → Cm → Cm
  tail_of x (p_block at c) d = d
  tail_of x p d = tail x (part_effect K x p) d

  abbrev mutual
    pub core_text : (place : Effect) → Ctx → WText Ref → (W : Option Srt) → Cm
    core_text x xs (x_let true y s p c) W =
        let S = or_unit (bound_sort K xs s p) in c_ghost y.text (core_part effect.Ghost xs p (noted s)) (core_text x (entry true S ∷ xs) c W)
    core_text x xs (x_let false y s p c) W =
        let S = or_unit (bound_sort K xs s p) in bind_or_let x (part_effect K x p) y.text (core_part x xs p (noted s)) (core_text x (entry false S ∷ xs) c W)
    core_text x xs (x_assert f at c) W = c_assert (core K.applied xs f (Some s_bool)) at (core_text x xs c W)
    core_text x xs (x_if f c d) W =
        let V = or_else W (or_else (text_given K xs c) (text_given K xs d)) in c_if (core K.applied xs f (Some s_bool)) (core_text x xs c V) (core_text x xs d V)
    core_text x xs (x_match f at arms) W =
        let S = or_unit (given K.applied xs f) in c_match (core K.applied xs f None) at (core_arms x xs S arms (or_else W (arms_given K xs S arms)))
    core_text x xs (x_part p) W = tail_of x p (core_part x xs p W)

    pub core_part : (place : Effect) → Ctx → WPart Ref → (W : Option Srt) → Cm
    core_part x xs (p_block at c) W = core_text x xs c W
    core_part x xs (p_call at r fs) W = c_call r.index (cores K.applied xs fs (wants_of (args_of (K.called r)))) at
    core_part x xs (p_reify at r s c f) W = c_reify r.index (sort_of s) (core_text (effect.User r.index) xs c (Some (sort_of s))) (core K.applied xs f (input_sort (K.effects r.index)))
    core_part x xs (p_reflect at r s y c) W =
        c_reflect r.index (sort_of s) y.text (core_text (base_of (K.effects r.index)) (visible (or_unit (input_sort (K.effects r.index))) ∷ xs) c (result_sort (K.effects r.index) (sort_of s)))
    core_part x xs (p_term at f) W = c_ret (core K.applied xs f W)

    pub core_arms : (place : Effect) → Ctx → Srt → WArms Ref → (W : Option Srt) → CmArms
    core_arms x xs S x_end W = c_end
    core_arms x xs S (x_arm at con ws c more) W =
        c_arm (core_con con) (map (λ w. w.text) ws) (core_text x (under (part_sorts con S) xs) c W) (core_arms x xs S more W)
