-- Sorts and effects of texts: the sort of a text's value, and the rules that it breaks at a place.
use Rattle.std.specs.Prelude.{ℕ, Bool, true, false, ◌||◌, List, [], ◌∷◌, ◌++◌, map, Option, Some, None, option_map}
use Rattle.fst_base.specs.Sorts.{Srt, s_bool, put_sorts, s_b}
use Rattle.fst_program.specs.declared.effect.Effect.{Effect}
use Rattle.fst_program.specs.declared.effect.Effect.TheVariants as effect
use Rattle.fst_program.specs.LiftPaths.{or_else}
use Rattle.fst_names.specs.declared.reference.Ref.{Ref}
use Rattle.fst_names.specs.declared.broken.Broken.{Broken}
use Rattle.fst_names.specs.Broken.{innermost}
use Rattle.fst_names.specs.Trees.{WSort, WForms, f_end, f_more, WText, WPart, WArms, x_let, x_assert, x_if, x_match, x_part, p_block, p_call, p_reify, p_reflect, p_term, x_end, x_arm}
use Rattle.fst_effects.specs.Known.{Entry, Ctx, Callee, EffectSorts, Known, or_unit, with_sort, where_known, clash, needs_sort, sort_of, refused}
use Rattle.fst_effects.specs.TermSorts.{given, broken, brokens, broken_giving, visible, args_of}
use Rattle.fst_effects.specs.Patterns.{part_sorts, fits_pattern, in_pattern, open_match}

-- ---- places and parts

abbrev pub part_place : WPart Ref → ℕ
part_place (p_block at c) = at
part_place (p_call at r fs) = at
part_place (p_reify at r s c f) = at
part_place (p_reflect at r s x c) = at
part_place (p_term at f) = at

-- the place of what a let binds: a ghost let's is GHOST
abbrev pub bound_place : (ghost : Bool) → Effect → Effect
bound_place true x = effect.Ghost
bound_place false x = x

abbrev pub input_sort : Option EffectSorts → Option Srt
input_sort = option_map (λ e. e.input)

abbrev pub base_of : Option EffectSorts → Effect
base_of None = effect.Pure
base_of (Some e) = e.base

-- the sort of the results of an effect at the sort of a value
abbrev pub result_sort : Option EffectSorts → Srt → Option Srt
result_sort None S = None
result_sort (Some e) S = Some (put_sorts S s_b e.result)

abbrev pub entry : (ghost : Bool) → Srt → Entry
entry ghost S = record { sort = S; hidden = ghost }

-- a sort that is written before one that is given
abbrev pub noted : Option (WSort Ref) → Option Srt
noted = option_map sort_of

abbrev pub callee_effect : Option Callee → Effect
callee_effect None = effect.Pure
callee_effect (Some f) = f.effect

module _ (K : Known) where
  -- ---- the sort of a text's value, where nothing is wanted

  abbrev mutual
    pub text_given : Ctx → WText Ref → Option Srt
    text_given xs (x_let ghost x s p c) = with_sort (or_else (noted s) (part_given xs p)) (λ S. text_given (entry ghost S ∷ xs) c)
    text_given xs (x_assert f at c) = text_given xs c
    text_given xs (x_if f c d) = or_else (text_given xs c) (text_given xs d)
    text_given xs (x_match f at arms) = with_sort (given K.applied xs f) (λ S. arms_given xs S arms)
    text_given xs (x_part p) = part_given xs p

    pub part_given : Ctx → WPart Ref → Option Srt
    part_given xs (p_block at c) = text_given xs c
    part_given xs (p_call at r fs) = option_map (λ f. f.sort) (K.called r)
    part_given xs (p_reify at r s c f) = result_sort (K.effects r.index) (sort_of s)
    part_given xs (p_reflect at r s x c) = Some (sort_of s)
    part_given xs (p_term at f) = given K.applied xs f

    -- the first arm that gives one, of those whose constructor is one of the scrutinee's sort
    pub arms_given : Ctx → Srt → WArms Ref → Option Srt
    arms_given xs S x_end = None
    arms_given xs S (x_arm at con ws c more) = or_else (fits_pattern (part_sorts con S) (λ ys. text_given (map visible ys ++ xs) c)) (arms_given xs S more)

  -- the sort of the variable that a let binds
  abbrev pub bound_sort : Ctx → Option (WSort Ref) → WPart Ref → Option Srt
  bound_sort xs s p = or_else (noted s) (part_given xs p)

  -- ---- the effect of a part, at a place

  abbrev pub part_effect : (place : Effect) → WPart Ref → Effect
  part_effect x (p_block at c) = x
  part_effect x (p_call at r fs) = callee_effect (K.called r)
  part_effect x (p_reify at r s c f) = base_of (K.effects r.index)
  part_effect x (p_reflect at r s y c) = effect.User r.index
  part_effect x (p_term at f) = effect.Pure

  -- the arguments of a call; a ghost argument stands in a ghost place
  abbrev pub broken_args : (ghost : Bool) → Ctx → WForms Ref → List Entry → List Broken
  broken_args gh xs fs [] = brokens K.applied gh xs fs []
  broken_args gh xs f_end (a ∷ more) = []
  broken_args gh xs (f_more f fs) (a ∷ more) = broken K.applied (gh || a.hidden) xs f (Some a.sort) ++ broken_args gh xs fs more

  -- ---- broken rules, where W is the sort that is wanted of the value

  abbrev mutual
    pub broken_text : (place : Effect) → (ghost : Bool) → Ctx → WText Ref → (W : Option Srt) → List Broken
    broken_text x gh xs (x_let ghost y s p c) W =
        innermost (broken_part (bound_place ghost x) (gh || ghost) xs p (noted s)) (needs_sort (part_place p) (bound_sort xs s p))
        ++ where_known (bound_sort xs s p) (λ S. broken_text x gh (entry ghost S ∷ xs) c W)
    broken_text x gh xs (x_assert f at c) W = broken K.applied true xs f (Some s_bool) ++ broken_text x gh xs c W
    broken_text x gh xs (x_if f c d) W =
        let V = or_else W (or_else (text_given xs c) (text_given xs d)) in
        broken K.applied gh xs f (Some s_bool) ++ broken_text x gh xs c V ++ broken_text x gh xs d V
    broken_text x gh xs (x_match f at arms) W =
        innermost (broken_giving K.applied gh xs f ++ where_known (given K.applied xs f) (λ S. broken_arms x gh xs S arms (or_else W (arms_given xs S arms))))
        (where_known (given K.applied xs f) (λ S. open_match K.complete at S arms))
    broken_text x gh xs (x_part p) W = broken_part x gh xs p W

    pub broken_part : (place : Effect) → (ghost : Bool) → Ctx → WPart Ref → (W : Option Srt) → List Broken
    broken_part x gh xs (p_block at c) W = broken_text x gh xs c W
    broken_part x gh xs (p_call at r fs) W =
        innermost (broken_args gh xs fs (args_of (K.called r))) (refused K x (callee_effect (K.called r)) at ++ clash at (option_map (λ f. f.sort) (K.called r)) W)
    broken_part x gh xs (p_reify at r s c f) W =
        innermost (broken_text (effect.User r.index) gh xs c (Some (sort_of s)) ++ broken K.applied gh xs f (input_sort (K.effects r.index)))
        (refused K x (base_of (K.effects r.index)) at ++ clash at (result_sort (K.effects r.index) (sort_of s)) W)
    broken_part x gh xs (p_reflect at r s y c) W =
        innermost (broken_text (base_of (K.effects r.index)) gh (visible (or_unit (input_sort (K.effects r.index))) ∷ xs) c (result_sort (K.effects r.index) (sort_of s)))
        (refused K x (effect.User r.index) at ++ clash at (Some (sort_of s)) W)
    broken_part x gh xs (p_term at f) W = broken K.applied gh xs f W

    -- a pattern's constructor is one of the scrutinee's sort
    pub broken_arms : (place : Effect) → (ghost : Bool) → Ctx → Srt → WArms Ref → (W : Option Srt) → List Broken
    broken_arms x gh xs S x_end W = []
    broken_arms x gh xs S (x_arm at con ws c more) W =
        in_pattern at (part_sorts con S) (λ ys. broken_text x gh (map visible ys ++ xs) c W) ++ broken_arms x gh xs S more W
