-- Effect definitions and the texts of lifts: their sorts, and the rules that they break.
use Rattle.std.specs.Prelude.{Bool, true, false, List, [], ◌∷◌, ◌++◌, map, Option, Some, None, slice_get, if◌then◌else◌}
use Rattle.fst_base.specs.declared.rule.Rule.TheVariants as rule
use Rattle.fst_base.specs.Sorts.{Srt, s_bool, s_a, s_b, put_sorts}
use Rattle.fst_terms.specs.Terms.{Tm, Tms, t_unit, t_end, t_more}
use Rattle.fst_program.specs.declared.effect.Effect.{Effect}
use Rattle.fst_program.specs.declared.effect.Effect.TheVariants as effect
use Rattle.fst_program.specs.Texts.{Dm, DmArms, d_ret, d_let, d_if, d_match, d_run_f, d_run_g, d_end, d_arm, EffDef, LftDef}
use Rattle.fst_program.specs.LiftPaths.{or_else}
use Rattle.fst_names.specs.declared.reference.Ref.{Ref}
use Rattle.fst_names.specs.declared.reference.RefKind.{RefKind}
use Rattle.fst_names.specs.declared.reference.RefKind.TheVariants as kind
use Rattle.fst_names.specs.declared.broken.Broken.{Broken}
use Rattle.fst_names.specs.Broken.{breaks}
use Rattle.fst_names.specs.Names.{texts, each}
use Rattle.fst_names.specs.Trees.{WSort, w_pair, w_opt, w_list, w_either, w_name, WText, WPart, WArms, x_let, x_assert, x_if, x_match, x_part, p_block, p_call, p_reify, p_reflect, p_term, x_end, x_arm, WEffect, WLift, WDecl, w_effect, w_lift, w_fun}
use Rattle.fst_effects.specs.Known.{Ctx, Callee, EffectSorts, Known, or_unit, sort_of}
use Rattle.fst_effects.specs.TermSorts.{given, core, cores, visible, args_of, wants_of}
use Rattle.fst_effects.specs.Patterns.{part_sorts, core_con, under}
use Rattle.fst_effects.specs.TextSorts.{bound_sort, noted, text_given, arms_given, broken_text}

-- ---- shapes: an input's sort holds neither a nor b, a result's sort no b

abbrev pub misplaced : (a_too : Bool) → Ref → RefKind → List Broken
misplaced a_too r kind.SortA = if a_too then breaks rule.EffectShape r.at.at else []
misplaced a_too r _ = breaks rule.EffectShape r.at.at

abbrev pub broken_shape : (a_too : Bool) → WSort Ref → List Broken
broken_shape a_too (w_pair s t) = broken_shape a_too s ++ broken_shape a_too t
broken_shape a_too (w_opt s) = broken_shape a_too s
broken_shape a_too (w_list s) = broken_shape a_too s
broken_shape a_too (w_either s t) = broken_shape a_too s ++ broken_shape a_too t
broken_shape a_too (w_name r) = misplaced a_too r r.kind
broken_shape a_too _ = []

-- ---- texts

-- a computation of a header
abbrev pub computation : List Srt → Srt → Option Callee
computation Ss R = Some (record { args = map visible Ss; sort = R; effect = effect.Pure })

abbrev pub run_of : (f g : Option Callee) → RefKind → Option Callee
run_of f g kind.RunF = f
run_of f g kind.RunG = g
run_of f g _ = None

-- in a definition the header's computations are called, and each match has an arm for each constructor
abbrev pub known_in_definition : (f g : Option Callee) → Known
known_in_definition f g = record { called = λ r. run_of f g r.kind; applied = λ r. None; effects = λ E. None; path = λ D E. None; complete = true }

abbrev pub first_term : Tms → Tm
first_term t_end = t_unit
first_term (t_more t ts) = t

abbrev pub rest_terms : Tms → Tms
rest_terms t_end = t_end
rest_terms (t_more t ts) = ts

abbrev pub run_text : RefKind → Tms → Dm
run_text kind.RunG ts = d_run_g (first_term ts) (first_term (rest_terms ts))
run_text _ ts = d_run_f (first_term ts)

module _ (K : Known) where
  abbrev mutual
    pub core_dm : Ctx → WText Ref → (W : Option Srt) → Dm
    core_dm xs (x_let ghost y s p c) W = let S = or_unit (bound_sort K xs s p) in d_let y.text (core_dm_part xs p (noted s)) (core_dm (visible S ∷ xs) c W)
    core_dm xs (x_assert f at c) W = core_dm xs c W
    core_dm xs (x_if f c d) W = let V = or_else W (or_else (text_given K xs c) (text_given K xs d)) in d_if (core K.applied xs f (Some s_bool)) (core_dm xs c V) (core_dm xs d V)
    core_dm xs (x_match f at arms) W = let S = or_unit (given K.applied xs f) in d_match (core K.applied xs f None) (core_dm_arms xs S arms (or_else W (arms_given K xs S arms)))
    core_dm xs (x_part p) W = core_dm_part xs p W

    pub core_dm_part : Ctx → WPart Ref → (W : Option Srt) → Dm
    core_dm_part xs (p_block at c) W = core_dm xs c W
    core_dm_part xs (p_call at r fs) W = run_text r.kind (cores K.applied xs fs (wants_of (args_of (K.called r))))
    core_dm_part xs (p_reify at r s c f) W = d_ret t_unit
    core_dm_part xs (p_reflect at r s y c) W = d_ret t_unit
    core_dm_part xs (p_term at f) W = d_ret (core K.applied xs f W)

    pub core_dm_arms : Ctx → Srt → WArms Ref → (W : Option Srt) → DmArms
    core_dm_arms xs S x_end W = d_end
    core_dm_arms xs S (x_arm at con ws c more) W = d_arm (core_con con) (texts ws) (core_dm (under (part_sorts con S) xs) c W) (core_dm_arms xs S more W)

-- ---- effects and lifts

abbrev pub base_effect : (div : Bool) → Effect
base_effect true = effect.Div
base_effect false = effect.Pure

abbrev pub effect_sorts : WEffect Ref → EffectSorts
effect_sorts e = record { base = base_effect e.div; input = sort_of e.input; result = sort_of e.result }

-- the results of a computation at b
abbrev pub at_b : Srt → Srt
at_b R = put_sorts s_b s_b R

-- a bind's first computation gives results at a, its second takes a value of a and gives results at b
abbrev pub known_in_bind : EffectSorts → Known
known_in_bind e = known_in_definition (computation (e.input ∷ []) e.result) (computation (s_a ∷ e.input ∷ []) (at_b e.result))

abbrev pub known_in_return : Known
known_in_return = known_in_definition None None

abbrev pub known_in_lift : (lower : EffectSorts) → Known
known_in_lift lower = known_in_definition (computation (lower.input ∷ []) lower.result) None

abbrev pub return_scope : EffectSorts → Ctx
return_scope e = visible e.input ∷ visible s_a ∷ []

abbrev pub input_scope : EffectSorts → Ctx
input_scope e = visible e.input ∷ []

abbrev pub broken_effect : WEffect Ref → List Broken
broken_effect d =
    let e = effect_sorts d in
    broken_shape true d.input ++ broken_shape false d.result
    ++ broken_text known_in_return effect.Pure false (return_scope e) d.ret (Some e.result)
    ++ broken_text (known_in_bind e) effect.Pure false (input_scope e) d.bind (Some (at_b e.result))

abbrev pub core_effect : WEffect Ref → EffDef
core_effect d =
    let e = effect_sorts d in
    record {
      name = d.name.text;
      base = e.base;
      input = e.input;
      result = e.result;
      ret_names = texts d.ret_names;
      ret = core_dm known_in_return (return_scope e) d.ret (Some e.result);
      bind_names = texts d.bind_names;
      bind = core_dm (known_in_bind e) (input_scope e) d.bind (Some (at_b e.result));
    }

abbrev pub effects_of : List (WDecl Ref) → List (WEffect Ref)
effects_of [] = []
effects_of (w_effect e ∷ ds) = e ∷ effects_of ds
effects_of (w_lift l ∷ ds) = effects_of ds
effects_of (w_fun f ∷ ds) = effects_of ds

abbrev pub lifts_of : List (WDecl Ref) → List (WLift Ref)
lifts_of [] = []
lifts_of (w_effect e ∷ ds) = lifts_of ds
lifts_of (w_lift l ∷ ds) = l ∷ lifts_of ds
lifts_of (w_fun f ∷ ds) = lifts_of ds

abbrev pub no_effect : EffectSorts
no_effect = record { base = effect.Pure; input = s_a; result = s_a }

abbrev pub or_none : Option EffectSorts → EffectSorts
or_none None = no_effect
or_none (Some e) = e

module _ (Es : List EffectSorts) where
  abbrev pub effect_at : Ref → EffectSorts
  effect_at r = or_none (slice_get Es r.index)

  abbrev pub broken_lift : WLift Ref → List Broken
  broken_lift l = broken_text (known_in_lift (effect_at l.from)) effect.Pure false (input_scope (effect_at l.«to»)) l.text (Some (effect_at l.«to»).result)

  abbrev pub core_lift : WLift Ref → LftDef
  core_lift l = record {
    from = l.from.index;
    «to» = l.«to».index;
    names = texts l.names;
    text = core_dm (known_in_lift (effect_at l.from)) (input_scope (effect_at l.«to»)) l.text (Some (effect_at l.«to»).result);
  }

-- the third phase: what the effects and the texts of the lifts break, and the definitions that they are
abbrev pub broken_definitions : List (WDecl Ref) → List Broken
broken_definitions ds = each broken_effect (effects_of ds) ++ each (broken_lift (map effect_sorts (effects_of ds))) (lifts_of ds)

abbrev pub core_effects : List (WDecl Ref) → List EffDef
core_effects ds = map core_effect (effects_of ds)

abbrev pub core_lifts : List (WDecl Ref) → List LftDef
core_lifts ds = map (core_lift (map effect_sorts (effects_of ds))) (lifts_of ds)
