-- What is due of the code on effects and lifts.
use Rattle.std.specs.Prelude.{ℕ, false, List, map, Option, Some, option_map, slice_get}
use Rattle.fst_base.specs.Sorts.{plain_sort}
use Rattle.fst_program.specs.declared.effect.Effect.TheVariants as effect
use Rattle.fst_program.specs.Texts.{Dm, EffDef, LftDef}
use Rattle.fst_trees.specs.declared.definition.DmTree.{DmTree}
use Rattle.fst_trees.specs.declared.decl.EffectTree.{EffectTree}
use Rattle.fst_trees.specs.declared.decl.LiftTree.{LiftTree}
use Rattle.fst_trees.specs.declared.decl.Decl.{Decl}
use Rattle.fst_names.specs.declared.reference.Ref.{Ref}
use Rattle.fst_names.specs.declared.broken.Broken.{Broken}
use Rattle.fst_names.specs.Broken.{first_broken}
use Rattle.fst_names.specs.Names.{each}
use Rattle.fst_names.specs.Namings.{ref_at}
use Rattle.fst_names.specs.Trees.{WDecl, plain_dm, plain_weffect, plain_wlift, plain_decl}
use Rattle.fst_effects.specs.declared.headers.EffectSorts as E
use Rattle.fst_effects.specs.Known.{EffectSorts}
use Rattle.fst_effects.specs.TextSorts.{broken_text}
use Rattle.fst_effects.specs.WrittenSorts.{written_sort}
use Rattle.fst_effects.specs.Definitions as D
use Rattle.fst_effects.specs.Definitions.{base_effect, core_dm, at_b, known_in_bind, known_in_lift, known_in_return, return_scope, input_scope, effects_of, lifts_of, or_none}

-- ---- headers

abbrev pub sorts_in : E.EffectSorts → EffectSorts
sorts_in e = record { base = e.base; input = plain_sort e.input; result = plain_sort e.result }

abbrev pub header_sorts : EffectTree Ref → EffectSorts
header_sorts e = record { base = base_effect e.div; input = written_sort e.input; result = written_sort e.result }

-- the sorts of the effect that a name stands for
abbrev pub found_sorts : List E.EffectSorts → Ref → EffectSorts
found_sorts es r = or_none (option_map sorts_in (slice_get es r.index))

-- ---- texts

unfoldable pub return_breaks : EffectSorts → DmTree Ref → Option Broken
return_breaks e c = first_broken (broken_text known_in_return effect.Pure false (return_scope e) (plain_dm ref_at c) (Some e.result))

unfoldable pub bind_breaks : EffectSorts → DmTree Ref → Option Broken
bind_breaks e c = first_broken (broken_text (known_in_bind e) effect.Pure false (input_scope e) (plain_dm ref_at c) (Some (at_b e.result)))

unfoldable pub text_breaks : (lower upper : EffectSorts) → DmTree Ref → Option Broken
text_breaks lower upper c = first_broken (broken_text (known_in_lift lower) effect.Pure false (input_scope upper) (plain_dm ref_at c) (Some upper.result))

unfoldable pub return_core : EffectSorts → DmTree Ref → Dm
return_core e c = core_dm known_in_return (return_scope e) (plain_dm ref_at c) (Some e.result)

unfoldable pub bind_core : EffectSorts → DmTree Ref → Dm
bind_core e c = core_dm (known_in_bind e) (input_scope e) (plain_dm ref_at c) (Some (at_b e.result))

unfoldable pub text_core : (lower upper : EffectSorts) → DmTree Ref → Dm
text_core lower upper c = core_dm (known_in_lift lower) (input_scope upper) (plain_dm ref_at c) (Some upper.result)

-- ---- effects and lifts

unfoldable pub effect_breaks : EffectTree Ref → Option Broken
effect_breaks e = first_broken (D.broken_effect (plain_weffect ref_at e))

unfoldable pub effect_core : EffectTree Ref → EffDef
effect_core e = D.core_effect (plain_weffect ref_at e)

unfoldable pub lift_breaks : List EffectSorts → LiftTree Ref → Option Broken
lift_breaks Es l = first_broken (D.broken_lift Es (plain_wlift ref_at l))

unfoldable pub lift_core : List EffectSorts → LiftTree Ref → LftDef
lift_core Es l = D.core_lift Es (plain_wlift ref_at l)

-- ---- declarations

abbrev pub decls : List (Decl Ref) → List (WDecl Ref)
decls ds = map (plain_decl ref_at) ds

-- the sorts of the effects
unfoldable pub sorts_of : List (Decl Ref) → List EffectSorts
sorts_of ds = map D.effect_sorts (effects_of (decls ds))

unfoldable pub effects_break : List (Decl Ref) → Option Broken
effects_break ds = first_broken (each D.broken_effect (effects_of (decls ds)))

unfoldable pub lifts_break : List EffectSorts → List (Decl Ref) → Option Broken
lifts_break Es ds = first_broken (each (D.broken_lift Es) (lifts_of (decls ds)))

unfoldable pub effects_core : List (Decl Ref) → List EffDef
effects_core ds = map D.core_effect (effects_of (decls ds))

unfoldable pub lifts_core : List EffectSorts → List (Decl Ref) → List LftDef
lifts_core Es ds = map (D.core_lift Es) (lifts_of (decls ds))

unfoldable pub places_of : List (Decl Ref) → List ℕ
places_of ds = map (λ l. l.place) (lifts_of (decls ds))
