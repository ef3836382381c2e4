-- Effects and lifts, and their texts.
use Rattle.std.proofs.Common.{◌≡◌, ℕ, false, true, List, [], ◌∷◌, ◌++◌, map, slice_get, zero, suc, Option, Some, None, Result, Ok, Err, IfOk, refl, ap, ◌∙◌}
use Rattle.std.specs.Prelude.{option_map}
use Rattle.fst_base.specs.Sorts.{Srt, s_a}
use Rattle.fst_program.specs.declared.effect.Effect.TheVariants as effect
use Rattle.fst_program.specs.Texts.{Dm, LftDef}
use Rattle.fst_trees.specs.declared.definition.DmTree.{DmTree}
use Rattle.fst_trees.specs.declared.decl.EffectTree.{EffectTree}
use Rattle.fst_trees.specs.declared.decl.LiftTree.{LiftTree}
use Rattle.fst_names.specs.declared.reference.Ref.{Ref}
use Rattle.fst_names.specs.declared.broken.Broken.{Broken}
use Rattle.fst_names.specs.Broken.{first_broken, least}
use Rattle.fst_names.specs.Namings.{ref_at}
use Rattle.fst_names.specs.Trees.{plain_dm, plain_wsort}
use Rattle.fst_names.proofs.BrokenLemmas.{first-append}
use Rattle.fst_effects.specs.declared.headers.EffectSorts as E
use Rattle.fst_effects.specs.declared.wanted.Run.{Run}
use Rattle.fst_effects.specs.Known.{Callee, EffectSorts, Entry}
use Rattle.fst_effects.specs.TextSorts.{broken_text}
use Rattle.fst_effects.specs.Definitions.{at_b, base_effect, broken_shape, computation, core_dm, effect_at, input_scope, known_in_bind, known_in_definition, known_in_lift, known_in_return, or_none, return_scope}
use Rattle.fst_effects.specs.WrittenSorts.{shape_breaks, written_sort}
use Rattle.fst_effects.specs.DefinitionTexts.{callee_run, dm_breaks, dm_core}
use Rattle.fst_effects.specs.Headers.{bind_breaks, bind_core, effect_breaks, effect_core, found_sorts, header_sorts, lift_breaks, lift_core, return_breaks, return_core, sorts_in, text_breaks, text_core}

-- what a call gives, by an equal one
pub turned : {A E B : Type 0} (f : A → B) (r : Result A E) (a b : B) → IfOk r (λ x. f x ≡ a) → a ≡ b → IfOk r (λ x. f x ≡ b)
turned f (Ok x) a b h e = h ∙ e
turned f (Err x) a b h e = h

-- ---- texts

module _ (e : EffectSorts) (c : DmTree Ref) where
  pub return-breaks : dm_breaks [] (return_scope e) c (Some e.result) ≡ return_breaks e c
  unfolding dm_breaks return_breaks
  return-breaks = refl

  pub return-core : dm_core [] (return_scope e) c (Some e.result) ≡ return_core e c
  unfolding dm_core return_core
  return-core = refl

  -- what is known by the computations
  breaks_by : (f g : Option Callee) → (xs : List Entry) → (W : Option Srt) → Option Broken
  breaks_by f g xs W = first_broken (broken_text (known_in_definition f g) effect.Pure false xs (plain_dm ref_at c) W)

  pub bind-breaks : (rs : List Run) → option_map callee_run (slice_get rs 0) ≡ computation (e.input ∷ []) e.result
      → option_map callee_run (slice_get rs 1) ≡ computation (s_a ∷ e.input ∷ []) (at_b e.result) → dm_breaks rs (input_scope e) c (Some (at_b e.result)) ≡ bind_breaks e c
  unfolding dm_breaks bind_breaks breaks_by
  bind-breaks rs f g = ap (λ f. breaks_by f (option_map callee_run (slice_get rs 1)) (input_scope e) (Some (at_b e.result))) f ∙ ap (λ g. breaks_by (computation (e.input ∷ []) e.result) g (input_scope e) (Some (at_b e.result))) g

  pub bind-core : (rs : List Run) → option_map callee_run (slice_get rs 0) ≡ computation (e.input ∷ []) e.result
      → option_map callee_run (slice_get rs 1) ≡ computation (s_a ∷ e.input ∷ []) (at_b e.result) → dm_core rs (input_scope e) c (Some (at_b e.result)) ≡ bind_core e c
  unfolding dm_core bind_core
  bind-core rs f g =
      ap (λ f. core_dm (known_in_definition f (option_map callee_run (slice_get rs 1))) (input_scope e) (plain_dm ref_at c) (Some (at_b e.result))) f
      ∙ ap (λ g. core_dm (known_in_definition (computation (e.input ∷ []) e.result) g) (input_scope e) (plain_dm ref_at c) (Some (at_b e.result))) g

  pub text-breaks : (lower : EffectSorts) (rs : List Run) → option_map callee_run (slice_get rs 0) ≡ computation (lower.input ∷ []) lower.result
      → option_map callee_run (slice_get rs 1) ≡ None → dm_breaks rs (input_scope e) c (Some e.result) ≡ text_breaks lower e c
  unfolding dm_breaks text_breaks breaks_by
  text-breaks lower rs f g = ap (λ f. breaks_by f (option_map callee_run (slice_get rs 1)) (input_scope e) (Some e.result)) f ∙ ap (λ g. breaks_by (computation (lower.input ∷ []) lower.result) g (input_scope e) (Some e.result)) g

  pub text-core : (lower : EffectSorts) (rs : List Run) → option_map callee_run (slice_get rs 0) ≡ computation (lower.input ∷ []) lower.result
      → option_map callee_run (slice_get rs 1) ≡ None → dm_core rs (input_scope e) c (Some e.result) ≡ text_core lower e c
  unfolding dm_core text_core
  text-core lower rs f g =
      ap (λ f. core_dm (known_in_definition f (option_map callee_run (slice_get rs 1))) (input_scope e) (plain_dm ref_at c) (Some e.result)) f
      ∙ ap (λ g. core_dm (known_in_definition (computation (lower.input ∷ []) lower.result) g) (input_scope e) (plain_dm ref_at c) (Some e.result)) g

-- ---- effects

pub effect-breaks : (e : EffectTree Ref) → effect_breaks e ≡ least (least (least (shape_breaks true e.input) (shape_breaks false e.result)) (return_breaks (header_sorts e) e.ret)) (bind_breaks (header_sorts e) e.bind)
unfolding effect_breaks shape_breaks return_breaks bind_breaks written_sort
effect-breaks e =
    first-append (input ++ carried ++ ret) bind
    ∙ ap (λ o. least o (first_broken bind)) (first-append (input ++ carried) ret ∙ ap (λ o. least o (first_broken ret)) (first-append input carried))
  where
    input : List Broken
    input = broken_shape true (plain_wsort e.input)

    carried : List Broken
    carried = broken_shape false (plain_wsort e.result)

    ret : List Broken
    ret = broken_text known_in_return effect.Pure false (return_scope (header_sorts e)) (plain_dm ref_at e.ret) (Some (header_sorts e).result)

    bind : List Broken
    bind = broken_text (known_in_bind (header_sorts e)) effect.Pure false (input_scope (header_sorts e)) (plain_dm ref_at e.bind) (Some (at_b (header_sorts e).result))

pub effect-core : (e : EffectTree Ref) → effect_core e ≡ record {
  name = e.name.text;
  base = base_effect e.div;
  input = written_sort e.input;
  result = written_sort e.result;
  ret_names = map (λ w. w.text) e.ret_names;
  ret = return_core (header_sorts e) e.ret;
  bind_names = map (λ w. w.text) e.bind_names;
  bind = bind_core (header_sorts e) e.bind;
}
unfolding effect_core return_core bind_core written_sort
effect-core e = refl

pub ruleset effects = (effect-breaks, effect-core)

-- ---- lifts

mapped : (es : List E.EffectSorts) (i : ℕ) → slice_get (map sorts_in es) i ≡ option_map sorts_in (slice_get es i)
mapped [] i = refl
mapped (e ∷ es) zero = refl
mapped (e ∷ es) (suc i) = mapped es i

at-name : (es : List E.EffectSorts) (r : Ref) → effect_at (map sorts_in es) r ≡ found_sorts es r
at-name es r = ap or_none (mapped es r.index)

pub lift-breaks : (es : List E.EffectSorts) (l : LiftTree Ref) → lift_breaks (map sorts_in es) l ≡ text_breaks (found_sorts es l.from) (found_sorts es l.«to») l.text
unfolding lift_breaks text_breaks
lift-breaks es l =
    ap (λ lower. first_broken (broken_text (known_in_lift lower) effect.Pure false (input_scope (effect_at (map sorts_in es) l.«to»)) (plain_dm ref_at l.text) (Some (effect_at (map sorts_in es) l.«to»).result))) (at-name es l.from)
    ∙ ap (λ upper. first_broken (broken_text (known_in_lift (found_sorts es l.from)) effect.Pure false (input_scope upper) (plain_dm ref_at l.text) (Some upper.result))) (at-name es l.«to»)

pub lift-core : (es : List E.EffectSorts) (l : LiftTree Ref) → lift_core (map sorts_in es) l ≡ record {
  from = l.from.index;
  «to» = l.«to».index;
  names = map (λ w. w.text) l.names;
  text = text_core (found_sorts es l.from) (found_sorts es l.«to») l.text;
}
unfolding lift_core text_core
lift-core es l =
    ap (λ lower. made (core_dm (known_in_lift lower) (input_scope (effect_at (map sorts_in es) l.«to»)) (plain_dm ref_at l.text) (Some (effect_at (map sorts_in es) l.«to»).result))) (at-name es l.from)
    ∙ ap (λ upper. made (core_dm (known_in_lift (found_sorts es l.from)) (input_scope upper) (plain_dm ref_at l.text) (Some upper.result))) (at-name es l.«to»)
  where
    made : Dm → LftDef
    made d = record { from = l.from.index; «to» = l.«to».index; names = map (λ w. w.text) l.names; text = d }

pub ruleset lifts = (lift-breaks, lift-core)
