-- What the code knows where a body stands.
use Rattle.std.specs.Prelude.{ℕ, false, nat_eq, List, [], Option, Some, None, option_map, slice_get, if◌then◌else◌}
use Rattle.std.specs.Borrow.{Bor}
use Rattle.fst_base.specs.declared.place.Pos.{Pos}
use Rattle.fst_base.specs.Sorts.{Srt, plain_sort}
use Rattle.fst_program.specs.declared.definition.EffectDef.{EffectDef}
use Rattle.fst_program.specs.declared.effect.Effect.{Effect}
use Rattle.fst_trees.specs.declared.sort.SortTree.{SortTree}
use Rattle.fst_names.specs.declared.reference.Ref.{Ref}
use Rattle.fst_names.specs.declared.broken.Broken.{Broken}
use Rattle.fst_names.specs.Broken.{first_broken}
use Rattle.fst_names.specs.Trees.{plain_wsort}
use Rattle.fst_effects.specs.Known.{EffectSorts, Known, sort_of, refused}
use Rattle.fst_effects.specs.Scopes.{applied_in}
use Rattle.fst_effects.specs.TextSorts.{noted}
use Rattle.fst_sorting.specs.declared.known.Known as K

-- an effect's base, and the sorts of its input and its results
abbrev pub sorts_in : EffectDef → EffectSorts
sorts_in d = record { base = d.base; input = plain_sort d.input; result = plain_sort d.result }

abbrev pub effect_at : Option (Bor EffectDef) → Option EffectSorts
effect_at = option_map (λ d. sorts_in d.now)

abbrev pub effects_in : List EffectDef → ℕ → Option EffectSorts
effects_in ds E = option_map sorts_in (slice_get ds E)

-- the paths between effects: a row for each, with an entry for each
abbrev pub Paths : Type 0
Paths = List (List (Option (List ℕ)))

abbrev pub entry_in : Option (List (Option (List ℕ))) → ℕ → Option (List ℕ)
entry_in None E = None
entry_in (Some row) E = flat (slice_get row E)
  where
    flat : Option (Option (List ℕ)) → Option (List ℕ)
    flat None = None
    flat (Some p) = p

-- the path from an effect to itself is the empty one
abbrev pub path_in : Paths → (D E : ℕ) → Option (List ℕ)
path_in rows D E = if nat_eq D E then Some [] else entry_in (slice_get rows D) E

abbrev pub known_at : K.Known → Known
known_at k = record { called = applied_in k.called.now; applied = applied_in k.applied.now; effects = effects_in k.effects.now; path = path_in k.paths.now; complete = false }

-- the sort that is written before one that is given
unfoldable pub note_of : Option (SortTree Ref) → Option Srt
note_of s = noted (option_map plain_wsort s)

unfoldable pub written_sort : SortTree Ref → Srt
written_sort s = sort_of (plain_wsort s)

-- a part of an effect at a place
unfoldable pub refused_of : Known → (place part : Effect) → Pos → Option Broken
refused_of K x e at = first_broken (refused K x e at.at)
