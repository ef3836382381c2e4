-- What is known where a term or a text is sorted.
use Rattle.std.specs.Prelude.{ℕ, Bool, true, false, List, [], Option, Some, None, if◌then◌else◌}
use Rattle.fst_base.specs.Sorts.{Srt, s_unit, s_bool, s_int, s_a, s_b, s_pair, s_opt, s_list, s_either, same_sort}
use Rattle.fst_base.specs.declared.rule.Rule.{Rule}
use Rattle.fst_base.specs.declared.rule.Rule.TheVariants as rule
use Rattle.fst_program.specs.declared.effect.Effect.{Effect}
use Rattle.fst_program.specs.declared.effect.Effect.TheVariants as effect
use Rattle.fst_names.specs.declared.reference.Ref.{Ref}
use Rattle.fst_names.specs.declared.reference.RefKind.TheVariants as kind
use Rattle.fst_names.specs.declared.broken.Broken.{Broken}
use Rattle.fst_names.specs.Broken.{breaks}
use Rattle.fst_names.specs.Trees.{WSort, w_unit, w_bool, w_int, w_pair, w_opt, w_list, w_either, w_name}

-- a variable in scope, or a parameter; hidden marks a ghost one
pub record Entry : Type 0 where
  pub sort : Srt
  pub hidden : Bool

-- the variables in scope, the last first
abbrev pub Ctx : Type 0
Ctx = List Entry

-- what is called or applied: a function, or a computation of a header. The sort is that of the value of a call; an application of a
-- function with a user effect has the sort of its results.
pub record Callee : Type 0 where
  pub args : List Entry
  pub sort : Srt
  pub effect : Effect

-- an effect's base, and the sorts of its input and its results
pub record EffectSorts : Type 0 where
  pub base : Effect
  pub input : Srt
  pub result : Srt

-- path D E gives the numbers of the lifts on the one path from effect D to effect E, the first first
pub record Known : Type 0 where
  pub called : Ref → Option Callee
  pub applied : Ref → Option Callee
  pub effects : ℕ → Option EffectSorts
  pub path : ℕ → ℕ → Option (List ℕ)
  pub complete : Bool  -- each match has an arm for each constructor: in definitions

-- ---- sorts that may not be known

abbrev pub or_unit : Option Srt → Srt
or_unit (Some S) = S
or_unit None = s_unit

-- goes on with the sort, where it is known
abbrev pub with_sort : {A : Type 0} → Option Srt → (Srt → Option A) → Option A
with_sort None k = None
with_sort (Some S) k = k S

-- what is broken behind a sort that is needed, where it is known
abbrev pub where_known : Option Srt → (Srt → List Broken) → List Broken
where_known None k = []
where_known (Some S) k = k S

-- a sort that is given stands where another is wanted
abbrev pub clash : (place : ℕ) → (given want : Option Srt) → List Broken
clash at (Some S) (Some T) = if same_sort S T then [] else breaks rule.SortClash at
clash at _ _ = []

-- no sort is given where one is needed
abbrev pub needs_sort : (place : ℕ) → (given : Option Srt) → List Broken
needs_sort at (Some S) = []
needs_sort at None = breaks rule.SortClash at

-- the sort that a tree is
abbrev pub sort_of : WSort Ref → Srt
sort_of w_unit = s_unit
sort_of w_bool = s_bool
sort_of w_int = s_int
sort_of (w_pair s t) = s_pair (sort_of s) (sort_of t)
sort_of (w_opt s) = s_opt (sort_of s)
sort_of (w_list s) = s_list (sort_of s)
sort_of (w_either s t) = s_either (sort_of s) (sort_of t)
sort_of (w_name r) = elim r.kind [
  | kind.Local ↦ s_b
  | kind.Fun ↦ s_b
  | kind.Effect ↦ s_b
  | kind.SortA ↦ s_a
  | kind.SortB ↦ s_b
  | kind.RunF ↦ s_b
  | kind.RunG ↦ s_b
]

-- ---- effects of parts

abbrev pub is_div : Effect → Bool
is_div effect.Div = true
is_div _ = false

abbrev pub base_is_div : Option EffectSorts → Bool
base_is_div None = false
base_is_div (Some e) = is_div e.base

abbrev pub is_path : Option (List ℕ) → Bool
is_path None = false
is_path (Some ls) = true

-- the rule that a part of an effect breaks at a place
abbrev pub refusal : Known → (place part : Effect) → Option Rule
refusal K x effect.Pure = None
refusal K effect.Pure effect.Ghost = Some rule.GhostUse
refusal K effect.Ghost effect.Ghost = None
refusal K effect.Div effect.Ghost = Some rule.GhostUse
refusal K (effect.User E) effect.Ghost = Some rule.GhostUse
refusal K effect.Pure effect.Div = Some rule.NoLift
refusal K effect.Ghost effect.Div = Some rule.NoLift
refusal K effect.Div effect.Div = None
refusal K (effect.User E) effect.Div = if base_is_div (K.effects E) then None else Some rule.NoLift
refusal K (effect.User E) (effect.User D) = if is_path (K.path D E) then None else Some rule.NoLift
refusal K _ (effect.User D) = Some rule.NoLift

abbrev pub refused_by : (place : ℕ) → Option Rule → List Broken
refused_by at None = []
refused_by at (Some r) = breaks r at

abbrev pub refused : Known → (place part : Effect) → (at : ℕ) → List Broken
refused K x e at = refused_by at (refusal K x e)
