-- The sort that a definition's text gives, what answers among the rules that it breaks, and the core text that it is. The first list
-- holds the header's computations.
use Rattle.std.specs.Prelude.{ℕ, zero, suc, true, false, List, [], ◌∷◌, map, Option, Some, None, option_map, slice_get, if◌then◌else◌}
use Rattle.fst_base.specs.declared.place.Pos.{Pos}
use Rattle.fst_base.specs.Sorts.{Srt, plain_sort}
use Rattle.fst_terms.specs.Terms.{Tm, Tms, t_unit, t_end, t_more}
use Rattle.fst_program.specs.declared.effect.Effect.TheVariants as effect
use Rattle.fst_program.specs.declared.comp.Arm.{Arm}
use Rattle.fst_program.specs.declared.definition.DmTerm.{DmTerm}
use Rattle.fst_program.specs.Texts.{Dm, DmArms, d_match, d_run_f, d_run_g, d_end, d_arm}
use Rattle.fst_program.specs.Plain.{plain_dm}
use Rattle.fst_program.specs.LiftPaths.{or_else}
use Rattle.fst_trees.specs.declared.sort.SortTree.{SortTree}
use Rattle.fst_trees.specs.declared.form.Form.{Form}
use Rattle.fst_trees.specs.declared.pattern.ArmTree.{ArmTree}
use Rattle.fst_trees.specs.declared.pattern.ConWord.{ConWord}
use Rattle.fst_trees.specs.declared.definition.DmTree.{DmTree}
use Rattle.fst_names.specs.declared.reference.Ref.{Ref}
use Rattle.fst_names.specs.declared.reference.RefKind.{RefKind}
use Rattle.fst_names.specs.declared.reference.RefKind.TheVariants as kind
use Rattle.fst_names.specs.declared.broken.Broken.{Broken}
use Rattle.fst_names.specs.Broken.{first_broken, least, inner}
use Rattle.fst_names.specs.Namings.{ref_at}
use Rattle.fst_names.specs.Trees as T
use Rattle.fst_names.specs.Trees.{plain_forms, as_part}
use Rattle.fst_effects.specs.declared.wanted.Run.{Run}
use Rattle.fst_effects.specs.Known.{Ctx, Callee, Known, or_unit}
use Rattle.fst_effects.specs.TermSorts.{cores, visible}
use Rattle.fst_effects.specs.TermChecks.{form_core, form_given, giving_breaks, need_of}
use Rattle.fst_effects.specs.Patterns as P
use Rattle.fst_effects.specs.PatternScopes.{fits, pattern_scope}
use Rattle.fst_effects.specs.Scopes.{run_args}
use Rattle.fst_effects.specs.TextSorts.{text_given, arms_given, broken_text, broken_arms, part_place}
use Rattle.fst_effects.specs.Definitions.{known_in_definition, core_dm, core_dm_arms}
use Rattle.fst_effects.specs.WrittenSorts.{note_of}

-- ---- computations

abbrev pub callee_run : Run → Callee
callee_run r = record { args = map visible (run_args r); sort = plain_sort r.sort; effect = effect.Pure }

abbrev pub known_of : List Run → Known
known_of rs = known_in_definition (option_map callee_run (slice_get rs 0)) (option_map callee_run (slice_get rs 1))

-- the computation that a name runs
abbrev pub chosen_run : (f g : Option Run) → RefKind → Option Run
chosen_run f g kind.RunF = f
chosen_run f g kind.RunG = g
chosen_run f g _ = None

abbrev pub run_in : List Run → Ref → Option Run
run_in rs r = chosen_run (slice_get rs 0) (slice_get rs 1) r.kind

-- no function is applied
abbrev pub none_applied : Ref → Option Callee
none_applied r = None

-- ---- the sort that is given

unfoldable pub dm_gives : List Run → Ctx → DmTree Ref → Option Srt
dm_gives rs xs c = text_given (known_of rs) xs (T.plain_dm ref_at c)

unfoldable pub dm_arms_give : List Run → Ctx → Srt → List (ArmTree (DmTree Ref)) → Option Srt
dm_arms_give rs xs S arms = arms_given (known_of rs) xs S (T.plain_dm_arms ref_at arms)

-- an arm gives a sort where its pattern fits
unfoldable pub dm_arm_gives : List Run → Ctx → Srt → ConWord → DmTree Ref → Option Srt
dm_arm_gives rs xs S con c = if fits con S then dm_gives rs (pattern_scope con S xs) c else None

-- the variable of a let
abbrev pub dm_bound_gives : List Run → Ctx → Option (SortTree Ref) → DmTree Ref → Option Srt
dm_bound_gives rs xs s p = or_else (note_of s) (dm_gives rs xs p)

-- ---- broken rules

unfoldable pub dm_breaks : List Run → Ctx → DmTree Ref → (W : Option Srt) → Option Broken
dm_breaks rs xs c W = first_broken (broken_text (known_of rs) effect.Pure false xs (T.plain_dm ref_at c) W)

unfoldable pub dm_arms_break : List Run → Ctx → Srt → List (ArmTree (DmTree Ref)) → (W : Option Srt) → Option Broken
dm_arms_break rs xs S arms W = first_broken (broken_arms (known_of rs) effect.Pure false xs S (T.plain_dm_arms ref_at arms) W)

-- an arm's pattern, at its place, has to fit
unfoldable pub dm_arm_breaks : List Run → Ctx → Srt → Pos → ConWord → DmTree Ref → (W : Option Srt) → Option Broken
dm_arm_breaks rs xs S at con c W = if fits con S then dm_breaks rs (pattern_scope con S xs) c W else need_of at None

-- the place of a text that a let binds
unfoldable pub dm_place : DmTree Ref → Pos
dm_place c = record { at = part_place (as_part (T.plain_dm ref_at c)) }

-- what a let binds has to have a sort, which is this one
abbrev pub dm_bound_breaks : List Run → Ctx → Option (SortTree Ref) → DmTree Ref → (given : Option Srt) → Option Broken
dm_bound_breaks rs xs s p G = inner (dm_breaks rs xs p (note_of s)) (need_of (dm_place p) G)

-- the text behind a let whose variable has this sort: nothing where it has none
abbrev pub dm_rest_where : List Run → Ctx → DmTree Ref → (W : Option Srt) → (bound : Option Srt) → Option Broken
dm_rest_where rs xs c W None = None
dm_rest_where rs xs c W (Some S) = dm_breaks rs (visible S ∷ xs) c W

-- a match of a sort lacks a constructor
unfoldable pub open_of : Pos → Srt → List (ArmTree (DmTree Ref)) → Option Broken
open_of at S arms = first_broken (P.open_match true at.at S (T.plain_dm_arms ref_at arms))

-- a match whose scrutinee gives a sort and breaks this: its arms count where there is a sort, and that it is open where no part of it
-- breaks a rule
abbrev pub dm_match_where : List Run → Ctx → Pos → List (ArmTree (DmTree Ref)) → (W : Option Srt) → (given : Option Srt) → (inside : Option Broken) → Option Broken
dm_match_where rs xs at arms W None o = o
dm_match_where rs xs at arms W (Some S) o = inner (least o (dm_arms_break rs xs S arms W)) (open_of at S arms)

unfoldable pub dm_match_breaks : List Run → Ctx → Pos → Form Ref → List (ArmTree (DmTree Ref)) → (W : Option Srt) → Option Broken
dm_match_breaks rs xs at f arms W = dm_match_where rs xs at arms W (form_given none_applied xs f) (giving_breaks none_applied false xs f)

-- ---- core text

-- the plain trees of arms
abbrev pub made_arms : List (Arm DmTerm) → DmArms
made_arms [] = d_end
made_arms (a ∷ more) = d_arm a.con a.names (plain_dm a.body) (made_arms more)

unfoldable pub dm_core : List Run → Ctx → DmTree Ref → (W : Option Srt) → Dm
dm_core rs xs c W = core_dm (known_of rs) xs (T.plain_dm ref_at c) W

unfoldable pub dm_arms_core : List Run → Ctx → Srt → List (ArmTree (DmTree Ref)) → (W : Option Srt) → DmArms
dm_arms_core rs xs S arms W = core_dm_arms (known_of rs) xs S (T.plain_dm_arms ref_at arms) W

unfoldable pub dm_match_core : List Run → Ctx → Form Ref → List (ArmTree (DmTree Ref)) → (W : Option Srt) → Dm
dm_match_core rs xs f arms W = d_match (form_core none_applied xs f None) (dm_arms_core rs xs (or_unit (form_given none_applied xs f)) arms W)

-- a term of a list, or unit
abbrev pub term_at : Tms → ℕ → Tm
term_at t_end i = t_unit
term_at (t_more t ts) zero = t
term_at (t_more t ts) (suc i) = term_at ts i

-- the argument of this number, where these sorts are wanted of the arguments
unfoldable pub arg_core : Ctx → List (Form Ref) → (Ws : List (Option Srt)) → ℕ → Tm
arg_core xs fs Ws i = term_at (cores none_applied xs (plain_forms fs) Ws) i

-- a run of a computation, whose first is run by f and whose second by g
abbrev pub run_core : RefKind → Ctx → List (Form Ref) → (Ws : List (Option Srt)) → Dm
run_core kind.RunG xs fs Ws = d_run_g (arg_core xs fs Ws 0) (arg_core xs fs Ws 1)
run_core _ xs fs Ws = d_run_f (arg_core xs fs Ws 0)
