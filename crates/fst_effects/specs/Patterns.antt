-- Patterns: the sorts of their names, and the constructors that a match lacks.
use Rattle.std.specs.Prelude.{ℕ, Bool, false, not, ◌&&◌, ◌||◌, List, [], ◌∷◌, ◌++◌, map, Option, Some, None, if◌then◌else◌}
use Rattle.fst_base.specs.declared.rule.Rule.TheVariants as rule
use Rattle.fst_base.specs.Sorts.{Srt, s_bool, s_pair, s_opt, s_list, s_either}
use Rattle.fst_trees.specs.declared.pattern.ConWord.{ConWord}
use Rattle.fst_trees.specs.declared.pattern.ConWord.TheVariants as word
use Rattle.fst_program.specs.declared.comp.Con.{Con}
use Rattle.fst_program.specs.declared.comp.Con.TheVariants as con
use Rattle.fst_names.specs.declared.reference.Ref.{Ref}
use Rattle.fst_names.specs.declared.broken.Broken.{Broken}
use Rattle.fst_names.specs.Broken.{breaks}
use Rattle.fst_names.specs.Names.{has_con}
use Rattle.fst_names.specs.Trees.{WArms, x_end, x_arm}
use Rattle.fst_effects.specs.Known.{Ctx}
use Rattle.fst_effects.specs.TermSorts.{visible}

-- the sorts of the names of a pattern, the last first, where its constructor is one of the sort
abbrev pub part_sorts : ConWord → Srt → Option (List Srt)
part_sorts word.True s_bool = Some []
part_sorts word.False s_bool = Some []
part_sorts word.Empty (s_opt S) = Some []
part_sorts word.Full (s_opt S) = Some (S ∷ [])
part_sorts word.Nil (s_list S) = Some []
part_sorts word.Cons (s_list S) = Some (s_list S ∷ S ∷ [])
part_sorts word.Left (s_either S T) = Some (S ∷ [])
part_sorts word.Right (s_either S T) = Some (T ∷ [])
part_sorts word.Pair (s_pair S T) = Some (T ∷ S ∷ [])
part_sorts _ _ = None

-- the constructors of a sort
abbrev pub constructors : Srt → List ConWord
constructors s_bool = word.True ∷ word.False ∷ []
constructors (s_opt S) = word.Empty ∷ word.Full ∷ []
constructors (s_list S) = word.Nil ∷ word.Cons ∷ []
constructors (s_either S T) = word.Left ∷ word.Right ∷ []
constructors (s_pair S T) = word.Pair ∷ []
constructors _ = []

abbrev pub cons_of : WArms Ref → List ConWord
cons_of x_end = []
cons_of (x_arm at con ws c more) = con ∷ cons_of more

abbrev pub lacks_one : List ConWord → List ConWord → Bool
lacks_one [] had = false
lacks_one (k ∷ ks) had = not (has_con k had) || lacks_one ks had

-- a match lacks a constructor where it has to have each
abbrev pub open_match : (complete : Bool) → (place : ℕ) → Srt → WArms Ref → List Broken
open_match complete at S arms = if complete && lacks_one (constructors S) (cons_of arms) then breaks rule.OpenMatch at else []

abbrev pub core_con : ConWord → Con
core_con word.True = con.True
core_con word.False = con.False
core_con word.Empty = con.Empty
core_con word.Full = con.Full
core_con word.Nil = con.Nil
core_con word.Cons = con.Cons
core_con word.Left = con.Left
core_con word.Right = con.Right
core_con word.Pair = con.Pair

abbrev pub under : Option (List Srt) → Ctx → Ctx
under None xs = xs
under (Some Ss) xs = map visible Ss ++ xs

-- goes on with the sorts of a pattern's names, where it fits
abbrev pub fits_pattern : Option (List Srt) → (List Srt → Option Srt) → Option Srt
fits_pattern None k = None
fits_pattern (Some Ss) k = k Ss

abbrev pub in_pattern : (place : ℕ) → Option (List Srt) → (List Srt → List Broken) → List Broken
in_pattern at None k = breaks rule.SortClash at
in_pattern at (Some Ss) k = k Ss
