-- Sorts as they are written, with their names looked up.
use Rattle.std.specs.Prelude.{Bool, Option, option_map}
use Rattle.fst_base.specs.Sorts.{Srt}
use Rattle.fst_trees.specs.declared.sort.SortTree.{SortTree}
use Rattle.fst_names.specs.declared.reference.Ref.{Ref}
use Rattle.fst_names.specs.declared.broken.Broken.{Broken}
use Rattle.fst_names.specs.Broken.{first_broken}
use Rattle.fst_names.specs.Trees.{plain_wsort}
use Rattle.fst_effects.specs.Known.{sort_of}
use Rattle.fst_effects.specs.TextSorts.{noted}
use Rattle.fst_effects.specs.Definitions.{broken_shape}

unfoldable pub written_sort : SortTree Ref → Srt
written_sort s = sort_of (plain_wsort s)

-- the sort that is written before one that is given
unfoldable pub note_of : Option (SortTree Ref) → Option Srt
note_of s = noted (option_map plain_wsort s)

-- a sort of an effect's header, which may hold a or not
unfoldable pub shape_breaks : (a_too : Bool) → SortTree Ref → Option Broken
shape_breaks a_too s = first_broken (broken_shape a_too (plain_wsort s))
