-- The names of a pattern in scope, one after the other.
use Rattle.std.specs.Prelude.{Bool, true, false, ◌∷◌, Option, Some, None, option_map, is_some}
use Rattle.fst_base.specs.Sorts.{Srt, s_bool}
use Rattle.fst_trees.specs.declared.pattern.ConWord.{ConWord}
use Rattle.fst_trees.specs.declared.pattern.ConWord.TheVariants as word
use Rattle.fst_effects.specs.Known.{Ctx}
use Rattle.fst_effects.specs.TermSorts.{left_of, right_of, option_of, item_of, inl_of, inr_of, visible}
use Rattle.fst_effects.specs.Patterns.{part_sorts, under}

-- the pattern's constructor is one of the sort
unfoldable pub fits : ConWord → Srt → Bool
fits con S = is_some (part_sorts con S)

-- these variables with those of the pattern's names, where it fits
unfoldable pub pattern_scope : ConWord → Srt → Ctx → Ctx
pattern_scope con S xs = under (part_sorts con S) xs

abbrev pub is_bool : Srt → Bool
is_bool s_bool = true
is_bool _ = false

-- the sorts of its first name and of its second
abbrev pub first_part : ConWord → Srt → Option Srt
first_part word.Full S = option_of S
first_part word.Cons S = item_of S
first_part word.Left S = inl_of S
first_part word.Right S = inr_of S
first_part word.Pair S = left_of S
first_part _ S = None

abbrev pub second_part : ConWord → Srt → Option Srt
second_part word.Cons S = option_map (λ T. S) (item_of S)
second_part word.Pair S = right_of S
second_part _ S = None

-- with one variable more, where there is one
abbrev pub with_part : Option Srt → Ctx → Ctx
with_part None xs = xs
with_part (Some S) xs = visible S ∷ xs
