-- What answers among the rules on names that a tree of the code breaks.
use Rattle.std.specs.Prelude.{ℕ, not, List, [], map, Option, option_map}
use Rattle.fst_base.specs.declared.rule.Rule.TheVariants as rule
use Rattle.fst_trees.specs.declared.sort.SortTree.{SortTree}
use Rattle.fst_trees.specs.declared.pattern.ArmTree.{ArmTree}
use Rattle.fst_trees.specs.declared.body.BodyTree.{BodyTree}
use Rattle.fst_trees.specs.declared.definition.DmTree.{DmTree}
use Rattle.fst_trees.specs.declared.body.PartTree.{PartTree}
use Rattle.fst_trees.specs.declared.body.PartNode.{PartNode}
use Rattle.fst_trees.specs.declared.word.Word.{Word}
use Rattle.fst_base.specs.declared.place.Pos.{Pos}
use Rattle.fst_trees.specs.declared.form.Form.{Form}
use Rattle.fst_trees.specs.declared.form.FormNode.{FormNode}
use Rattle.fst_names.specs.declared.broken.Broken.{Broken}
use Rattle.fst_names.specs.Broken.{first_broken, least, inner, breaks}
use Rattle.fst_names.specs.declared.tables.Called.{Called}
use Rattle.fst_names.specs.Trees.{plain_node, plain_forms, plain_wsort, plain_text, plain_part_node, plain_arms, word_at, plain_dm, plain_dm_arms}
use Rattle.fst_names.specs.Names.{Tables, Names, broken_form, broken_forms, broken_count, listed, broken_sort, broken_note, broken_text, broken_part, broken_arms, broken_words, has_con, unless}

unfoldable pub node_breaks : Tables → Names → Pos → FormNode Word → Option Broken
node_breaks T xs at n = first_broken (broken_form T xs (plain_node at n))

abbrev pub form_breaks : Tables → Names → Form Word → Option Broken
form_breaks T xs f = node_breaks T xs f.at f.node

unfoldable pub forms_break : Tables → Names → List (Form Word) → Option Broken
forms_break T xs fs = first_broken (broken_forms T xs (plain_forms fs))

-- at a called name with this many arguments, which break this
unfoldable pub call_breaks : Called → (count : ℕ) → Word → (args : Option Broken) → Option Broken
call_breaks u n w args = least (first_broken (listed u.broken)) (inner args (first_broken (broken_count u.arity n w)))

unfoldable pub sort_breaks : Tables → SortTree Word → Option Broken
sort_breaks T s = first_broken (broken_sort T (plain_wsort s))

unfoldable pub note_breaks : Tables → Option (SortTree Word) → Option Broken
note_breaks T s = first_broken (broken_note T (option_map plain_wsort s))

unfoldable pub text_breaks : Tables → Names → BodyTree Word → Option Broken
text_breaks T xs c = first_broken (broken_text T xs (plain_text c))

unfoldable pub part_node_breaks : Tables → Names → Pos → PartNode Word → Option Broken
part_node_breaks T xs at n = first_broken (broken_part T xs (plain_part_node at n))

abbrev pub part_breaks : Tables → Names → PartTree Word → Option Broken
part_breaks T xs p = part_node_breaks T xs p.at p.node

-- the arms behind those with these constructors
unfoldable pub arms_break : Tables → Names → List (ArmTree (BodyTree Word)) → Option Broken
arms_break T xs arms = first_broken (broken_arms T xs [] (plain_arms arms))

-- what an arm breaks by itself, behind these
unfoldable pub pattern_breaks : {A : Type 0} → (before : List (ArmTree A)) → ArmTree A → Option Broken
pattern_breaks before a = least (first_broken (unless (not (has_con a.con (map (λ b. b.con) before))) (breaks rule.Twice a.at.at))) (first_broken (broken_words [] a.names))

-- the text of a definition
unfoldable pub dm_breaks : Tables → Names → DmTree Word → Option Broken
dm_breaks T xs c = first_broken (broken_text T xs (plain_dm word_at c))

-- its arms behind those with these constructors
unfoldable pub dm_arms_break : Tables → Names → List (ArmTree (DmTree Word)) → Option Broken
dm_arms_break T xs arms = first_broken (broken_arms T xs [] (plain_dm_arms word_at arms))
