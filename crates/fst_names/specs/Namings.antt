-- What a tree of the code is with its names looked up.
use Rattle.std.specs.Prelude.{ℕ, List, Option, option_map}
use Rattle.fst_base.specs.declared.place.Pos.{Pos}
use Rattle.fst_trees.specs.declared.word.Word.{Word}
use Rattle.fst_trees.specs.declared.sort.SortTree.{SortTree}
use Rattle.fst_trees.specs.declared.form.Form.{Form}
use Rattle.fst_trees.specs.declared.form.FormNode.{FormNode}
use Rattle.fst_trees.specs.declared.pattern.ArmTree.{ArmTree}
use Rattle.fst_trees.specs.declared.body.BodyTree.{BodyTree}
use Rattle.fst_trees.specs.declared.body.PartTree.{PartTree}
use Rattle.fst_trees.specs.declared.body.PartNode.{PartNode}
use Rattle.fst_trees.specs.declared.definition.DmTree.{DmTree}
use Rattle.fst_trees.specs.declared.decl.EffectTree.{EffectTree}
use Rattle.fst_trees.specs.declared.decl.LiftTree.{LiftTree}
use Rattle.fst_names.specs.declared.reference.Ref.{Ref}
use Rattle.fst_names.specs.Trees.{WForm, WForms, WSort, WText, WPart, WArms, WEffect, WLift, plain_node, plain_forms, plain_wsort, plain_text, plain_part_node, plain_arms, plain_dm, plain_dm_arms, plain_weffect, plain_wlift, word_at}
use Rattle.fst_names.specs.Names.{Tables, Names, named_form, named_forms, named_sort, named_text, named_part, named_arms, Globals, Before, named_effect_decl, named_lift_decl}

unfoldable pub node_named : Tables → Names → Pos → FormNode Word → WForm Ref
node_named T xs at n = named_form T xs (plain_node at n)

abbrev pub form_named : Tables → Names → Form Word → WForm Ref
form_named T xs f = node_named T xs f.at f.node

unfoldable pub forms_named : Tables → Names → List (Form Word) → WForms Ref
forms_named T xs fs = named_forms T xs (plain_forms fs)

unfoldable pub sort_named : Tables → SortTree Word → WSort Ref
sort_named T s = named_sort T (plain_wsort s)

unfoldable pub note_named : Tables → Option (SortTree Word) → Option (WSort Ref)
note_named T s = option_map (named_sort T) (option_map plain_wsort s)

unfoldable pub text_named : Tables → Names → BodyTree Word → WText Ref
text_named T xs c = named_text T xs (plain_text c)

unfoldable pub part_node_named : Tables → Names → Pos → PartNode Word → WPart Ref
part_node_named T xs at n = named_part T xs (plain_part_node at n)

abbrev pub part_named : Tables → Names → PartTree Word → WPart Ref
part_named T xs p = part_node_named T xs p.at p.node

unfoldable pub arms_named : Tables → Names → List (ArmTree (BodyTree Word)) → WArms Ref
arms_named T xs arms = named_arms T xs (plain_arms arms)

-- the place of a use of a name
abbrev pub ref_at : Ref → ℕ
ref_at r = r.at.at

-- the text of a definition
unfoldable pub dm_named : Tables → Names → DmTree Word → WText Ref
dm_named T xs c = named_text T xs (plain_dm word_at c)

unfoldable pub dm_arms_named : Tables → Names → List (ArmTree (DmTree Word)) → WArms Ref
dm_arms_named T xs arms = named_arms T xs (plain_dm_arms word_at arms)

-- an effect and a lift, of which this much stands before
unfoldable pub effect_named : Globals → Before → EffectTree Word → WEffect Ref
effect_named G b e = named_effect_decl G b (plain_weffect word_at e)

unfoldable pub lift_named : Globals → Before → LiftTree Word → WLift Ref
lift_named G b l = named_lift_decl G b (plain_wlift word_at l)
