-- The sort that a body of the code gives, what answers among the rules that it breaks, and the core text that it is.
use Rattle.std.specs.Prelude.{Bool, true, false, ◌||◌, List, [], ◌∷◌, Option, Some, None, if◌then◌else◌}
use Rattle.fst_base.specs.declared.place.Pos.{Pos}
use Rattle.fst_base.specs.Sorts.{Srt}
use Rattle.fst_program.specs.declared.effect.Effect.{Effect}
use Rattle.fst_program.specs.declared.comp.Arm.{Arm}
use Rattle.fst_program.specs.declared.comp.Comp.{Comp}
use Rattle.fst_program.specs.Plain.{plain_comp}
use Rattle.fst_program.specs.Texts.{Cm, CmArms, c_end, c_arm}
use Rattle.fst_program.specs.LiftPaths.{or_else}
use Rattle.fst_trees.specs.declared.form.Form.{Form}
use Rattle.fst_trees.specs.declared.sort.SortTree.{SortTree}
use Rattle.fst_trees.specs.declared.pattern.ArmTree.{ArmTree}
use Rattle.fst_trees.specs.declared.pattern.ConWord.{ConWord}
use Rattle.fst_trees.specs.declared.body.BodyTree.{BodyTree}
use Rattle.fst_trees.specs.declared.body.PartTree.{PartTree}
use Rattle.fst_trees.specs.declared.body.PartNode.{PartNode}
use Rattle.fst_names.specs.declared.reference.Ref.{Ref}
use Rattle.fst_names.specs.declared.broken.Broken.{Broken}
use Rattle.fst_names.specs.Broken.{first_broken, least, inner}
use Rattle.fst_names.specs.Trees.{WPart, p_block, plain_text, plain_part, plain_part_node, plain_arms, plain_forms}
use Rattle.fst_effects.specs.Known.{Ctx, Entry, Known}
use Rattle.fst_effects.specs.PatternScopes.{fits, pattern_scope}
use Rattle.fst_effects.specs.TextSorts as T
use Rattle.fst_effects.specs.TextSorts.{entry, bound_place}
use Rattle.fst_effects.specs.TermChecks.{form_breaks, need_of}
use Rattle.fst_sorting.specs.CoreTexts.{core_text, core_part, core_arms, tail_of}
use Rattle.fst_sorting.specs.Sites.{note_of}

-- ---- the sort that is given

unfoldable pub text_gives : Known → Ctx → BodyTree Ref → Option Srt
text_gives K xs c = T.text_given K xs (plain_text c)

unfoldable pub part_node_gives : Known → Ctx → Pos → PartNode Ref → Option Srt
part_node_gives K xs at n = T.part_given K xs (plain_part_node at n)

abbrev pub part_gives : Known → Ctx → PartTree Ref → Option Srt
part_gives K xs p = part_node_gives K xs p.at p.node

unfoldable pub arms_give : Known → Ctx → Srt → List (ArmTree (BodyTree Ref)) → Option Srt
arms_give K xs S arms = T.arms_given K xs S (plain_arms arms)

-- an arm gives a sort where its pattern fits
unfoldable pub arm_gives : Known → Ctx → Srt → ConWord → BodyTree Ref → Option Srt
arm_gives K xs S con c = if fits con S then text_gives K (pattern_scope con S xs) c else None

-- the variable of a let
unfoldable pub bound_gives : Known → Ctx → Option (SortTree Ref) → PartTree Ref → Option Srt
bound_gives K xs s p = or_else (note_of s) (part_gives K xs p)

-- ---- broken rules: the effect of the place, whether ghost variables may stand there, and the sort that is wanted

unfoldable pub text_breaks : Known → Effect → (ghost : Bool) → Ctx → BodyTree Ref → (W : Option Srt) → Option Broken
text_breaks K x gh xs c W = first_broken (T.broken_text K x gh xs (plain_text c) W)

unfoldable pub part_node_breaks : Known → Effect → (ghost : Bool) → Ctx → Pos → PartNode Ref → (W : Option Srt) → Option Broken
part_node_breaks K x gh xs at n W = first_broken (T.broken_part K x gh xs (plain_part_node at n) W)

abbrev pub part_breaks : Known → Effect → (ghost : Bool) → Ctx → PartTree Ref → (W : Option Srt) → Option Broken
part_breaks K x gh xs p W = part_node_breaks K x gh xs p.at p.node W

unfoldable pub args_break : Known → (ghost : Bool) → Ctx → List (Form Ref) → List Entry → Option Broken
args_break K gh xs fs args = first_broken (T.broken_args K gh xs (plain_forms fs) args)

-- one argument; a ghost one stands in a ghost place
abbrev pub arg_breaks : Known → (ghost : Bool) → Ctx → Form Ref → Option Entry → Option Broken
arg_breaks K gh xs f None = form_breaks K.applied gh xs f None
arg_breaks K gh xs f (Some a) = form_breaks K.applied (gh || a.hidden) xs f (Some a.sort)

unfoldable pub arms_break : Known → Effect → (ghost : Bool) → Ctx → Srt → List (ArmTree (BodyTree Ref)) → (W : Option Srt) → Option Broken
arms_break K x gh xs S arms W = first_broken (T.broken_arms K x gh xs S (plain_arms arms) W)

-- an arm's pattern has to fit
unfoldable pub arm_breaks : Known → Effect → (ghost : Bool) → Ctx → Srt → Pos → ConWord → BodyTree Ref → (W : Option Srt) → Option Broken
arm_breaks K x gh xs S at con c W = if fits con S then text_breaks K x gh (pattern_scope con S xs) c W else need_of at None

-- what a let binds at its place has to have a sort, which is this one
unfoldable pub bound_breaks : Known → Effect → (ghost : Bool) → Ctx → Option (SortTree Ref) → PartTree Ref → (given : Option Srt) → Option Broken
bound_breaks K x gh xs s p G = inner (part_breaks K x gh xs p (note_of s)) (need_of p.at G)

-- the text behind a let whose variable has this sort: nothing where it has none
unfoldable pub rest_where : Known → Effect → (ghost hidden : Bool) → Ctx → BodyTree Ref → (W : Option Srt) → (bound : Option Srt) → Option Broken
rest_where K x gh hidden xs c W None = None
rest_where K x gh hidden xs c W (Some S) = text_breaks K x gh (entry hidden S ∷ xs) c W

abbrev pub let_breaks : Known → Effect → (ghost hidden : Bool) → Ctx → Option (SortTree Ref) → PartTree Ref → BodyTree Ref → (W : Option Srt) → Option Broken
let_breaks K x gh hidden xs s p c W =
    least (bound_breaks K (bound_place hidden x) (gh || hidden) xs s p (bound_gives K xs s p)) (rest_where K x gh hidden xs c W (bound_gives K xs s p))

-- the arms of a match of this sort: nothing where it has none
abbrev pub arms_where : Known → Effect → (ghost : Bool) → Ctx → List (ArmTree (BodyTree Ref)) → (W : Option Srt) → (given : Option Srt) → Option Broken
arms_where K x gh xs arms W None = None
arms_where K x gh xs arms W (Some S) = arms_break K x gh xs S arms W

-- ---- core text

-- the plain trees of arms
abbrev pub made_arms : List (Arm Comp) → CmArms
made_arms [] = c_end
made_arms (b ∷ bs) = c_arm b.con b.names (plain_comp b.body) (made_arms bs)

unfoldable pub text_core : Known → Effect → Ctx → BodyTree Ref → (W : Option Srt) → Cm
text_core K x xs c W = core_text K x xs (plain_text c) W

unfoldable pub part_node_core : Known → Effect → Ctx → Pos → PartNode Ref → (W : Option Srt) → Cm
part_node_core K x xs at n W = core_part K x xs (plain_part_node at n) W

abbrev pub part_core : Known → Effect → Ctx → PartTree Ref → (W : Option Srt) → Cm
part_core K x xs p W = part_node_core K x xs p.at p.node W

unfoldable pub arms_core : Known → Effect → Ctx → Srt → List (ArmTree (BodyTree Ref)) → (W : Option Srt) → CmArms
arms_core K x xs S arms W = core_arms K x xs S (plain_arms arms) W

-- the effect of a part at a place
unfoldable pub node_effect : Known → (place : Effect) → Pos → PartNode Ref → Effect
node_effect K x at n = T.part_effect K x (plain_part_node at n)

abbrev pub part_effect : Known → (place : Effect) → PartTree Ref → Effect
part_effect K x p = node_effect K x p.at p.node

abbrev pub is_block_part : WPart Ref → Bool
is_block_part (p_block at c) = true
is_block_part _ = false

unfoldable pub node_is_block : Pos → PartNode Ref → Bool
node_is_block at n = is_block_part (plain_part_node at n)

abbrev pub is_block : PartTree Ref → Bool
is_block p = node_is_block p.at p.node

-- a part that is a tail
unfoldable pub tail_core : Known → Effect → Ctx → PartTree Ref → (W : Option Srt) → Cm
tail_core K x xs p W = tail_of K x (plain_part p) (part_core K x xs p W)
