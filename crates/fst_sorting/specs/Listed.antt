-- The functions of a program as the code holds them, and what is due of the code on them.
use Rattle.std.specs.Prelude.{ℕ, Bool, true, List, [], ◌∷◌, ◌++◌, length, map, Option, Some, None, option_map}
use Rattle.std.specs.Borrow.{Bor}
use Rattle.fst_base.specs.declared.place.Pos.{Pos}
use Rattle.fst_base.specs.Sorts.{Srt, s_bool, s_int, s_b, put_sorts}
use Rattle.fst_terms.specs.Terms.{Tm}
use Rattle.fst_program.specs.declared.effect.Effect.{Effect}
use Rattle.fst_program.specs.declared.effect.Effect.TheVariants as effect
use Rattle.fst_program.specs.Texts.{Prm, Fn}
use Rattle.fst_trees.specs.declared.form.Form.{Form}
use Rattle.fst_trees.specs.declared.body.BodyTree.{BodyTree}
use Rattle.fst_trees.specs.declared.body.PartTree.{PartTree}
use Rattle.fst_trees.specs.declared.body.PartNode.{PartNode}
use Rattle.fst_trees.specs.declared.pattern.ArmTree.{ArmTree}
use Rattle.fst_trees.specs.declared.decl.ParamTree.{ParamTree}
use Rattle.fst_trees.specs.declared.decl.HeadTree.{HeadTree}
use Rattle.fst_trees.specs.declared.decl.FunTree.{FunTree}
use Rattle.fst_trees.specs.declared.decl.Decl.{Decl}
use Rattle.fst_names.specs.declared.reference.Ref.{Ref}
use Rattle.fst_names.specs.declared.broken.Broken.{Broken}
use Rattle.fst_names.specs.Broken.{first_broken, least}
use Rattle.fst_names.specs.Names.{each, optional}
use Rattle.fst_names.specs.Namings.{ref_at}
use Rattle.fst_names.specs.Trees.{WFun, WDecl, w_effect, w_lift, w_fun, plain_form, plain_text, plain_part_node, plain_arms, plain_wparam, plain_wfun, plain_decl}
use Rattle.fst_effects.specs.Known.{Callee, Ctx, Entry, EffectSorts, Known}
use Rattle.fst_effects.specs.TermSorts.{broken, core, visible}
use Rattle.fst_sorting.specs.Sites.{written_sort}
use Rattle.fst_sorting.specs.declared.listing.Placed as P
use Rattle.fst_sorting.specs.Functions.{Placed, place_in, funs_of, effect_of, param_entry, called_as, applied_as, callees, part_callees, arm_callees, has_member, no_measure, broken_formula, broken_refinements, core_params, broken_fun, core_fun}

-- ---- functions in order

abbrev pub placed_in : P.Placed → Placed
placed_in p = record { tree = plain_wfun p.tree.now; number = p.number; group = p.group }

abbrev pub all_placed : List P.Placed → List Placed
all_placed = map placed_in

abbrev pub placed_at : Option (Bor P.Placed) → Option Placed
placed_at = option_map (λ p. placed_in p.now)

-- the group of the last function, or this one
abbrev pub last_group : ℕ → List Placed → ℕ
last_group g [] = g
last_group g (f ∷ fs) = last_group f.group fs

-- with a function more
abbrev pub with_fun : List Placed → WFun Ref → List Placed
with_fun fs f = fs ++ record { tree = f; number = length fs; group = place_in f.joined (last_group 0 fs) (length fs) } ∷ []

abbrev pub with_decl : List Placed → Decl Ref → List Placed
with_decl fs d = more (plain_decl ref_at d)
  where
    more : WDecl Ref → List Placed
    more (w_effect e) = fs
    more (w_lift l) = fs
    more (w_fun f) = with_fun fs f

-- the functions of these declarations
unfoldable pub listed : List (Decl Ref) → List Placed
listed ds = funs_of (map (plain_decl ref_at) ds)

-- ---- what is called and applied

unfoldable pub entry_of_param : ParamTree Ref → Entry
entry_of_param p = param_entry (plain_wparam p)

abbrev pub entries_of : List (ParamTree Ref) → List Entry
entries_of = map entry_of_param

unfoldable pub called_of : FunTree Ref → Callee
called_of f = called_as (λ E. None) (plain_wfun f)

unfoldable pub applied_of : (ℕ → Option EffectSorts) → FunTree Ref → Callee
applied_of es f = applied_as es (plain_wfun f)

-- ---- measures

-- a text holds a call of a function of this number that passes
unfoldable pub text_calls : (ℕ → Bool) → BodyTree Ref → Bool
text_calls test c = has_member test (callees (plain_text c))

unfoldable pub part_node_calls : (ℕ → Bool) → Pos → PartNode Ref → Bool
part_node_calls test at n = has_member test (part_callees (plain_part_node at n))

abbrev pub part_calls : (ℕ → Bool) → PartTree Ref → Bool
part_calls test p = part_node_calls test p.at p.node

unfoldable pub arms_call : (ℕ → Bool) → List (ArmTree (BodyTree Ref)) → Bool
arms_call test arms = has_member test (arm_callees (plain_arms arms))

-- ---- functions

-- a formula, where there is one
unfoldable pub maybe_breaks : Known → Ctx → Option (Form Ref) → Option Broken
maybe_breaks K xs f = first_broken (optional (broken_formula K xs) (option_map plain_form f))

unfoldable pub maybe_core : Known → Ctx → Option (Form Ref) → Option Tm
maybe_core K xs f = option_map (λ f. core K.applied xs f (Some s_bool)) (option_map plain_form f)

-- the refinements of parameters
unfoldable pub params_break : Known → List (ParamTree Ref) → Option Broken
params_break K ps = first_broken (broken_refinements K [] (map plain_wparam ps))

unfoldable pub params_core : Known → List (ParamTree Ref) → List Prm
params_core K ps = core_params K [] (map plain_wparam ps)

unfoldable pub measures_break : Known → Ctx → List (Form Ref) → Option Broken
measures_break K xs ms = first_broken (each (λ m. broken K.applied true xs m (Some s_int)) (map plain_form ms))

unfoldable pub measures_core : Known → Ctx → List (Form Ref) → List Tm
measures_core K xs ms = map (λ m. core K.applied xs m (Some s_int)) (map plain_form ms)

unfoldable pub loose_of : Known → List Placed → Placed → Option Broken
loose_of K fs f = first_broken (no_measure K fs f)

unfoldable pub fun_breaks : Known → List Placed → Placed → Option Broken
fun_breaks K fs f = first_broken (broken_fun K fs f)

unfoldable pub funs_break : Known → List Placed → (some : List Placed) → Option Broken
funs_break K fs gs = first_broken (each (broken_fun K fs) gs)

unfoldable pub fun_core : Known → Placed → Fn
fun_core K f = core_fun K [] f

-- ---- the effect of a function's results

-- the effect that the results of a function come through: none where it has a base effect
abbrev pub own_effect : (ℕ → Option EffectSorts) → Effect → Option EffectSorts
own_effect es (effect.User E) = es E
own_effect es _ = None

abbrev pub with_results : Option EffectSorts → Srt → Srt
with_results None S = S
with_results (Some e) S = put_sorts S s_b e.result

-- the input in scope, where there is one
abbrev pub with_input : Option EffectSorts → Ctx → Ctx
with_input None xs = xs
with_input (Some e) xs = visible e.input ∷ xs

-- the sort of a function's results
abbrev pub head_results : (ℕ → Option EffectSorts) → HeadTree Ref → Srt
head_results es h = with_results (own_effect es (effect_of h.effect)) (written_sort h.sort)

-- ---- heads

-- requires and ensures, where the results come through this effect and have this sort
abbrev pub clauses_break : Known → (own : Option EffectSorts) → (results : Srt) → Ctx → HeadTree Ref → Option Broken
clauses_break K o R xs h = least (maybe_breaks K (with_input o xs) h.needs) (maybe_breaks K (visible R ∷ with_input o xs) h.gives)

-- a parameter, over the parameters before it
abbrev pub param_breaks : Known → Ctx → ParamTree Ref → Option Broken
param_breaks K xs p = maybe_breaks K (entry_of_param p ∷ xs) p.refine

unfoldable pub param_core : Known → Ctx → ParamTree Ref → Prm
param_core K xs p = record { name = p.name.text; sort = written_sort p.sort; hidden = p.hidden; refine = maybe_core K (entry_of_param p ∷ xs) p.refine }
