-- What answers among the rules on names that a declaration of the code breaks.
use Rattle.std.specs.Prelude.{List, [], ◌∷◌, ◌++◌, map, length, Option, None, option_map, codes}
use Rattle.fst_trees.specs.declared.word.Word.{Word}
use Rattle.fst_trees.specs.declared.form.Form.{Form}
use Rattle.fst_trees.specs.declared.definition.DmTree.{DmTree}
use Rattle.fst_trees.specs.declared.decl.ParamTree.{ParamTree}
use Rattle.fst_trees.specs.declared.decl.EffectName.{EffectName}
use Rattle.fst_trees.specs.declared.decl.EffectName.TheVariants as effect
use Rattle.fst_trees.specs.declared.decl.HeadTree.{HeadTree}
use Rattle.fst_trees.specs.declared.decl.FunTree.{FunTree}
use Rattle.fst_trees.specs.declared.decl.EffectTree.{EffectTree}
use Rattle.fst_trees.specs.declared.decl.LiftTree.{LiftTree}
use Rattle.fst_trees.specs.declared.decl.RawProgram.{RawProgram}
use Rattle.fst_trees.specs.declared.decl.Decl.{Decl}
use Rattle.fst_trees.specs.declared.decl.Decl.TheVariants as decl
use Rattle.fst_names.specs.declared.broken.Broken.{Broken}
use Rattle.fst_names.specs.Broken.{first_broken, least}
use Rattle.fst_names.specs.Trees.{WDecl, w_fun, word_at, plain_form, plain_wparam, plain_wfun, plain_weffect, plain_wlift, plain_decl}
use Rattle.fst_names.specs.Names.{Tables, Names, Globals, Before, group_of, start, after, globals, optional, binding, clause_names, runs_of, input_of, own_group, definition_tables, broken_form, broken_params, broken_words, broken_fun_word, broken_effect_word, broken_fun_decl, broken_effect_decl, broken_lift_decl, broken_decl, broken_from}
use Rattle.fst_names.specs.Checks.{sort_breaks, forms_break, dm_breaks}

-- ---- functions

abbrev pub param_names : List (ParamTree Word) → List Word
param_names ps = map (λ p. p.name) ps

-- the name of a function
unfoldable pub fun_word_breaks : Globals → Before → Word → Option Broken
fun_word_breaks G b w = first_broken (broken_fun_word G b w)

-- a formula, where there is one
unfoldable pub maybe_breaks : Tables → Names → Option (Form Word) → Option Broken
maybe_breaks T xs f = first_broken (optional (broken_form T xs) (option_map plain_form f))

-- the sorts and the refinements of parameters
unfoldable pub params_break : Tables → List (ParamTree Word) → Option Broken
params_break T ps = first_broken (broken_params T [] (map plain_wparam ps))

abbrev pub effect_name_breaks : Tables → EffectName Word → Option Broken
effect_name_breaks T effect.Pure = None
effect_name_breaks T effect.Ghost = None
effect_name_breaks T effect.Div = None
effect_name_breaks T (effect.User w) = (T.effect w).broken

-- requires and ensures, over the names that requires sees
abbrev pub clauses_break : Tables → Names → HeadTree Word → Option Broken
clauses_break T xs h = least (maybe_breaks T xs h.needs) (maybe_breaks T (codes "result" ∷ xs) h.gives)

-- what stands between the parameters and the body, over the names of the parameters
abbrev pub head_breaks : Tables → Names → HeadTree Word → Option Broken
head_breaks T xs h = least (least (least (effect_name_breaks T h.effect) (sort_breaks T h.sort)) (clauses_break T (clause_names h.effect xs) h)) (forms_break T xs h.measures)

-- a function, of which this much stands before
unfoldable pub fun_breaks : Globals → Before → FunTree Word → Option Broken
fun_breaks G b f = first_broken (broken_fun_decl G (own_group (w_fun (plain_wfun f)) b) (plain_wfun f))

-- ---- effects and lifts

-- the name of an effect
unfoldable pub effect_word_breaks : Globals → Before → Word → Option Broken
effect_word_breaks G b w = first_broken (broken_effect_word G b w)

-- the names and the text of a return
abbrev pub return_breaks : Globals → Before → List Word → DmTree Word → Option Broken
return_breaks G b ws c = least (first_broken (broken_words [] ws)) (dm_breaks (definition_tables G b []) (binding ws []) c)

-- the names and the text of a bind or a lift
abbrev pub bind_breaks : Globals → Before → List Word → DmTree Word → Option Broken
bind_breaks G b ws c = least (first_broken (broken_words [] ws)) (dm_breaks (definition_tables G b (runs_of ws)) (input_of ws) c)

unfoldable pub effect_breaks : Globals → Before → EffectTree Word → Option Broken
effect_breaks G b e = first_broken (broken_effect_decl G b (plain_weffect word_at e))

unfoldable pub lift_breaks : Globals → Before → LiftTree Word → Option Broken
lift_breaks G b l = first_broken (broken_lift_decl G b (plain_wlift word_at l))

-- ---- programs

unfoldable pub decl_breaks : Globals → Before → Decl Word → Option Broken
decl_breaks G b d = first_broken (broken_decl G b (plain_decl word_at d))

unfoldable pub decls_break : Globals → List (Decl Word) → Option Broken
decls_break G ds = first_broken (broken_from G start (map (plain_decl word_at) ds))

-- with one more declaration behind them, of which this much stands before
abbrev pub with_decl : Globals → Before → Decl Word → Globals
with_decl G b (decl.Effect e) = record { funs = G.funs; effects = G.effects ++ e.name.text ∷ [] }
with_decl G b (decl.Lift l) = G
with_decl G b (decl.Fun f) = record { funs = G.funs ++ record { name = f.head.name.text; arity = length f.head.params; group = group_of f.joined b } ∷ []; effects = G.effects }

-- all functions and effects of these
unfoldable pub all_of : List (Decl Word) → Globals
all_of ds = globals (map (plain_decl word_at) ds)

-- how much stands behind these, where this much stands before them
abbrev pub behind : Before → List (WDecl Word) → Before
behind b [] = b
behind b (d ∷ ds) = behind (after b d) ds

-- how much these are
unfoldable pub count_of : List (Decl Word) → Before
count_of ds = behind start (map (plain_decl word_at) ds)

-- the declarations of a program
abbrev pub decls_of : RawProgram → List (WDecl Word)
decls_of p = map (plain_decl word_at) p.decls
