-- What a declaration of the code is with its names looked up.
use Rattle.std.specs.Prelude.{ℕ, Bool, List, [], ◌∷◌, map, Option, option_map, codes}
use Rattle.fst_trees.specs.declared.word.Word.{Word}
use Rattle.fst_trees.specs.declared.form.Form.{Form}
use Rattle.fst_trees.specs.declared.decl.ParamTree.{ParamTree}
use Rattle.fst_trees.specs.declared.decl.EffectName.{EffectName}
use Rattle.fst_trees.specs.declared.decl.EffectName.TheVariants as effect
use Rattle.fst_trees.specs.declared.decl.HeadTree.{HeadTree}
use Rattle.fst_trees.specs.declared.decl.FunTree.{FunTree}
use Rattle.fst_trees.specs.declared.decl.Decl.{Decl}
use Rattle.fst_names.specs.declared.reference.Ref.{Ref}
use Rattle.fst_names.specs.declared.named.Named.{Named}
use Rattle.fst_names.specs.Trees.{WForm, WSort, WText, WParam, WFun, WDecl, w_fun, word_at, plain_form, plain_wsort, plain_wparam, plain_wfun, plain_decl}
use Rattle.fst_names.specs.Names.{Tables, Names, Globals, Before, start, own_group, binding, clause_names, named_form, named_params, named_fun_decl, named_decl, named_from}
use Rattle.fst_names.specs.Declarations.{param_names}
use Rattle.fst_names.specs.Namings.{sort_named, ref_at}

-- ---- functions

-- a formula, where there is one
unfoldable pub maybe_named : Tables → Names → Option (Form Word) → Option (WForm Ref)
maybe_named T xs f = option_map (named_form T xs) (option_map plain_form f)

-- a parameter, whose refinement sees it before these names
abbrev pub param_named : Tables → Names → ParamTree Word → WParam Ref
param_named T xs p = record { name = p.name; sort = sort_named T p.sort; hidden = p.hidden; refine = maybe_named T (p.name.text ∷ xs) p.refine }

unfoldable pub params_named : Tables → List (ParamTree Word) → List (WParam Ref)
params_named T ps = named_params T [] (map plain_wparam ps)

abbrev pub effect_name_named : Tables → EffectName Word → EffectName Ref
effect_name_named T effect.Pure = effect.Pure
effect_name_named T effect.Ghost = effect.Ghost
effect_name_named T effect.Div = effect.Div
effect_name_named T (effect.User w) = effect.User (T.effect w).reference

unfoldable pub measures_named : Tables → Names → List (Form Word) → List (WForm Ref)
measures_named T xs fs = map (named_form T xs) (map plain_form fs)

-- what stands before a function's body
pub record WHead (R : Type 0) : Type 0 where
  pub name : Word
  pub params : List (WParam R)
  pub effect : EffectName R
  pub sort : WSort R
  pub needs : Option (WForm R)
  pub gives : Option (WForm R)
  pub measures : List (WForm R)
  pub unfolds : ℕ

abbrev pub plain_head : {R : Type 0} → HeadTree R → WHead R
plain_head h = record { name = h.name; params = map plain_wparam h.params; effect = h.effect; sort = plain_wsort h.sort; needs = option_map plain_form h.needs; gives = option_map plain_form h.gives; measures = map plain_form h.measures; unfolds = h.«unfold» }

-- the clauses and the measures see all parameters
abbrev pub head_named : Tables → HeadTree Word → WHead Ref
head_named T h =
    let xs = binding (param_names h.params) [] in
    record {
      name = h.name;
      params = params_named T h.params;
      effect = effect_name_named T h.effect;
      sort = sort_named T h.sort;
      needs = maybe_named T (clause_names h.effect xs) h.needs;
      gives = maybe_named T (codes "result" ∷ clause_names h.effect xs) h.gives;
      measures = measures_named T xs h.measures;
      unfolds = h.«unfold»;
    }

-- a function of a head and a body
abbrev pub of_head : {R : Type 0} → WHead R → (joined : Bool) → WText R → WFun R
of_head h joined c = record { name = h.name; params = h.params; effect = h.effect; sort = h.sort; needs = h.needs; gives = h.gives; measures = h.measures; unfolds = h.unfolds; joined = joined; body = c }

-- a function, of which this much stands before
unfoldable pub fun_named : Globals → Before → FunTree Word → WFun Ref
fun_named G b f = named_fun_decl G (own_group (w_fun (plain_wfun f)) b) (plain_wfun f)

-- ---- programs

unfoldable pub decl_named : Globals → Before → Decl Word → WDecl Ref
decl_named G b d = named_decl G b (plain_decl word_at d)

unfoldable pub decls_named : Globals → List (Decl Word) → List (WDecl Ref)
decls_named G ds = named_from G start (map (plain_decl word_at) ds)

-- the declarations of a program with what its names stand for
abbrev pub decls_in : Named → List (WDecl Ref)
decls_in p = map (plain_decl ref_at) p.decls
