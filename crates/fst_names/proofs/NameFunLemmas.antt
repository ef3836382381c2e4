-- Functions with their names looked up, a part of them at a time.
use Rattle.std.proofs.Common.{◌≡◌, ℕ, List, [], ◌∷◌, ◌++◌, map, length, take, get_or, ◌+◌, ◌<◌, None, Some, refl, sym, ap, ◌∙◌, codes}
use Rattle.std.proofs.lemmas.List.{take_more, map-append}
use Rattle.fst_trees.specs.declared.word.Word.{Word}
use Rattle.fst_trees.specs.declared.form.Form.{Form}
use Rattle.fst_trees.specs.declared.decl.ParamTree.{ParamTree}
use Rattle.fst_trees.specs.declared.decl.EffectName.{EffectName}
use Rattle.fst_trees.specs.declared.decl.EffectName.TheVariants as effect
use Rattle.fst_trees.specs.declared.decl.FunTree.{FunTree}
use Rattle.fst_names.specs.declared.reference.Ref.{Ref}
use Rattle.fst_names.specs.Trees.{WForm, WFun, w_fun, f_more, form_row, plain_form, plain_forms, plain_wparam, plain_wfun}
use Rattle.fst_names.specs.Names.{Tables, Names, Globals, Before, own_group, fun_tables, binding, clause_names, named_form, named_forms, named_params, named_effect_name}
use Rattle.fst_names.specs.Namings.{node_named, form_named, forms_named, sort_named, text_named}
use Rattle.fst_names.specs.NamedDeclarations.{WHead, maybe_named, param_named, params_named, effect_name_named, measures_named, head_named, of_head, fun_named}
use Rattle.fst_names.specs.Declarations.{param_names}
use Rattle.fst_names.proofs.CheckFunLemmas.{scope-step, names-plain}

-- ---- a formula, where there is one

pub maybe-None : (T : Tables) (xs : Names) → maybe_named T xs None ≡ None
unfolding maybe_named
maybe-None T xs = refl

pub maybe-Some : (T : Tables) (xs : Names) (f : Form Word) → maybe_named T xs (Some f) ≡ Some (form_named T xs f)
unfolding maybe_named node_named
maybe-Some T xs f = refl

pub ruleset maybes = (maybe-None, maybe-Some)

-- ---- parameters

pub params-none : (T : Tables) → params_named T [] ≡ []
unfolding params_named
params-none T = refl

named-more : (T : Tables) (xs : Names) (ps : List (ParamTree Word)) (p : ParamTree Word)
    → named_params T xs (map plain_wparam (ps ++ p ∷ [])) ≡ named_params T xs (map plain_wparam ps) ++ param_named T (binding (param_names ps) xs) p ∷ []
unfolding sort_named maybe_named
named-more T xs [] p = refl
named-more T xs (q ∷ ps) p = ap (λ rs. param_named T xs q ∷ rs) (named-more T (q.name.text ∷ xs) ps p)

-- the step of a loop over them
pub params-step : (T : Tables) (ps : List (ParamTree Word)) (i : ℕ) (p : ParamTree Word) (qs : List (ParamTree Ref)) (q : ParamTree Ref) → p ≡ get_or ps i p → i < length ps
    → map plain_wparam qs ≡ params_named T (take i ps) → plain_wparam q ≡ param_named T (binding (param_names (take i ps)) []) p
    → map plain_wparam (qs ++ q ∷ []) ≡ params_named T (take (i + 1) ps)
unfolding params_named
params-step T ps i p qs q e h so_far one =
    map-append plain_wparam qs (q ∷ []) ∙ ap (λ rs. rs ++ plain_wparam q ∷ []) so_far ∙ ap (λ r. named_params T [] (map plain_wparam (take i ps)) ++ r ∷ []) one
    ∙ sym (named-more T [] (take i ps) p)
    ∙ ap (λ rs. named_params T [] (map plain_wparam rs)) (ap (λ r. take i ps ++ r ∷ []) e ∙ sym (take_more ps i p h))

pub ruleset params = (scope-step, params-none, params-step)

-- ---- measures

rows-same : (fs gs : List (WForm Ref)) → form_row fs ≡ form_row gs → fs ≡ gs
rows-same [] [] e = refl
rows-same [] (g ∷ gs) e = cc
rows-same (f ∷ fs) [] e = cc
rows-same (f ∷ fs) (g ∷ gs) e =
    let first : f ≡ g = cc in
    let more : form_row fs ≡ form_row gs = cc in
    cc (rows-same fs gs more)

named-row : (T : Tables) (xs : Names) (fs : List (Form Word)) → named_forms T xs (plain_forms fs) ≡ form_row (map (named_form T xs) (map plain_form fs))
named-row T xs [] = refl
named-row T xs (f ∷ fs) = ap (f_more (named_form T xs (plain_form f))) (named-row T xs fs)

pub measures-are : (T : Tables) (xs : Names) (fs : List (Form Word)) (gs : List (Form Ref)) → plain_forms gs ≡ forms_named T xs fs → map plain_form gs ≡ measures_named T xs fs
unfolding measures_named forms_named
measures-are T xs fs gs e = rows-same (map plain_form gs) (map (named_form T xs) (map plain_form fs)) (e ∙ named-row T xs fs)

pub ruleset measures = (measures-are)

-- ---- whole functions

effect-name : (G : Globals) (b : Before) (e : EffectName Word) → named_effect_name G b e ≡ effect_name_named (fun_tables G b) e
effect-name G b effect.Pure = refl
effect-name G b effect.Ghost = refl
effect-name G b effect.Div = refl
effect-name G b (effect.User w) = refl

-- a function with these names of parameters and this effect
abbrev parted : Globals → Before → FunTree Word → List Word → EffectName Ref → WFun Ref
parted G b f ws e =
    let T = fun_tables G b in
    let xs = binding ws [] in
    let head : WHead Ref = record {
      name = f.head.name;
      params = params_named T f.head.params;
      effect = e;
      sort = sort_named T f.head.sort;
      needs = maybe_named T (clause_names f.head.effect xs) f.head.needs;
      gives = maybe_named T (codes "result" ∷ clause_names f.head.effect xs) f.head.gives;
      measures = measures_named T xs f.head.measures;
      unfolds = f.head.«unfold»;
    } in
    of_head head f.joined (text_named T xs f.body)

pub fun-parts : (G : Globals) (b : Before) (f : FunTree Word)
    → fun_named G b f ≡ (let T = fun_tables G (own_group (w_fun (plain_wfun f)) b) in of_head (head_named T f.head) f.joined (text_named T (binding (param_names f.head.params) []) f.body))
unfolding fun_named params_named sort_named maybe_named measures_named text_named
fun-parts G b f =
    let o = own_group (w_fun (plain_wfun f)) b in
    ap (λ ws. parted G o f ws (named_effect_name G o f.head.effect)) (names-plain f.head.params)
    ∙ ap (parted G o f (param_names f.head.params)) (effect-name G o f.head.effect)

pub ruleset funs = (fun-parts)
