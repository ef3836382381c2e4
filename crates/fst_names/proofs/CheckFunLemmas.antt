-- What answers among the rules that a function breaks, a part of it at a time.
use Rattle.std.proofs.Common.{◌≡◌, ℕ, List, [], ◌∷◌, ◌++◌, map, length, take, get_or, ◌+◌, ◌<◌, Option, None, Some, refl, sym, ap, ◌∙◌, append_assoc, codes}
use Rattle.std.specs.Prelude.{not, ◌||◌, nat_lt, option_map}
use Rattle.std.proofs.lemmas.List.{append-nil, take_more, map-append}
use Rattle.fst_base.specs.declared.rule.Rule.TheVariants as rule
use Rattle.fst_trees.specs.declared.word.Word.{Word}
use Rattle.fst_trees.specs.declared.form.Form.{Form}
use Rattle.fst_trees.specs.declared.decl.ParamTree.{ParamTree}
use Rattle.fst_trees.specs.declared.decl.EffectName.{EffectName}
use Rattle.fst_trees.specs.declared.decl.EffectName.TheVariants as effect
use Rattle.fst_trees.specs.declared.decl.FunTree.{FunTree}
use Rattle.fst_names.specs.declared.broken.Broken.{Broken}
use Rattle.fst_names.specs.Broken.{first_broken, least, breaks}
use Rattle.fst_names.specs.Trees.{WParam, w_fun, plain_wsort, plain_form, plain_forms, plain_wparam, plain_wfun, plain_text}
use Rattle.fst_names.specs.Names.{Tables, Names, Globals, Before, own_group, fun_tables, binding, is_among, is_blank, unless, optional, each, clause_names, broken_form, broken_forms, broken_sort, broken_text, broken_words, broken_params, broken_effect_name, broken_fun_word, named_effect, is_before, fun_from}
use Rattle.fst_names.specs.Checks.{node_breaks, form_breaks, forms_break, sort_breaks, text_breaks}
use Rattle.fst_names.specs.Declarations.{param_names, fun_word_breaks, maybe_breaks, params_break, effect_name_breaks, clauses_break, head_breaks, fun_breaks}
use Rattle.fst_names.proofs.CheckTextLemmas.{two, listed-first}
use Rattle.fst_names.proofs.WordLemmas.{words-more, binding-more}
use Rattle.fst_names.proofs.SeveralLemmas.{in_fun}

-- ---- the name

pub fun-word : (G : Globals) (b : Before) (w : Word)
    → fun_word_breaks G b w ≡ least (first_broken (unless (not (is_before b.funs (option_map (λ p. p.0) (fun_from 0 w.text G.funs)))) (breaks rule.Twice w.at.at))) (first_broken (unless (nat_lt b.funs 1000) (breaks rule.TooMany w.at.at)))
unfolding fun_word_breaks
fun-word G b w = two (unless (not (is_before b.funs (option_map (λ p. p.0) (fun_from 0 w.text G.funs)))) (breaks rule.Twice w.at.at)) (unless (nat_lt b.funs 1000) (breaks rule.TooMany w.at.at))

pub ruleset words = (fun-word)

-- ---- a formula, where there is one

pub maybe-None : (T : Tables) (xs : Names) → maybe_breaks T xs None ≡ None
unfolding maybe_breaks
maybe-None T xs = refl

pub maybe-Some : (T : Tables) (xs : Names) (f : Form Word) → maybe_breaks T xs (Some f) ≡ form_breaks T xs f
unfolding maybe_breaks node_breaks
maybe-Some T xs f = refl

pub ruleset maybes = (maybe-None, maybe-Some)

-- ---- parameters

names-more : (ps : List (ParamTree Word)) (i : ℕ) (p : ParamTree Word) → p ≡ get_or ps i p → i < length ps → param_names (take (i + 1) ps) ≡ param_names (take i ps) ++ p.name ∷ []
names-more ps i p e h = ap param_names (take_more ps i p h ∙ ap (λ q. take i ps ++ q ∷ []) (sym e)) ∙ map-append (λ (q : ParamTree Word). q.name) (take i ps) (p ∷ [])

pub scope-step : (ps : List (ParamTree Word)) (i : ℕ) (p : ParamTree Word) → p ≡ get_or ps i p → i < length ps
    → binding (param_names (take (i + 1) ps)) [] ≡ p.name.text ∷ binding (param_names (take i ps)) []
scope-step ps i p e h = ap (λ ws. binding ws []) (names-more ps i p e h) ∙ binding-more (param_names (take i ps)) p.name []

abbrev own : (met : Names) → Word → List Broken
own met w = unless (is_blank w.text || not (is_among w.text met)) (breaks rule.Twice w.at.at)

pub twice-step : (ps : List (ParamTree Word)) (i : ℕ) (p : ParamTree Word) → p ≡ get_or ps i p → i < length ps
    → first_broken (broken_words [] (param_names (take (i + 1) ps))) ≡ least (first_broken (broken_words [] (param_names (take i ps)))) (first_broken (own (binding (param_names (take i ps)) []) p.name))
twice-step ps i p e h =
    ap (λ ws. first_broken (broken_words [] ws)) (names-more ps i p e h)
    ∙ ap first_broken (words-more [] (param_names (take i ps)) p.name)
    ∙ two (broken_words [] (param_names (take i ps))) (own (binding (param_names (take i ps)) []) p.name)

pub params-none : (T : Tables) → params_break T [] ≡ None
unfolding params_break
params-none T = refl

-- what one parameter breaks behind these names
abbrev at_param : Tables → Names → ParamTree Word → List Broken
at_param T xs p = broken_sort T (plain_wsort p.sort) ++ optional (broken_form T (p.name.text ∷ xs)) (option_map plain_form p.refine)

more : (T : Tables) (xs : Names) (ps : List (ParamTree Word)) (p : ParamTree Word)
    → broken_params T xs (map plain_wparam (ps ++ p ∷ [])) ≡ broken_params T xs (map plain_wparam ps) ++ at_param T (binding (param_names ps) xs) p
more T xs [] p = append-nil (at_param T xs p)
more T xs (q ∷ ps) p =
    ap (λ bs. at_param T xs q ++ bs) (more T (q.name.text ∷ xs) ps p)
    ∙ sym (append_assoc (at_param T xs q) (broken_params T (q.name.text ∷ xs) (map plain_wparam ps)) (at_param T (binding (param_names ps) (q.name.text ∷ xs)) p))

pub params-step : (T : Tables) (ps : List (ParamTree Word)) (i : ℕ) (p : ParamTree Word) → p ≡ get_or ps i p → i < length ps
    → params_break T (take (i + 1) ps) ≡ least (params_break T (take i ps)) (least (sort_breaks T p.sort) (maybe_breaks T (p.name.text ∷ binding (param_names (take i ps)) []) p.refine))
unfolding params_break sort_breaks maybe_breaks
params-step T ps i p e h =
    let xs = binding (param_names (take i ps)) [] in
    ap (λ qs. first_broken (broken_params T [] (map plain_wparam qs))) (take_more ps i p h ∙ ap (λ q. take i ps ++ q ∷ []) (sym e))
    ∙ ap first_broken (more T [] (take i ps) p)
    ∙ two (broken_params T [] (map plain_wparam (take i ps))) (at_param T xs p)
    ∙ ap (least (first_broken (broken_params T [] (map plain_wparam (take i ps))))) (two (broken_sort T (plain_wsort p.sort)) (optional (broken_form T (p.name.text ∷ xs)) (option_map plain_form p.refine)))

pub ruleset params = (scope-step, twice-step, params-none, params-step)

-- ---- whole functions

pub names-plain : (ps : List (ParamTree Word)) → map (λ (p : WParam Word). p.name) (map plain_wparam ps) ≡ param_names ps
names-plain [] = refl
names-plain (p ∷ ps) = ap (λ ws. p.name ∷ ws) (names-plain ps)

effect-name : (G : Globals) (b : Before) (e : EffectName Word) → first_broken (broken_effect_name G b e) ≡ effect_name_breaks (fun_tables G b) e
effect-name G b effect.Pure = refl
effect-name G b effect.Ghost = refl
effect-name G b effect.Div = refl
effect-name G b (effect.User w) = listed-first (named_effect G b w).broken

measures : (T : Tables) (xs : Names) (fs : List (Form Word)) → each (broken_form T xs) (map plain_form fs) ≡ broken_forms T xs (plain_forms fs)
measures T xs [] = refl
measures T xs (f ∷ fs) = ap (λ bs. broken_form T xs (plain_form f) ++ bs) (measures T xs fs)

-- what answers, where these are the names of the parameters
abbrev parted : Globals → Before → FunTree Word → List Word → (effect_name measures : Option Broken) → Option Broken
parted G b f ws e m =
    let T = fun_tables G b in
    let xs = binding ws [] in
    least (least (least (fun_word_breaks G b f.head.name) (least (first_broken (broken_words [] ws)) (params_break T f.head.params)))
    (least (least (least e (sort_breaks T f.head.sort)) (clauses_break T (clause_names f.head.effect xs) f.head)) m))
    (text_breaks T xs f.body)

pub fun-parts : (G : Globals) (b : Before) (f : FunTree Word)
    → fun_breaks G b f ≡ (let o = own_group (w_fun (plain_wfun f)) b in let T = fun_tables G o in let xs = binding (param_names f.head.params) [] in
    least (least (least (fun_word_breaks G o f.head.name) (least (first_broken (broken_words [] (param_names f.head.params))) (params_break T f.head.params))) (head_breaks T xs f.head)) (text_breaks T xs f.body))
unfolding fun_breaks fun_word_breaks params_break sort_breaks maybe_breaks forms_break text_breaks
fun-parts G b f =
    let o = own_group (w_fun (plain_wfun f)) b in
    let T = fun_tables G o in
    let ws = map (λ (p : WParam Word). p.name) (map plain_wparam f.head.params) in
    let xs = binding ws [] in
    let e = broken_effect_name G o f.head.effect in
    let ms = each (broken_form T xs) (map plain_form f.head.measures) in
    in_fun (broken_fun_word G o f.head.name) (broken_words [] ws) (broken_params T [] (map plain_wparam f.head.params)) e (broken_sort T (plain_wsort f.head.sort))
    (optional (broken_form T (clause_names f.head.effect xs)) (option_map plain_form f.head.needs))
    (optional (broken_form T (codes "result" ∷ clause_names f.head.effect xs)) (option_map plain_form f.head.gives)) ms (broken_text T xs (plain_text f.body))
    ∙ ap (λ m. parted G o f ws (first_broken e) (first_broken m)) (measures T xs f.head.measures)
    ∙ ap (λ k. parted G o f ws k (forms_break T xs f.head.measures)) (effect-name G o f.head.effect)
    ∙ ap (λ vs. parted G o f vs (effect_name_breaks T f.head.effect) (forms_break T (binding vs []) f.head.measures)) (names-plain f.head.params)

pub ruleset funs = (fun-parts)
