-- What stands before a function's body, a part of it at a time.
use Rattle.std.proofs.Common.{◌≡◌, ℕ, ◌+◌, ◌<◌, true, List, [], ◌∷◌, ◌++◌, map, reverse, length, take, get_or, Some, None, refl, sym, ap, ◌∙◌, append_assoc}
use Rattle.std.specs.Prelude.{option_map}
use Rattle.std.proofs.lemmas.List.{append-nil, take_more, map-append, reverse-append}
use Rattle.fst_base.specs.Sorts.{s_bool, s_int}
use Rattle.fst_trees.specs.declared.form.Form.{Form}
use Rattle.fst_trees.specs.declared.decl.ParamTree.{ParamTree}
use Rattle.fst_names.specs.declared.reference.Ref.{Ref}
use Rattle.fst_names.specs.Broken.{first_broken, least}
use Rattle.fst_names.specs.Names.{each, optional}
use Rattle.fst_names.specs.Trees.{plain_form, plain_wparam}
use Rattle.fst_names.proofs.BrokenLemmas.{first-append}
use Rattle.fst_effects.specs.Known.{Ctx, Entry, Known}
use Rattle.fst_effects.specs.TermChecks.{node_breaks, form_breaks, node_core, form_core}
use Rattle.fst_effects.specs.TermSorts.{broken, core}
use Rattle.fst_effects.proofs.PlainLemmas.{plain-sort-Bool, plain-sort-Int}
use Rattle.fst_sorting.specs.Functions as F
use Rattle.fst_sorting.specs.Functions.{broken_formula, broken_refinements}
use Rattle.fst_sorting.specs.Listed.{entry_of_param, entries_of, maybe_breaks, maybe_core, param_breaks, param_core, params_break, params_core, measures_break, measures_core}
use Rattle.fst_sorting.specs.Sites.{written_sort}
use Rattle.fst_sorting.proofs.MapLemmas.{map-push}

module _ (K : Known) where
  -- ---- a formula, where there is one

  pub maybe-none : (xs : Ctx) → maybe_breaks K xs None ≡ None
  unfolding maybe_breaks
  maybe-none xs = refl

  pub maybe-some : (xs : Ctx) (f : Form Ref) → maybe_breaks K xs (Some f) ≡ form_breaks K.applied true xs f (Some s_bool)
  unfolding maybe_breaks node_breaks
  maybe-some xs f = refl

  pub core-none : (xs : Ctx) → maybe_core K xs None ≡ None
  unfolding maybe_core
  core-none xs = refl

  pub core-some : (xs : Ctx) (f : Form Ref) → maybe_core K xs (Some f) ≡ Some (form_core K.applied xs f (Some s_bool))
  unfolding maybe_core node_core
  core-some xs f = refl

  -- ---- parameters

  pub param-core : (xs : Ctx) (p : ParamTree Ref) → param_core K xs p ≡ record { name = p.name.text; sort = written_sort p.sort; hidden = p.hidden; refine = maybe_core K (entry_of_param p ∷ xs) p.refine }
  unfolding param_core
  param-core xs p = refl

  entries-more : (ps : List (ParamTree Ref)) (i : ℕ) (p : ParamTree Ref) → p ≡ get_or ps i p → i < length ps → entries_of (take (i + 1) ps) ≡ entries_of (take i ps) ++ entry_of_param p ∷ []
  entries-more ps i p e h = ap entries_of (take_more ps i p h ∙ ap (λ q. take i ps ++ q ∷ []) (sym e)) ∙ map-append entry_of_param (take i ps) (p ∷ [])

  pub scope-step : (ps : List (ParamTree Ref)) (i : ℕ) (p : ParamTree Ref) → p ≡ get_or ps i p → i < length ps → reverse (entries_of (take (i + 1) ps)) ≡ entry_of_param p ∷ reverse (entries_of (take i ps))
  scope-step ps i p e h = ap reverse (entries-more ps i p e h) ∙ reverse-append (entries_of (take i ps)) (entry_of_param p ∷ [])

  pub params-none : params_break K [] ≡ None
  unfolding params_break
  params-none = refl

  turn : (xs : Ctx) (e : Entry) (es : List Entry) → reverse (e ∷ es) ++ xs ≡ reverse es ++ e ∷ xs
  turn xs e es = ap (λ ys. ys ++ xs) (reverse-append (e ∷ []) es) ∙ append_assoc (reverse es) (e ∷ []) xs

  more : (xs : Ctx) (ps : List (ParamTree Ref)) (p : ParamTree Ref)
      → broken_refinements K xs (map plain_wparam (ps ++ p ∷ [])) ≡ broken_refinements K xs (map plain_wparam ps) ++ optional (broken_formula K (entry_of_param p ∷ (reverse (entries_of ps) ++ xs))) (option_map plain_form p.refine)
  unfolding entry_of_param
  more xs [] p = append-nil (optional (broken_formula K (entry_of_param p ∷ xs)) (option_map plain_form p.refine))
  more xs (q ∷ ps) p =
      let own = optional (broken_formula K (entry_of_param q ∷ xs)) (option_map plain_form q.refine) in
      let rest = broken_refinements K (entry_of_param q ∷ xs) (map plain_wparam ps) in
      ap (λ bs. own ++ bs) (more (entry_of_param q ∷ xs) ps p)
      ∙ ap (λ ys. own ++ (rest ++ optional (broken_formula K (entry_of_param p ∷ ys)) (option_map plain_form p.refine))) (sym (turn xs (entry_of_param q) (entries_of ps)))
      ∙ sym (append_assoc own rest (optional (broken_formula K (entry_of_param p ∷ (reverse (entries_of (q ∷ ps)) ++ xs))) (option_map plain_form p.refine)))

  pub params-step : (ps : List (ParamTree Ref)) (i : ℕ) (p : ParamTree Ref) → p ≡ get_or ps i p → i < length ps
      → params_break K (take (i + 1) ps) ≡ least (params_break K (take i ps)) (param_breaks K (reverse (entries_of (take i ps))) p)
  unfolding params_break maybe_breaks
  params-step ps i p e h =
      ap (λ qs. first_broken (broken_refinements K [] (map plain_wparam qs))) (take_more ps i p h ∙ ap (λ q. take i ps ++ q ∷ []) (sym e))
      ∙ ap first_broken (more [] (take i ps) p)
      ∙ first-append (broken_refinements K [] (map plain_wparam (take i ps))) (optional (broken_formula K (entry_of_param p ∷ (reverse (entries_of (take i ps)) ++ []))) (option_map plain_form p.refine))
      ∙ ap (λ ys. least (params_break K (take i ps)) (maybe_breaks K (entry_of_param p ∷ ys) p.refine)) (append-nil (reverse (entries_of (take i ps))))

  pub params-core-none : params_core K [] ≡ []
  unfolding params_core
  params-core-none = refl

  more-core : (xs : Ctx) (ps : List (ParamTree Ref)) (p : ParamTree Ref)
      → F.core_params K xs (map plain_wparam (ps ++ p ∷ [])) ≡ F.core_params K xs (map plain_wparam ps) ++ param_core K (reverse (entries_of ps) ++ xs) p ∷ []
  unfolding entry_of_param param_core maybe_core written_sort
  more-core xs [] p = refl
  more-core xs (q ∷ ps) p =
      ap (λ ms. F.core_params K xs (plain_wparam q ∷ []) ++ ms) (more-core (entry_of_param q ∷ xs) ps p ∙ ap (λ ys. F.core_params K (entry_of_param q ∷ xs) (map plain_wparam ps) ++ param_core K ys p ∷ []) (sym (turn xs (entry_of_param q) (entries_of ps))))

  pub params-core-step : (ps : List (ParamTree Ref)) (i : ℕ) (p : ParamTree Ref) → p ≡ get_or ps i p → i < length ps
      → params_core K (take (i + 1) ps) ≡ params_core K (take i ps) ++ param_core K (reverse (entries_of (take i ps))) p ∷ []
  unfolding params_core
  params-core-step ps i p e h =
      ap (λ qs. F.core_params K [] (map plain_wparam qs)) (take_more ps i p h ∙ ap (λ q. take i ps ++ q ∷ []) (sym e))
      ∙ more-core [] (take i ps) p
      ∙ ap (λ ys. params_core K (take i ps) ++ param_core K ys p ∷ []) (append-nil (reverse (entries_of (take i ps))))

  -- ---- measures

  pub measures-none : (xs : Ctx) → measures_break K xs [] ≡ None
  unfolding measures_break
  measures-none xs = refl

  each-more : (f : Form Ref) (xs : Ctx) (fs : List (Form Ref)) → each (λ m. broken K.applied true xs m (Some s_int)) (map plain_form (fs ++ f ∷ [])) ≡ each (λ m. broken K.applied true xs m (Some s_int)) (map plain_form fs) ++ broken K.applied true xs (plain_form f) (Some s_int)
  each-more f xs [] = append-nil (broken K.applied true xs (plain_form f) (Some s_int))
  each-more f xs (g ∷ fs) = ap (λ bs. broken K.applied true xs (plain_form g) (Some s_int) ++ bs) (each-more f xs fs) ∙ sym (append_assoc (broken K.applied true xs (plain_form g) (Some s_int)) _ (broken K.applied true xs (plain_form f) (Some s_int)))

  pub measures-step : (xs : Ctx) (fs : List (Form Ref)) (i : ℕ) (f : Form Ref) → f ≡ get_or fs i f → i < length fs
      → measures_break K xs (take (i + 1) fs) ≡ least (measures_break K xs (take i fs)) (form_breaks K.applied true xs f (Some s_int))
  unfolding measures_break node_breaks
  measures-step xs fs i f e h =
      ap (λ gs. first_broken (each (λ m. broken K.applied true xs m (Some s_int)) (map plain_form gs))) (take_more fs i f h ∙ ap (λ g. take i fs ++ g ∷ []) (sym e))
      ∙ ap first_broken (each-more f xs (take i fs))
      ∙ first-append (each (λ m. broken K.applied true xs m (Some s_int)) (map plain_form (take i fs))) (broken K.applied true xs (plain_form f) (Some s_int))

  pub measures-core-none : (xs : Ctx) → measures_core K xs [] ≡ []
  unfolding measures_core
  measures-core-none xs = refl

  pub measures-core-step : (xs : Ctx) (fs : List (Form Ref)) (i : ℕ) (f : Form Ref) → f ≡ get_or fs i f → i < length fs
      → measures_core K xs (take (i + 1) fs) ≡ measures_core K xs (take i fs) ++ form_core K.applied xs f (Some s_int) ∷ []
  unfolding measures_core node_core
  measures-core-step xs fs i f e h =
      ap (λ gs. map (λ m. core K.applied xs m (Some s_int)) (map plain_form gs)) (take_more fs i f h ∙ ap (λ g. take i fs ++ g ∷ []) (sym e))
      ∙ ap (map (λ m. core K.applied xs m (Some s_int))) (map-append plain_form (take i fs) (f ∷ []))
      ∙ map-append (λ m. core K.applied xs m (Some s_int)) (map plain_form (take i fs)) (plain_form f ∷ [])

pub ruleset maybes = (maybe-none, maybe-some, core-none, core-some, plain-sort-Bool)

pub ruleset params = (scope-step, params-none, params-step, params-core-none, params-core-step, map-push)

pub ruleset core_params = (param-core)

pub ruleset measures = (plain-sort-Int, measures-none, measures-step, measures-core-none, measures-core-step, map-push)
