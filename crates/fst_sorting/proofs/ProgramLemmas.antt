-- A program of which no rule of the sorting phases is broken is well sorted.
use Rattle.std.proofs.Common.{◌≡◌, ℕ, ◌<◌, Bool, true, false, ◌||◌, List, [], ◌∷◌, ◌++◌, map, reverse, length, slice_get, Option, Some, None, option_map, refl, sym, ap, ap₂, ◌∙◌, subst}
use Rattle.std.proofs.lemmas.List.{map-append}
use Rattle.fst_base.specs.Sorts.{Srt, s_bool, s_int, s_a, s_b, put_sorts, holds_a, holds_b}
use Rattle.fst_program.specs.declared.effect.Effect.{Effect}
use Rattle.fst_program.specs.declared.effect.Effect.TheVariants as effect
use Rattle.fst_program.specs.Texts.{Prm, Fn, Prog, if_there, fun_at, effect_at, is_user, is_ghost, result_sort}
use Rattle.fst_program.specs.Sorted as sorted
use Rattle.fst_program.specs.Sorted.{Applies, FormSorted, DmSorted, CmSorted, EffectSorted, LiftSorted, FunSorted, IsSorted, GivenSorted, RefinesSorted, MeasuresSorted, input_sorts, body_sorts, clause_sorts, param_sorts}
use Rattle.fst_names.specs.declared.reference.Ref.{Ref}
use Rattle.fst_names.specs.declared.reference.RefKind.{RefKind}
use Rattle.fst_names.specs.declared.reference.RefKind.TheVariants as kind
use Rattle.fst_names.specs.Names.{each, optional}
use Rattle.fst_names.specs.Trees.{WSort, w_unit, w_bool, w_int, w_pair, w_opt, w_list, w_either, w_name, WForm, WParam, WFun, WEffect, WLift, WDecl}
use Rattle.fst_effects.specs.Known.{Entry, Ctx, Callee, EffectSorts, Known, sort_of}
use Rattle.fst_effects.specs.TermSorts.{core, broken, visible, is_pure_or_ghost}
use Rattle.fst_effects.specs.TextSorts.{broken_text}
use Rattle.fst_effects.specs.Definitions.{broken_shape, base_effect, effect_sorts, at_b, known_in_bind, known_in_return, known_in_lift, return_scope, input_scope, broken_effect, core_effect, effects_of, lifts_of, broken_lift, core_lift, core_effects, core_lifts, broken_definitions, or_none}
use Rattle.fst_sorting.specs.Functions.{Placed, funs_of, effect_of, param_entry, results, called_as, applied_as, known_in, scope_of, input_entry, clause_scope, result_scope, broken_formula, broken_refinements, core_params, broken_fun, core_fun, broken_funs, core_program, no_measure}
use Rattle.fst_sorting.proofs.Scoped.{FormScoped, EffectScoped, LiftScoped, FormulaScoped, AllScoped, ParamsScoped, FunScoped, AreScoped}
use Rattle.fst_effects.specs.Definitions as def
use Rattle.fst_program.proofs.ThereLemmas.{there-is}
use Rattle.fst_sorting.proofs.BasicLemmas.{none-left, none-right, none-first, none-second, none-third}
use Rattle.fst_sorting.proofs.ListLemmas.{count-map, get-map, get-within, mapped, each-none, map-reverse}
use Rattle.fst_program.proofs.PathLemmas.{path-is, path-itself}
use Rattle.fst_sorting.proofs.TermLemmas.{sorts_of, term-sorted}
use Rattle.fst_sorting.proofs.DefinitionTextLemmas.{dm-sorted}
use Rattle.fst_sorting.proofs.TextLemmas.{Matches, text-sorted}

-- ---- shapes of sorts

misplaced-none : (a_too : Bool) (r : Ref) (k : RefKind) → def.misplaced a_too r k ≡ [] → (a_too ≡ false) × (k ≡ kind.SortA)
misplaced-none false r kind.SortA e = (refl, refl)
misplaced-none true r kind.SortA e = cc
misplaced-none t r k e = cc

or-none : (a b : Bool) → a ≡ false → b ≡ false → a || b ≡ false
or-none a b p q = ap₂ ◌||◌ p q

-- a sort of this shape holds no b, nor a where it mustn't
shape-b : (t : Bool) (s : WSort Ref) → broken_shape t s ≡ [] → holds_b (sort_of s) ≡ false
shape-b t w_unit e = refl
shape-b t w_bool e = refl
shape-b t w_int e = refl
shape-b t (w_pair s u) e = or-none _ _ (shape-b t s (none-left (broken_shape t s) _ e)) (shape-b t u (none-right (broken_shape t s) _ e))
shape-b t (w_opt s) e = shape-b t s e
shape-b t (w_list s) e = shape-b t s e
shape-b t (w_either s u) e = or-none _ _ (shape-b t s (none-left (broken_shape t s) _ e)) (shape-b t u (none-right (broken_shape t s) _ e))
shape-b t (w_name r) e = ap (λ k. holds_b (sort_of (w_name (record { kind = k; index = r.index; at = r.at })))) (misplaced-none t r r.kind e).1

shape-a : (s : WSort Ref) → broken_shape true s ≡ [] → holds_a (sort_of s) ≡ false
shape-a w_unit e = refl
shape-a w_bool e = refl
shape-a w_int e = refl
shape-a (w_pair s u) e = or-none _ _ (shape-a s (none-left (broken_shape true s) _ e)) (shape-a u (none-right (broken_shape true s) _ e))
shape-a (w_opt s) e = shape-a s e
shape-a (w_list s) e = shape-a s e
shape-a (w_either s u) e = or-none _ _ (shape-a s (none-left (broken_shape true s) _ e)) (shape-a u (none-right (broken_shape true s) _ e))
shape-a (w_name r) e = let p : true ≡ false = (misplaced-none true r r.kind e).0 in cc

-- ---- effects and lifts

module _ (P : Prog) where
  effect-sorted : (d : WEffect Ref) → EffectScoped d → broken_effect d ≡ [] → EffectSorted P (core_effect d)
  effect-sorted d s b =
      let e = effect_sorts d in
      let three = none-left (broken_shape true d.input ++ broken_shape false d.result ++ broken_text known_in_return effect.Pure false (return_scope e) d.ret (Some e.result)) _ b in
      record {
        input_without_a = shape-a d.input (none-first (broken_shape true d.input) _ _ three);
        input_without_b = shape-b true d.input (none-first (broken_shape true d.input) _ _ three);
        result_without_b = shape-b false d.result (none-second (broken_shape true d.input) _ _ three);
        returns = dm-sorted P None None (return_scope e) d.ret (Some e.result) e.result s.ret (none-third (broken_shape true d.input) (broken_shape false d.result) _ three) refl;
        binds = dm-sorted P (Some (record { input = e.input; result = e.result })) (Some (record { value = s_a; input = e.input; result = at_b e.result })) (input_scope e) d.bind (Some (at_b e.result)) (at_b e.result) s.bind
            (none-right (broken_shape true d.input ++ broken_shape false d.result ++ broken_text known_in_return effect.Pure false (return_scope e) d.ret (Some e.result)) _ b) refl;
      }

  lift-sorted : (es : List (WEffect Ref)) → P.effects ≡ map core_effect es → (l : WLift Ref) → LiftScoped (map effect_sorts es) l → broken_lift (map effect_sorts es) l ≡ [] → LiftSorted P (core_lift (map effect_sorts es) l)
  lift-sorted es p l s b =
      let lower = get-within es l.from.index (subst (λ n. l.from.index < n) (count-map effect_sorts es) s.from) in
      let upper = get-within es l.«to».index (subst (λ n. l.«to».index < n) (count-map effect_sorts es) s.«to») in
      let low : def.effect_at (map effect_sorts es) l.from ≡ effect_sorts lower.0 = ap or_none (get-map effect_sorts es l.from.index ∙ ap (option_map effect_sorts) lower.1) in
      let up : def.effect_at (map effect_sorts es) l.«to» ≡ effect_sorts upper.0 = ap or_none (get-map effect_sorts es l.«to».index ∙ ap (option_map effect_sorts) upper.1) in
      there-is (effect_at P l.from.index) _ (core_effect lower.0) (ap (λ ds. slice_get ds l.from.index) p ∙ get-map core_effect es l.from.index ∙ ap (option_map core_effect) lower.1)
      (there-is (effect_at P l.«to».index) _ (core_effect upper.0) (ap (λ ds. slice_get ds l.«to».index) p ∙ get-map core_effect es l.«to».index ∙ ap (option_map core_effect) upper.1)
      (text (effect_sorts lower.0) (effect_sorts upper.0) low up))
    where
      Es : List EffectSorts
      Es = map effect_sorts es

      -- the ends as they are looked up
      text : (a c : EffectSorts) → def.effect_at Es l.from ≡ a → def.effect_at Es l.«to» ≡ c
          → DmSorted P (Some (record { input = a.input; result = a.result })) None (c.input ∷ []) (core_lift Es l).text c.result
      text a c p q =
          subst (λ a. DmSorted P (Some (record { input = a.input; result = a.result })) None (c.input ∷ []) (core_lift Es l).text c.result) p
          (subst (λ c. DmSorted P (Some (record { input = (def.effect_at Es l.from).input; result = (def.effect_at Es l.from).result })) None (c.input ∷ []) (core_lift Es l).text c.result) q
          (dm-sorted P (Some (record { input = (def.effect_at Es l.from).input; result = (def.effect_at Es l.from).result })) None (input_scope (def.effect_at Es l.«to»)) l.text
          (Some (def.effect_at Es l.«to»).result) (def.effect_at Es l.«to»).result s.text b refl))

-- ---- what is known in functions is what the program has

-- a parameter as an entry
abbrev entry_of : Prm → Entry
entry_of p = record { sort = p.sort; hidden = p.hidden }

param-entries : (K : Known) (xs : Ctx) (ps : List (WParam Ref)) → map param_entry ps ≡ map entry_of (core_params K xs ps)
param-entries K xs [] = refl
param-entries K xs (p ∷ ps) = ap (◌∷◌ (param_entry p)) (param-entries K (param_entry p ∷ xs) ps)

params-sorts : (K : Known) (xs : Ctx) (ps : List (WParam Ref)) → sorts_of (map param_entry ps) ≡ map (λ p. p.sort) (core_params K xs ps)
params-sorts K xs [] = refl
params-sorts K xs (p ∷ ps) = ap (◌∷◌ (sort_of p.sort)) (params-sorts K (param_entry p ∷ xs) ps)

base-no-user : (div : Bool) → is_user (base_effect div) ≡ false
base-no-user true = refl
base-no-user false = refl

module _ (ds : List (WDecl Ref)) where
  abbrev K : Known
  K = known_in ds

  abbrev P : Prog
  P = core_program ds

  pub fun-there : (k : ℕ) (f : Placed) → slice_get (funs_of ds) k ≡ Some f → fun_at P k ≡ Some (core_fun K (funs_of ds) f)
  fun-there k f e = ap (λ o. if_there o (λ f. f) None) (get-map (λ f. Some (core_fun K (funs_of ds) f)) (funs_of ds) k ∙ ap (option_map (λ f. Some (core_fun K (funs_of ds) f))) e)

  -- a function of the program is one of the declared ones
  pub fun-from : (k : ℕ) (f : Fn) → fun_at P k ≡ Some f → (p : Placed) × ((slice_get (funs_of ds) k ≡ Some p) × (f ≡ core_fun K (funs_of ds) p))
  fun-from k f e = go (slice_get (funs_of ds) k) refl
    where
      go : (o : Option Placed) → slice_get (funs_of ds) k ≡ o → (p : Placed) × ((slice_get (funs_of ds) k ≡ Some p) × (f ≡ core_fun K (funs_of ds) p))
      go None h =
          let q : fun_at P k ≡ None = ap (λ o. if_there o (λ f. f) None) (get-map (λ f. Some (core_fun K (funs_of ds) f)) (funs_of ds) k ∙ ap (option_map (λ f. Some (core_fun K (funs_of ds) f))) h) in
          cc
      go (Some p) h = let q = fun-there k p h in (p, (h, cc))

  pub effect-there : (E : ℕ) (d : WEffect Ref) → slice_get (effects_of ds) E ≡ Some d → effect_at P E ≡ Some (core_effect d)
  effect-there E d e = get-map core_effect (effects_of ds) E ∙ ap (option_map core_effect) e

  -- an application of a base effect has the parameters' sorts and the declared one
  applies-base : (i : ℕ) (f : Placed) → slice_get (funs_of ds) i ≡ Some f → (c : Callee) → c ≡ applied_as K.effects f.tree → is_pure_or_ghost c.effect ≡ true → Applies P i (sorts_of c.args) c.sort
  applies-base i f e c q h =
      there-is (fun_at P i) (λ g. (sorts_of c.args ≡ map (λ p. p.sort) g.params ++ input_sorts P g.effect) × (c.sort ≡ result_sort P g.effect g.sort)) (core_fun K (funs_of ds) f) (fun-there i f e) (
        ap (λ c. sorts_of c.args) q ∙ params-sorts K [] f.tree.params ∙ go (effect_of f.tree.effect) pure,
        ap (λ c. c.sort) q ∙ same (effect_of f.tree.effect) pure,
      )
    where
      pure : is_pure_or_ghost (effect_of f.tree.effect) ≡ true
      pure = ap (λ c. is_pure_or_ghost c.effect) (sym q) ∙ h

      none : (Ss : List Srt) → Ss ≡ Ss ++ []
      none [] = refl
      none (S ∷ Ss) = ap (◌∷◌ S) (none Ss)

      go : (x : Effect) → is_pure_or_ghost x ≡ true → map (λ p. p.sort) (core_params K [] f.tree.params) ≡ map (λ p. p.sort) (core_params K [] f.tree.params) ++ input_sorts P x
      go effect.Pure p = none _
      go effect.Ghost p = none _
      go effect.Div p = cc
      go (effect.User E) p = cc

      same : (x : Effect) → is_pure_or_ghost x ≡ true → results x K.effects (sort_of f.tree.sort) ≡ result_sort P x (sort_of f.tree.sort)
      same effect.Pure p = refl
      same effect.Ghost p = refl
      same effect.Div p = cc
      same (effect.User E) p = cc

  pub matches : Matches K P
  matches = record {
    called = λ r c e. let f = mapped (λ f. called_as K.effects f.tree) (slice_get (funs_of ds) r.index) c e in
        (core_fun K (funs_of ds) f.0, (fun-there r.index f.0 f.1.0, ap (λ c. c.effect) f.1.1, ap (λ c. c.sort) f.1.1, ap (λ c. c.args) f.1.1 ∙ param-entries K [] f.0.tree.params));
    applied = λ r c e h. let f = mapped (λ f. applied_as K.effects f.tree) (slice_get (funs_of ds) r.index) c e in applies-base r.index f.0 f.1.0 c f.1.1 h;
    effects = λ E e h. let d = mapped effect_sorts (slice_get (effects_of ds) E) e h in
        (core_effect d.0, (effect-there E d.0 d.1.0, ap (λ e. e.input) (sym d.1.1), ap (λ e. e.result) (sym d.1.1), ap (λ e. e.base) (sym d.1.1), ap (λ e. is_user e.base) d.1.1 ∙ base-no-user d.0.div));
    paths = λ D E ls e. path-is (core_lifts ds) D E ls e;
    itself = λ E. path-itself (core_lifts ds) E;
  }

  -- ---- functions

  formula-sorted : (xs : Ctx) (f : WForm Ref) → FormScoped K true (length xs) f → broken_formula K xs f ≡ [] → FormSorted P (sorts_of xs) (core K.applied xs f (Some s_bool)) s_bool
  formula-sorted xs f s b = term-sorted K (Applies P) matches.applied true true xs f (Some s_bool) s_bool s b refl

  given-sorted : (xs : Ctx) (o : Option (WForm Ref)) → FormulaScoped K xs o → optional (broken_formula K xs) o ≡ [] → GivenSorted P (sorts_of xs) (option_map (λ g. core K.applied xs g (Some s_bool)) o)
  given-sorted xs None s b = tt
  given-sorted xs (Some f) s b = formula-sorted xs f s b

  refines-sorted : (xs : Ctx) (ps : List (WParam Ref)) → ParamsScoped K xs ps → broken_refinements K xs ps ≡ [] → RefinesSorted P (sorts_of xs) (core_params K xs ps)
  refines-sorted xs [] s b = tt
  refines-sorted xs (p ∷ ps) s b = (
    given-sorted (param_entry p ∷ xs) p.refine s.0 (none-left (optional (broken_formula K (param_entry p ∷ xs)) p.refine) _ b),
    refines-sorted (param_entry p ∷ xs) ps s.1 (none-right (optional (broken_formula K (param_entry p ∷ xs)) p.refine) _ b),
  )

  measures-sorted : (xs : Ctx) (ms : List (WForm Ref)) → AllScoped K xs ms → each (λ m. broken K.applied true xs m (Some s_int)) ms ≡ [] → MeasuresSorted P (sorts_of xs) (map (λ m. core K.applied xs m (Some s_int)) ms)
  measures-sorted xs [] s b = tt
  measures-sorted xs (m ∷ ms) s b = (
    term-sorted K (Applies P) matches.applied true true xs m (Some s_int) s_int s.0 (none-left (broken K.applied true xs m (Some s_int)) _ b) refl,
    measures-sorted xs ms s.1 (none-right (broken K.applied true xs m (Some s_int)) _ b),
  )

  scope-sorts : (t : WFun Ref) → sorts_of (scope_of t.params) ≡ reverse (map (λ p. p.sort) (core_params K [] t.params))
  scope-sorts t = map-reverse (λ x. x.sort) (map param_entry t.params) ∙ ap reverse (params-sorts K [] t.params)

  input-same : (x : Effect) → sorts_of (input_entry K x) ≡ input_sorts P x
  input-same effect.Pure = refl
  input-same effect.Ghost = refl
  input-same effect.Div = refl
  input-same (effect.User E) = go (slice_get (effects_of ds) E) ∙ ap (λ o. if_there o (λ d. d.input ∷ []) []) (sym (get-map core_effect (effects_of ds) E))
    where
      go : (o : Option (WEffect Ref)) → sorts_of (if_there (option_map effect_sorts o) (λ e. visible e.input ∷ []) []) ≡ if_there (option_map core_effect o) (λ d. d.input ∷ []) []
      go None = refl
      go (Some d) = refl

  results-same : (x : Effect) (S : Srt) → results x K.effects S ≡ result_sort P x S
  results-same effect.Pure S = refl
  results-same effect.Ghost S = refl
  results-same effect.Div S = refl
  results-same (effect.User E) S = go (slice_get (effects_of ds) E) ∙ ap (λ o. if_there o (λ d. put_sorts S s_b d.result) S) (sym (get-map core_effect (effects_of ds) E))
    where
      go : (o : Option (WEffect Ref)) → if_there (option_map effect_sorts o) (λ e. put_sorts S s_b e.result) S ≡ if_there (option_map core_effect o) (λ d. put_sorts S s_b d.result) S
      go None = refl
      go (Some d) = refl

  clause-sorts : (t : WFun Ref) → sorts_of (clause_scope K t) ≡ input_sorts P (effect_of t.effect) ++ reverse (map (λ p. p.sort) (core_params K [] t.params))
  clause-sorts t = map-append (λ x. x.sort) (input_entry K (effect_of t.effect)) (scope_of t.params) ∙ ap₂ ◌++◌ (input-same (effect_of t.effect)) (scope-sorts t)

  fun-sorted : (f : Placed) → FunScoped K f.tree → broken_fun K (funs_of ds) f ≡ [] → FunSorted P (core_fun K (funs_of ds) f)
  fun-sorted f s b =
      let t = f.tree in
      let e = effect_of t.effect in
      let fs = funs_of ds in
      let one = no_measure K fs f ++ broken_refinements K [] t.params in
      let two = one ++ optional (broken_formula K (clause_scope K t)) t.needs in
      let three = two ++ optional (broken_formula K (result_scope K t)) t.gives in
      let four = three ++ each (λ m. broken K.applied true (scope_of t.params) m (Some s_int)) t.measures in
      let b4 : four ≡ [] = none-left four _ b in
      let b3 : three ≡ [] = none-left three _ b4 in
      let b2 : two ≡ [] = none-left two _ b3 in
      let b1 : one ≡ [] = none-left one _ b2 in
      record {
        refines = refines-sorted [] t.params s.params (none-right (no_measure K fs f) _ b1);
        needs = subst (λ Ss. GivenSorted P Ss (core_fun K fs f).needs) (clause-sorts t) (given-sorted (clause_scope K t) t.needs s.needs (none-right one _ b2));
        gives = subst (λ Ss. GivenSorted P Ss (core_fun K fs f).gives) (ap₂ ◌∷◌ (results-same e (sort_of t.sort)) (clause-sorts t)) (given-sorted (result_scope K t) t.gives s.gives (none-right two _ b3));
        measures = subst (λ Ss. MeasuresSorted P Ss (core_fun K fs f).measures) (scope-sorts t) (measures-sorted (scope_of t.params) t.measures s.measures (none-right three _ b4));
        body = subst (λ Ss. CmSorted P Ss (sorted.place_of e) (core_fun K fs f).body (sort_of t.sort)) (scope-sorts t)
            (text-sorted K P matches e (is_ghost e) (scope_of t.params) t.body (Some (sort_of t.sort)) (sort_of t.sort) s.body (none-right four _ b) refl);
      }

  -- what isn't broken is well sorted
  pub program-sorted : AreScoped ds → broken_definitions ds ≡ [] → broken_funs ds ≡ [] → IsSorted P
  program-sorted s b c = record {
    effects = λ E d e.
        let w = mapped core_effect (slice_get (effects_of ds) E) d (sym (get-map core_effect (effects_of ds) E) ∙ e) in
        subst (EffectSorted P) (sym w.1.1) (effect-sorted P w.0 (s.effects E w.0 w.1.0) (each-none broken_effect (effects_of ds) E w.0 (none-left (each broken_effect (effects_of ds)) _ b) w.1.0));
    lifts = λ n l e.
        let Es = map effect_sorts (effects_of ds) in
        let w = mapped (core_lift Es) (slice_get (lifts_of ds) n) l (sym (get-map (core_lift Es) (lifts_of ds) n) ∙ e) in
        subst (LiftSorted P) (sym w.1.1) (lift-sorted P (effects_of ds) refl w.0 (s.lifts n w.0 w.1.0) (each-none (broken_lift Es) (lifts_of ds) n w.0 (none-right (each broken_effect (effects_of ds)) _ b) w.1.0));
    funs = λ k f e.
        let w = fun-from k f e in
        subst (FunSorted P) (sym w.1.1) (fun-sorted w.0 (s.funs k w.0 w.1.0) (each-none (broken_fun K (funs_of ds)) (funs_of ds) k w.0 c w.1.0));
  }
