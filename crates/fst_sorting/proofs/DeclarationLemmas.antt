-- A program of which no rule on names is broken names what is there.
use Rattle.std.proofs.Common.{◌≡◌, ℕ, zero, suc, ◌+◌, ◌<◌, Bool, true, false, ◌&&◌, nat_eq, nat_le, nat_lt, List, [], ◌∷◌, ◌++◌, map, length, slice_get, codes, Option, Some, None, option_map, refl, sym, ap, ap₂, ◌∙◌, subst, arith, if◌then◌else◌}
use Rattle.std.specs.Prelude.{⊤}
use Rattle.std.proofs.lemmas.Bool.Decides.{Decides-eqb}
use Rattle.std.proofs.lemmas.List.{length-reverse}
use Rattle.fst_base.specs.declared.rule.Rule.TheVariants as rule
use Rattle.std.specs.Prelude.{bytes_eq}
use Rattle.fst_trees.specs.declared.word.Word.{Word}
use Rattle.fst_trees.specs.declared.decl.EffectName.{EffectName}
use Rattle.fst_trees.specs.declared.decl.EffectName.TheVariants as name
use Rattle.fst_program.specs.Texts.{if_there}
use Rattle.fst_names.specs.declared.reference.Ref.{Ref}
use Rattle.fst_names.specs.declared.broken.Broken.{Broken}
use Rattle.fst_names.specs.Broken.{breaks}
use Rattle.fst_names.specs.Names.{Names, number_of, listed, unless, Tables, broken_count, binding, named_form, broken_form, named_sort, broken_sort, named_text, broken_text, broken_words, FunHead, Globals, Before, group_of, after, start, globals_from, globals, broken_global, fun_from, fun_use, called_fun, applied_fun, effect_use, named_effect, fun_tables, run_use, definition_tables, runs_of, input_of, optional, each, named_dm, broken_dm, named_effect_decl, broken_effect_decl, named_lift_decl, broken_lift_decl, named_params, broken_params, named_effect_name, broken_effect_name, clause_names, named_fun_decl, broken_fun_decl, own_group, broken_decl, named_from, broken_from, named, broken_names}
use Rattle.fst_names.specs.Trees.{WForm, WText, WParam, WFun, WEffect, WLift, WDecl, w_effect, w_lift, w_fun}
use Rattle.fst_effects.specs.Known.{Known, Ctx, EffectSorts, Callee, sort_of}
use Rattle.fst_effects.specs.TermSorts.{visible}
use Rattle.fst_effects.specs.Definitions.{effect_sorts, effects_of, lifts_of, known_in_definition, run_of}
use Rattle.fst_sorting.specs.Functions.{Placed, place_in, funs_from, funs_of, effect_of, param_entry, called_as, applied_as, known_in, scope_of, input_entry, clause_scope, result_scope}
use Rattle.fst_sorting.specs.Written.{form_written, text_written, optional_written, all_written, params_written, decl_written, are_written}
use Rattle.fst_sorting.proofs.Scoped.{Takes, EffectKnown, FormScoped, TextScoped, EffectScoped, LiftScoped, FormulaScoped, AllScoped, ParamsScoped, FunScoped, AreScoped}
use Rattle.fst_program.proofs.ThereLemmas.{there-is}
use Rattle.fst_sorting.proofs.BasicLemmas.{none-left, none-right, none-second, none-third, and-left, and-right}
use Rattle.fst_sorting.proofs.ListLemmas.{get-map, get-within, mapped, count-map}
use Rattle.fst_sorting.proofs.NameLemmas.{number-found, count-binding, form-scoped, text-scoped}

-- ---- the tables and the declarations

-- a placed function as it is looked up
abbrev pub head_placed : Placed → FunHead
head_placed p = record { name = p.tree.name.text; arity = length p.tree.params; group = p.group }

abbrev pub name_placed : WEffect Ref → List ℕ
name_placed e = e.name.text

count-params : (T : Tables) (xs : Names) (ps : List (WParam Word)) → length (named_params T xs ps) ≡ length ps
count-params T xs [] = refl
count-params T xs (p ∷ ps) = ap suc (count-params T (p.name.text ∷ xs) ps)

pub same-group : (joined : Bool) (b : Before) → group_of joined b ≡ place_in joined b.group b.funs
same-group true b = refl
same-group false b = refl

pub heads : (G : Globals) (b : Before) (ds : List (WDecl Word)) → (globals_from b ds).funs ≡ map head_placed (funs_from b.group b.funs (named_from G b ds))
heads G b [] = refl
heads G b (w_effect e ∷ ds) = heads G (after b (w_effect e)) ds
heads G b (w_lift l ∷ ds) = heads G b ds
heads G b (w_fun f ∷ ds) =
    ap₂ ◌∷◌
    (ap₂ (λ n g. record { name = f.name.text; arity = n; group = g }) (sym (count-params (fun_tables G (own_group (w_fun f) b)) [] f.params)) (same-group f.joined b))
    (heads G (after b (w_fun f)) ds ∙ ap (λ g. map head_placed (funs_from g (suc b.funs) (named_from G (after b (w_fun f)) ds))) (same-group f.joined b))

pub effect-names : (G : Globals) (b : Before) (ds : List (WDecl Word)) → (globals_from b ds).effects ≡ map name_placed (effects_of (named_from G b ds))
effect-names G b [] = refl
effect-names G b (w_effect e ∷ ds) = ap (◌∷◌ e.name.text) (effect-names G (after b (w_effect e)) ds)
effect-names G b (w_lift l ∷ ds) = effect-names G b ds
effect-names G b (w_fun f ∷ ds) = effect-names G (after b (w_fun f)) ds

-- a function that is found is one of these
found-there : (x : List ℕ) (fs : List FunHead) (i n : ℕ) (h : FunHead) → fun_from i x fs ≡ Some (n, h) → (m : ℕ) × ((n ≡ i + m) × (slice_get fs m ≡ Some h))
found-there x [] i n h e = cc
found-there x (f ∷ fs) i n h e = go (bytes_eq x f.name) (λ e. found-there x fs (suc i) n h e) e
  where
    go : (t : Bool) → (fun_from (suc i) x fs ≡ Some (n, h) → (m : ℕ) × ((n ≡ suc i + m) × (slice_get fs m ≡ Some h))) → (if t then Some (i, f) else fun_from (suc i) x fs) ≡ Some (n, h)
        → (m : ℕ) × ((n ≡ i + m) × (slice_get (f ∷ fs) m ≡ Some h))
    go true rest q = let t : ◌≡◌ {A = ℕ × FunHead} (i, f) (n, h) = cc in let p : i ≡ n = ap (λ p. p.0) t in (0, (omega arith, ap (λ p. Some p.1) t))
    go false rest q = let r = rest q in let s = r.1.0 in (suc r.0, (omega arith, r.1.1))

listed-none : (o : Option Broken) → listed o ≡ [] → o ≡ None
listed-none None e = refl
listed-none (Some b) e = cc

count-right : (m n : ℕ) (w : Word) → broken_count (Some m) n w ≡ [] → n ≡ m
count-right m n w e = go (nat_eq m n) (λ p. sym ((Decides-eqb m n).0 p)) e
  where
    go : (t : Bool) → (t ≡ true → n ≡ m) → unless t (breaks rule.Arity w.at.at) ≡ [] → n ≡ m
    go true p e = p refl
    go false p e = cc

pub takes-is : (o : Option Callee) (c : Callee) (n : ℕ) → o ≡ Some c → n ≡ length c.args → Takes o n
takes-is o c n e h = there-is o (λ c. n ≡ length c.args) c e h

module _ (G : Globals) (b : Before) where
  -- a use of a function, where it isn't broken
  pub use-there : (in_time : FunHead → Bool) (w : Word) (n : ℕ) (o : Option (ℕ × FunHead)) → fun_from 0 w.text G.funs ≡ o → listed (fun_use G b in_time w o).broken ≡ [] → broken_count (fun_use G b in_time w o).arity n w ≡ []
      → (h : FunHead) × ((slice_get G.funs (fun_use G b in_time w o).reference.index ≡ Some h) × (n ≡ h.arity) × (in_time h ≡ true))
  use-there in_time w n None e u c = cc
  use-there in_time w n (Some p) e u c =
      let f = found-there w.text G.funs 0 p.0 p.1 e in
      let same : f.0 ≡ p.0 = let q = f.1.0 in omega arith in
      (p.1, (subst (λ i. slice_get G.funs i ≡ Some p.1) same f.1.1, count-right p.1.arity n w c, go (in_time p.1) u))
    where
      go : (t : Bool) → listed (broken_global (Some t) w) ≡ [] → t ≡ true
      go true e = refl
      go false e = cc

-- ---- what is known

module _ (all : List (WDecl Word)) where
  abbrev G : Globals
  G = globals all

  abbrev rs : List (WDecl Ref)
  rs = named all

  abbrev K : Known
  K = known_in rs

  -- a head of the table is that of a function of the program
  pub head-there : (i : ℕ) (h : FunHead) → slice_get G.funs i ≡ Some h → (f : Placed) × ((slice_get (funs_of rs) i ≡ Some f) × (h ≡ head_placed f))
  head-there i h e = mapped head_placed (slice_get (funs_of rs) i) h (sym (get-map head_placed (funs_of rs) i) ∙ ap (λ hs. slice_get hs i) (sym (heads G start all)) ∙ e)

  effect-there : (b : Before) (w : Word) (o : Option ℕ) → number_of w.text G.effects ≡ o → listed (effect_use G b w o).broken ≡ [] → if_there (K.effects (effect_use G b w o).reference.index) (λ e. ⊤) ⊥
  effect-there b w None e u = cc
  effect-there b w (Some n) e u =
      let short = number-found w.text G.effects 0 n e in
      let count : length G.effects ≡ length (effects_of rs) = ap length (effect-names G start all) ∙ count-map name_placed (effects_of rs) in
      let within : n < length (effects_of rs) = omega arith in
      let d = get-within (effects_of rs) n within in
      there-is (K.effects n) (λ e. ⊤) (effect_sorts d.0) (ap (option_map effect_sorts) d.1) tt

  pub effect-within : (b : Before) (w : Word) → listed (named_effect G b w).broken ≡ [] → (named_effect G b w).reference.index < length (map effect_sorts (effects_of rs))
  effect-within b w u = go (number_of w.text G.effects) refl u
    where
      go : (o : Option ℕ) → number_of w.text G.effects ≡ o → listed (effect_use G b w o).broken ≡ [] → (effect_use G b w o).reference.index < length (map effect_sorts (effects_of rs))
      go None e u = cc
      go (Some n) e u =
          let short = number-found w.text G.effects 0 n e in
          let count : length G.effects ≡ length (effects_of rs) = ap length (effect-names G start all) ∙ count-map name_placed (effects_of rs) in
          let more : length (map effect_sorts (effects_of rs)) ≡ length (effects_of rs) = count-map effect_sorts (effects_of rs) in
          omega arith

  module _ (b : Before) where
    called-there : (w : Word) (n : ℕ) → listed (called_fun G b w).broken ≡ [] → broken_count (called_fun G b w).arity n w ≡ [] → Takes (K.called (called_fun G b w).reference) n
    called-there w n u c =
        let h = use-there G b (λ f. nat_le f.group b.group) w n (fun_from 0 w.text G.funs) refl u c in
        let f = head-there (called_fun G b w).reference.index h.0 h.1.0 in
        takes-is (K.called (called_fun G b w).reference) (called_as K.effects f.0.tree) n (ap (option_map (λ f. called_as K.effects f.tree)) f.1.0)
        (h.1.1 ∙ ap (λ h. h.arity) f.1.1 ∙ sym (count-map param_entry f.0.tree.params))

    applied-there : (w : Word) (n : ℕ) → listed (applied_fun G b w).broken ≡ [] → broken_count (applied_fun G b w).arity n w ≡ [] → Takes (K.applied (applied_fun G b w).reference) n
    applied-there w n u c =
        let h = use-there G b (λ f. nat_lt f.group b.group) w n (fun_from 0 w.text G.funs) refl u c in
        let f = head-there (applied_fun G b w).reference.index h.0 h.1.0 in
        takes-is (K.applied (applied_fun G b w).reference) (applied_as K.effects f.0.tree) n (ap (option_map (λ f. applied_as K.effects f.tree)) f.1.0)
        (h.1.1 ∙ ap (λ h. h.arity) f.1.1 ∙ sym (count-map param_entry f.0.tree.params))

    pub effects-there : (w : Word) → listed (named_effect G b w).broken ≡ [] → if_there (K.effects (named_effect G b w).reference.index) (λ e. ⊤) ⊥
    effects-there w u = effect-there b w (number_of w.text G.effects) refl u

  -- the names of a function, where these are known
  module _ (b : Before) (K : Known)
      (applied : (w : Word) (n : ℕ) → listed (applied_fun G b w).broken ≡ [] → broken_count (applied_fun G b w).arity n w ≡ [] → Takes (K.applied (applied_fun G b w).reference) n)
      (called : (w : Word) (n : ℕ) → listed (called_fun G b w).broken ≡ [] → broken_count (called_fun G b w).arity n w ≡ [] → Takes (K.called (called_fun G b w).reference) n)
      (effects : (w : Word) → listed (named_effect G b w).broken ≡ [] → if_there (K.effects (named_effect G b w).reference.index) (λ e. ⊤) ⊥) where
    abbrev T : Tables
    T = fun_tables G b

    fun-form : (xs : Names) (f : WForm Word) → form_written true f ≡ true → broken_form T xs f ≡ [] → FormScoped K true (length xs) (named_form T xs f)
    fun-form = form-scoped T K true (λ e. applied)

    fun-formula : (xs : Names) (zs : Ctx) → length xs ≡ length zs → (o : Option (WForm Word)) → optional_written o ≡ true → optional (broken_form T xs) o ≡ [] → FormulaScoped K zs (option_map (named_form T xs) o)
    fun-formula xs zs e None c u = tt
    fun-formula xs zs e (Some f) c u = subst (λ n. FormScoped K true n (named_form T xs f)) e (fun-form xs f c u)

    fun-measures : (xs : Names) (zs : Ctx) → length xs ≡ length zs → (ms : List (WForm Word)) → all_written ms ≡ true → each (broken_form T xs) ms ≡ [] → AllScoped K zs (map (named_form T xs) ms)
    fun-measures xs zs e [] c u = tt
    fun-measures xs zs e (m ∷ ms) c u = (
      subst (λ n. FormScoped K true n (named_form T xs m)) e (fun-form xs m (and-left (form_written true m) _ c) (none-left (broken_form T xs m) _ u)),
      fun-measures xs zs e ms (and-right (form_written true m) _ c) (none-right (broken_form T xs m) _ u),
    )

    fun-params : (xs : Names) (zs : Ctx) → length xs ≡ length zs → (ps : List (WParam Word)) → params_written ps ≡ true → broken_params T xs ps ≡ [] → ParamsScoped K zs (named_params T xs ps)
    fun-params xs zs e [] c u = tt
    fun-params xs zs e (p ∷ ps) c u =
        let ys = record { sort = sort_of (named_sort T p.sort); hidden = p.hidden } ∷ zs in
        let one : length (p.name.text ∷ xs) ≡ length ys = ap suc e in (
          fun-formula (p.name.text ∷ xs) ys one p.refine (and-left (optional_written p.refine) _ c) (none-second (broken_sort T p.sort) _ _ u),
          fun-params (p.name.text ∷ xs) ys one ps (and-right (optional_written p.refine) _ c) (none-third (broken_sort T p.sort) (optional (broken_form T (p.name.text ∷ xs)) p.refine) _ u),
        )

    known-effect : (e : EffectName Word) → broken_effect_name G b e ≡ [] → EffectKnown K (effect_of (named_effect_name G b e))
    known-effect name.Pure u = tt
    known-effect name.Ghost u = tt
    known-effect name.Div u = tt
    known-effect (name.User w) u = effects w u

    input-count : (e : EffectName Word) → broken_effect_name G b e ≡ [] → (xs : Names) (zs : Ctx) → length xs ≡ length zs → length (clause_names e xs) ≡ length (input_entry K (effect_of (named_effect_name G b e)) ++ zs)
    input-count name.Pure u xs zs q = q
    input-count name.Ghost u xs zs q = q
    input-count name.Div u xs zs q = q
    input-count (name.User w) u xs zs q = go (K.effects (named_effect G b w).reference.index) (effects w u)
      where
        go : (o : Option EffectSorts) → if_there o (λ e. ⊤) ⊥ → suc (length xs) ≡ length (if_there o (λ e. visible e.input ∷ []) [] ++ zs)
        go None h = absurd h
        go (Some e) h = ap suc q

    pub fun-names : (f : WFun Word) → decl_written (w_fun f) ≡ true → broken_fun_decl G b f ≡ [] → FunScoped K (named_fun_decl G b f)
    fun-names f c u =
        let xs = binding (map (λ p. p.name) f.params) [] in
        let zs = scope_of (named_params T [] f.params) in
        let names : length xs ≡ length f.params + 0 = count-binding (map (λ p. p.name) f.params) [] ∙ ap (λ n. n + 0) (count-map (λ p. p.name) f.params) in
        let entries : length zs ≡ length f.params = length-reverse (map param_entry (named_params T [] f.params)) ∙ count-map param_entry (named_params T [] f.params) ∙ count-params T [] f.params in
        let same : length xs ≡ length zs = omega arith in
        let c4 = and-left (params_written f.params && optional_written f.needs && optional_written f.gives && all_written f.measures) _ c in
        let c3 = and-left (params_written f.params && optional_written f.needs && optional_written f.gives) _ c4 in
        let c2 = and-left (params_written f.params && optional_written f.needs) _ c3 in
        let u9 = none-left _ (broken_text T xs f.body) u in
        let u8 = none-left _ (each (broken_form T xs) f.measures) u9 in
        let u7 = none-left _ (optional (broken_form T (codes "result" ∷ clause_names f.effect xs)) f.gives) u8 in
        let u6 = none-left _ (optional (broken_form T (clause_names f.effect xs)) f.needs) u7 in
        let u5 = none-left _ (broken_sort T f.sort) u6 in
        let u4 = none-left _ (broken_effect_name G b f.effect) u5 in
        let clause = input-count f.effect (none-right _ (broken_effect_name G b f.effect) u5) xs zs same in
        record {
          effect_known = known-effect f.effect (none-right _ (broken_effect_name G b f.effect) u5);
          params = fun-params [] [] refl f.params (and-left (params_written f.params) _ c2) (none-right _ (broken_params T [] f.params) u4);
          needs = fun-formula (clause_names f.effect xs) (clause_scope K (named_fun_decl G b f)) clause f.needs (and-right (params_written f.params) _ c2) (none-right _ (optional (broken_form T (clause_names f.effect xs)) f.needs) u7);
          gives = fun-formula (codes "result" ∷ clause_names f.effect xs) (result_scope K (named_fun_decl G b f)) (ap suc clause) f.gives (and-right (params_written f.params && optional_written f.needs) _ c3) (none-right _ (optional (broken_form T (codes "result" ∷ clause_names f.effect xs)) f.gives) u8);
          measures = fun-measures xs zs same f.measures (and-right (params_written f.params && optional_written f.needs && optional_written f.gives) _ c4) (none-right _ (each (broken_form T xs) f.measures) u9);
          body = subst (λ n. TextScoped K true n (named_text T xs f.body)) same
              (text-scoped T K true (λ e. applied) called (λ e. effects) xs f.body (and-right (params_written f.params && optional_written f.needs && optional_written f.gives && all_written f.measures) _ c) (none-right _ (broken_text T xs f.body) u));
        }

  fun-scoped : (b : Before) (f : WFun Word) → decl_written (w_fun f) ≡ true → broken_fun_decl G b f ≡ [] → FunScoped K (named_fun_decl G b f)
  fun-scoped b = fun-names b K (applied-there b) (called-there b) (effects-there b)

  -- ---- effects and lifts

  -- a call of a header's computation
  run-there : (b : Before) (f g : Option Callee) (w : Word) (n : ℕ) (o : Option ℕ) → (o ≡ Some zero → Takes f 1) → ((k : ℕ) → o ≡ Some (suc k) → Takes g 2)
      → listed (run_use w o).broken ≡ [] → broken_count (run_use w o).arity n w ≡ [] → Takes (run_of f g (run_use w o).reference.kind) n
  run-there b f g w n None p q u c = cc
  run-there b f g w n (Some zero) p q u c = subst (Takes f) (sym (count-right 1 n w c)) (p refl)
  run-there b f g w n (Some (suc k)) p q u c = subst (Takes g) (sym (count-right 2 n w c)) (q k refl)

  -- the text of a definition, over names as many as its entries
  dm-scoped : (b : Before) (f g : Option Callee) (runs xs : Names) (n : ℕ) (c : WText Word) → length xs ≡ n
      → ((w : Word) → number_of w.text runs ≡ Some zero → Takes f 1) → ((w : Word) (k : ℕ) → number_of w.text runs ≡ Some (suc k) → Takes g 2)
      → text_written false c ≡ true → broken_dm G b runs xs c ≡ [] → TextScoped (known_in_definition f g) false n (named_dm G b runs xs c)
  dm-scoped b f g runs xs n c e p q w u =
      subst (λ n. TextScoped (known_in_definition f g) false n (named_dm G b runs xs c)) e
      (text-scoped (definition_tables G b runs) (known_in_definition f g) false (λ e. cc) (λ v m. run-there b f g v m (number_of v.text runs) (p v) (q v)) (λ e. cc) xs c w u)

  two-names : (ws : List Word) → nat_eq (length ws) 2 ≡ true → length (binding ws []) ≡ 2
  two-names ws e = let p = (Decides-eqb (length ws) 2).0 e in let q = count-binding ws [] in omega arith

  three-inputs : (ws : List Word) → nat_eq (length ws) 3 ≡ true → length (input_of ws) ≡ 1
  three-inputs ws e = go ws ((Decides-eqb (length ws) 3).0 e)
    where
      go : (ws : List Word) → length ws ≡ 3 → length (input_of ws) ≡ 1
      go (w ∷ v ∷ u ∷ []) e = refl
      go [] e = cc
      go (w ∷ []) e = cc
      go (w ∷ v ∷ []) e = cc
      go (w ∷ v ∷ u ∷ t ∷ ws) e = cc

  two-inputs : (ws : List Word) → nat_eq (length ws) 2 ≡ true → (length (input_of ws) ≡ 1) × (length (runs_of ws) ≡ 1)
  two-inputs ws e = go ws ((Decides-eqb (length ws) 2).0 e)
    where
      go : (ws : List Word) → length ws ≡ 2 → (length (input_of ws) ≡ 1) × (length (runs_of ws) ≡ 1)
      go (w ∷ v ∷ []) e = (refl, refl)
      go [] e = cc
      go (w ∷ []) e = cc
      go (w ∷ v ∷ u ∷ ws) e = cc

  effect-scoped : (b : Before) (d : WEffect Word) → decl_written (w_effect d) ≡ true → broken_effect_decl G b d ≡ [] → EffectScoped (named_effect_decl G b d)
  effect-scoped b d c u =
      let c3 = and-left (nat_eq (length d.ret_names) 2 && text_written false d.ret && nat_eq (length d.bind_names) 3) _ c in
      let c2 = and-left (nat_eq (length d.ret_names) 2 && text_written false d.ret) _ c3 in
      let u7 = none-left _ (broken_dm G b (runs_of d.bind_names) (input_of d.bind_names) d.bind) u in
      let u6 = none-left _ (broken_words [] d.bind_names) u7 in
      record {
        ret_names = (Decides-eqb (length d.ret_names) 2).0 (and-left (nat_eq (length d.ret_names) 2) _ c2);
        bind_names = (Decides-eqb (length d.bind_names) 3).0 (and-right (nat_eq (length d.ret_names) 2 && text_written false d.ret) _ c3);
        ret = dm-scoped b None None [] (binding d.ret_names []) 2 d.ret (two-names d.ret_names (and-left (nat_eq (length d.ret_names) 2) _ c2)) (λ w e. cc) (λ w k e. cc)
            (and-right (nat_eq (length d.ret_names) 2) _ c2) (none-right _ (broken_dm G b [] (binding d.ret_names []) d.ret) u6);
        bind = dm-scoped b _ _ (runs_of d.bind_names) (input_of d.bind_names) 1 d.bind (three-inputs d.bind_names (and-right (nat_eq (length d.ret_names) 2 && text_written false d.ret) _ c3)) (λ w e. refl) (λ w k e. refl)
            (and-right (nat_eq (length d.ret_names) 2 && text_written false d.ret && nat_eq (length d.bind_names) 3) _ c) (none-right _ (broken_dm G b (runs_of d.bind_names) (input_of d.bind_names) d.bind) u);
      }

  lift-scoped : (b : Before) (l : WLift Word) → decl_written (w_lift l) ≡ true → broken_lift_decl G b l ≡ [] → LiftScoped (map effect_sorts (effects_of rs)) (named_lift_decl G b l)
  lift-scoped b l c u =
      let u3 = none-left _ (broken_dm G b (runs_of l.names) (input_of l.names) l.text) u in
      let u2 = none-left (listed (named_effect G b l.from).broken ++ listed (named_effect G b l.«to»).broken) (broken_words [] l.names) u3 in
      let two = two-inputs l.names (and-left (nat_eq (length l.names) 2) _ c) in
      record {
        from = effect-within b l.from (none-left _ (listed (named_effect G b l.«to»).broken) u2);
        «to» = effect-within b l.«to» (none-right (listed (named_effect G b l.from).broken) _ u2);
        names = (Decides-eqb (length l.names) 2).0 (and-left (nat_eq (length l.names) 2) _ c);
        text = dm-scoped b _ None (runs_of l.names) (input_of l.names) 1 l.text two.0 (λ w e. refl)
            (λ w k e. let f = number-found w.text (runs_of l.names) 0 (suc k) e in let g = two.1 in absurd (omega arith))
            (and-right (nat_eq (length l.names) 2) _ c) (none-right _ (broken_dm G b (runs_of l.names) (input_of l.names) l.text) u);
      }

  -- ---- all declarations

  effects-scoped : (b : Before) (ds : List (WDecl Word)) (E : ℕ) (d : WEffect Ref) → are_written ds ≡ true → broken_from G b ds ≡ [] → slice_get (effects_of (named_from G b ds)) E ≡ Some d → EffectScoped d
  effects-scoped b [] E d c u e = cc
  effects-scoped b (w_effect x ∷ ds) zero d c u e =
      let p : named_effect_decl G b x ≡ d = cc in subst EffectScoped p (effect-scoped b x (and-left (decl_written (w_effect x)) _ c) (none-left (broken_decl G b (w_effect x)) _ u))
  effects-scoped b (w_effect x ∷ ds) (suc E) d c u e = effects-scoped (after b (w_effect x)) ds E d (and-right (decl_written (w_effect x)) _ c) (none-right (broken_decl G b (w_effect x)) _ u) e
  effects-scoped b (w_lift x ∷ ds) E d c u e = effects-scoped b ds E d (and-right (decl_written (w_lift x)) _ c) (none-right (broken_decl G b (w_lift x)) _ u) e
  effects-scoped b (w_fun x ∷ ds) E d c u e = effects-scoped (after b (w_fun x)) ds E d (and-right (decl_written (w_fun x)) _ c) (none-right (broken_decl G b (w_fun x)) _ u) e

  lifts-scoped : (b : Before) (ds : List (WDecl Word)) (n : ℕ) (l : WLift Ref) → are_written ds ≡ true → broken_from G b ds ≡ [] → slice_get (lifts_of (named_from G b ds)) n ≡ Some l → LiftScoped (map effect_sorts (effects_of rs)) l
  lifts-scoped b [] n l c u e = cc
  lifts-scoped b (w_effect x ∷ ds) n l c u e = lifts-scoped (after b (w_effect x)) ds n l (and-right (decl_written (w_effect x)) _ c) (none-right (broken_decl G b (w_effect x)) _ u) e
  lifts-scoped b (w_lift x ∷ ds) zero l c u e =
      let p : named_lift_decl G b x ≡ l = cc in subst (LiftScoped (map effect_sorts (effects_of rs))) p (lift-scoped b x (and-left (decl_written (w_lift x)) _ c) (none-left (broken_decl G b (w_lift x)) _ u))
  lifts-scoped b (w_lift x ∷ ds) (suc n) l c u e = lifts-scoped b ds n l (and-right (decl_written (w_lift x)) _ c) (none-right (broken_decl G b (w_lift x)) _ u) e
  lifts-scoped b (w_fun x ∷ ds) n l c u e = lifts-scoped (after b (w_fun x)) ds n l (and-right (decl_written (w_fun x)) _ c) (none-right (broken_decl G b (w_fun x)) _ u) e

  funs-scoped : (b : Before) (g i : ℕ) (ds : List (WDecl Word)) (k : ℕ) (f : Placed) → are_written ds ≡ true → broken_from G b ds ≡ [] → slice_get (funs_from g i (named_from G b ds)) k ≡ Some f → FunScoped K f.tree
  funs-scoped b g i [] k f c u e = cc
  funs-scoped b g i (w_effect x ∷ ds) k f c u e = funs-scoped (after b (w_effect x)) g i ds k f (and-right (decl_written (w_effect x)) _ c) (none-right (broken_decl G b (w_effect x)) _ u) e
  funs-scoped b g i (w_lift x ∷ ds) k f c u e = funs-scoped b g i ds k f (and-right (decl_written (w_lift x)) _ c) (none-right (broken_decl G b (w_lift x)) _ u) e
  funs-scoped b g i (w_fun x ∷ ds) zero f c u e =
      let b' = own_group (w_fun x) b in
      let p : record { tree = named_fun_decl G b' x; number = i; group = place_in x.joined g i } ≡ f = cc in
      subst (λ f. FunScoped K f.tree) p (fun-scoped b' x (and-left (decl_written (w_fun x)) _ c) (none-left (broken_decl G b (w_fun x)) _ u))
  funs-scoped b g i (w_fun x ∷ ds) (suc k) f c u e = funs-scoped (after b (w_fun x)) (place_in x.joined g i) (suc i) ds k f (and-right (decl_written (w_fun x)) _ c) (none-right (broken_decl G b (w_fun x)) _ u) e

  pub program-scoped : are_written all ≡ true → broken_names all ≡ [] → AreScoped rs
  program-scoped c u = record {
    effects = λ E d e. effects-scoped start all E d c u e;
    lifts = λ n l e. lifts-scoped start all n l c u e;
    funs = λ k f e. funs-scoped start 0 0 all k f c u e;
  }
