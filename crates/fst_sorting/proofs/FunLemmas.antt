-- Functions, a part of them at a time.
use Rattle.std.proofs.Common.{◌≡◌, ℕ, ◌+◌, ◌<◌, true, List, [], ◌∷◌, ◌++◌, map, reverse, length, take, get_or, Option, Some, None, refl, sym, ap, ◌∙◌, append_assoc}
use Rattle.std.specs.Prelude.{option_map}
use Rattle.std.proofs.lemmas.List.{append-nil, take_more, map-append}
use Rattle.fst_base.specs.Sorts.{Srt, s_int}
use Rattle.fst_program.specs.declared.effect.Effect.{Effect}
use Rattle.fst_program.specs.declared.effect.Effect.TheVariants as effect
use Rattle.fst_program.specs.Texts.{Fn, is_ghost}
use Rattle.fst_names.specs.declared.broken.Broken.{Broken}
use Rattle.fst_names.specs.Broken.{first_broken, least}
use Rattle.fst_names.specs.Names.{each, optional}
use Rattle.fst_names.specs.Trees.{plain_form, plain_text, plain_wparam}
use Rattle.fst_names.proofs.BrokenLemmas.{first-append, least-assoc}
use Rattle.fst_effects.specs.Known.{Ctx, EffectSorts, Known}
use Rattle.fst_effects.specs.TermSorts.{broken, visible}
use Rattle.fst_effects.specs.TextSorts.{broken_text}
use Rattle.fst_sorting.specs.declared.listing.Placed as P
use Rattle.fst_sorting.specs.Bodies.{text_breaks, text_core}
use Rattle.fst_sorting.specs.Functions.{Placed, effect_of, results, no_measure, scope_of, input_entry, broken_formula, broken_refinements, broken_fun}
use Rattle.fst_sorting.specs.Listed.{placed_in, all_placed, entries_of, own_effect, with_input, head_results, maybe_breaks, maybe_core, params_break, params_core, measures_break, measures_core, clauses_break, loose_of, fun_breaks, funs_break, fun_core}
use Rattle.fst_sorting.specs.Sites.{written_sort}
use Rattle.fst_sorting.proofs.CalleeLemmas.{entries-plain, results-own}

module _ (K : Known) where
  -- the input in scope
  there-input : (o : Option EffectSorts) (E : ℕ) (xs : Ctx) → K.effects E ≡ o → input_entry K (effect.User E) ++ xs ≡ with_input (K.effects E) xs
  there-input None E xs q = rw q refl
  there-input (Some e) E xs q = rw q refl

  input-own : (x : Effect) (xs : Ctx) → input_entry K x ++ xs ≡ with_input (own_effect K.effects x) xs
  input-own effect.Pure xs = refl
  input-own effect.Ghost xs = refl
  input-own effect.Div xs = refl
  input-own (effect.User E) xs = there-input (K.effects E) E xs refl

  -- what a function breaks, where its parameters, its clauses and its results stand so
  abbrev parted : List Placed → P.Placed → (scope clause : Ctx) → Srt → List Broken
  parted fs p xs ys R =
      let h = p.tree.now.head in
      no_measure K fs (placed_in p) ++ broken_refinements K [] (map plain_wparam h.params)
      ++ optional (broken_formula K ys) (option_map plain_form h.needs) ++ optional (broken_formula K (visible R ∷ ys)) (option_map plain_form h.gives)
      ++ each (λ m. broken K.applied true xs m (Some s_int)) (map plain_form h.measures)
      ++ broken_text K (effect_of h.effect) (is_ghost (effect_of h.effect)) xs (plain_text p.tree.now.body) (Some (written_sort h.sort))

  six : (a b c d e f : List Broken) → first_broken (a ++ b ++ c ++ d ++ e ++ f)
      ≡ least (least (least (least (first_broken a) (first_broken b)) (least (first_broken c) (first_broken d))) (first_broken e)) (first_broken f)
  six a b c d e f =
      first-append (a ++ b ++ c ++ d ++ e) f
      ∙ ap (λ o. least o (first_broken f)) (first-append (a ++ b ++ c ++ d) e
      ∙ ap (λ o. least o (first_broken e)) (first-append (a ++ b ++ c) d
      ∙ ap (λ o. least o (first_broken d)) (first-append (a ++ b) c ∙ ap (λ o. least o (first_broken c)) (first-append a b))
      ∙ least-assoc (least (first_broken a) (first_broken b)) (first_broken c) (first_broken d)))

  pub fun-parts : (fs : List Placed) (p : P.Placed) → fun_breaks K fs (placed_in p)
      ≡ (let h = p.tree.now.head in let xs = reverse (entries_of h.params) in
      least (least (least (least (loose_of K fs (placed_in p)) (params_break K h.params)) (clauses_break K (own_effect K.effects (effect_of h.effect)) (head_results K.effects h) xs h)) (measures_break K xs h.measures))
      (text_breaks K (effect_of h.effect) (is_ghost (effect_of h.effect)) xs p.tree.now.body (Some (written_sort h.sort))))
  unfolding fun_breaks loose_of params_break maybe_breaks measures_break text_breaks written_sort
  fun-parts fs p =
      let h = p.tree.now.head in
      let x = effect_of h.effect in
      let xs = scope_of (map plain_wparam h.params) in
      let zs = reverse (entries_of h.params) in
      let e : xs ≡ zs = ap reverse (entries-plain h.params) in
      let R = results x K.effects (written_sort h.sort) in
      ap (λ ys. first_broken (parted fs p xs ys R)) (input-own x xs)
      ∙ ap (λ ys. first_broken (parted fs p ys (with_input (own_effect K.effects x) ys) R)) e
      ∙ ap (λ S. first_broken (parted fs p zs (with_input (own_effect K.effects x) zs) S)) (results-own x K.effects (written_sort h.sort))
      ∙ six (no_measure K fs (placed_in p)) (broken_refinements K [] (map plain_wparam h.params))
      (optional (broken_formula K (with_input (own_effect K.effects x) zs)) (option_map plain_form h.needs))
      (optional (broken_formula K (visible (head_results K.effects h) ∷ with_input (own_effect K.effects x) zs)) (option_map plain_form h.gives))
      (each (λ m. broken K.applied true zs m (Some s_int)) (map plain_form h.measures))
      (broken_text K x (is_ghost x) zs (plain_text p.tree.now.body) (Some (written_sort h.sort)))

  -- the function, where they stand so
  abbrev made : P.Placed → (scope clause : Ctx) → Srt → Fn
  made p xs ys R =
      let h = p.tree.now.head in
      record {
        name = h.name.text;
        place = h.name.at.at;
        params = params_core K h.params;
        effect = effect_of h.effect;
        sort = written_sort h.sort;
        needs = maybe_core K ys h.needs;
        gives = maybe_core K (visible R ∷ ys) h.gives;
        measures = measures_core K xs h.measures;
        unfolds = h.«unfold»;
        body = text_core K (effect_of h.effect) xs p.tree.now.body (Some (written_sort h.sort));
        group = p.group;
      }

  pub fun-core : (p : P.Placed) → fun_core K (placed_in p)
      ≡ (let h = p.tree.now.head in let xs = reverse (entries_of h.params) in made p xs (with_input (own_effect K.effects (effect_of h.effect)) xs) (head_results K.effects h))
  unfolding fun_core params_core maybe_core measures_core text_core written_sort
  fun-core p =
      let h = p.tree.now.head in
      let x = effect_of h.effect in
      let xs = scope_of (map plain_wparam h.params) in
      let zs = reverse (entries_of h.params) in
      let e : xs ≡ zs = ap reverse (entries-plain h.params) in
      let R = results x K.effects (written_sort h.sort) in
      ap (λ ys. made p xs ys R) (input-own x xs)
      ∙ ap (λ ys. made p ys (with_input (own_effect K.effects x) ys) R) e
      ∙ ap (λ S. made p zs (with_input (own_effect K.effects x) zs) S) (results-own x K.effects (written_sort h.sort))

  -- ---- all functions

  pub funs-none : (fs : List Placed) → funs_break K fs [] ≡ None
  unfolding funs_break
  funs-none fs = refl

  each-more : (fs gs : List Placed) (g : Placed) → each (broken_fun K fs) (gs ++ g ∷ []) ≡ each (broken_fun K fs) gs ++ broken_fun K fs g
  each-more fs [] g = append-nil (broken_fun K fs g)
  each-more fs (h ∷ gs) g = ap (λ bs. broken_fun K fs h ++ bs) (each-more fs gs g) ∙ sym (append_assoc (broken_fun K fs h) (each (broken_fun K fs) gs) (broken_fun K fs g))

  pub funs-step : (fs : List Placed) (ps : List P.Placed) (i : ℕ) (p : P.Placed) → p ≡ get_or ps i p → i < length ps
      → funs_break K fs (all_placed (take (i + 1) ps)) ≡ least (funs_break K fs (all_placed (take i ps))) (fun_breaks K fs (placed_in p))
  unfolding funs_break fun_breaks
  funs-step fs ps i p e h =
      ap (λ qs. first_broken (each (broken_fun K fs) (all_placed qs))) (take_more ps i p h ∙ ap (λ q. take i ps ++ q ∷ []) (sym e))
      ∙ ap (λ gs. first_broken (each (broken_fun K fs) gs)) (map-append placed_in (take i ps) (p ∷ []))
      ∙ ap first_broken (each-more fs (all_placed (take i ps)) (placed_in p))
      ∙ first-append (each (broken_fun K fs) (all_placed (take i ps))) (broken_fun K fs (placed_in p))

pub ruleset checks = (fun-parts)

pub ruleset cores = (fun-core)

pub ruleset lists = (funs-none, funs-step)
