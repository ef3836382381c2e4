-- What the code knows of a program is what is known in it.
use Rattle.std.proofs.Common.{◌≡◌, ℕ, false, List, [], ◌∷◌, map, slice_get, Option, Some, None, refl, sym, ap, ◌∙◌}
use Rattle.std.specs.Prelude.{option_map}
use Rattle.std.proofs.lemmas.Option.{slice_get-map}
use Rattle.fst_program.specs.declared.definition.EffectDef.{EffectDef}
use Rattle.fst_program.specs.declared.fun.Fun.{Fun}
use Rattle.fst_program.specs.Plain.{plain_effect, plain_fun}
use Rattle.fst_program.specs.Texts.{EffDef}
use Rattle.fst_program.specs.LiftPaths.{path}
use Rattle.fst_trees.specs.declared.decl.Decl.{Decl}
use Rattle.fst_names.specs.declared.reference.Ref.{Ref}
use Rattle.fst_names.specs.declared.broken.Broken.{Broken}
use Rattle.fst_names.specs.Broken.{first_broken}
use Rattle.fst_names.specs.Namings.{ref_at}
use Rattle.fst_names.specs.Trees.{WDecl, plain_decl, plain_wfun}
use Rattle.fst_names.proofs.BrokenLemmas.{is_there}
use Rattle.fst_effects.specs.declared.callee.Callee as C
use Rattle.fst_effects.specs.Known.{Callee, EffectSorts, Known}
use Rattle.fst_effects.specs.Scopes.{callee_of, applied_in}
use Rattle.fst_effects.specs.Definitions.{core_effect, core_effects, core_lifts, effect_sorts, effects_of}
use Rattle.fst_sorting.specs.declared.listing.Placed as P
use Rattle.fst_sorting.specs.Functions.{Placed, called_as, applied_as, funs_of, known_in, broken_funs, core_program}
use Rattle.fst_sorting.specs.Listed.{placed_in, all_placed, listed, called_of, applied_of, funs_break, fun_core}
use Rattle.fst_sorting.specs.Sites.{Paths, effects_in, path_in}

funext : {A B : Type 0} {f g : A → B} → ((x : A) → f x ≡ g x) → f ≡ g
funext h = λ i x. h x i

-- an effect's sorts
plain_sorts : EffDef → EffectSorts
plain_sorts d = record { base = d.base; input = d.input; result = d.result }

map-map : {A B C : Type 0} (g : B → C) (f : A → B) (o : Option A) → option_map g (option_map f o) ≡ option_map (λ x. g (f x)) o
map-map g f None = refl
map-map g f (Some a) = refl

module _ (ds : List (WDecl Ref)) (es : List EffectDef) (E : map plain_effect es ≡ core_effects ds) where
  effect-known : (n : ℕ) → effects_in es n ≡ option_map effect_sorts (slice_get (effects_of ds) n)
  unfolding plain_sorts
  effect-known n =
      sym (map-map plain_sorts plain_effect (slice_get es n))
      ∙ ap (option_map plain_sorts) (sym (slice_get-map plain_effect es n) ∙ ap (λ ds. slice_get ds n) E ∙ slice_get-map core_effect (effects_of ds) n)
      ∙ map-map plain_sorts core_effect (slice_get (effects_of ds) n)

  effects-known : effects_in es ≡ (λ n. option_map effect_sorts (slice_get (effects_of ds) n))
  effects-known = funext effect-known

-- a table of functions, by their numbers
by-number : (funs : List P.Placed) (cs : List C.Callee) (f : P.Placed → Callee) (g : Placed → Callee) → ((p : P.Placed) → f p ≡ g (placed_in p)) → map callee_of cs ≡ map f funs
    → (r : Ref) → applied_in cs r ≡ option_map g (slice_get (all_placed funs) r.index)
by-number funs cs f g same e r =
    sym (slice_get-map callee_of cs r.index) ∙ ap (λ xs. slice_get xs r.index) e ∙ slice_get-map f funs r.index
    ∙ ap (λ h. option_map h (slice_get funs r.index)) (funext same)
    ∙ sym (map-map g placed_in (slice_get funs r.index)) ∙ ap (option_map g) (sym (slice_get-map placed_in funs r.index))

-- what the code knows
abbrev pub gathered : (called applied : List C.Callee) → List EffectDef → Paths → Known
gathered called applied es paths = record { called = applied_in called; applied = applied_in applied; effects = effects_in es; path = path_in paths; complete = false }

module _ (ds : List (Decl Ref)) (es : List EffectDef) (funs : List P.Placed) (called applied : List C.Callee) (paths : Paths)
    (E : map plain_effect es ≡ core_effects (map (plain_decl ref_at) ds)) (F : all_placed funs ≡ listed ds)
    (C : map callee_of called ≡ map (λ p. called_of p.tree.now) funs) (A : map callee_of applied ≡ map (λ p. applied_of (effects_in es) p.tree.now) funs)
    (T : path_in paths ≡ path (core_lifts (map (plain_decl ref_at) ds))) where
  known-is : gathered called applied es paths ≡ known_in (map (plain_decl ref_at) ds)
  unfolding listed called_of applied_of
  known-is =
      let sorts = λ (n : ℕ). option_map effect_sorts (slice_get (effects_of (map (plain_decl ref_at) ds)) n) in
      let e : effects_in es ≡ sorts = effects-known (map (plain_decl ref_at) ds) es E in
      let c : applied_in called ≡ (λ r. option_map (λ f. called_as sorts f.tree) (slice_get (funs_of (map (plain_decl ref_at) ds)) r.index)) =
      funext (λ r. by-number funs called (λ p. called_of p.tree.now) (λ f. called_as sorts f.tree) (λ p. refl) C r ∙ ap (λ fs. option_map (λ f. called_as sorts f.tree) (slice_get fs r.index)) F) in
      let a : applied_in applied ≡ (λ r. option_map (λ f. applied_as sorts f.tree) (slice_get (funs_of (map (plain_decl ref_at) ds)) r.index)) =
      funext (λ r. by-number funs applied (λ p. applied_of (effects_in es) p.tree.now) (λ f. applied_as sorts f.tree) (λ p. ap (λ h. applied_as h (plain_wfun p.tree.now)) e) A r ∙ ap (λ fs. option_map (λ f. applied_as sorts f.tree) (slice_get fs r.index)) F) in
      λ i. record { called = c i; applied = a i; effects = e i; path = T i; complete = false }

  broken-is : funs_break (gathered called applied es paths) (all_placed funs) (all_placed funs) ≡ first_broken (broken_funs (map (plain_decl ref_at) ds))
  unfolding funs_break listed
  broken-is = ap (λ K. funs_break K (all_placed funs) (all_placed funs)) known-is ∙ ap (λ fs. funs_break (known_in (map (plain_decl ref_at) ds)) fs fs) F

  none-broken : (bs : List Broken) → first_broken bs ≡ None → bs ≡ []
  none-broken [] e = refl
  none-broken (b ∷ bs) e = let h = is_there b (first_broken bs) in let g = h.1 in cc

  pub funs-ok : funs_break (gathered called applied es paths) (all_placed funs) (all_placed funs) ≡ None → broken_funs (map (plain_decl ref_at) ds) ≡ []
  funs-ok e = none-broken (broken_funs (map (plain_decl ref_at) ds)) (sym broken-is ∙ e)

  pub funs-refused : (b : Broken) → funs_break (gathered called applied es paths) (all_placed funs) (all_placed funs) ≡ Some b → first_broken (broken_funs (map (plain_decl ref_at) ds)) ≡ Some b
  funs-refused b e = sym broken-is ∙ e

  somes : {A B : Type 0} (f : A → B) (xs : List A) → map (λ x. Some (f x)) xs ≡ map Some (map f xs)
  somes f [] = refl
  somes f (x ∷ xs) = ap (λ ys. Some (f x) ∷ ys) (somes f xs)

  somes-placed : (K : Known) (ps : List P.Placed) → map Some (map (λ p. fun_core K (placed_in p)) ps) ≡ map (λ f. Some (fun_core K f)) (all_placed ps)
  somes-placed K [] = refl
  somes-placed K (p ∷ ps) = ap (λ ys. Some (fun_core K (placed_in p)) ∷ ys) (somes-placed K ps)

  pub funs-made : (made : List Fun) → map plain_fun made ≡ map (λ p. fun_core (gathered called applied es paths) (placed_in p)) funs → map (λ f. Some (plain_fun f)) made ≡ (core_program (map (plain_decl ref_at) ds)).funs
  unfolding fun_core listed
  funs-made made e =
      somes plain_fun made ∙ ap (map Some) e ∙ somes-placed (gathered called applied es paths) funs
      ∙ ap (λ K. map (λ f. Some (fun_core K f)) (all_placed funs)) known-is ∙ ap (map (λ f. Some (fun_core (known_in (map (plain_decl ref_at) ds)) f))) F
