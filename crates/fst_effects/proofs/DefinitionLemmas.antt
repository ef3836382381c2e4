-- The effects and the lifts of a program, a declaration at a time.
use Rattle.std.proofs.Common.{◌≡◌, ℕ, ◌+◌, ◌<◌, List, [], ◌∷◌, ◌++◌, map, length, take, get_or, Some, None, refl, sym, ap, ◌∙◌, append_assoc}
use Rattle.std.proofs.lemmas.List.{append-nil, take_more, map-append}
use Rattle.fst_trees.specs.declared.decl.EffectTree.{EffectTree}
use Rattle.fst_trees.specs.declared.decl.LiftTree.{LiftTree}
use Rattle.fst_trees.specs.declared.decl.FunTree.{FunTree}
use Rattle.fst_trees.specs.declared.decl.Decl.{Decl}
use Rattle.fst_trees.specs.declared.decl.Decl.TheVariants as decl
use Rattle.fst_names.specs.declared.reference.Ref.{Ref}
use Rattle.fst_names.specs.declared.broken.Broken.{Broken}
use Rattle.fst_names.specs.declared.named.Named.{Named}
use Rattle.fst_names.specs.Broken.{first_broken, least}
use Rattle.fst_names.specs.Names.{each}
use Rattle.fst_names.specs.Namings.{ref_at}
use Rattle.fst_names.specs.NamedDeclarations.{decls_in}
use Rattle.fst_names.specs.Trees.{WDecl, w_effect, w_lift, w_fun, plain_decl, plain_weffect, plain_wlift}
use Rattle.fst_names.proofs.BrokenLemmas.{first-append, is_there}
use Rattle.fst_program.specs.declared.definition.EffectDef.{EffectDef}
use Rattle.fst_program.specs.declared.definition.LiftDef.{LiftDef}
use Rattle.fst_base.specs.declared.place.Pos.{Pos}
use Rattle.fst_program.specs.Texts.{EffDef, LftDef}
use Rattle.fst_program.specs.Plain.{plain_effect, plain_lift}
use Rattle.fst_effects.specs.declared.headers.EffectSorts as E
use Rattle.fst_effects.specs.Known.{EffectSorts}
use Rattle.fst_effects.specs.Definitions as D
use Rattle.fst_effects.specs.Definitions.{broken_definitions, effects_of, lifts_of}
use Rattle.fst_effects.specs.WrittenSorts.{written_sort}
use Rattle.fst_effects.specs.Headers.{decls, effect_breaks, effect_core, effects_break, effects_core, header_sorts, lift_breaks, lift_core, lifts_break, lifts_core, places_of, sorts_in, sorts_of}

-- ---- one more declaration

effects-append : (xs ys : List (WDecl Ref)) → effects_of (xs ++ ys) ≡ effects_of xs ++ effects_of ys
effects-append [] ys = refl
effects-append (w_effect e ∷ xs) ys = ap (λ es. e ∷ es) (effects-append xs ys)
effects-append (w_lift l ∷ xs) ys = effects-append xs ys
effects-append (w_fun f ∷ xs) ys = effects-append xs ys

lifts-append : (xs ys : List (WDecl Ref)) → lifts_of (xs ++ ys) ≡ lifts_of xs ++ lifts_of ys
lifts-append [] ys = refl
lifts-append (w_effect e ∷ xs) ys = lifts-append xs ys
lifts-append (w_lift l ∷ xs) ys = ap (λ ls. l ∷ ls) (lifts-append xs ys)
lifts-append (w_fun f ∷ xs) ys = lifts-append xs ys

each-append : {A : Type 0} (k : A → List Broken) (xs ys : List A) → each k (xs ++ ys) ≡ each k xs ++ each k ys
each-append k [] ys = refl
each-append k (x ∷ xs) ys = ap (λ bs. k x ++ bs) (each-append k xs ys) ∙ sym (append_assoc (k x) (each k xs) (each k ys))

module _ (ds : List (Decl Ref)) (i : ℕ) (d : Decl Ref) (e : d ≡ get_or ds i d) (h : i < length ds) where
  one-more : decls (take (i + 1) ds) ≡ decls (take i ds) ++ decls (d ∷ [])
  one-more = ap decls (take_more ds i d h ∙ ap (λ c. take i ds ++ c ∷ []) (sym e)) ∙ map-append (plain_decl ref_at) (take i ds) (d ∷ [])

  effects-more : effects_of (decls (take (i + 1) ds)) ≡ effects_of (decls (take i ds)) ++ effects_of (decls (d ∷ []))
  effects-more = ap effects_of one-more ∙ effects-append (decls (take i ds)) (decls (d ∷ []))

  lifts-more : lifts_of (decls (take (i + 1) ds)) ≡ lifts_of (decls (take i ds)) ++ lifts_of (decls (d ∷ []))
  lifts-more = ap lifts_of one-more ∙ lifts-append (decls (take i ds)) (decls (d ∷ []))

  pub sorts-step : sorts_of (take (i + 1) ds) ≡ sorts_of (take i ds) ++ sorts_of (d ∷ [])
  unfolding sorts_of
  sorts-step = ap (map D.effect_sorts) effects-more ∙ map-append D.effect_sorts (effects_of (decls (take i ds))) (effects_of (decls (d ∷ [])))

  pub effects-step : effects_break (take (i + 1) ds) ≡ least (effects_break (take i ds)) (effects_break (d ∷ []))
  unfolding effects_break
  effects-step =
      ap (λ es. first_broken (each D.broken_effect es)) effects-more ∙ ap first_broken (each-append D.broken_effect (effects_of (decls (take i ds))) (effects_of (decls (d ∷ []))))
      ∙ first-append (each D.broken_effect (effects_of (decls (take i ds)))) (each D.broken_effect (effects_of (decls (d ∷ []))))

  pub lifts-step : (Es : List EffectSorts) → lifts_break Es (take (i + 1) ds) ≡ least (lifts_break Es (take i ds)) (lifts_break Es (d ∷ []))
  unfolding lifts_break
  lifts-step Es =
      ap (λ ls. first_broken (each (D.broken_lift Es) ls)) lifts-more ∙ ap first_broken (each-append (D.broken_lift Es) (lifts_of (decls (take i ds))) (lifts_of (decls (d ∷ []))))
      ∙ first-append (each (D.broken_lift Es) (lifts_of (decls (take i ds)))) (each (D.broken_lift Es) (lifts_of (decls (d ∷ []))))

  pub effects-core-step : effects_core (take (i + 1) ds) ≡ effects_core (take i ds) ++ effects_core (d ∷ [])
  unfolding effects_core
  effects-core-step = ap (map D.core_effect) effects-more ∙ map-append D.core_effect (effects_of (decls (take i ds))) (effects_of (decls (d ∷ [])))

  pub lifts-core-step : (Es : List EffectSorts) → lifts_core Es (take (i + 1) ds) ≡ lifts_core Es (take i ds) ++ lifts_core Es (d ∷ [])
  unfolding lifts_core
  lifts-core-step Es = ap (map (D.core_lift Es)) lifts-more ∙ map-append (D.core_lift Es) (lifts_of (decls (take i ds))) (lifts_of (decls (d ∷ [])))

  pub places-step : places_of (take (i + 1) ds) ≡ places_of (take i ds) ++ places_of (d ∷ [])
  unfolding places_of
  places-step = ap (map (λ l. l.place)) lifts-more ∙ map-append (λ l. l.place) (lifts_of (decls (take i ds))) (lifts_of (decls (d ∷ [])))

-- ---- the sorts of effects

pub sorts-none : sorts_of [] ≡ []
unfolding sorts_of
sorts-none = refl

pub sorts-Effect : (e : EffectTree Ref) → sorts_of (decl.Effect e ∷ []) ≡ header_sorts e ∷ []
unfolding sorts_of written_sort
sorts-Effect e = refl

pub sorts-Lift : (l : LiftTree Ref) (Es : List EffectSorts) → Es ++ sorts_of (decl.Lift l ∷ []) ≡ Es
unfolding sorts_of
sorts-Lift l Es = append-nil Es

pub sorts-Fun : (f : FunTree Ref) (Es : List EffectSorts) → Es ++ sorts_of (decl.Fun f ∷ []) ≡ Es
unfolding sorts_of
sorts-Fun f Es = append-nil Es

pub sorts-put : (es : List E.EffectSorts) (e : E.EffectSorts) → map sorts_in (es ++ e ∷ []) ≡ map sorts_in es ++ sorts_in e ∷ []
sorts-put es e = map-append sorts_in es (e ∷ [])

pub ruleset sorts = (sorts-Effect, sorts-Lift, sorts-Fun, sorts-put)

pub ruleset sort_steps = (sorts-none, sorts-step)

-- ---- what effects break

pub effects-none : effects_break [] ≡ None
unfolding effects_break
effects-none = refl

pub effects-Effect : (e : EffectTree Ref) → effects_break (decl.Effect e ∷ []) ≡ effect_breaks e
unfolding effects_break effect_breaks
effects-Effect e = ap first_broken (append-nil (D.broken_effect (plain_weffect ref_at e)))

pub effects-Lift : (l : LiftTree Ref) → effects_break (decl.Lift l ∷ []) ≡ None
unfolding effects_break
effects-Lift l = refl

pub effects-Fun : (f : FunTree Ref) → effects_break (decl.Fun f ∷ []) ≡ None
unfolding effects_break
effects-Fun f = refl

pub ruleset effect_checks = (effects-Effect, effects-Lift, effects-Fun)

pub ruleset effect_steps = (effects-none, effects-step)

-- ---- what lifts break

module _ (Es : List EffectSorts) where
  pub lifts-none : lifts_break Es [] ≡ None
  unfolding lifts_break
  lifts-none = refl

  pub lifts-Effect : (e : EffectTree Ref) → lifts_break Es (decl.Effect e ∷ []) ≡ None
  unfolding lifts_break
  lifts-Effect e = refl

  pub lifts-Lift : (l : LiftTree Ref) → lifts_break Es (decl.Lift l ∷ []) ≡ lift_breaks Es l
  unfolding lifts_break lift_breaks
  lifts-Lift l = ap first_broken (append-nil (D.broken_lift Es (plain_wlift ref_at l)))

  pub lifts-Fun : (f : FunTree Ref) → lifts_break Es (decl.Fun f ∷ []) ≡ None
  unfolding lifts_break
  lifts-Fun f = refl

pub ruleset lift_checks = (lifts-Effect, lifts-Lift, lifts-Fun)

pub ruleset lift_steps = (lifts-none, lifts-step)

-- ---- effects

pub effects-core-none : effects_core [] ≡ []
unfolding effects_core
effects-core-none = refl

pub core-Effect : (e : EffectTree Ref) → effects_core (decl.Effect e ∷ []) ≡ effect_core e ∷ []
unfolding effects_core effect_core
core-Effect e = refl

pub core-Lift : (l : LiftTree Ref) (es : List EffDef) → es ++ effects_core (decl.Lift l ∷ []) ≡ es
unfolding effects_core
core-Lift l es = append-nil es

pub core-Fun : (f : FunTree Ref) (es : List EffDef) → es ++ effects_core (decl.Fun f ∷ []) ≡ es
unfolding effects_core
core-Fun f es = append-nil es

pub effect-put : (es : List EffectDef) (e : EffectDef) → map plain_effect (es ++ e ∷ []) ≡ map plain_effect es ++ plain_effect e ∷ []
effect-put es e = map-append plain_effect es (e ∷ [])

pub ruleset effect_cores = (core-Effect, core-Lift, core-Fun, effect-put)

pub ruleset effect_core_steps = (effects-core-none, effects-core-step)

-- ---- lifts

module _ (Es : List EffectSorts) where
  pub lifts-core-none : lifts_core Es [] ≡ []
  unfolding lifts_core
  lifts-core-none = refl

  pub lift-of-Effect : (e : EffectTree Ref) (ls : List LftDef) → ls ++ lifts_core Es (decl.Effect e ∷ []) ≡ ls
  unfolding lifts_core
  lift-of-Effect e ls = append-nil ls

  pub lift-of-Lift : (l : LiftTree Ref) → lifts_core Es (decl.Lift l ∷ []) ≡ lift_core Es l ∷ []
  unfolding lifts_core lift_core
  lift-of-Lift l = refl

  pub lift-of-Fun : (f : FunTree Ref) (ls : List LftDef) → ls ++ lifts_core Es (decl.Fun f ∷ []) ≡ ls
  unfolding lifts_core
  lift-of-Fun f ls = append-nil ls

pub lift-put : (ls : List LiftDef) (l : LiftDef) → map plain_lift (ls ++ l ∷ []) ≡ map plain_lift ls ++ plain_lift l ∷ []
lift-put ls l = map-append plain_lift ls (l ∷ [])

pub ruleset lift_cores = (lift-of-Effect, lift-of-Lift, lift-of-Fun, lift-put)

pub ruleset lift_core_steps = (lifts-core-none, lifts-core-step)

-- ---- places of lifts

pub places-none : places_of [] ≡ []
unfolding places_of
places-none = refl

pub places-Effect : (e : EffectTree Ref) (ps : List ℕ) → ps ++ places_of (decl.Effect e ∷ []) ≡ ps
unfolding places_of
places-Effect e ps = append-nil ps

pub places-Lift : (l : LiftTree Ref) → places_of (decl.Lift l ∷ []) ≡ l.at.at ∷ []
unfolding places_of
places-Lift l = refl

pub places-Fun : (f : FunTree Ref) (ps : List ℕ) → ps ++ places_of (decl.Fun f ∷ []) ≡ ps
unfolding places_of
places-Fun f ps = append-nil ps

pub place-put : (ps : List Pos) (p : Pos) → map (λ q. q.at) (ps ++ p ∷ []) ≡ map (λ q. q.at) ps ++ p.at ∷ []
place-put ps p = map-append (λ q. q.at) ps (p ∷ [])

pub places-all : (p : Named) → places_of p.decls ≡ map (λ l. l.place) (lifts_of (decls_in p))
unfolding places_of
places-all p = refl

pub ruleset places = (places-Effect, places-Lift, places-Fun, place-put)

pub ruleset place_steps = (places-none, places-step)

pub ruleset placed = (places-all)

-- ---- the answer

none-broken : (bs : List Broken) → first_broken bs ≡ None → bs ≡ []
none-broken [] e = refl
none-broken (b ∷ bs) e = let t = is_there b (first_broken bs) in let s : None ≡ Some t.0 = sym e ∙ t.1 in cc

pub answer-is : (p : Named) → least (effects_break p.decls) (lifts_break (sorts_of p.decls) p.decls) ≡ first_broken (broken_definitions (decls_in p))
unfolding effects_break lifts_break sorts_of
answer-is p = sym (first-append (each D.broken_effect (effects_of (decls_in p))) (each (D.broken_lift (map D.effect_sorts (effects_of (decls_in p)))) (lifts_of (decls_in p))))

pub answer-none : (p : Named) → least (effects_break p.decls) (lifts_break (sorts_of p.decls) p.decls) ≡ None → broken_definitions (decls_in p) ≡ []
answer-none p e = none-broken (broken_definitions (decls_in p)) (sym (answer-is p) ∙ e)

pub ruleset answers = (answer-is, answer-none)

pub effects-made : (p : Named) → effects_core p.decls ≡ D.core_effects (decls_in p)
unfolding effects_core
effects-made p = refl

pub lifts-made : (p : Named) → lifts_core (sorts_of p.decls) p.decls ≡ D.core_lifts (decls_in p)
unfolding lifts_core sorts_of
lifts-made p = refl

pub ruleset made = (effects-made, lifts-made)
