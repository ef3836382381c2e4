-- The sequent of each goal of a function applies functions without DIV of groups before the function's own, and is well sorted.
use Rattle.std.proofs.Common.{◌≡◌, ℕ, zero, suc, ◌<◌, ◌≤◌, Bool, true, false, ◌&&◌, if◌then◌else◌, nat_eq, nat_lt, List, [], ◌∷◌, ◌++◌, map, reverse, length, slice_get, Option, Some, None, IsTrue, refl, sym, ap, ap₂, ◌∙◌, subst, arith, ⊎_elim}
use Rattle.std.specs.Prelude.{⊤}
use Rattle.std.proofs.lemmas.List.{reverse-reverse, length-reverse}
use Rattle.std.proofs.lemmas.List.Elements.{All-nil, All-cons}
use Rattle.std.proofs.lemmas.Bool.{cases_lt, le-ltb}
use mathlib.Core.List.{reverse_aux}
use Rattle.fst_base.specs.Sorts.{Srt, s_bool, s_int}
use Rattle.fst_terms.specs.Terms.{Tm, t_var, t_unit, t_app, row, shift}
use Rattle.fst_terms.specs.Meaning.{Vr}
use Rattle.fst_terms.specs.Flats.{sorts_of_vars}
use Rattle.fst_terms.specs.Formulas.{joined, equation, decrease, vars_from}
use Rattle.fst_terms.specs.Sorted.{TmSorted}
use Rattle.fst_program.specs.declared.effect.Effect.{Effect}
use Rattle.fst_program.specs.declared.effect.Effect.TheVariants as effect
use Rattle.fst_program.specs.declared.goal.SiteKind.{SiteKind}
use Rattle.fst_program.specs.declared.goal.SiteKind.TheVariants as kind
use Rattle.fst_program.specs.Texts.{Prm, EffDef, Fn, Prog, if_there, fun_at, effect_at, is_user, result_sort, is_total}
use Rattle.fst_program.specs.Paths.{Gl, Way, count, suppose_all, fresh, raised, all_raised, over, clause_terms, given, demands_of, measures_at, own_vars, own_input, input_vars, start, requires_site, decreases_site, equates, after_call, call_walk, sequent_of, goal_site, ensures_site, fun_goals}
use Rattle.fst_program.specs.Sorted.{Applies, place_of, result_in, input_sorts, param_sorts, body_sorts, IsSorted}
use Rattle.fst_goodness.proofs.Kept.{disciplined-kept}
use Rattle.fst_program.specs.Groups.{TmEarlier}
use Rattle.fst_goodness.proofs.Spoken.{spoken}
use Rattle.fst_program.specs.Discipline.{EffectThere, IsDisciplined}
use Rattle.fst_terms.specs.Sentences.{AreFormulas, IsSequent}
use Rattle.fst_goodness.specs.FunctionSentences.{AppliesBelow}
use Rattle.fst_program.proofs.SortedTerms.{AllSorted, raise-sorted}
use Rattle.fst_program.proofs.Ways.{way_sorts, suppose-all-vars}
use Rattle.fst_goodness.proofs.CallGoals.{result-place}
use Rattle.fst_goodness.proofs.UnfoldedTrue.{turned-sorted, none-more}
use Rattle.fst_goodness.proofs.Formed.{Later, later-same, later-then, Forms, forms-both, Formed, suppose-all-formed, raised-later, all-raised-later, sorted-on, all-sorted-on, row-of, equation-of}
use Rattle.fst_goodness.proofs.FormedDefinitions.{Each, each-both, Wants}
use Rattle.fst_goodness.proofs.FormedText.{InputFormed, input-on, input-raised, text-each}
use Rattle.fst_goodness.proofs.ClauseForms.{joined-form, Ints, decrease-form, given-forms, clause-sorted, demand-forms, measure-ints}
use Rattle.fst_goodness.proofs.AppliedFacts.{earlier}

map-turned : (xs ys : List Vr) → map (λ (x : Vr). x.sort) (reverse_aux xs ys) ≡ reverse_aux (map (λ (x : Vr). x.sort) xs) (map (λ (x : Vr). x.sort) ys)
map-turned [] ys = refl
map-turned (x ∷ xs) ys = map-turned xs (x ∷ ys)

sorts-++ : (xs ys : List Vr) → map (λ (x : Vr). x.sort) (xs ++ ys) ≡ map (λ (x : Vr). x.sort) xs ++ map (λ (x : Vr). x.sort) ys
sorts-++ [] ys = refl
sorts-++ (x ∷ xs) ys = ap (λ Ss. x.sort ∷ Ss) (sorts-++ xs ys)

var-sorts : (ps : List Prm) → map (λ (x : Vr). x.sort) (map (λ (p : Prm). record { name = p.name; sort = p.sort }) ps) ≡ map (λ (p : Prm). p.sort) ps
var-sorts [] = refl
var-sorts (p ∷ ps) = ap (λ Ss. p.sort ∷ Ss) (var-sorts ps)

length-params : (ps : List Prm) → length (map (λ (p : Prm). p.sort) ps) ≡ length ps
length-params [] = refl
length-params (p ∷ ps) = ap suc (length-params ps)

-- a comparison that holds
before-is : (a b : ℕ) → nat_lt a b ≡ true → a < b
before-is a b q = ⊎_elim (λ lt. lt) (λ le. absurd (let z : nat_lt a b ≡ false = le-ltb a b le in let bad : true ≡ false = sym q ∙ z in cc)) (cases_lt a b)

module _ (A : (k : ℕ) → List Srt → (S : Srt) → Type 0) where
  later-vars : (i n : ℕ) (T : Srt) (Ss Ts : List Srt) → AllSorted A Ss (vars_from i n) Ts → AllSorted A (T ∷ Ss) (vars_from (suc i) n) Ts
  later-vars i zero T Ss [] h = tt
  later-vars i zero T Ss (U ∷ Us) h = absurd h
  later-vars i (suc n) T Ss [] h = absurd h
  later-vars i (suc n) T Ss (U ∷ Us) h = (h.0, later-vars (suc i) n T Ss Us h.1)

  own-vars-sorted : (Ss : List Srt) → AllSorted A Ss (vars_from 0 (length Ss)) Ss
  own-vars-sorted [] = tt
  own-vars-sorted (S ∷ Ss) = (refl, later-vars 0 (length Ss) S Ss Ss (own-vars-sorted Ss))

  own-vars-under : (P : Prog) (x : Effect) (Ss : List Srt) → EffectThere P x → AllSorted A (input_sorts P x ++ Ss) (vars_from (if is_user x then 1 else 0) (length Ss)) Ss
  own-vars-under P effect.Pure Ss h = own-vars-sorted Ss
  own-vars-under P effect.Ghost Ss h = own-vars-sorted Ss
  own-vars-under P effect.Div Ss h = own-vars-sorted Ss
  own-vars-under P (effect.User E) Ss h = go (effect_at P E) h
    where
      go : (o : Option EffDef) → if_there o (λ d. ⊤) ⊥ → AllSorted A (if_there o (λ d. d.input ∷ []) [] ++ Ss) (vars_from 1 (length Ss)) Ss
      go None h = absurd h
      go (Some d) h = later-vars 0 (length Ss) d.input Ss Ss (own-vars-sorted Ss)

  own-input-formed : (P : Prog) (x : Effect) (w : Way) (Ss : List Srt) → way_sorts w ≡ input_sorts P x ++ Ss → EffectThere P x → InputFormed false P A w (place_of x) (if is_user x then t_var 0 else t_unit)
  own-input-formed P effect.Pure w Ss q h = tt
  own-input-formed P effect.Ghost w Ss q h = tt
  own-input-formed P effect.Div w Ss q h = tt
  own-input-formed P (effect.User E) w Ss q h = go (effect_at P E) q h
    where
      go : (o : Option EffDef) → way_sorts w ≡ if_there o (λ d. d.input ∷ []) [] ++ Ss → if_there o (λ d. ⊤) ⊥ → if_there o (λ d. TmSorted A (way_sorts w) (t_var 0) d.input) ⊥
      go None q h = absurd h
      go (Some d) q h = ap (λ Us. slice_get Us 0) q

  input-vars-are : (P : Prog) (x : Effect) → map (λ (v : Vr). v.sort) (input_vars P x) ≡ input_sorts P x
  input-vars-are P effect.Pure = refl
  input-vars-are P effect.Ghost = refl
  input-vars-are P effect.Div = refl
  input-vars-are P (effect.User E) = go (effect_at P E)
    where
      go : (o : Option EffDef) → map (λ (v : Vr). v.sort) (if_there o (λ d. record { name = Rattle.fst_program.specs.Paths.input_name; sort = d.input } ∷ []) []) ≡ if_there o (λ d. d.input ∷ []) []
      go None = refl
      go (Some d) = refl

  turned-all : (Ss : List Srt) (phis psis : List Tm) → Forms A Ss phis → Forms A Ss psis → Forms A Ss (reverse_aux phis psis)
  turned-all Ss [] psis h j = j
  turned-all Ss (phi ∷ phis) psis h j = turned-all Ss phis (phi ∷ psis) h.1 (h.0, j)

  forms-are : (Ss : List Srt) (phis : List Tm) → Forms A Ss phis → AreFormulas A Ss phis
  forms-are Ss [] h = All-nil (λ phi. TmSorted A Ss phi s_bool)
  forms-are Ss (phi ∷ phis) h = All-cons (λ phi. TmSorted A Ss phi s_bool) phi phis h.0 (forms-are Ss phis h.1)

  pub sequent-formed : (w : Way) (phi : Tm) → Formed A w → TmSorted A (way_sorts w) phi s_bool → IsSequent A (sequent_of w phi) []
  sequent-formed w phi fo h =
      let sorts : sorts_of_vars (reverse w.vars) ≡ way_sorts w = ap reverse (map-turned w.vars []) ∙ reverse-reverse (way_sorts w) in
      record {
        hyps = subst (λ Ss. AreFormulas A Ss (reverse w.hyps)) (sym sorts) (forms-are (way_sorts w) (reverse w.hyps) (turned-all (way_sorts w) w.hyps [] fo tt));
        goal = subst (λ Ss. TmSorted A Ss phi s_bool) (sym sorts) h;
        facts = All-nil (λ phi. TmSorted A (sorts_of_vars (reverse w.vars)) phi s_bool);
      }

  shifted-forms : (R : Srt) (Ss : List Srt) (phis : List Tm) → Forms A Ss phis → Forms A (R ∷ Ss) (map (shift 0 1) phis)
  shifted-forms R Ss [] h = tt
  shifted-forms R Ss (phi ∷ phis) h = (raise-sorted A (R ∷ []) Ss phi s_bool h.0, shifted-forms R Ss phis h.1)

  ints-later : (w w1 : Way) (ms : List Tm) → Later false w w1 → Ints A (way_sorts w) ms → Ints A (way_sorts w1) (all_raised (count w) w1 ms)
  ints-later w w1 [] x h = tt
  ints-later w w1 (m ∷ ms) x h = (raised-later A false w w1 m s_int x h.0, ints-later w w1 ms x h.1)

module _ (P : Prog) (sorted : IsSorted P) (disciplined : IsDisciplined P) (k : ℕ) (f : Fn) (at_k : fun_at P k ≡ Some f) where
  abbrev Kind : (k : ℕ) → List Srt → (S : Srt) → Type 0
  Kind = AppliesBelow P f.group

  abbrev IsGoal : Gl → Type 0
  IsGoal g = IsSequent Kind g.sequent []

  abbrev Goals : List Gl → Type 0
  Goals = Each false P Kind Gl (goal_site k) IsGoal

  site-ok : (m : SiteKind) (at : ℕ) (phi : Tm) (w : Way) → Formed Kind w → TmSorted Kind (way_sorts w) phi s_bool → Goals (goal_site k m at phi w)
  site-ok m at phi w fo h = (sequent-formed Kind w phi fo h, tt)

  speaks-of : (m : ℕ) → m ≤ f.group → (Ss : List Srt) (phi : Tm) (S : Srt) → TmSorted (Applies P) Ss phi S → TmEarlier P m phi → TmSorted Kind Ss phi S
  speaks-of m le = earlier P m f.group le

  -- ---- where the function's way begins

  abbrev bare : Way
  bare = record { vars = input_vars P f.effect ++ reverse (map (λ (p : Prm). record { name = p.name; sort = p.sort }) f.params); hyps = []; choices = [] }

  bare-sorts : way_sorts bare ≡ input_sorts P f.effect ++ body_sorts P f
  bare-sorts = sorts-++ (input_vars P f.effect) (reverse (map (λ (p : Prm). record { name = p.name; sort = p.sort }) f.params))
      ∙ ap₂ ◌++◌ (input-vars-are Kind P f.effect) (map-turned (map (λ (p : Prm). record { name = p.name; sort = p.sort }) f.params) [] ∙ ap reverse (var-sorts f.params))

  own-sorted : AllSorted Kind (way_sorts bare) (own_vars f) (body_sorts P f)
  own-sorted =
      let many : length f.params ≡ length (body_sorts P f) = sym (length-reverse (param_sorts P f) ∙ length-params f.params) in
      subst (λ Ss. AllSorted Kind Ss (own_vars f) (body_sorts P f)) (sym bare-sorts)
      (subst (λ n. AllSorted Kind (input_sorts P f.effect ++ body_sorts P f) (vars_from (if is_user f.effect then 1 else 0) n) (body_sorts P f)) (sym many) (own-vars-under Kind P f.effect (body_sorts P f) (disciplined.funs k f at_k).effect_there))

  own-args : AllSorted Kind (way_sorts bare) (reverse (own_vars f)) (param_sorts P f)
  own-args = subst (λ Us. AllSorted Kind (way_sorts bare) (reverse (own_vars f)) Us) (reverse-reverse (param_sorts P f)) (turned-sorted Kind (way_sorts bare) (own_vars f) [] (body_sorts P f) [] own-sorted tt)

  own-in : InputFormed false P Kind bare (place_of f.effect) (own_input f)
  own-in = own-input-formed Kind P f.effect bare (body_sorts P f) bare-sorts (disciplined.funs k f at_k).effect_there

  abbrev begins : Way
  begins = start P f

  begin-vars : begins.vars ≡ bare.vars
  begin-vars = suppose-all-vars (demands_of f (reverse (own_vars f)) (own_input f)) bare

  start-formed : Formed Kind begins
  start-formed =
      suppose-all-formed Kind (demands_of f (reverse (own_vars f)) (own_input f)) bare
      (demand-forms false P f.group Kind (speaks-of f.group (omega arith)) bare f (reverse (own_vars f)) (own_input f) (sorted.funs k f at_k) (disciplined.funs k f at_k).refines (disciplined.funs k f at_k).needs own-args own-in) tt

  own-measures : Ints Kind (way_sorts begins) (measures_at f (reverse (own_vars f)))
  own-measures = measure-ints false P f.group Kind (speaks-of f.group (omega arith)) begins f (reverse (own_vars f)) (sorted.funs k f at_k) (disciplined.funs k f at_k).measures (all-sorted-on Kind bare begins (reverse (own_vars f)) (param_sorts P f) begin-vars own-args)

  -- ---- calls

  abbrev Want : Way → Srt → (Way → Tm → List Gl) → Type 0
  Want = Wants false P Kind Gl (goal_site k) IsGoal

  requires-formed : (phis : List Tm) (at : ℕ) (w : Way) → Formed Kind w → Forms Kind (way_sorts w) phis → Goals (requires_site P f Gl (goal_site k) phis at w)
  requires-formed [] at w fo h = tt
  requires-formed (phi ∷ phis) at w fo h = site-ok kind.Requires at (joined (phi ∷ phis)) w fo (joined-form Kind (way_sorts w) (phi ∷ phis) h)

  decreases-formed : (g : Fn) (ms : List Tm) (at : ℕ) (w : Way) → Later false begins w → Formed Kind w → Ints Kind (way_sorts w) ms → Goals (decreases_site P f Gl (goal_site k) g ms at w)
  decreases-formed g ms at w l fo h = go (is_total P f.effect && nat_eq g.group f.group)
    where
      go : (b : Bool) → Goals (if b then goal_site k kind.Decreases at (decrease ms (all_raised (count (start P f)) w (measures_at f (reverse (own_vars f))))) w else [])
      go true = site-ok kind.Decreases at (decrease ms (all_raised (count (start P f)) w (measures_at f (reverse (own_vars f))))) w fo (decrease-form Kind (way_sorts w) ms (all_raised (count (start P f)) w (measures_at f (reverse (own_vars f)))) h (ints-later Kind begins w (measures_at f (reverse (own_vars f))) l own-measures))
      go false = tt

  module _ (j : ℕ) (g : Fn) (at_j : fun_at P j ≡ Some g) (le : g.group ≤ f.group) (w : Way) (ts : List Tm) (s : Tm) (fo : Formed Kind w) (terms : AllSorted Kind (way_sorts w) ts (param_sorts P g)) (is : InputFormed false P Kind w (place_of g.effect) s) where
    abbrev R : Srt
    R = result_sort P g.effect g.sort

    abbrev w1 : Way
    w1 = fresh g.name R w

    abbrev ts1 : List Tm
    ts1 = all_raised (count w) w1 ts

    abbrev s1 : Tm
    s1 = raised (count w) w1 s

    fresh-later : Later false w w1
    fresh-later = record { news = record { name = g.name; sort = R } ∷ []; vars = refl; same = λ z. cc }

    fresh-formed : Formed Kind w1
    fresh-formed = shifted-forms Kind R (way_sorts w) w.hyps fo

    args1 : AllSorted Kind (way_sorts w1) ts1 (param_sorts P g)
    args1 = all-raised-later Kind false w w1 ts (param_sorts P g) fresh-later terms

    input1 : InputFormed false P Kind w1 (place_of g.effect) s1
    input1 = input-raised false P Kind w w1 (place_of g.effect) s fresh-later is

    gives-forms : Forms Kind (way_sorts w1) (given g.gives (t_var 0 ∷ clause_terms g.effect ts1 s1))
    gives-forms = given-forms false P g.group Kind (speaks-of g.group le) (way_sorts w1) (R ∷ (input_sorts P g.effect ++ body_sorts P g)) g.gives (t_var 0 ∷ clause_terms g.effect ts1 s1) (sorted.funs j g at_j).gives (disciplined.funs j g at_j).gives
        (refl, clause-sorted false P g.group Kind (speaks-of g.group le) w1 g.effect ts1 s1 (param_sorts P g) args1 input1)

    -- the equation with the application, where g is PURE or GHOST and stands in a group before
    plain-app : (x : Effect) → x ≡ g.effect → input_sorts P x ≡ [] → result_sort P x g.sort ≡ g.sort → IsTrue (is_total P x) → g.group < f.group → Forms Kind (way_sorts w1) (equation (t_var 0) (t_app j g.sort (row ts1)) ∷ [])
    plain-app x q no_input plain total lt =
        let result : R ≡ g.sort = ap (λ z. result_sort P z g.sort) (sym q) ∙ plain in
        let inputs : input_sorts P g.effect ≡ [] = ap (input_sorts P) (sym q) ∙ no_input in
        let app : Kind j (param_sorts P g) g.sort
        = (
          subst (λ o. if_there o (λ f. (param_sorts P g ≡ map (λ p. p.sort) f.params ++ input_sorts P f.effect) × (g.sort ≡ result_sort P f.effect f.sort)) ⊥) (sym at_j) (sym (none-more (param_sorts P g)) ∙ ap (λ Us. param_sorts P g ++ Us) (sym inputs), sym result),
          λ f1 q1. let p : g ≡ f1 = cc in subst (λ z. (z.group < f.group) × IsTrue (is_total P z.effect)) p (lt, subst (λ z. IsTrue (is_total P z)) q total),
        ) in
        (equation-of Kind (way_sorts w1) g.sort (t_var 0) (t_app j g.sort (row ts1)) (ap Some result) (refl, (param_sorts P g, (app, row-of Kind (way_sorts w1) ts1 (param_sorts P g) args1))), tt)

    equates-forms : Forms Kind (way_sorts w1) (if equates P f Gl (goal_site k) g then equation (t_var 0) (t_app j g.sort (row ts1)) ∷ [] else [])
    equates-forms = go g.effect refl
      where
        lower : (x : Effect) → x ≡ g.effect → input_sorts P x ≡ [] → result_sort P x g.sort ≡ g.sort → IsTrue (is_total P x) → (b : Bool) → nat_lt g.group f.group ≡ b → Forms Kind (way_sorts w1) (if b then equation (t_var 0) (t_app j g.sort (row ts1)) ∷ [] else [])
        lower x q i r t true p = plain-app x q i r t (before-is g.group f.group p)
        lower x q i r t false p = tt

        go : (x : Effect) → x ≡ g.effect → Forms Kind (way_sorts w1) (if (elim x [ effect.Pure ↦ nat_lt g.group f.group | effect.Ghost ↦ nat_lt g.group f.group | _ ↦ false ]) then equation (t_var 0) (t_app j g.sort (row ts1)) ∷ [] else [])
        go effect.Pure q = lower effect.Pure q refl refl refl (nat_lt g.group f.group) refl
        go effect.Ghost q = lower effect.Ghost q refl refl refl (nat_lt g.group f.group) refl
        go effect.Div q = tt
        go (effect.User E) q = tt

    abbrev after : Way
    after = after_call P f Gl (goal_site k) j g ts s w

    abbrev results : List Tm
    results = given g.gives (t_var 0 ∷ clause_terms g.effect ts1 s1) ++ (if equates P f Gl (goal_site k) g then equation (t_var 0) (t_app j g.sort (row ts1)) ∷ [] else [])

    after-formed : Formed Kind after
    after-formed = suppose-all-formed Kind results w1 (forms-both Kind (way_sorts w1) (given g.gives (t_var 0 ∷ clause_terms g.effect ts1 s1)) (if equates P f Gl (goal_site k) g then equation (t_var 0) (t_app j g.sort (row ts1)) ∷ [] else []) gives-forms equates-forms) fresh-formed

    after-vars : after.vars ≡ w1.vars
    after-vars = suppose-all-vars results w1

    call-formed : (at : ℕ) (k1 : Way → Tm → List Gl) → Later false begins w → Want w (result_in P (place_of g.effect) g.sort) k1 → Goals (call_walk P f Gl (goal_site k) j ts s at w k1)
    call-formed at k1 l wn =
        subst (λ o. Goals (if_there o (λ g. requires_site P f Gl (goal_site k) (demands_of g ts s) at w ++ decreases_site P f Gl (goal_site k) g (measures_at g ts) at w ++ k1 (after_call P f Gl (goal_site k) j g ts s w) (t_var 0)) [])) (sym at_j)
        (each-both false P Kind Gl (goal_site k) IsGoal (requires_site P f Gl (goal_site k) (demands_of g ts s) at w ++ decreases_site P f Gl (goal_site k) g (measures_at g ts) at w) (k1 after (t_var 0))
        (each-both false P Kind Gl (goal_site k) IsGoal (requires_site P f Gl (goal_site k) (demands_of g ts s) at w) (decreases_site P f Gl (goal_site k) g (measures_at g ts) at w)
        (requires-formed (demands_of g ts s) at w fo (demand-forms false P g.group Kind (speaks-of g.group le) w g ts s (sorted.funs j g at_j) (disciplined.funs j g at_j).refines (disciplined.funs j g at_j).needs terms is))
        (decreases-formed g (measures_at g ts) at w l fo (measure-ints false P g.group Kind (speaks-of g.group le) w g ts (sorted.funs j g at_j) (disciplined.funs j g at_j).measures terms)))
        (wn after (t_var 0) (later-then false w w1 after fresh-later (later-same false w1 after after-vars)) after-formed
        (sorted-on Kind w1 after (t_var 0) (result_in P (place_of g.effect) g.sort) after-vars (ap Some (result-place P g.effect g.sort)))))

  -- ---- the end of a way

  ensures-formed : (w : Way) (t : Tm) → Later false begins w → Formed Kind w → TmSorted Kind (way_sorts w) t (result_in P (place_of f.effect) f.sort) → Goals (ensures_site P k f w t)
  ensures-formed w t l fo h =
      let us = clause_terms f.effect (reverse (own_vars f)) (own_input f) in
      let at_start = clause-sorted false P f.group Kind (speaks-of f.group (omega arith)) begins f.effect (reverse (own_vars f)) (own_input f) (param_sorts P f) (all-sorted-on Kind bare begins (reverse (own_vars f)) (param_sorts P f) begin-vars own-args) (input-on false P Kind bare begins (place_of f.effect) (own_input f) begin-vars own-in) in
      go (given f.gives (t ∷ all_raised (count (start P f)) w us))
      (given-forms false P f.group Kind (speaks-of f.group (omega arith)) (way_sorts w) (result_sort P f.effect f.sort ∷ (input_sorts P f.effect ++ body_sorts P f)) f.gives (t ∷ all_raised (count (start P f)) w us) (sorted.funs k f at_k).gives (disciplined.funs k f at_k).gives
      (subst (TmSorted Kind (way_sorts w) t) (sym (result-place P f.effect f.sort)) h, all-raised-later Kind false begins w us (input_sorts P f.effect ++ body_sorts P f) l at_start))
    where
      go : (phis : List Tm) → Forms Kind (way_sorts w) phis → Goals (over phis (λ phi. goal_site k kind.Ensures f.place phi w))
      go [] h = tt
      go (phi ∷ phis) h = each-both false P Kind Gl (goal_site k) IsGoal (goal_site k kind.Ensures f.place phi w) (over phis (λ phi. goal_site k kind.Ensures f.place phi w)) (site-ok kind.Ensures f.place phi w fo h.0) (go phis h.1)

  -- ---- all goals

  pub goals-formed : Goals (fun_goals P k)
  goals-formed = subst (λ o. Goals (if_there o (λ f. Rattle.fst_program.specs.Paths.fun_walk P f Gl (goal_site k) (ensures_site P k f)) [])) (sym at_k)
      (text-each false P sorted (disciplined-kept P sorted disciplined) f.group Kind (speaks-of f.group (omega arith)) Gl (goal_site k) IsGoal site-ok (call_walk P f Gl (goal_site k)) begins false
      (λ j g q le tot every total w ts s at k1 l fo terms is wn. call-formed j g q le w ts s fo terms is at k1 l wn)
      f.body (is_total P f.effect) (λ z. cc) (body_sorts P f) (place_of f.effect) f.sort (own_vars f) (own_input f) begins (ensures_site P k f)
      (sorted.funs k f at_k).body ((disciplined-kept P sorted disciplined).bodies k f at_k) (spoken P f f.body (disciplined.funs k f at_k).calls)
      (record {
        later = later-same false begins begins refl;
        formed = start-formed;
        terms = all-sorted-on Kind bare begins (own_vars f) (body_sorts P f) begin-vars own-sorted;
        input = input-on false P Kind bare begins (place_of f.effect) (own_input f) begin-vars own-in;
      })
      (λ w t l fo h. ensures-formed w t l fo h))
