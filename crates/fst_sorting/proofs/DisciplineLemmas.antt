-- A program of which no rule is broken keeps the discipline of effects, ghost parts, groups and measures.
use Rattle.std.proofs.Common.{◌≡◌, ◌⊎◌, inl, inr, ℕ, zero, suc, ◌+◌, ◌<◌, ◌≤◌, Bool, true, false, not, ◌&&◌, nat_lt, nat_le, List, [], ◌∷◌, ◌++◌, map, reverse, length, slice_get, Option, Some, None, option_map, refl, sym, ap, ◌∙◌, subst, arith, if◌then◌else◌}
use Rattle.std.specs.Prelude.{⊤}
use Rattle.std.proofs.lemmas.Bool.Decides.{leb_tells}
use Rattle.fst_base.specs.declared.rule.Rule.TheVariants as rule
use Rattle.fst_base.specs.Sorts.{s_int}
use Rattle.fst_trees.specs.declared.word.Word.{Word}
use Rattle.fst_program.specs.declared.effect.Effect.{Effect}
use Rattle.fst_program.specs.declared.effect.Effect.TheVariants as effect
use Rattle.fst_program.specs.Texts.{Prog, EffDef, LftDef, if_there, effect_at, is_total, is_pure, is_ghost, is_user}
use Rattle.fst_names.specs.declared.reference.Ref.{Ref}
use Rattle.fst_names.specs.Broken.{breaks}
use Rattle.fst_names.specs.Names.{listed, broken_count, Globals, Before, globals, after, own_group, fun_from, called_fun, applied_fun, named_fun_decl, named_from, named, broken_decl, broken_from, each, optional}
use Rattle.fst_names.specs.Trees.{WParam, WFun, WEffect, WLift, WDecl, w_effect, w_lift, w_fun}
use Rattle.fst_program.specs.Places.{base_place, CmPlaced}
use Rattle.fst_program.specs.Discipline.{EffectThere, HasHeaders, FunDisciplined, IsDisciplined}
use Rattle.fst_effects.specs.Known.{Known, Ctx, base_is_div, is_div, sort_of}
use Rattle.fst_effects.specs.TermSorts.{broken}
use Rattle.fst_effects.specs.TextSorts.{broken_text, base_of}
use Rattle.fst_effects.specs.Definitions.{effect_sorts, effects_of, lifts_of, core_effect, core_effects, core_lift, core_lifts, base_effect}
use Rattle.fst_lattice.specs.Lattices.{HasBase, KeepRules, IsWithin, AreWithin}
use Rattle.fst_sorting.specs.Lifts.{broken_lifts}
use Rattle.fst_sorting.specs.Functions.{Placed, place_in, funs_from, funs_of, effect_of, param_entry, called_as, applied_as, known_in, scope_of, clause_scope, result_scope, callees, has_member, diverges, calls_unmeasured, no_measure, broken_formula, broken_refinements, core_params, broken_fun, core_fun, broken_funs, core_program}
use Rattle.fst_sorting.specs.Written.{decl_written, are_written}
use Rattle.fst_sorting.proofs.Scoped.{Takes, EffectKnown, FunScoped, AreScoped}
use Rattle.fst_program.proofs.ThereLemmas.{there-is}
use Rattle.fst_sorting.proofs.BasicLemmas.{none-left, none-right, and-left, and-right}
use Rattle.fst_sorting.proofs.ListLemmas.{get-map, get-within, mapped, each-none, map-reverse, count-map}
use Rattle.fst_sorting.proofs.ProgramLemmas.{fun-from, matches}
use Rattle.fst_sorting.proofs.DeclarationLemmas.{use-there, head-there, takes-is, effects-there, fun-names, same-group}
use Rattle.fst_sorting.proofs.PathLemmas.{unbroken-keep, keep-one, keep-base}
use Rattle.fst_sorting.proofs.FullLemmas.{program-full}
use Rattle.fst_sorting.proofs.KeptLemmas.{hiddens, text-kept}
use Rattle.fst_sorting.proofs.BelowLemmas.{kept_if, known_up_to, given-below, refines-below, all-below, text-below}

-- ---- names of groups

kept-some : (test : Placed → Bool) (o : Option Placed) (f : Placed) → o ≡ Some f → test f ≡ true → kept_if test o ≡ Some f
kept-some test o f e h = ap (kept_if test) e ∙ ap (λ t. if t then Some f else None) h

module _ (all : List (WDecl Word)) where
  abbrev G : Globals
  G = globals all

  abbrev rs : List (WDecl Ref)
  rs = named all

  called-up-to : (b : Before) (w : Word) (n : ℕ) → listed (called_fun G b w).broken ≡ [] → broken_count (called_fun G b w).arity n w ≡ [] → Takes ((known_up_to rs b.group).called (called_fun G b w).reference) n
  called-up-to b w n u c =
      let h = use-there G b (λ f. nat_le f.group b.group) w n (fun_from 0 w.text G.funs) refl u c in
      let f = head-there all (called_fun G b w).reference.index h.0 h.1.0 in
      let kept = kept-some (λ f. nat_le f.group b.group) _ f.0 f.1.0 (ap (λ h. nat_le h.group b.group) (sym f.1.1) ∙ h.1.2) in
      takes-is ((known_up_to rs b.group).called (called_fun G b w).reference) (called_as (known_in rs).effects f.0.tree) n (ap (option_map (λ f. called_as (known_in rs).effects f.tree)) kept)
      (h.1.1 ∙ ap (λ h. h.arity) f.1.1 ∙ sym (count-map param_entry f.0.tree.params))

  applied-up-to : (b : Before) (w : Word) (n : ℕ) → listed (applied_fun G b w).broken ≡ [] → broken_count (applied_fun G b w).arity n w ≡ [] → Takes ((known_up_to rs b.group).applied (applied_fun G b w).reference) n
  applied-up-to b w n u c =
      let h = use-there G b (λ f. nat_lt f.group b.group) w n (fun_from 0 w.text G.funs) refl u c in
      let f = head-there all (applied_fun G b w).reference.index h.0 h.1.0 in
      let kept = kept-some (λ f. nat_lt f.group b.group) _ f.0 f.1.0 (ap (λ h. nat_lt h.group b.group) (sym f.1.1) ∙ h.1.2) in
      takes-is ((known_up_to rs b.group).applied (applied_fun G b w).reference) (applied_as (known_in rs).effects f.0.tree) n (ap (option_map (λ f. applied_as (known_in rs).effects f.tree)) kept)
      (h.1.1 ∙ ap (λ h. h.arity) f.1.1 ∙ sym (count-map param_entry f.0.tree.params))

  fun-up-to : (b : Before) (x : WFun Word) → decl_written (w_fun x) ≡ true → broken_decl G b (w_fun x) ≡ [] → FunScoped (known_up_to rs (own_group (w_fun x) b).group) (named_fun_decl G (own_group (w_fun x) b) x)
  fun-up-to b x = let b' = own_group (w_fun x) b in fun-names all b' (known_up_to rs b'.group) (applied-up-to b') (called-up-to b') (effects-there all b') x

  pub funs-up-to : (b : Before) (ds : List (WDecl Word)) (k : ℕ) (f : Placed) → are_written ds ≡ true → broken_from G b ds ≡ [] → slice_get (funs_from b.group b.funs (named_from G b ds)) k ≡ Some f → FunScoped (known_up_to rs f.group) f.tree
  funs-up-to b [] k f c u e = cc
  funs-up-to b (w_effect x ∷ ds) k f c u e = funs-up-to (after b (w_effect x)) ds k f (and-right (decl_written (w_effect x)) _ c) (none-right (broken_decl G b (w_effect x)) _ u) e
  funs-up-to b (w_lift x ∷ ds) k f c u e = funs-up-to b ds k f (and-right (decl_written (w_lift x)) _ c) (none-right (broken_decl G b (w_lift x)) _ u) e
  funs-up-to b (w_fun x ∷ ds) zero f c u e =
      let b' = own_group (w_fun x) b in
      let p : record { tree = named_fun_decl G b' x; number = b.funs; group = place_in x.joined b.group b.funs } ≡ f = cc in
      subst (λ f. FunScoped (known_up_to rs f.group) f.tree) p
      (subst (λ g. FunScoped (known_up_to rs g) (named_fun_decl G b' x)) (same-group x.joined b) (fun-up-to b x (and-left (decl_written (w_fun x)) _ c) (none-left (broken_decl G b (w_fun x)) _ u)))
  funs-up-to b (w_fun x ∷ ds) (suc k) f c u e =
      funs-up-to (after b (w_fun x)) ds k f (and-right (decl_written (w_fun x)) _ c) (none-right (broken_decl G b (w_fun x)) _ u)
      (ap (λ g. slice_get (funs_from g (suc b.funs) (named_from G (after b (w_fun x)) ds)) k) (same-group x.joined b) ∙ e)

-- a group's number is that of its first function
group-low : (g i : ℕ) (ds : List (WDecl Ref)) (k : ℕ) (f : Placed) → g ≤ i → slice_get (funs_from g i ds) k ≡ Some f → f.group ≤ i + k
group-low g i [] k f h e = cc
group-low g i (w_effect x ∷ ds) k f h e = group-low g i ds k f h e
group-low g i (w_lift x ∷ ds) k f h e = group-low g i ds k f h e
group-low g i (w_fun x ∷ ds) zero f h e =
    let p : record { tree = x; number = i; group = place_in x.joined g i } ≡ f = cc in
    let q : place_in x.joined g i ≡ f.group = ap (λ f. f.group) p in
    let r = low x.joined in omega arith
  where
    low : (j : Bool) → place_in j g i ≤ i
    low true = h
    low false = omega arith
group-low g i (w_fun x ∷ ds) (suc k) f h e = let r = group-low (place_in x.joined g i) (suc i) ds k f (low x.joined) e in omega arith
  where
    low : (j : Bool) → place_in j g i ≤ suc i
    low true = omega arith
    low false = omega arith

-- a group is the one before, or begins here or later
group-next : (g i : ℕ) (ds : List (WDecl Ref)) (k : ℕ) (f : Placed) → slice_get (funs_from g i ds) k ≡ Some f → (f.group ≡ g) ⊎ (i ≤ f.group)
group-next g i [] k f e = cc
group-next g i (w_effect x ∷ ds) k f e = group-next g i ds k f e
group-next g i (w_lift x ∷ ds) k f e = group-next g i ds k f e
group-next g i (w_fun x ∷ ds) zero f e = two x.joined (ap (λ f. f.group) same)
  where
    same : record { tree = x; number = i; group = place_in x.joined g i } ≡ f
    same = cc

    two : (j : Bool) → place_in j g i ≡ f.group → (f.group ≡ g) ⊎ (i ≤ f.group)
    two true e = inl (sym e)
    two false e = inr (omega arith)
group-next g i (w_fun x ∷ ds) (suc k) f e = two x.joined (group-next (place_in x.joined g i) (suc i) ds k f e)
  where
    two : (j : Bool) → (f.group ≡ place_in j g i) ⊎ (suc i ≤ f.group) → (f.group ≡ g) ⊎ (i ≤ f.group)
    two true (inl e) = inl e
    two false (inl e) = inr (omega arith)
    two j (inr h) = inr (omega arith)

-- from the first function of a group on, no group comes before it
group-order : (g i : ℕ) (ds : List (WDecl Ref)) (m n : ℕ) (a b : Placed) → g ≤ i → slice_get (funs_from g i ds) m ≡ Some a → slice_get (funs_from g i ds) n ≡ Some b → b.group ≤ i + m → b.group ≤ a.group
group-order g i [] m n a b h e f l = cc
group-order g i (w_effect x ∷ ds) m n a b h e f l = group-order g i ds m n a b h e f l
group-order g i (w_lift x ∷ ds) m n a b h e f l = group-order g i ds m n a b h e f l
group-order g i (w_fun x ∷ ds) zero zero a b h e f l = let p : a ≡ b = cc in let q : a.group ≡ b.group = ap (λ f. f.group) p in omega arith
group-order g i (w_fun x ∷ ds) zero (suc n) a b h e f l = two (group-next (place_in x.joined g i) (suc i) ds n b f)
  where
    same : record { tree = x; number = i; group = place_in x.joined g i } ≡ a
    same = cc

    two : (b.group ≡ place_in x.joined g i) ⊎ (suc i ≤ b.group) → b.group ≤ a.group
    two (inl e) = let q : place_in x.joined g i ≡ a.group = ap (λ f. f.group) same in omega arith
    two (inr s) = absurd (omega arith)
group-order g i (w_fun x ∷ ds) (suc m) zero a b h e f l = two (low x.joined) (group-next (place_in x.joined g i) (suc i) ds m a e)
  where
    same : record { tree = x; number = i; group = place_in x.joined g i } ≡ b
    same = cc

    low : (j : Bool) → place_in j g i ≤ i
    low true = h
    low false = omega arith

    two : place_in x.joined g i ≤ i → (a.group ≡ place_in x.joined g i) ⊎ (suc i ≤ a.group) → b.group ≤ a.group
    two w (inl e) = let q : place_in x.joined g i ≡ b.group = ap (λ f. f.group) same in omega arith
    two w (inr s) = let q : place_in x.joined g i ≡ b.group = ap (λ f. f.group) same in omega arith
group-order g i (w_fun x ∷ ds) (suc m) (suc n) a b h e f l = group-order (place_in x.joined g i) (suc i) ds m n a b (low x.joined) e f (omega arith)
  where
    low : (j : Bool) → place_in j g i ≤ suc i
    low true = omega arith
    low false = omega arith

-- ---- effects

base-two : (t : Bool) → (base_effect t ≡ effect.Pure) ⊎ (base_effect t ≡ effect.Div)
base-two true = inr refl
base-two false = inl refl

base-user : (t : Bool) → is_user (base_effect t) ≡ false
base-user true = refl
base-user false = refl

-- what holds of each item holds of the list
all-in : (n : ℕ) (ls : List LftDef) → ((i : ℕ) (l : LftDef) → slice_get ls i ≡ Some l → IsWithin n l) → AreWithin n ls
all-in n [] h = tt
all-in n (l ∷ ls) h = (h 0 l refl, all-in n ls (λ i k e. h (suc i) k e))

module _ (ds : List (WDecl Ref)) where
  abbrev K : Known
  K = known_in ds

  abbrev P : Prog
  P = core_program ds

  effect-is : (E : ℕ) → effect_at P E ≡ option_map core_effect (slice_get (effects_of ds) E)
  effect-is E = get-map core_effect (effects_of ds) E

  -- a user effect that is known is one of the program
  effect-there : (x : Effect) → EffectKnown K x → EffectThere P x
  effect-there effect.Pure h = tt
  effect-there effect.Ghost h = tt
  effect-there effect.Div h = tt
  effect-there (effect.User E) h = subst (λ o. if_there o (λ d. ⊤) ⊥) (sym (effect-is E)) (go (slice_get (effects_of ds) E) h)
    where
      go : (o : Option (WEffect Ref)) → if_there (option_map effect_sorts o) (λ d. ⊤) ⊥ → if_there (option_map core_effect o) (λ d. ⊤) ⊥
      go None h = h
      go (Some d) h = tt

  bases-two : (E : ℕ) → if_there (effect_at P E) (λ d. (d.base ≡ effect.Pure) ⊎ (d.base ≡ effect.Div)) ⊤
  bases-two E = subst (λ o. if_there o (λ d. (d.base ≡ effect.Pure) ⊎ (d.base ≡ effect.Div)) ⊤) (sym (effect-is E)) (go (slice_get (effects_of ds) E))
    where
      go : (o : Option (WEffect Ref)) → if_there (option_map core_effect o) (λ d. (d.base ≡ effect.Pure) ⊎ (d.base ≡ effect.Div)) ⊤
      go None = tt
      go (Some d) = base-two d.div

  bases-user : (E : ℕ) → is_user (base_place P (effect.User E)) ≡ false
  bases-user E = ap (λ o. is_user (if_there o (λ d. d.base) effect.Div)) (effect-is E) ∙ go (slice_get (effects_of ds) E)
    where
      go : (o : Option (WEffect Ref)) → is_user (if_there (option_map core_effect o) (λ d. d.base) effect.Div) ≡ false
      go None = refl
      go (Some d) = base-user d.div

  divs : (E : ℕ) → base_is_div (K.effects E) ≡ true → base_place P (effect.User E) ≡ effect.Div
  divs E h = ap (λ o. if_there o (λ d. d.base) effect.Div) (effect-is E) ∙ go (slice_get (effects_of ds) E) h
    where
      two : (t : Bool) → is_div (base_effect t) ≡ true → base_effect t ≡ effect.Div
      two true e = refl
      two false e = cc

      go : (o : Option (WEffect Ref)) → base_is_div (option_map effect_sorts o) ≡ true → if_there (option_map core_effect o) (λ d. d.base) effect.Div ≡ effect.Div
      go None e = cc
      go (Some d) e = two d.div e

  -- a function that has to end doesn't diverge
  total-ends : (x : Effect) → is_total P x ≡ true → diverges K.effects x ≡ false
  total-ends effect.Pure e = refl
  total-ends effect.Ghost e = refl
  total-ends effect.Div e = cc
  total-ends (effect.User E) e = go (slice_get (effects_of ds) E) (ap (λ o. if_there o (λ d. is_pure d.base) false) (sym (effect-is E)) ∙ e)
    where
      two : (t : Bool) → is_pure (base_effect t) ≡ true → base_effect t ≡ effect.Pure
      two false e = refl
      two true e = cc

      ends : Effect → Bool
      ends x = elim x [
        | effect.Pure ↦ false
        | effect.Ghost ↦ false
        | effect.Div ↦ true
        | effect.User n ↦ false
      ]

      go : (o : Option (WEffect Ref)) → if_there (option_map core_effect o) (λ d. is_pure d.base) false ≡ true → (elim (base_of (option_map effect_sorts o)) [
        | effect.Pure ↦ false
        | effect.Ghost ↦ false
        | effect.Div ↦ true
        | effect.User n ↦ false
      ]) ≡ false
      go None e = cc
      go (Some d) e = ap (λ x. elim x [
        | effect.Pure ↦ false
        | effect.Ghost ↦ false
        | effect.Div ↦ true
        | effect.User n ↦ false
      ]) (two d.div e)

  measured-calls : (p : Placed) → no_measure K (funs_of ds) p ≡ [] → is_total P (effect_of p.tree.effect) ≡ true → has_member (calls_unmeasured (funs_of ds) p) (callees p.tree.body) ≡ false
  measured-calls p b e = go (diverges K.effects (effect_of p.tree.effect)) (has_member (calls_unmeasured (funs_of ds) p) (callees p.tree.body)) (total-ends (effect_of p.tree.effect) e) b
    where
      go : (d m : Bool) → d ≡ false → (if not d && m then breaks rule.NoMeasure p.tree.name.at.at else []) ≡ [] → m ≡ false
      go true m e b = cc
      go false true e b = cc
      go false false e b = refl

  scope-hidden : (t : WFun Ref) → hiddens (scope_of t.params) ≡ reverse (map (λ p. p.hidden) (core_params K [] t.params))
  scope-hidden t = map-reverse (λ x. x.hidden) (map param_entry t.params) ∙ ap reverse (go [] t.params)
    where
      go : (xs : Ctx) (ps : List (WParam Ref)) → hiddens (map param_entry ps) ≡ map (λ p. p.hidden) (core_params K xs ps)
      go xs [] = refl
      go xs (p ∷ ps) = ap (◌∷◌ p.hidden) (go (param_entry p ∷ xs) ps)

  pub fun-disciplined : (p : Placed) → FunScoped K p.tree → FunScoped (known_up_to ds p.group) p.tree → broken_fun K (funs_of ds) p ≡ [] → FunDisciplined P (core_fun K (funs_of ds) p)
  fun-disciplined p s d b =
      let t = p.tree in
      let e = effect_of t.effect in
      let fs = funs_of ds in
      let one = no_measure K fs p ++ broken_refinements K [] t.params in
      let two = one ++ optional (broken_formula K (clause_scope K t)) t.needs in
      let three = two ++ optional (broken_formula K (result_scope K t)) t.gives in
      let four = three ++ each (λ m. broken K.applied true (scope_of t.params) m (Some s_int)) t.measures in
      let b4 : four ≡ [] = none-left four _ b in
      let b3 : three ≡ [] = none-left three _ b4 in
      let b2 : two ≡ [] = none-left two _ b3 in
      let b1 : one ≡ [] = none-left one _ b2 in
      let body = none-right four (broken_text K e (is_ghost e) (scope_of t.params) t.body (Some (sort_of t.sort))) b in
      record {
        effect_there = effect-there e s.effect_known;
        places = subst (λ hs. CmPlaced P (is_ghost e) hs e (core_fun K fs p).body) (scope-hidden t)
            (text-kept K P (matches ds) bases-user divs e (is_ghost e) (scope_of t.params) t.body (Some (sort_of t.sort)) s.body body);
        refines = refines-below ds p.group [] t.params d.params (none-right (no_measure K fs p) _ b1);
        needs = given-below ds p.group (clause_scope K t) t.needs d.needs (none-right one _ b2);
        gives = given-below ds p.group (result_scope K t) t.gives d.gives (none-right two _ b3);
        measures = all-below ds p.group (scope_of t.params) t.measures d.measures (none-right three _ b4);
        calls = text-below ds p e (is_ghost e) (length (scope_of t.params)) (scope_of t.params) t.body (Some (sort_of t.sort)) d.body (measured-calls p (none-left (no_measure K fs p) _ b1)) body;
      }

  -- ---- lifts

  lift-in : AreScoped ds → (n : ℕ) (l : LftDef) → slice_get (core_lifts ds) n ≡ Some l → IsWithin (length (core_effects ds)) l
  lift-in s n l e =
      let Es = map effect_sorts (effects_of ds) in
      let w = mapped (core_lift Es) (slice_get (lifts_of ds) n) l (sym (get-map (core_lift Es) (lifts_of ds) n) ∙ e) in
      let r = s.lifts n w.0 w.1.0 in
      let count : length Es ≡ length (core_effects ds) = count-map effect_sorts (effects_of ds) ∙ sym (count-map core_effect (effects_of ds)) in (
        subst (λ l. l.from < length (core_effects ds)) (sym w.1.1) (subst (λ n. w.0.from.index < n) count r.from),
        subst (λ l. l.«to» < length (core_effects ds)) (sym w.1.1) (subst (λ n. w.0.«to».index < n) count r.«to»),
      )

  lifts-in : AreScoped ds → AreWithin (length (core_effects ds)) (core_lifts ds)
  lifts-in s = all-in (length (core_effects ds)) (core_lifts ds) (lift-in s)

  places-count : length (map (λ l. l.place) (lifts_of ds)) ≡ length (core_lifts ds)
  places-count = count-map (λ l. l.place) (lifts_of ds) ∙ sym (count-map (core_lift (map effect_sorts (effects_of ds))) (lifts_of ds))

  rules-kept : AreScoped ds → broken_lifts (core_effects ds) [] (core_lifts ds) (map (λ l. l.place) (lifts_of ds)) ≡ [] → KeepRules (core_effects ds) (core_lifts ds)
  rules-kept s b = unbroken-keep (core_effects ds) (core_lifts ds) (map (λ l. l.place) (lifts_of ds)) places-count (lifts-in s) b

  bases : (E : ℕ) (d : EffDef) → effect_at P E ≡ Some d → (d.base ≡ effect.Pure) ⊎ (d.base ≡ effect.Div)
  bases E d e = subst (λ o. if_there o (λ d. (d.base ≡ effect.Pure) ⊎ (d.base ≡ effect.Div)) ⊤) e (bases-two E)

  lift-kept : AreScoped ds → KeepRules (core_effects ds) (core_lifts ds) → (n : ℕ) (l : LftDef) → slice_get (core_lifts ds) n ≡ Some l
      → base_place P (effect.User l.from) ≡ effect.Div → base_place P (effect.User l.«to») ≡ effect.Div
  lift-kept s k n l e h =
      let i = lift-in s n l e in
      let a = get-within (core_effects ds) l.from i.0 in
      let c = get-within (core_effects ds) l.«to» i.1 in
      let low : HasBase (core_effects ds) l.from effect.Div = there-is (slice_get (core_effects ds) l.from) (λ d. d.base ≡ effect.Div) a.0 a.1 (sym (ap (λ o. if_there o (λ d. d.base) effect.Div) a.1) ∙ h) in
      ap (λ o. if_there o (λ d. d.base) effect.Div) c.1 ∙ other c.0 c.1 (bases l.«to» c.0 c.1) low
    where
      other : (d : EffDef) → slice_get (core_effects ds) l.«to» ≡ Some d → (d.base ≡ effect.Pure) ⊎ (d.base ≡ effect.Div) → HasBase (core_effects ds) l.from effect.Div → d.base ≡ effect.Div
      other d q (inl p) low = absurd (keep-base (core_effects ds) (core_lifts ds) n l k e (low, there-is (slice_get (core_effects ds) l.«to») (λ d. d.base ≡ effect.Pure) d q p))
      other d q (inr p) low = p

  -- headers have their names
  headers : AreScoped ds → HasHeaders P
  headers s = record {
    returns = λ E d e. let w = effect-of E d e in ap (λ d. length d.ret_names) w.1.1 ∙ count-map (λ w. w.text) w.0.ret_names ∙ (s.effects E w.0 w.1.0).ret_names;
    binds = λ E d e. let w = effect-of E d e in ap (λ d. length d.bind_names) w.1.1 ∙ count-map (λ w. w.text) w.0.bind_names ∙ (s.effects E w.0 w.1.0).bind_names;
    lifts = λ n l e. let w = lift-of n l e in ap (λ l. length l.names) w.1.1 ∙ count-map (λ w. w.text) w.0.names ∙ (s.lifts n w.0 w.1.0).names;
  }
    where
      effect-of : (E : ℕ) (d : EffDef) → effect_at P E ≡ Some d → (w : WEffect Ref) × ((slice_get (effects_of ds) E ≡ Some w) × (d ≡ core_effect w))
      effect-of E d e = mapped core_effect (slice_get (effects_of ds) E) d (sym (effect-is E) ∙ e)

      lift-of : (n : ℕ) (l : LftDef) → slice_get P.lifts n ≡ Some l → (w : WLift Ref) × ((slice_get (lifts_of ds) n ≡ Some w) × (l ≡ core_lift (map effect_sorts (effects_of ds)) w))
      lift-of n l e = mapped (core_lift (map effect_sorts (effects_of ds))) (slice_get (lifts_of ds) n) l (sym (get-map (core_lift (map effect_sorts (effects_of ds))) (lifts_of ds) n) ∙ e)

  before : (j g : ℕ) → (g ≤ j → ⊥) → j < g
  before j g h = go (leb_tells g j)
    where
      go : ((nat_le g j ≡ true) × (g ≤ j)) ⊎ ((nat_le g j ≡ false) × (j < g)) → j < g
      go (inl p) = absurd (h p.1)
      go (inr p) = p.1

  pub program-disciplined : AreScoped ds → ((k : ℕ) (f : Placed) → slice_get (funs_of ds) k ≡ Some f → FunScoped (known_up_to ds f.group) f.tree)
      → broken_lifts (core_effects ds) [] (core_lifts ds) (map (λ l. l.place) (lifts_of ds)) ≡ [] → broken_funs ds ≡ [] → IsDisciplined P
  program-disciplined s d b c = record {
    full = program-full ds s;
    headers = headers s;
    bases = bases;
    lifts = lift-kept s (rules-kept s b);
    paths = keep-one (core_effects ds) (core_lifts ds) (rules-kept s b);
    groups = λ k f e.
        let w = fun-from ds k f e in
        let low = group-low 0 0 ds k w.0 (omega arith) w.1.0 in
        let same : f.group ≡ w.0.group = ap (λ f. f.group) w.1.1 in
        omega arith;
    order = λ j k f g e h less.
        let a = fun-from ds j f e in
        let b = fun-from ds k g h in
        let pf : f.group ≡ a.0.group = ap (λ f. f.group) a.1.1 in
        let pg : g.group ≡ b.0.group = ap (λ f. f.group) b.1.1 in
        before j g.group (λ le. let l = group-order 0 0 ds j k a.0 b.0 (omega arith) a.1.0 b.1.0 (omega arith) in absurd (omega arith));
    funs = λ k f e.
        let w = fun-from ds k f e in
        subst (FunDisciplined P) (sym w.1.1) (fun-disciplined w.0 (s.funs k w.0 w.1.0) (d k w.0 w.1.0) (each-none (broken_fun K (funs_of ds)) (funs_of ds) k w.0 c w.1.0));
  }
