-- A text and the formulas of which no rule is broken name functions in the order of groups, and calls have their measures.
use Rattle.std.proofs.Common.{◌≡◌, ◌≢◌, ◌⊎◌, inl, inr, ℕ, suc, ◌+◌, ◌<◌, ◌≤◌, Bool, true, false, not, ◌&&◌, ◌||◌, nat_eq, nat_lt, nat_le, List, [], ◌∷◌, ◌++◌, map, length, slice_get, Option, Some, None, option_map, refl, sym, ap, ◌∙◌, subst, if◌then◌else◌}
use Rattle.std.proofs.lemmas.Bool.Decides.{Decides-eqb, Decides-ltb, leb_tells}
use Rattle.fst_base.specs.Sorts.{Srt, s_bool, s_int}
use Rattle.fst_program.specs.declared.effect.Effect.{Effect}
use Rattle.fst_program.specs.declared.effect.Effect.TheVariants as effect
use Rattle.fst_program.specs.Texts.{Cm, c_lift, Prog, Fn, if_there, fun_at, is_total}
use Rattle.fst_names.specs.declared.reference.Ref.{Ref}
use Rattle.fst_names.specs.Broken.{innermost}
use Rattle.fst_names.specs.Names.{count_forms, each, optional}
use Rattle.fst_names.specs.Trees.{WForm, WForms, f_ident, f_int, f_bool, f_unit, f_prim, f_if, f_app, f_let, f_end, f_more, WText, WPart, WArms, x_let, x_assert, x_if, x_match, x_part, p_block, p_call, p_reify, p_reflect, p_term, x_end, x_arm, WParam, WDecl}
use Rattle.fst_program.specs.LiftPaths.{or_else}
use Rattle.fst_program.specs.Groups.{TmEarlier, TmsEarlier, GivenEarlier, EachEarlier, RefinesEarlier, MayCall, CmGrouped, ArmsGrouped}
use Rattle.fst_effects.specs.Known.{Ctx, Known, or_unit, where_known, clash, needs_sort, sort_of}
use Rattle.fst_effects.specs.TermSorts.{given, givens, broken, brokens, broken_giving, core, cores, prim_wants, prim_needs, first_place, visible, args_of, wants_of, place_of, is_pure_or_ghost, not_applied}
use Rattle.fst_effects.specs.Patterns.{part_sorts, under, in_pattern}
use Rattle.fst_effects.specs.TextSorts.{noted, entry, bound_sort, input_sort, base_of, result_sort, part_place, part_effect, text_given, arms_given, broken_text, broken_part, broken_arms}
use Rattle.fst_sorting.specs.CoreTexts.{lifted, lifted_along, bind_or_let, tail, tail_of, core_text, core_part, core_arms}
use Rattle.fst_sorting.specs.Functions.{Placed, funs_of, effect_of, called_as, applied_as, known_in, callees, part_callees, arm_callees, has_member, unmeasured, calls_unmeasured, scope_of, param_entry, broken_formula, broken_refinements, core_params, core_fun, core_program}
use Rattle.fst_sorting.specs.Written.{binds}
use Rattle.fst_sorting.proofs.Scoped.{FormScoped, FormsScoped, Takes, TextScoped, PartScoped, ArmsScoped, FormulaScoped, AllScoped, ParamsScoped}
use Rattle.fst_program.proofs.ThereLemmas.{there, there-is}
use Rattle.fst_sorting.proofs.BasicLemmas.{none-left, none-right, no-parts, no-own, needed, known, none-first, none-second, none-third}
use Rattle.fst_sorting.proofs.ListLemmas.{mapped, count-map}
use Rattle.fst_sorting.proofs.TermLemmas.{if-none}
use Rattle.fst_sorting.proofs.PatternLemmas.{pattern-broken}
use Rattle.fst_sorting.proofs.DefinitionTextLemmas.{or-unit-is}
use Rattle.fst_sorting.proofs.ProgramLemmas.{fun-there}

abbrev pub kept_if : (Placed → Bool) → Option Placed → Option Placed
kept_if test None = None
kept_if test (Some f) = if test f then Some f else None

pub kept-is : (test : Placed → Bool) (o : Option Placed) (f : Placed) → kept_if test o ≡ Some f → (o ≡ Some f) × (test f ≡ true)
kept-is test None f e = cc
kept-is test (Some g) f e = go (test g) refl e
  where
    go : (t : Bool) → test g ≡ t → (if t then Some g else None) ≡ Some f → (Some g ≡ Some f) × (test f ≡ true)
    go true q h = let p : g ≡ f = cc in (ap Some p, ap test (sym p) ∙ q)
    go false q h = cc

-- what the functions of a group know: those called up to it, and those applied before it
abbrev pub known_up_to : List (WDecl Ref) → (group : ℕ) → Known
known_up_to ds g = record {
  called = λ r. option_map (λ f. called_as (known_in ds).effects f.tree) (kept_if (λ f. nat_le f.group g) (slice_get (funs_of ds) r.index));
  applied = λ r. option_map (λ f. applied_as (known_in ds).effects f.tree) (kept_if (λ f. nat_lt f.group g) (slice_get (funs_of ds) r.index));
  effects = (known_in ds).effects;
  path = (known_in ds).path;
  complete = false;
}

no-member-left : (test : ℕ → Bool) (xs ys : List ℕ) → has_member test (xs ++ ys) ≡ false → has_member test xs ≡ false
no-member-left test [] ys e = refl
no-member-left test (x ∷ xs) ys e = go (test x) (no-member-left test xs ys) e
  where
    go : (t : Bool) → (has_member test (xs ++ ys) ≡ false → has_member test xs ≡ false) → t || has_member test (xs ++ ys) ≡ false → t || has_member test xs ≡ false
    go true rest e = cc
    go false rest e = rest e

no-member-right : (test : ℕ → Bool) (xs ys : List ℕ) → has_member test (xs ++ ys) ≡ false → has_member test ys ≡ false
no-member-right test [] ys e = e
no-member-right test (x ∷ xs) ys e = go (test x) (no-member-right test xs ys) e
  where
    go : (t : Bool) → (has_member test (xs ++ ys) ≡ false → has_member test ys ≡ false) → t || has_member test (xs ++ ys) ≡ false → has_member test ys ≡ false
    go true rest e = cc
    go false rest e = rest e

le-true : (a b : ℕ) → nat_le a b ≡ true → a ≤ b
le-true a b e = go (leb_tells a b)
  where
    go : ((nat_le a b ≡ true) × (a ≤ b)) ⊎ ((nat_le a b ≡ false) × (b < a)) → a ≤ b
    go (inl h) = h.1
    go (inr h) = let f = h.0 in cc

or-both : (a b : Bool) → a || b ≡ false → (a ≡ false) × (b ≡ false)
or-both true b e = cc
or-both false b e = (refl, e)

module _ (ds : List (WDecl Ref)) where
  abbrev K : Known
  K = known_in ds

  abbrev P : Prog
  P = core_program ds

  module _ (g : ℕ) where
    abbrev L : Known
    L = known_up_to ds g

    pure-ghost : (x : Effect) → is_pure_or_ghost x ≡ true → (x ≡ effect.Pure) ⊎ (x ≡ effect.Ghost)
    pure-ghost effect.Pure e = inl refl
    pure-ghost effect.Ghost e = inr refl
    pure-ghost effect.Div e = cc
    pure-ghost (effect.User E) e = cc

    app-below : (r : Ref) (n at : ℕ) → Takes (L.applied r) n → not_applied at (K.applied r) ≡ [] → if_there (fun_at P r.index) (λ f. (f.group < g) × ((f.effect ≡ effect.Pure) ⊎ (f.effect ≡ effect.Ghost))) ⊥
    app-below r n at t b =
        let c = there (L.applied r) _ t in
        let p = mapped (λ f. applied_as K.effects f.tree) (kept_if (λ f. nat_lt f.group g) (slice_get (funs_of ds) r.index)) c.0 c.1.0 in
        let q = kept-is (λ f. nat_lt f.group g) (slice_get (funs_of ds) r.index) p.0 p.1.0 in
        let known : K.applied r ≡ Some (applied_as K.effects p.0.tree) = ap (option_map (λ f. applied_as K.effects f.tree)) q.0 in
        let pure = if-none (is_pure_or_ghost (effect_of p.0.tree.effect)) [] _ _ (subst (λ o. not_applied at o ≡ []) known b) in
        there-is (fun_at P r.index) (λ f. (f.group < g) × ((f.effect ≡ effect.Pure) ⊎ (f.effect ≡ effect.Ghost))) (core_fun K (funs_of ds) p.0) (fun-there ds r.index p.0 q.0)
        ((Decides-ltb p.0.group g).0 q.1, pure-ghost (effect_of p.0.tree.effect) pure)

    mutual
      pub term-below : (gh l : Bool) (n : ℕ) (xs : Ctx) (f : WForm Ref) (W : Option Srt) → FormScoped L l n f → broken K.applied gh xs f W ≡ [] → TmEarlier P g (core K.applied xs f W)
      term-below gh l n xs (f_ident at r) W s b = tt
      term-below gh l n xs (f_int at m) W s b = tt
      term-below gh l n xs (f_bool at m) W s b = tt
      term-below gh l n xs (f_unit at) W s b = tt
      term-below gh l n xs (f_prim at o fs) W s b =
          let Ws = prim_wants o (givens K.applied xs fs) W in
          terms-below gh l n xs fs Ws s.2 (no-parts (brokens K.applied gh xs fs Ws) _ (no-parts (innermost (brokens K.applied gh xs fs Ws) (prim_needs (first_place at fs) o (givens K.applied xs fs))) _ b))
      term-below gh l n xs (f_if at c f h) W s b =
          let G = or_else (given K.applied xs f) (given K.applied xs h) in
          let parts = no-parts (broken K.applied gh xs c (Some s_bool) ++ broken K.applied gh xs f (or_else G W) ++ broken K.applied gh xs h (or_else G W)) _ b in (
            term-below gh l n xs c (Some s_bool) s.0 (none-first (broken K.applied gh xs c (Some s_bool)) _ _ parts),
            term-below gh l n xs f (or_else G W) s.1 (none-second (broken K.applied gh xs c (Some s_bool)) _ _ parts),
            term-below gh l n xs h (or_else G W) s.2 (none-third (broken K.applied gh xs c (Some s_bool)) _ _ parts),
          )
      term-below gh l n xs (f_app at r fs) W s b =
          let Ws = wants_of (args_of (K.applied r)) in (
            app-below r (count_forms fs) at s.1 (none-left (not_applied at (K.applied r)) _ (no-own (brokens K.applied true xs fs Ws) _ b)),
            terms-below true l n xs fs Ws s.2 (no-parts (brokens K.applied true xs fs Ws) _ b),
          )
      term-below gh l n xs (f_let at x f h) W s b =
          let T = or_unit (given K.applied xs f) in
          let ys = visible T ∷ xs in
          let G = given K.applied ys h in
          let first = none-left (innermost (broken K.applied gh xs f None) (needs_sort (place_of f) (given K.applied xs f))) _ b in
          let second = none-right (innermost (broken K.applied gh xs f None) (needs_sort (place_of f) (given K.applied xs f))) _ b in
          let gave = needed (place_of f) (given K.applied xs f) (no-own (broken K.applied gh xs f None) _ first) in
          let gives = or-unit-is (given K.applied xs f) gave.0 gave.1 in
          let body : innermost (broken K.applied gh ys h (or_else G W)) (clash at G W) ≡ [] = known (given K.applied xs f) T _ gives second in
          (term-below gh l n xs f None s.1 (no-parts (broken K.applied gh xs f None) _ first), term-below gh l (suc n) ys h (or_else G W) s.2 (no-parts (broken K.applied gh ys h (or_else G W)) _ body))

      pub terms-below : (gh l : Bool) (n : ℕ) (xs : Ctx) (fs : WForms Ref) (Ws : List (Option Srt)) → FormsScoped L l n fs → brokens K.applied gh xs fs Ws ≡ [] → TmsEarlier P g (cores K.applied xs fs Ws)
      terms-below gh l n xs f_end Ws s b = tt
      terms-below gh l n xs (f_more f fs) [] s b = (term-below gh l n xs f None s.0 (none-left (broken K.applied gh xs f None) _ b), terms-below gh l n xs fs [] s.1 (none-right (broken K.applied gh xs f None) _ b))
      terms-below gh l n xs (f_more f fs) (W ∷ Ws) s b = (term-below gh l n xs f W s.0 (none-left (broken K.applied gh xs f W) _ b), terms-below gh l n xs fs Ws s.1 (none-right (broken K.applied gh xs f W) _ b))

    pub given-below : (xs : Ctx) (o : Option (WForm Ref)) → FormulaScoped L xs o → optional (broken_formula K xs) o ≡ [] → GivenEarlier P g (option_map (λ f. core K.applied xs f (Some s_bool)) o)
    given-below xs None s b = tt
    given-below xs (Some f) s b = term-below true true (length xs) xs f (Some s_bool) s b

    pub refines-below : (xs : Ctx) (ps : List (WParam Ref)) → ParamsScoped L xs ps → broken_refinements K xs ps ≡ [] → RefinesEarlier P g (core_params K xs ps)
    refines-below xs [] s b = tt
    refines-below xs (p ∷ ps) s b = (
      given-below (param_entry p ∷ xs) p.refine s.0 (none-left (optional (broken_formula K (param_entry p ∷ xs)) p.refine) _ b),
      refines-below (param_entry p ∷ xs) ps s.1 (none-right (optional (broken_formula K (param_entry p ∷ xs)) p.refine) _ b),
    )

    pub all-below : (xs : Ctx) (ms : List (WForm Ref)) → AllScoped L xs ms → each (λ m. broken K.applied true xs m (Some s_int)) ms ≡ [] → EachEarlier P g (map (λ m. core K.applied xs m (Some s_int)) ms)
    all-below xs [] s b = tt
    all-below xs (m ∷ ms) s b =
        (term-below true true (length xs) xs m (Some s_int) s.0 (none-left (broken K.applied true xs m (Some s_int)) _ b), all-below xs ms s.1 (none-right (broken K.applied true xs m (Some s_int)) _ b))

  -- ---- texts, of the declared function p

  module _ (p : Placed) where
    abbrev F : Fn
    F = core_fun K (funs_of ds) p

    abbrev M : Known
    M = known_up_to ds p.group

    abbrev test : ℕ → Bool
    test = calls_unmeasured (funs_of ds) p

    not-both : (a b : Bool) → a && b ≡ false → a ≡ true → b ≡ false
    not-both true b e h = e
    not-both false b e h = cc

    measured : (m n : ℕ) → unmeasured m n ≡ false → (m ≢ 0) × (n ≡ m)
    measured m n e =
        let h = or-both (nat_eq m 0) (not (nat_eq m n)) e in
        ((λ z. let t : nat_eq m 0 ≡ true = (Decides-eqb m 0).1 z in let f = h.0 in cc), sym ((Decides-eqb m n).0 (off (nat_eq m n) h.1)))
      where
        off : (a : Bool) → not a ≡ false → a ≡ true
        off true e = refl
        off false e = cc

    call-below : (r : Ref) (n : ℕ) → Takes (M.called r) n → (is_total P F.effect ≡ true → test r.index ≡ false) → if_there (fun_at P r.index) (λ q. MayCall P F q) ⊥
    call-below r n t total =
        let c = there (M.called r) _ t in
        let q = mapped (λ f. called_as K.effects f.tree) (kept_if (λ f. nat_le f.group p.group) (slice_get (funs_of ds) r.index)) c.0 c.1.0 in
        let s = kept-is (λ f. nat_le f.group p.group) (slice_get (funs_of ds) r.index) q.0 q.1.0 in
        let o = q.0 in
        let count : (x : Placed) → length (core_fun K (funs_of ds) x).measures ≡ length x.tree.measures = λ x. count-map (λ m. core K.applied (scope_of x.tree.params) m (Some s_int)) x.tree.measures in
        there-is (fun_at P r.index) (λ q. MayCall P F q) (core_fun K (funs_of ds) o) (fun-there ds r.index o s.0) (
          le-true o.group p.group s.1,
          λ e same.
              let alone : nat_eq o.group p.group && unmeasured (length p.tree.measures) (length o.tree.measures) ≡ false =
              ap (λ f. if_there f (λ g. nat_eq g.group p.group && unmeasured (length p.tree.measures) (length g.tree.measures)) false) (sym s.0) ∙ total e in
              let m = measured (length p.tree.measures) (length o.tree.measures) (not-both _ _ alone ((Decides-eqb o.group p.group).1 same)) in
              ((λ z. m.0 (sym (count p) ∙ z)), count o ∙ m.1 ∙ sym (count p)),
        )

    lifted-below : (ls : List ℕ) (c : Cm) → CmGrouped P F c → CmGrouped P F (lifted K ls c)
    lifted-below [] c h = h
    lifted-below (l ∷ ls) c h = lifted-below ls (c_lift l c) h

    along-below : (o : Option (List ℕ)) (c : Cm) → CmGrouped P F c → CmGrouped P F (lifted_along K o c)
    along-below None c h = h
    along-below (Some ls) c h = lifted-below ls c h

    bind-below : (x e : Effect) (y : List ℕ) (c1 c2 : Cm) → CmGrouped P F c1 → CmGrouped P F c2 → CmGrouped P F (bind_or_let K x e y c1 c2)
    bind-below (effect.User E) (effect.User D) y c1 c2 h k = (along-below (K.path D E) c1 h, k)
    bind-below x e y c1 c2 h k = (h, k)

    tail-below : (x e : Effect) (c : Cm) → CmGrouped P F c → CmGrouped P F (tail K x e c)
    tail-below (effect.User E) (effect.User D) c h = along-below (K.path D E) c h
    tail-below x e c h = h

    tail-of-below : (x : Effect) (q : WPart Ref) (c : Cm) → CmGrouped P F c → CmGrouped P F (tail_of K x q c)
    tail-of-below x (p_block at d) c h = h
    tail-of-below x (p_call at f fs) c h = tail-below x _ c h
    tail-of-below x (p_reify at f s d g) c h = tail-below x _ c h
    tail-of-below x (p_reflect at f s y d) c h = tail-below x _ c h
    tail-of-below x (p_term at f) c h = tail-below x effect.Pure c h

    -- where the function has to end, none of these callees is without its measure
    abbrev Measured : List ℕ → Type 0
    Measured js = is_total P F.effect ≡ true → has_member test js ≡ false

    mutual
      pub text-below : (x : Effect) (gh : Bool) (n : ℕ) (xs : Ctx) (c : WText Ref) (W : Option Srt) → TextScoped M true n c → Measured (callees c) → broken_text K x gh xs c W ≡ [] → CmGrouped P F (core_text K x xs c W)
      text-below x gh n xs (x_let true y s q c) W d t b =
          let B = bound_sort K xs s q in
          let T = or_unit B in
          let first = none-left (innermost (broken_part K effect.Ghost (gh || true) xs q (noted s)) (needs_sort (part_place q) B)) _ b in
          let second = none-right (innermost (broken_part K effect.Ghost (gh || true) xs q (noted s)) (needs_sort (part_place q) B)) _ b in
          let gave = needed (part_place q) B (no-own (broken_part K effect.Ghost (gh || true) xs q (noted s)) _ first) in
          let gives = or-unit-is B gave.0 gave.1 in (
            part-below effect.Ghost (gh || true) n xs q (noted s) d.1 (λ e. no-member-left test (part_callees q) (callees c) (t e)) (no-parts (broken_part K effect.Ghost (gh || true) xs q (noted s)) _ first),
            text-below x gh (suc n) (entry true T ∷ xs) c W d.2 (λ e. no-member-right test (part_callees q) (callees c) (t e)) (known B T _ gives second),
          )
      text-below x gh n xs (x_let false y s q c) W d t b =
          let B = bound_sort K xs s q in
          let T = or_unit B in
          let first = none-left (innermost (broken_part K x (gh || false) xs q (noted s)) (needs_sort (part_place q) B)) _ b in
          let second = none-right (innermost (broken_part K x (gh || false) xs q (noted s)) (needs_sort (part_place q) B)) _ b in
          let gave = needed (part_place q) B (no-own (broken_part K x (gh || false) xs q (noted s)) _ first) in
          let gives = or-unit-is B gave.0 gave.1 in
          bind-below x (part_effect K x q) y.text (core_part K x xs q (noted s)) (core_text K x (entry false T ∷ xs) c W)
          (part-below x (gh || false) n xs q (noted s) d.0 (λ e. no-member-left test (part_callees q) (callees c) (t e)) (no-parts (broken_part K x (gh || false) xs q (noted s)) _ first))
          (text-below x gh (suc n) (entry false T ∷ xs) c W d.1 (λ e. no-member-right test (part_callees q) (callees c) (t e)) (known B T _ gives second))
      text-below x gh n xs (x_assert f at c) W d t b =
          (term-below p.group true true n xs f (Some s_bool) d.1 (none-left (broken K.applied true xs f (Some s_bool)) _ b), text-below x gh n xs c W d.2 t (none-right (broken K.applied true xs f (Some s_bool)) _ b))
      text-below x gh n xs (x_if f c e) W d t b =
          let V = or_else W (or_else (text_given K xs c) (text_given K xs e)) in (
            text-below x gh n xs c V d.1 (λ h. no-member-left test (callees c) (callees e) (t h)) (none-second (broken K.applied gh xs f (Some s_bool)) _ _ b),
            text-below x gh n xs e V d.2 (λ h. no-member-right test (callees c) (callees e) (t h)) (none-third (broken K.applied gh xs f (Some s_bool)) _ _ b),
          )
      text-below x gh n xs (x_match f at arms) W d t b =
          let G = given K.applied xs f in
          let T = or_unit G in
          let inner = no-parts (broken_giving K.applied gh xs f ++ where_known G (λ T. broken_arms K x gh xs T arms (or_else W (arms_given K xs T arms)))) _ b in
          let first = none-left (broken_giving K.applied gh xs f) _ inner in
          let gave = needed (place_of f) G (no-own (broken K.applied gh xs f None) _ first) in
          let gives = or-unit-is G gave.0 gave.1 in
          arms-below x gh n xs T arms (or_else W (arms_given K xs T arms)) d.1 t (known G T _ gives (none-right (broken_giving K.applied gh xs f) _ inner))
      text-below x gh n xs (x_part q) W d t b = tail-of-below x q (core_part K x xs q W) (part-below x gh n xs q W d t b)

      pub part-below : (x : Effect) (gh : Bool) (n : ℕ) (xs : Ctx) (q : WPart Ref) (W : Option Srt) → PartScoped M true n q → Measured (part_callees q) → broken_part K x gh xs q W ≡ [] → CmGrouped P F (core_part K x xs q W)
      part-below x gh n xs (p_block at c) W d t b = text-below x gh n xs c W d t b
      part-below x gh n xs (p_call at r fs) W d t b = call-below r (count_forms fs) d.0 (λ e. (or-both (test r.index) false (t e)).0)
      part-below x gh n xs (p_reify at r s c f) W d t b =
          let E = r.index in
          let parts = no-parts (broken_text K (effect.User E) gh xs c (Some (sort_of s)) ++ broken K.applied gh xs f (input_sort (K.effects E))) _ b in
          text-below (effect.User E) gh n xs c (Some (sort_of s)) d.2 t (none-left (broken_text K (effect.User E) gh xs c (Some (sort_of s))) _ parts)
      part-below x gh n xs (p_reflect at r s y c) W d t b =
          let E = r.index in
          let I = or_unit (input_sort (K.effects E)) in
          let B = base_of (K.effects E) in
          let R = result_sort (K.effects E) (sort_of s) in
          text-below B gh (suc n) (visible I ∷ xs) c R d.2 t (no-parts (broken_text K B gh (visible I ∷ xs) c R) _ b)
      part-below x gh n xs (p_term at f) W d t b = tt

      pub arms-below : (x : Effect) (gh : Bool) (n : ℕ) (xs : Ctx) (T : Srt) (arms : WArms Ref) (W : Option Srt) → ArmsScoped M true n arms → Measured (arm_callees arms) → broken_arms K x gh xs T arms W ≡ [] → ArmsGrouped P F (core_arms K x xs T arms W)
      arms-below x gh n xs T x_end W d t b = tt
      arms-below x gh n xs T (x_arm at con ws c more) W d t b =
          let first = none-left (in_pattern at (part_sorts con T) (λ ys. broken_text K x gh (map visible ys ++ xs) c W)) _ b in
          let zs = under (part_sorts con T) xs in (
            text-below x gh (binds con + n) zs c W d.1 (λ e. no-member-left test (callees c) (arm_callees more) (t e)) (pattern-broken at (part_sorts con T) xs (λ zs. broken_text K x gh zs c W) first),
            arms-below x gh n xs T more W d.2 (λ e. no-member-right test (callees c) (arm_callees more) (t e)) (none-right (in_pattern at (part_sorts con T) (λ ys. broken_text K x gh (map visible ys ++ xs) c W)) _ b),
          )
