-- A text of which no rule is broken keeps to its effects and its ghost parts.
use Rattle.std.proofs.Common.{◌≡◌, ◌⊎◌, inl, inr, ℕ, zero, suc, Bool, true, false, ◌&&◌, ◌||◌, List, [], ◌∷◌, ◌++◌, map, length, slice_get, Option, Some, None, refl, sym, ap, ◌∙◌, subst, if◌then◌else◌}
use Rattle.std.specs.Prelude.{⊤}
use Rattle.fst_base.specs.declared.rule.Rule.TheVariants as rule
use Rattle.fst_base.specs.Sorts.{Srt, s_bool, s_pair, s_opt, s_list, s_either}
use Rattle.fst_trees.specs.declared.word.Word.{Word}
use Rattle.fst_trees.specs.declared.pattern.ConWord.{ConWord}
use Rattle.fst_trees.specs.declared.pattern.ConWord.TheVariants as word
use Rattle.fst_program.specs.declared.effect.Effect.{Effect}
use Rattle.fst_program.specs.declared.effect.Effect.TheVariants as effect
use Rattle.fst_program.specs.Texts.{Cm, c_lift, Prog, Prm, if_there, fun_at, is_user}
use Rattle.fst_names.specs.declared.reference.Ref.{Ref}
use Rattle.fst_names.specs.declared.broken.Broken.{Broken}
use Rattle.fst_names.specs.Broken.{breaks, innermost}
use Rattle.fst_names.specs.Names.{count_forms}
use Rattle.fst_names.specs.Trees.{WForm, WForms, f_ident, f_int, f_bool, f_unit, f_prim, f_if, f_app, f_let, f_end, f_more, WText, WPart, WArms, x_let, x_assert, x_if, x_match, x_part, p_block, p_call, p_reify, p_reflect, p_term, x_end, x_arm}
use Rattle.fst_program.specs.LiftPaths.{or_else, IsPath}
use Rattle.fst_program.specs.Erasure.{Scope}
use Rattle.fst_program.specs.Places.{is_hidden, TmShown, TmsShown, MayRun, ArgsPlaced, StandsAt, base_place, CmPlaced, ArmsPlaced}
use Rattle.fst_effects.specs.Known.{Entry, Ctx, EffectSorts, Known, or_unit, where_known, needs_sort, sort_of, refusal, base_is_div, is_div}
use Rattle.fst_effects.specs.TermSorts.{given, givens, broken, brokens, broken_giving, core, cores, prim_wants, prim_needs, first_place, visible, misused, args_of, wants_of, place_of}
use Rattle.fst_effects.specs.Patterns.{part_sorts, under, in_pattern}
use Rattle.fst_effects.specs.TextSorts.{noted, entry, bound_sort, input_sort, base_of, result_sort, part_place, part_effect, text_given, arms_given, broken_text, broken_part, broken_arms, broken_args, callee_effect}
use Rattle.fst_sorting.specs.CoreTexts.{lifted, lifted_along, bind_or_let, tail, tail_of, core_text, core_part, core_arms}
use Rattle.fst_sorting.specs.Written.{binds}
use Rattle.fst_sorting.proofs.Scoped.{FormScoped, FormsScoped, Takes, TextScoped, PartScoped, ArmsScoped}
use Rattle.fst_program.proofs.ThereLemmas.{there, there-is}
use Rattle.fst_sorting.proofs.BasicLemmas.{none-left, none-right, no-parts, no-own, needed, known, none-first, none-second, none-third}
use Rattle.fst_sorting.proofs.TermLemmas.{at-sort}
use Rattle.fst_sorting.proofs.PatternLemmas.{pattern, pattern-broken}
use Rattle.fst_sorting.proofs.DefinitionTextLemmas.{or-unit-is}
use Rattle.fst_sorting.proofs.TextLemmas.{Matches, path-there, part-stands}

-- which variables in scope are ghost ones
abbrev pub hiddens : Ctx → Scope
hiddens = map (λ x. x.hidden)

get-hidden : (xs : Ctx) (i : ℕ) (e : Entry) → slice_get xs i ≡ Some e → is_hidden (hiddens xs) i ≡ e.hidden
get-hidden [] i e h = cc
get-hidden (x ∷ xs) zero e h = let p : x ≡ e = cc in ap (λ e. e.hidden) p
get-hidden (x ∷ xs) (suc i) e h = get-hidden xs i e h

module _ (K : Known) where
  -- ---- terms

  mutual
    term-plain : (xs : Ctx) (f : WForm Ref) (W : Option Srt) → FormScoped K false (length xs) f → broken K.applied false xs f W ≡ [] → TmShown (hiddens xs) (core K.applied xs f W)
    term-plain xs (f_ident at r) W s b =
        let e = at-sort xs r.index s in
        let m : misused false at (Some e.0) ≡ [] = ap (misused false at) (sym e.1.0) ∙ none-left (misused false at (slice_get xs r.index)) _ b in
        get-hidden xs r.index e.0 e.1.0 ∙ visible-there e.0.hidden at m
      where
        visible-there : (h : Bool) (at : ℕ) → (if h && true then breaks rule.GhostUse at else []) ≡ [] → h ≡ false
        visible-there false at m = refl
        visible-there true at m = cc
    term-plain xs (f_int at n) W s b = tt
    term-plain xs (f_bool at n) W s b = tt
    term-plain xs (f_unit at) W s b = tt
    term-plain xs (f_prim at o fs) W s b =
        let Ws = prim_wants o (givens K.applied xs fs) W in
        terms-plain xs fs Ws s.2 (no-parts (brokens K.applied false xs fs Ws) _ (no-parts (innermost (brokens K.applied false xs fs Ws) (prim_needs (first_place at fs) o (givens K.applied xs fs))) _ b))
    term-plain xs (f_if at c f g) W s b =
        let G = or_else (given K.applied xs f) (given K.applied xs g) in
        let parts = no-parts (broken K.applied false xs c (Some s_bool) ++ broken K.applied false xs f (or_else G W) ++ broken K.applied false xs g (or_else G W)) _ b in (
          term-plain xs c (Some s_bool) s.0 (none-first (broken K.applied false xs c (Some s_bool)) _ _ parts),
          term-plain xs f (or_else G W) s.1 (none-second (broken K.applied false xs c (Some s_bool)) _ _ parts),
          term-plain xs g (or_else G W) s.2 (none-third (broken K.applied false xs c (Some s_bool)) _ _ parts),
        )
    term-plain xs (f_app at r fs) W s b = cc
    term-plain xs (f_let at x f g) W s b = cc

    terms-plain : (xs : Ctx) (fs : WForms Ref) (Ws : List (Option Srt)) → FormsScoped K false (length xs) fs → brokens K.applied false xs fs Ws ≡ [] → TmsShown (hiddens xs) (cores K.applied xs fs Ws)
    terms-plain xs f_end Ws s b = tt
    terms-plain xs (f_more f fs) [] s b = (term-plain xs f None s.0 (none-left (broken K.applied false xs f None) _ b), terms-plain xs fs [] s.1 (none-right (broken K.applied false xs f None) _ b))
    terms-plain xs (f_more f fs) (W ∷ Ws) s b = (term-plain xs f W s.0 (none-left (broken K.applied false xs f W) _ b), terms-plain xs fs Ws s.1 (none-right (broken K.applied false xs f W) _ b))

  may-run : (gh : Bool) (xs : Ctx) (f : WForm Ref) (W : Option Srt) → FormScoped K false (length xs) f → broken K.applied gh xs f W ≡ [] → MayRun gh (hiddens xs) (core K.applied xs f W)
  may-run true xs f W s b = tt
  may-run false xs f W s b = term-plain xs f W s b

  or-false : (gh : Bool) → gh || false ≡ gh
  or-false true = refl
  or-false false = refl

  or-true : (gh : Bool) → gh || true ≡ true
  or-true true = refl
  or-true false = refl

  args-kept : (gh : Bool) (xs : Ctx) (fs : WForms Ref) (ps : List Prm) → FormsScoped K false (length xs) fs
      → broken_args K gh xs fs (map (λ p. record { sort = p.sort; hidden = p.hidden }) ps) ≡ []
      → ArgsPlaced gh (hiddens xs) ps (cores K.applied xs fs (wants_of (map (λ p. record { sort = p.sort; hidden = p.hidden }) ps)))
  args-kept gh xs f_end [] s b = tt
  args-kept gh xs (f_more f fs) [] s b = tt
  args-kept gh xs f_end (p ∷ ps) s b = tt
  args-kept gh xs (f_more f fs) (p ∷ ps) s b =
      (go p.hidden refl, args-kept gh xs fs ps s.1 (none-right (broken K.applied (gh || p.hidden) xs f (Some p.sort)) _ b))
    where
      go : (h : Bool) → p.hidden ≡ h → (p.hidden ≡ true) ⊎ MayRun gh (hiddens xs) (core K.applied xs f (Some p.sort))
      go true e = inl e
      go false e = inr (may-run gh xs f (Some p.sort) s.0 (subst (λ g. broken K.applied g xs f (Some p.sort) ≡ []) (ap (λ h. gh || h) e ∙ or-false gh) (none-left (broken K.applied (gh || p.hidden) xs f (Some p.sort)) _ b)))

-- ---- patterns: a pattern's names are no ghost variables

blanks : ℕ → Scope
blanks zero = []
blanks (suc n) = false ∷ blanks n

plain-names : (ws : List Word) → map (λ y. false) (map (λ w. w.text) ws) ≡ blanks (length ws)
unfolding blanks
plain-names [] = refl
plain-names (w ∷ ws) = ap (◌∷◌ false) (plain-names ws)

pattern-hidden : (at : ℕ) (con : ConWord) (T : Srt) (xs : Ctx) (k : List Srt → List Broken) → in_pattern at (part_sorts con T) k ≡ [] → hiddens (under (part_sorts con T) xs) ≡ blanks (binds con) ++ hiddens xs
unfolding blanks
pattern-hidden at word.True s_bool xs k h = refl
pattern-hidden at word.False s_bool xs k h = refl
pattern-hidden at word.Empty (s_opt S) xs k h = refl
pattern-hidden at word.Full (s_opt S) xs k h = refl
pattern-hidden at word.Nil (s_list S) xs k h = refl
pattern-hidden at word.Cons (s_list S) xs k h = refl
pattern-hidden at word.Left (s_either S T) xs k h = refl
pattern-hidden at word.Right (s_either S T) xs k h = refl
pattern-hidden at word.Pair (s_pair S T) xs k h = refl
pattern-hidden at con T xs k h = cc

-- ---- effects

-- the place at which a part of this effect is kept
abbrev pub stand : Prog → (place part : Effect) → Effect
stand P x (effect.User D) = effect.User D
stand P x effect.Pure = base_place P x
stand P x effect.Ghost = base_place P x
stand P x effect.Div = base_place P x

div-base : (o : Option EffectSorts) → base_is_div o ≡ true → base_of o ≡ effect.Div
div-base None e = cc
div-base (Some e) h = go e.base h
  where
    go : (x : Effect) → is_div x ≡ true → x ≡ effect.Div
    go effect.Div h = refl
    go effect.Pure h = cc
    go effect.Ghost h = cc
    go (effect.User E) h = cc

module _ (K : Known) (P : Prog) (m : Matches K P) (bases : (E : ℕ) → is_user (base_place P (effect.User E)) ≡ false) (divs : (E : ℕ) → base_is_div (K.effects E) ≡ true → base_place P (effect.User E) ≡ effect.Div) where
  pure-at : (y : Effect) → is_user y ≡ false → StandsAt effect.Pure y
  pure-at effect.Pure e = tt
  pure-at effect.Ghost e = tt
  pure-at effect.Div e = tt
  pure-at (effect.User E) e = cc

  stands-at : (x e : Effect) → refusal K x e ≡ None → StandsAt e (stand P x e)
  stands-at x (effect.User D) r = refl
  stands-at effect.Pure effect.Pure r = tt
  stands-at effect.Ghost effect.Pure r = tt
  stands-at effect.Div effect.Pure r = tt
  stands-at (effect.User E) effect.Pure r = pure-at _ (bases E)
  stands-at effect.Ghost effect.Ghost r = tt
  stands-at effect.Pure effect.Ghost r = cc
  stands-at effect.Div effect.Ghost r = cc
  stands-at (effect.User E) effect.Ghost r = cc
  stands-at effect.Div effect.Div r = tt
  stands-at effect.Pure effect.Div r = cc
  stands-at effect.Ghost effect.Div r = cc
  stands-at (effect.User E) effect.Div r = go (base_is_div (K.effects E)) (divs E) r
    where
      go : (t : Bool) → (t ≡ true → base_place P (effect.User E) ≡ effect.Div) → (if t then None else Some rule.NoLift) ≡ None → StandsAt effect.Div (base_place P (effect.User E))
      go true d r = subst (StandsAt effect.Div) (sym (d refl)) tt
      go false d r = cc

  stand-own : (x : Effect) → stand P x x ≡ x
  stand-own effect.Pure = refl
  stand-own effect.Ghost = refl
  stand-own effect.Div = refl
  stand-own (effect.User E) = refl

  lifted-kept : (gh : Bool) (hs : Scope) (ls : List ℕ) (D E : ℕ) (c : Cm) → IsPath P.lifts D ls E → CmPlaced P gh hs (effect.User D) c → CmPlaced P gh hs (effect.User E) (lifted K ls c)
  lifted-kept gh hs [] D E c p h = subst (λ X. CmPlaced P gh hs (effect.User X) c) p h
  lifted-kept gh hs (n ∷ ns) D E c p h =
      let l = there (slice_get P.lifts n) _ p in
      lifted-kept gh hs ns l.0.«to» E (c_lift n c) l.1.1.1
      (there-is (slice_get P.lifts n) (λ k. CmPlaced P gh hs (effect.User k.from) c) l.0 l.1.0 (subst (λ X. CmPlaced P gh hs (effect.User X) c) (sym l.1.1.0) h))

  along-kept : (gh : Bool) (hs : Scope) (D E : ℕ) (c : Cm) → refusal K (effect.User E) (effect.User D) ≡ None → CmPlaced P gh hs (effect.User D) c → CmPlaced P gh hs (effect.User E) (lifted_along K (K.path D E) c)
  along-kept gh hs D E c r h =
      let p = path-there K (K.path D E) _ r in
      subst (λ o. CmPlaced P gh hs (effect.User E) (lifted_along K o c)) (sym p.1) (lifted-kept gh hs p.0 D E c (m.paths D E p.0 p.1) h)

  bind-kept : (gh : Bool) (hs : Scope) (x e : Effect) (y : List ℕ) (c1 c2 : Cm) → refusal K x e ≡ None
      → CmPlaced P gh hs (stand P x e) c1 → CmPlaced P gh (false ∷ hs) x c2 → CmPlaced P gh hs x (bind_or_let K x e y c1 c2)
  bind-kept gh hs (effect.User E) effect.Pure y c1 c2 r h k = (h, k)
  bind-kept gh hs (effect.User E) effect.Ghost y c1 c2 r h k = (h, k)
  bind-kept gh hs (effect.User E) effect.Div y c1 c2 r h k = (h, k)
  bind-kept gh hs (effect.User E) (effect.User D) y c1 c2 r h k = (along-kept gh hs D E c1 r h, k)
  bind-kept gh hs effect.Pure effect.Pure y c1 c2 r h k = (h, k)
  bind-kept gh hs effect.Pure effect.Ghost y c1 c2 r h k = cc
  bind-kept gh hs effect.Pure effect.Div y c1 c2 r h k = cc
  bind-kept gh hs effect.Pure (effect.User D) y c1 c2 r h k = cc
  bind-kept gh hs effect.Ghost effect.Pure y c1 c2 r h k = (h, k)
  bind-kept gh hs effect.Ghost effect.Ghost y c1 c2 r h k = (h, k)
  bind-kept gh hs effect.Ghost effect.Div y c1 c2 r h k = cc
  bind-kept gh hs effect.Ghost (effect.User D) y c1 c2 r h k = cc
  bind-kept gh hs effect.Div effect.Pure y c1 c2 r h k = (h, k)
  bind-kept gh hs effect.Div effect.Ghost y c1 c2 r h k = cc
  bind-kept gh hs effect.Div effect.Div y c1 c2 r h k = (h, k)
  bind-kept gh hs effect.Div (effect.User D) y c1 c2 r h k = cc

  tail-kept : (gh : Bool) (hs : Scope) (x e : Effect) (c : Cm) → refusal K x e ≡ None → CmPlaced P gh hs (stand P x e) c → CmPlaced P gh hs x (tail K x e c)
  tail-kept gh hs (effect.User E) effect.Pure c r h = h
  tail-kept gh hs (effect.User E) effect.Ghost c r h = h
  tail-kept gh hs (effect.User E) effect.Div c r h = h
  tail-kept gh hs (effect.User E) (effect.User D) c r h = along-kept gh hs D E c r h
  tail-kept gh hs effect.Pure effect.Pure c r h = h
  tail-kept gh hs effect.Pure effect.Ghost c r h = cc
  tail-kept gh hs effect.Pure effect.Div c r h = cc
  tail-kept gh hs effect.Pure (effect.User D) c r h = cc
  tail-kept gh hs effect.Ghost effect.Pure c r h = h
  tail-kept gh hs effect.Ghost effect.Ghost c r h = h
  tail-kept gh hs effect.Ghost effect.Div c r h = cc
  tail-kept gh hs effect.Ghost (effect.User D) c r h = cc
  tail-kept gh hs effect.Div effect.Pure c r h = h
  tail-kept gh hs effect.Div effect.Ghost c r h = cc
  tail-kept gh hs effect.Div effect.Div c r h = h
  tail-kept gh hs effect.Div (effect.User D) c r h = cc

  tail-of-kept : (gh : Bool) (hs : Scope) (x : Effect) (p : WPart Ref) (c : Cm) → refusal K x (part_effect K x p) ≡ None → CmPlaced P gh hs (stand P x (part_effect K x p)) c → CmPlaced P gh hs x (tail_of K x p c)
  tail-of-kept gh hs x (p_block at d) c r h = subst (λ X. CmPlaced P gh hs X c) (stand-own x) h
  tail-of-kept gh hs x (p_call at f fs) c r h = tail-kept gh hs x _ c r h
  tail-of-kept gh hs x (p_reify at f s d g) c r h = tail-kept gh hs x _ c r h
  tail-of-kept gh hs x (p_reflect at f s y d) c r h = tail-kept gh hs x _ c r h
  tail-of-kept gh hs x (p_term at f) c r h = tail-kept gh hs x effect.Pure c r h

  call-kept : (gh : Bool) (x : Effect) (xs : Ctx) (r : Ref) (fs : WForms Ref) (at : ℕ)
      → Takes (K.called r) (count_forms fs) → FormsScoped K false (length xs) fs → refusal K x (callee_effect (K.called r)) ≡ None
      → broken_args K gh xs fs (args_of (K.called r)) ≡ [] → CmPlaced P gh (hiddens xs) (stand P x (callee_effect (K.called r))) (core_part K x xs (p_call at r fs) None)
  call-kept gh x xs r fs at t s n b =
      let c = there (K.called r) _ t in
      let f = m.called r c.0 c.1.0 in
      let args : args_of (K.called r) ≡ map (λ p. record { sort = p.sort; hidden = p.hidden }) f.0.params = ap args_of c.1.0 ∙ f.1.3 in
      let eff : callee_effect (K.called r) ≡ f.0.effect = ap callee_effect c.1.0 ∙ f.1.1 in
      let place = stand P x (callee_effect (K.called r)) in
      there-is (fun_at P r.index) (λ g. StandsAt g.effect place × ArgsPlaced gh (hiddens xs) g.params (cores K.applied xs fs (wants_of (args_of (K.called r))))) f.0 f.1.0 (
        subst (λ e. StandsAt e place) eff (stands-at x (callee_effect (K.called r)) n),
        subst (λ ps. ArgsPlaced gh (hiddens xs) f.0.params (cores K.applied xs fs (wants_of ps))) (sym args) (args-kept K gh xs fs f.0.params s (subst (λ ps. broken_args K gh xs fs ps ≡ []) args b)),
      )

  base-same : (E : ℕ) → if_there (K.effects E) (λ e. ⊤) ⊥ → base_place P (effect.User E) ≡ base_of (K.effects E)
  base-same E h =
      let e = there (K.effects E) _ h in
      let g = m.effects E e.0 e.1.0 in
      ap (λ o. if_there o (λ d. d.base) effect.Div) g.1.0 ∙ g.1.3 ∙ sym (ap base_of e.1.0)

  mutual
    pub text-kept : (x : Effect) (gh : Bool) (xs : Ctx) (c : WText Ref) (W : Option Srt)
        → TextScoped K true (length xs) c → broken_text K x gh xs c W ≡ [] → CmPlaced P gh (hiddens xs) x (core_text K x xs c W)
    text-kept x gh xs (x_let true y s p c) W d b =
        let B = bound_sort K xs s p in
        let T = or_unit B in
        let first = none-left (innermost (broken_part K effect.Ghost (gh || true) xs p (noted s)) (needs_sort (part_place p) B)) _ b in
        let second = none-right (innermost (broken_part K effect.Ghost (gh || true) xs p (noted s)) (needs_sort (part_place p) B)) _ b in
        let parts = no-parts (broken_part K effect.Ghost (gh || true) xs p (noted s)) _ first in
        let gave = needed (part_place p) B (no-own (broken_part K effect.Ghost (gh || true) xs p (noted s)) _ first) in
        let gives = or-unit-is B gave.0 gave.1 in
        let place = ghost-place (part_effect K effect.Ghost p) (part-stands K P m effect.Ghost (gh || true) xs p (noted s) parts) in (
          subst (λ X. CmPlaced P true (hiddens xs) X (core_part K effect.Ghost xs p (noted s))) place
              (subst (λ g. CmPlaced P g (hiddens xs) (stand P effect.Ghost (part_effect K effect.Ghost p)) (core_part K effect.Ghost xs p (noted s))) (or-true K gh) (part-kept effect.Ghost (gh || true) xs p (noted s) d.1 parts)),
          text-kept x gh (entry true T ∷ xs) c W d.2 (known B T _ gives second),
        )
      where
        ghost-place : (e : Effect) → refusal K effect.Ghost e ≡ None → stand P effect.Ghost e ≡ effect.Ghost
        ghost-place effect.Pure r = refl
        ghost-place effect.Ghost r = refl
        ghost-place effect.Div r = cc
        ghost-place (effect.User D) r = cc
    text-kept x gh xs (x_let false y s p c) W d b =
        let B = bound_sort K xs s p in
        let T = or_unit B in
        let first = none-left (innermost (broken_part K x (gh || false) xs p (noted s)) (needs_sort (part_place p) B)) _ b in
        let second = none-right (innermost (broken_part K x (gh || false) xs p (noted s)) (needs_sort (part_place p) B)) _ b in
        let parts = no-parts (broken_part K x (gh || false) xs p (noted s)) _ first in
        let gave = needed (part_place p) B (no-own (broken_part K x (gh || false) xs p (noted s)) _ first) in
        let gives = or-unit-is B gave.0 gave.1 in
        bind-kept gh (hiddens xs) x (part_effect K x p) y.text (core_part K x xs p (noted s)) (core_text K x (entry false T ∷ xs) c W) (part-stands K P m x (gh || false) xs p (noted s) parts)
        (subst (λ g. CmPlaced P g (hiddens xs) (stand P x (part_effect K x p)) (core_part K x xs p (noted s))) (or-false K gh) (part-kept x (gh || false) xs p (noted s) d.0 parts))
        (text-kept x gh (entry false T ∷ xs) c W d.1 (known B T _ gives second))
    text-kept x gh xs (x_assert f at c) W d b = text-kept x gh xs c W d.2 (none-right (broken K.applied true xs f (Some s_bool)) _ b)
    text-kept x gh xs (x_if f c e) W d b =
        let V = or_else W (or_else (text_given K xs c) (text_given K xs e)) in (
          may-run K gh xs f (Some s_bool) d.0 (none-first (broken K.applied gh xs f (Some s_bool)) _ _ b),
          text-kept x gh xs c V d.1 (none-second (broken K.applied gh xs f (Some s_bool)) _ _ b),
          text-kept x gh xs e V d.2 (none-third (broken K.applied gh xs f (Some s_bool)) _ _ b),
        )
    text-kept x gh xs (x_match f at arms) W d b =
        let G = given K.applied xs f in
        let T = or_unit G in
        let inner = no-parts (broken_giving K.applied gh xs f ++ where_known G (λ T. broken_arms K x gh xs T arms (or_else W (arms_given K xs T arms)))) _ b in
        let first = none-left (broken_giving K.applied gh xs f) _ inner in
        let gave = needed (place_of f) G (no-own (broken K.applied gh xs f None) _ first) in
        let gives = or-unit-is G gave.0 gave.1 in (
          may-run K gh xs f None d.0 (no-parts (broken K.applied gh xs f None) _ first),
          arms-kept x gh xs T arms (or_else W (arms_given K xs T arms)) d.1 (known G T _ gives (none-right (broken_giving K.applied gh xs f) _ inner)),
        )
    text-kept x gh xs (x_part p) W d b = tail-of-kept gh (hiddens xs) x p (core_part K x xs p W) (part-stands K P m x gh xs p W b) (part-kept x gh xs p W d b)

    pub part-kept : (x : Effect) (gh : Bool) (xs : Ctx) (p : WPart Ref) (W : Option Srt)
        → PartScoped K true (length xs) p → broken_part K x gh xs p W ≡ [] → CmPlaced P gh (hiddens xs) (stand P x (part_effect K x p)) (core_part K x xs p W)
    part-kept x gh xs (p_block at c) W d b = subst (λ X. CmPlaced P gh (hiddens xs) X (core_text K x xs c W)) (sym (stand-own x)) (text-kept x gh xs c W d b)
    part-kept x gh xs (p_call at r fs) W d b =
        call-kept gh x xs r fs at d.0 d.1 (part-stands K P m x gh xs (p_call at r fs) W b) (no-parts (broken_args K gh xs fs (args_of (K.called r))) _ b)
    part-kept x gh xs (p_reify at r s c f) W d b =
        let E = r.index in
        let T = sort_of s in
        let parts = no-parts (broken_text K (effect.User E) gh xs c (Some T) ++ broken K.applied gh xs f (input_sort (K.effects E))) _ b in
        let place = stand P x (base_of (K.effects E)) in (
          subst (λ e. StandsAt e place) (sym (base-same E d.1)) (stands-at x (base_of (K.effects E)) (part-stands K P m x gh xs (p_reify at r s c f) W b)),
          may-run K gh xs f (input_sort (K.effects E)) d.3 (none-right (broken_text K (effect.User E) gh xs c (Some T)) _ parts),
          text-kept (effect.User E) gh xs c (Some T) d.2 (none-left (broken_text K (effect.User E) gh xs c (Some T)) _ parts),
        )
    part-kept x gh xs (p_reflect at r s y c) W d b =
        let E = r.index in
        let I = or_unit (input_sort (K.effects E)) in
        let B = base_of (K.effects E) in
        let R = result_sort (K.effects E) (sort_of s) in
        subst (λ X. CmPlaced P gh (false ∷ hiddens xs) X (core_text K B (visible I ∷ xs) c R)) (sym (base-same E d.1))
        (text-kept B gh (visible I ∷ xs) c R d.2 (no-parts (broken_text K B gh (visible I ∷ xs) c R) _ b))
    part-kept x gh xs (p_term at f) W d b = may-run K gh xs f W d b

    pub arms-kept : (x : Effect) (gh : Bool) (xs : Ctx) (T : Srt) (arms : WArms Ref) (W : Option Srt)
        → ArmsScoped K true (length xs) arms → broken_arms K x gh xs T arms W ≡ [] → ArmsPlaced P gh (hiddens xs) x (core_arms K x xs T arms W)
    arms-kept x gh xs T x_end W d b = tt
    arms-kept x gh xs T (x_arm at con ws c more) W d b =
        let first = none-left (in_pattern at (part_sorts con T) (λ ys. broken_text K x gh (map visible ys ++ xs) c W)) _ b in
        let fit = pattern at con T xs _ first in
        let zs = under (part_sorts con T) xs in
        let same : hiddens zs ≡ map (λ y. false) (map (λ w. w.text) ws) ++ hiddens xs = pattern-hidden at con T xs _ first ∙ ap (λ bs. bs ++ hiddens xs) (ap blanks (sym d.0) ∙ sym (plain-names ws)) in (
          subst (λ hs. CmPlaced P gh hs x (core_text K x zs c W)) same
              (text-kept x gh zs c W (subst (λ n. TextScoped K true n c) (sym fit.3) d.1) (pattern-broken at (part_sorts con T) xs (λ zs. broken_text K x gh zs c W) first)),
          arms-kept x gh xs T more W d.2 (none-right (in_pattern at (part_sorts con T) (λ ys. broken_text K x gh (map visible ys ++ xs) c W)) _ b),
        )
