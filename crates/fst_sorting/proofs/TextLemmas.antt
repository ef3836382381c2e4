-- A text of which no rule is broken is well sorted, with the returns, binds and lifts that go in.
use Rattle.std.proofs.Common.{◌≡◌, ℕ, Bool, true, false, ◌||◌, List, [], ◌∷◌, ◌++◌, map, length, slice_get, Option, Some, None, option_map, IsTrue, refl, sym, ap, ◌∙◌, subst, if◌then◌else◌}
use Rattle.fst_base.specs.declared.rule.Rule.{Rule}
use Rattle.fst_base.specs.declared.rule.Rule.TheVariants as rule
use Rattle.fst_base.specs.Sorts.{Srt, s_bool, s_b, put_sorts}
use Rattle.fst_terms.specs.Sorted.{TmsSorted, are_run}
use Rattle.fst_program.specs.declared.effect.Effect.{Effect}
use Rattle.fst_program.specs.declared.effect.Effect.TheVariants as effect
use Rattle.fst_program.specs.Texts.{Cm, c_lift, Prog, Prm, Fn, EffDef, if_there, fun_at, effect_at, is_user, result_at}
use Rattle.fst_program.specs.Sorted as sorted
use Rattle.fst_program.specs.Sorted.{Applies, RunSorted, FormSorted, CmSorted, ArmsSorted}
use Rattle.fst_names.specs.declared.reference.Ref.{Ref}
use Rattle.fst_names.specs.Broken.{innermost}
use Rattle.fst_names.specs.Names.{count_forms}
use Rattle.fst_names.specs.Trees.{WForm, WForms, WText, WPart, WArms, x_let, x_assert, x_if, x_match, x_part, p_block, p_call, p_reify, p_reflect, p_term, x_end, x_arm}
use Rattle.fst_program.specs.LiftPaths.{or_else, IsPath}
use Rattle.fst_effects.specs.Known.{Ctx, Callee, EffectSorts, Known, or_unit, with_sort, where_known, clash, needs_sort, sort_of, refusal, refused, refused_by, is_path}
use Rattle.fst_effects.specs.TermSorts.{given, broken, broken_giving, core, cores, visible, args_of, wants_of, place_of, is_pure_or_ghost}
use Rattle.fst_effects.specs.Patterns.{part_sorts, under, in_pattern}
use Rattle.fst_effects.specs.TextSorts.{noted, entry, bound_sort, input_sort, base_of, result_sort, part_place, part_effect, text_given, part_given, arms_given, broken_text, broken_part, broken_arms, broken_args, callee_effect}
use Rattle.fst_sorting.specs.CoreTexts.{lifted, lifted_along, bind_or_let, tail, tail_of, core_text, core_part, core_arms}
use Rattle.fst_sorting.proofs.Scoped.{FormScoped, FormsScoped, Takes, TextScoped, PartScoped, ArmsScoped}
use Rattle.fst_program.proofs.ThereLemmas.{there, there-is}
use Rattle.fst_sorting.proofs.BasicLemmas.{none-left, none-right, no-parts, no-own, clash-settled, needed, known, settled-first, none-first, none-second, none-third}
use Rattle.fst_sorting.proofs.TermLemmas.{sorts_of, term-sorted, core-run, cores-run}
use Rattle.fst_sorting.proofs.PatternLemmas.{pattern, pattern-broken, args-sorted}
use Rattle.fst_sorting.proofs.DefinitionTextLemmas.{or-unit-is, length-texts}

-- what is known is what the program has
pub record Matches (K : Known) (P : Prog) : Type 0 where
  pub called : (r : Ref) (c : Callee) → K.called r ≡ Some c → (f : Fn) × ((fun_at P r.index ≡ Some f) × (c.effect ≡ f.effect) × (c.sort ≡ f.sort) × (c.args ≡ map (λ p. record { sort = p.sort; hidden = p.hidden }) f.params))
  pub applied : (r : Ref) (c : Callee) → K.applied r ≡ Some c → is_pure_or_ghost c.effect ≡ true → Applies P r.index (sorts_of c.args) c.sort
  pub effects : (E : ℕ) (e : EffectSorts) → K.effects E ≡ Some e → (d : EffDef) × ((effect_at P E ≡ Some d) × (d.input ≡ e.input) × (d.result ≡ e.result) × (d.base ≡ e.base) × (is_user e.base ≡ false))
  pub paths : (D E : ℕ) (ls : List ℕ) → K.path D E ≡ Some ls → IsPath P.lifts D ls E
  pub itself : (E : ℕ) → K.path E E ≡ Some []

pub unrefused : (at : ℕ) (o : Option Rule) → refused_by at o ≡ [] → o ≡ None
unrefused at None e = refl
unrefused at (Some r) e = cc

module _ (K : Known) where
  pub path-there : (o : Option (List ℕ)) (r : Rule) → (if is_path o then None else Some r) ≡ None → (ls : List ℕ) × (o ≡ Some ls)
  path-there None r e = cc
  path-there (Some ls) r e = (ls, refl)

  pub pure-stands : (x : Effect) → refusal K x effect.Pure ≡ None
  pure-stands effect.Pure = refl
  pure-stands effect.Ghost = refl
  pure-stands effect.Div = refl
  pure-stands (effect.User E) = refl

  -- at a base place stand base effects
  pub base-place : (x e : Effect) → is_user x ≡ false → refusal K x e ≡ None → sorted.place_of e ≡ None
  base-place x effect.Pure u h = refl
  base-place x effect.Ghost u h = refl
  base-place x effect.Div u h = refl
  base-place effect.Pure (effect.User D) u h = cc
  base-place effect.Ghost (effect.User D) u h = cc
  base-place effect.Div (effect.User D) u h = cc
  base-place (effect.User E) (effect.User D) u h = cc

pub no-place : (x : Effect) → is_user x ≡ false → sorted.place_of x ≡ None
no-place effect.Pure u = refl
no-place effect.Ghost u = refl
no-place effect.Div u = refl
no-place (effect.User E) u = cc

module _ (K : Known) (P : Prog) (m : Matches K P) where
  own-stands : (x : Effect) → refusal K x x ≡ None
  own-stands effect.Pure = refl
  own-stands effect.Ghost = refl
  own-stands effect.Div = refl
  own-stands (effect.User E) = ap (λ o. if is_path o then None else Some rule.NoLift) (m.itself E)

  pub lifted-sorted : (ls : List ℕ) (D E : ℕ) (c : Cm) (Ss : List Srt) (S : Srt) → IsPath P.lifts D ls E → CmSorted P Ss (Some D) c S → CmSorted P Ss (Some E) (lifted K ls c) S
  lifted-sorted [] D E c Ss S p h = subst (λ X. CmSorted P Ss (Some X) c S) p h
  lifted-sorted (n ∷ ns) D E c Ss S p h =
      let l = there (slice_get P.lifts n) _ p in
      lifted-sorted ns l.0.«to» E (c_lift n c) Ss S l.1.1.1
      (there-is (slice_get P.lifts n) (λ k. (Some l.0.«to» ≡ Some k.«to») × CmSorted P Ss (Some k.from) c S) l.0 l.1.0 (refl, subst (λ X. CmSorted P Ss (Some X) c S) (sym l.1.1.0) h))

  along-sorted : (D E : ℕ) (c : Cm) (Ss : List Srt) (S : Srt) → refusal K (effect.User E) (effect.User D) ≡ None → CmSorted P Ss (Some D) c S → CmSorted P Ss (Some E) (lifted_along K (K.path D E) c) S
  along-sorted D E c Ss S r h =
      let p = path-there K (K.path D E) _ r in
      subst (λ o. CmSorted P Ss (Some E) (lifted_along K o c) S) (sym p.1) (lifted-sorted p.0 D E c Ss S (m.paths D E p.0 p.1) h)

  bind-sorted : (x e : Effect) (y : List ℕ) (c1 c2 : Cm) (Ss : List Srt) (T S : Srt) → refusal K x e ≡ None
      → CmSorted P Ss (sorted.place_of e) c1 T → CmSorted P (T ∷ Ss) (sorted.place_of x) c2 S → CmSorted P Ss (sorted.place_of x) (bind_or_let K x e y c1 c2) S
  bind-sorted (effect.User E) effect.Pure y c1 c2 Ss T S r h k = (T, (h, k))
  bind-sorted (effect.User E) effect.Ghost y c1 c2 Ss T S r h k = (T, (h, k))
  bind-sorted (effect.User E) effect.Div y c1 c2 Ss T S r h k = (T, (h, k))
  bind-sorted (effect.User E) (effect.User D) y c1 c2 Ss T S r h k = (refl, (T, (along-sorted D E c1 Ss T r h, k)))
  bind-sorted effect.Pure e y c1 c2 Ss T S r h k = (T, (subst (λ X. CmSorted P Ss X c1 T) (base-place K effect.Pure e refl r) h, k))
  bind-sorted effect.Ghost e y c1 c2 Ss T S r h k = (T, (subst (λ X. CmSorted P Ss X c1 T) (base-place K effect.Ghost e refl r) h, k))
  bind-sorted effect.Div e y c1 c2 Ss T S r h k = (T, (subst (λ X. CmSorted P Ss X c1 T) (base-place K effect.Div e refl r) h, k))

  tail-sorted : (x e : Effect) (c : Cm) (Ss : List Srt) (S : Srt) → refusal K x e ≡ None → CmSorted P Ss (sorted.place_of e) c S → CmSorted P Ss (sorted.place_of x) (tail K x e c) S
  tail-sorted (effect.User E) effect.Pure c Ss S r h = (refl, h)
  tail-sorted (effect.User E) effect.Ghost c Ss S r h = (refl, h)
  tail-sorted (effect.User E) effect.Div c Ss S r h = (refl, h)
  tail-sorted (effect.User E) (effect.User D) c Ss S r h = along-sorted D E c Ss S r h
  tail-sorted effect.Pure e c Ss S r h = subst (λ X. CmSorted P Ss X c S) (base-place K effect.Pure e refl r) h
  tail-sorted effect.Ghost e c Ss S r h = subst (λ X. CmSorted P Ss X c S) (base-place K effect.Ghost e refl r) h
  tail-sorted effect.Div e c Ss S r h = subst (λ X. CmSorted P Ss X c S) (base-place K effect.Div e refl r) h

  tail-of-sorted : (x : Effect) (p : WPart Ref) (c : Cm) (Ss : List Srt) (S : Srt) → refusal K x (part_effect K x p) ≡ None
      → CmSorted P Ss (sorted.place_of (part_effect K x p)) c S → CmSorted P Ss (sorted.place_of x) (tail_of K x p c) S
  tail-of-sorted x (p_block at d) c Ss S r h = h
  tail-of-sorted x (p_call at f fs) c Ss S r h = tail-sorted x _ c Ss S r h
  tail-of-sorted x (p_reify at f s d g) c Ss S r h = tail-sorted x _ c Ss S r h
  tail-of-sorted x (p_reflect at f s y d) c Ss S r h = tail-sorted x _ c Ss S r h
  tail-of-sorted x (p_term at f) c Ss S r h = tail-sorted x effect.Pure c Ss S r h

  -- a part stands where its effect may
  pub part-stands : (x : Effect) (gh : Bool) (xs : Ctx) (p : WPart Ref) (W : Option Srt) → broken_part K x gh xs p W ≡ [] → refusal K x (part_effect K x p) ≡ None
  part-stands x gh xs (p_block at c) W b = own-stands x
  part-stands x gh xs (p_call at r fs) W b =
      unrefused at _ (none-left (refused K x (callee_effect (K.called r)) at) _ (no-own (broken_args K gh xs fs (args_of (K.called r))) _ b))
  part-stands x gh xs (p_reify at r s c f) W b =
      unrefused at _ (none-left (refused K x (base_of (K.effects r.index)) at) _ (no-own (broken_text K (effect.User r.index) gh xs c (Some (sort_of s)) ++ broken K.applied gh xs f (input_sort (K.effects r.index))) _ b))
  part-stands x gh xs (p_reflect at r s y c) W b =
      unrefused at _ (none-left (refused K x (effect.User r.index) at) _ (no-own (broken_text K (base_of (K.effects r.index)) gh (visible (or_unit (input_sort (K.effects r.index))) ∷ xs) c (result_sort (K.effects r.index) (sort_of s))) _ b))
  part-stands x gh xs (p_term at f) W b = pure-stands K x

  run-term : (gh : Bool) (xs : Ctx) (f : WForm Ref) (W : Option Srt) (S : Srt)
      → FormScoped K false (length xs) f → broken K.applied gh xs f W ≡ [] → or_else W (given K.applied xs f) ≡ Some S → RunSorted P (sorts_of xs) (core K.applied xs f W) S
  run-term gh xs f W S s b h = (term-sorted K (Applies P) m.applied gh false xs f W S s b h, core-run K (length xs) xs f W s)

  param-sorts : (f : Fn) → sorts_of (map (λ p. record { sort = p.sort; hidden = p.hidden }) f.params) ≡ map (λ p. p.sort) f.params
  param-sorts f = go f.params
    where
      go : (ps : List Prm) → sorts_of (map (λ p. record { sort = p.sort; hidden = p.hidden }) ps) ≡ map (λ p. p.sort) ps
      go [] = refl
      go (p ∷ ps) = ap (◌∷◌ p.sort) (go ps)

  call-sorted : (x : Effect) (gh : Bool) (xs : Ctx) (r : Ref) (fs : WForms Ref) (W : Option Srt) (S : Srt) (at : ℕ)
      → Takes (K.called r) (count_forms fs) → FormsScoped K false (length xs) fs
      → innermost (broken_args K gh xs fs (args_of (K.called r))) (refused K x (callee_effect (K.called r)) at ++ clash at (option_map (λ f. f.sort) (K.called r)) W) ≡ []
      → or_else W (option_map (λ f. f.sort) (K.called r)) ≡ Some S
      → CmSorted P (sorts_of xs) (sorted.place_of (callee_effect (K.called r))) (core_part K x xs (p_call at r fs) W) S
  call-sorted x gh xs r fs W S at t s b h =
      let c = there (K.called r) _ t in
      let f = m.called r c.0 c.1.0 in
      let args : args_of (K.called r) ≡ c.0.args = ap args_of c.1.0 in
      let own = none-right (refused K x (callee_effect (K.called r)) at) _ (no-own (broken_args K gh xs fs (args_of (K.called r))) _ b) in
      let sort : option_map (λ (f : Callee). f.sort) (K.called r) ≡ Some c.0.sort = ap (option_map (λ f. f.sort)) c.1.0 in
      let same : c.0.sort ≡ S = clash-settled at c.0.sort S W (subst (λ X. clash at X W ≡ []) sort own) (subst (λ X. or_else W X ≡ Some S) sort h) in
      let ts = cores K.applied xs fs (wants_of (args_of (K.called r))) in
      let given = args-sorted K (Applies P) m.applied gh false xs fs (args_of (K.called r)) s (c.1.1 ∙ ap length (sym args)) (no-parts (broken_args K gh xs fs (args_of (K.called r))) _ b) in
      let sorts : sorts_of (args_of (K.called r)) ≡ map (λ p. p.sort) f.0.params = ap sorts_of (args ∙ f.1.3) ∙ param-sorts f.0 in
      there-is (fun_at P r.index) (λ g. (sorted.place_of (callee_effect (K.called r)) ≡ sorted.place_of g.effect) × (S ≡ g.sort) × TmsSorted (Applies P) (sorts_of xs) ts (map (λ p. p.sort) g.params) × IsTrue (are_run ts)) f.0 f.1.0 (
        ap sorted.place_of (ap callee_effect c.1.0 ∙ f.1.1),
        sym same ∙ f.1.2,
        subst (TmsSorted (Applies P) (sorts_of xs) ts) sorts given,
        cores-run K (length xs) xs fs (wants_of (args_of (K.called r))) s,
      )

  result-there : (E : ℕ) (T : Srt) (e : EffectSorts) (d : EffDef) → effect_at P E ≡ Some d → d.result ≡ e.result → put_sorts T s_b e.result ≡ result_at P E T
  result-there E T e d p q = ap (put_sorts T s_b) (sym q) ∙ sym (ap (λ o. if_there o (λ d. put_sorts T s_b d.result) T) p)

  mutual
    pub text-sorted : (x : Effect) (gh : Bool) (xs : Ctx) (c : WText Ref) (W : Option Srt) (S : Srt)
        → TextScoped K true (length xs) c → broken_text K x gh xs c W ≡ [] → or_else W (text_given K xs c) ≡ Some S
        → CmSorted P (sorts_of xs) (sorted.place_of x) (core_text K x xs c W) S
    text-sorted x gh xs (x_let true y s p c) W S d b h =
        let B = bound_sort K xs s p in
        let T = or_unit B in
        let first = none-left (innermost (broken_part K effect.Ghost (gh || true) xs p (noted s)) (needs_sort (part_place p) B)) _ b in
        let second = none-right (innermost (broken_part K effect.Ghost (gh || true) xs p (noted s)) (needs_sort (part_place p) B)) _ b in
        let parts = no-parts (broken_part K effect.Ghost (gh || true) xs p (noted s)) _ first in
        let gave = needed (part_place p) B (no-own (broken_part K effect.Ghost (gh || true) xs p (noted s)) _ first) in
        let gives = or-unit-is B gave.0 gave.1 in (
          T,
          (
            subst (λ X. CmSorted P (sorts_of xs) X (core_part K effect.Ghost xs p (noted s)) T) (base-place K effect.Ghost (part_effect K effect.Ghost p) refl (part-stands effect.Ghost (gh || true) xs p (noted s) parts))
                (part-sorted effect.Ghost (gh || true) xs p (noted s) T d.1 parts gives),
            text-sorted x gh (entry true T ∷ xs) c W S d.2 (known B T _ gives second) (ap (λ X. or_else W (with_sort X (λ S. text_given K (entry true S ∷ xs) c))) (sym gives) ∙ h),
          ),
        )
    text-sorted x gh xs (x_let false y s p c) W S d b h =
        let B = bound_sort K xs s p in
        let T = or_unit B in
        let first = none-left (innermost (broken_part K x (gh || false) xs p (noted s)) (needs_sort (part_place p) B)) _ b in
        let second = none-right (innermost (broken_part K x (gh || false) xs p (noted s)) (needs_sort (part_place p) B)) _ b in
        let parts = no-parts (broken_part K x (gh || false) xs p (noted s)) _ first in
        let gave = needed (part_place p) B (no-own (broken_part K x (gh || false) xs p (noted s)) _ first) in
        let gives = or-unit-is B gave.0 gave.1 in
        bind-sorted x (part_effect K x p) y.text (core_part K x xs p (noted s)) (core_text K x (entry false T ∷ xs) c W) (sorts_of xs) T S (part-stands x (gh || false) xs p (noted s) parts)
        (part-sorted x (gh || false) xs p (noted s) T d.0 parts gives)
        (text-sorted x gh (entry false T ∷ xs) c W S d.1 (known B T _ gives second) (ap (λ X. or_else W (with_sort X (λ S. text_given K (entry false S ∷ xs) c))) (sym gives) ∙ h))
    text-sorted x gh xs (x_assert f at c) W S d b h = (
      term-sorted K (Applies P) m.applied true true xs f (Some s_bool) s_bool d.1 (none-left (broken K.applied true xs f (Some s_bool)) _ b) refl,
      text-sorted x gh xs c W S d.2 (none-right (broken K.applied true xs f (Some s_bool)) _ b) h,
    )
    text-sorted x gh xs (x_if f c e) W S d b h =
        let V = or_else W (or_else (text_given K xs c) (text_given K xs e)) in (
          run-term gh xs f (Some s_bool) s_bool d.0 (none-first (broken K.applied gh xs f (Some s_bool)) _ _ b) refl,
          text-sorted x gh xs c V S d.1 (none-second (broken K.applied gh xs f (Some s_bool)) _ _ b) (settled-first V _ S h),
          text-sorted x gh xs e V S d.2 (none-third (broken K.applied gh xs f (Some s_bool)) _ _ b) (settled-first V _ S h),
        )
    text-sorted x gh xs (x_match f at arms) W S d b h =
        let G = given K.applied xs f in
        let T = or_unit G in
        let inner = no-parts (broken_giving K.applied gh xs f ++ where_known G (λ T. broken_arms K x gh xs T arms (or_else W (arms_given K xs T arms)))) _ b in
        let first = none-left (broken_giving K.applied gh xs f) _ inner in
        let gave = needed (place_of f) G (no-own (broken K.applied gh xs f None) _ first) in
        let gives = or-unit-is G gave.0 gave.1 in
        let V = or_else W (arms_given K xs T arms) in (
          T,
          (
            run-term gh xs f None T d.0 (no-parts (broken K.applied gh xs f None) _ first) gives,
            arms-sorted x gh xs T arms V S d.1 (known G T _ gives (none-right (broken_giving K.applied gh xs f) _ inner)) (ap (λ X. or_else W (with_sort X (λ T. arms_given K xs T arms))) (sym gives) ∙ h),
          ),
        )
    text-sorted x gh xs (x_part p) W S d b h =
        tail-of-sorted x p (core_part K x xs p W) (sorts_of xs) S (part-stands x gh xs p W b) (part-sorted x gh xs p W S d b h)

    pub part-sorted : (x : Effect) (gh : Bool) (xs : Ctx) (p : WPart Ref) (W : Option Srt) (S : Srt)
        → PartScoped K true (length xs) p → broken_part K x gh xs p W ≡ [] → or_else W (part_given K xs p) ≡ Some S
        → CmSorted P (sorts_of xs) (sorted.place_of (part_effect K x p)) (core_part K x xs p W) S
    part-sorted x gh xs (p_block at c) W S d b h = text-sorted x gh xs c W S d b h
    part-sorted x gh xs (p_call at r fs) W S d b h = call-sorted x gh xs r fs W S at d.0 d.1 b h
    part-sorted x gh xs (p_reify at r s c f) W S d b h =
        let E = r.index in
        let T = sort_of s in
        let e = there (K.effects E) _ d.1 in
        let g = m.effects E e.0 e.1.0 in
        let parts = no-parts (broken_text K (effect.User E) gh xs c (Some T) ++ broken K.applied gh xs f (input_sort (K.effects E))) _ b in
        let own = none-right (refused K x (base_of (K.effects E)) at) _ (no-own (broken_text K (effect.User E) gh xs c (Some T) ++ broken K.applied gh xs f (input_sort (K.effects E))) _ b) in
        let res : result_sort (K.effects E) T ≡ Some (put_sorts T s_b e.0.result) = ap (λ o. result_sort o T) e.1.0 in
        let same = clash-settled at (put_sorts T s_b e.0.result) S W (subst (λ X. clash at X W ≡ []) res own) (subst (λ X. or_else W X ≡ Some S) res h) in
        let takes : input_sort (K.effects E) ≡ Some e.0.input = ap input_sort e.1.0 in (
          ap (λ o. sorted.place_of (base_of o)) e.1.0 ∙ no-place e.0.base g.1.4,
          sym same ∙ result-there E T e.0 g.0 g.1.0 g.1.2,
          text-sorted (effect.User E) gh xs c (Some T) T d.2 (none-left (broken_text K (effect.User E) gh xs c (Some T)) _ parts) refl,
          there-is (effect_at P E) (λ d. RunSorted P (sorts_of xs) (core K.applied xs f (input_sort (K.effects E))) d.input) g.0 g.1.0
              (subst (λ X. RunSorted P (sorts_of xs) (core K.applied xs f (input_sort (K.effects E))) X) (sym g.1.1)
              (run-term gh xs f (input_sort (K.effects E)) e.0.input d.3 (none-right (broken_text K (effect.User E) gh xs c (Some T)) _ parts) (settled-first (input_sort (K.effects E)) _ e.0.input takes))),
        )
    part-sorted x gh xs (p_reflect at r s y c) W S d b h =
        let E = r.index in
        let T = sort_of s in
        let e = there (K.effects E) _ d.1 in
        let g = m.effects E e.0 e.1.0 in
        let I = or_unit (input_sort (K.effects E)) in
        let B = base_of (K.effects E) in
        let R = result_sort (K.effects E) T in
        let parts = no-parts (broken_text K B gh (visible I ∷ xs) c R) _ b in
        let own = none-right (refused K x (effect.User E) at) _ (no-own (broken_text K B gh (visible I ∷ xs) c R) _ b) in
        let res : R ≡ Some (put_sorts T s_b e.0.result) = ap (λ o. result_sort o T) e.1.0 in
        let input : I ≡ g.0.input = ap (λ o. or_unit (input_sort o)) e.1.0 ∙ sym g.1.1 in
        let place : sorted.place_of B ≡ None = ap (λ o. sorted.place_of (base_of o)) e.1.0 ∙ no-place e.0.base g.1.4 in
        let body = text-sorted B gh (visible I ∷ xs) c R (put_sorts T s_b e.0.result) d.2 parts (settled-first R _ _ res) in (
          refl,
          sym (clash-settled at T S W own h),
          there-is (effect_at P E) (λ d. CmSorted P (d.input ∷ sorts_of xs) None (core_text K B (visible I ∷ xs) c R) (result_at P E T)) g.0 g.1.0
              (subst (λ X. CmSorted P (X ∷ sorts_of xs) None (core_text K B (visible I ∷ xs) c R) (result_at P E T)) input
              (subst (λ X. CmSorted P (I ∷ sorts_of xs) X (core_text K B (visible I ∷ xs) c R) (result_at P E T)) place
              (subst (CmSorted P (I ∷ sorts_of xs) (sorted.place_of B) (core_text K B (visible I ∷ xs) c R)) (result-there E T e.0 g.0 g.1.0 g.1.2) body))),
        )
    part-sorted x gh xs (p_term at f) W S d b h = (refl, run-term gh xs f W S d b h)

    pub arms-sorted : (x : Effect) (gh : Bool) (xs : Ctx) (T : Srt) (arms : WArms Ref) (W : Option Srt) (S : Srt)
        → ArmsScoped K true (length xs) arms → broken_arms K x gh xs T arms W ≡ [] → W ≡ Some S
        → ArmsSorted P (sorts_of xs) (sorted.place_of x) T (core_arms K x xs T arms W) S
    arms-sorted x gh xs T x_end W S d b h = tt
    arms-sorted x gh xs T (x_arm at con ws c more) W S d b h =
        let first = none-left (in_pattern at (part_sorts con T) (λ ys. broken_text K x gh (map visible ys ++ xs) c W)) _ b in
        let fit = pattern at con T xs _ first in
        let zs = under (part_sorts con T) xs in (
          fit.0,
          length-texts ws ∙ d.0 ∙ sym fit.1,
          subst (λ Ss. CmSorted P Ss (sorted.place_of x) (core_text K x zs c W) S) fit.2
              (text-sorted x gh zs c W S (subst (λ n. TextScoped K true n c) (sym fit.3) d.1) (pattern-broken at (part_sorts con T) xs (λ zs. broken_text K x gh zs c W) first) (settled-first W _ S h)),
          arms-sorted x gh xs T more W S d.2 (none-right (in_pattern at (part_sorts con T) (λ ys. broken_text K x gh (map visible ys ++ xs) c W)) _ b) h,
        )
