-- A definition's text of which no rule is broken is well sorted.
use Rattle.std.proofs.Common.{◌≡◌, ℕ, suc, Bool, true, false, List, [], ◌∷◌, ◌++◌, map, length, Option, Some, None, option_map, IsTrue, refl, sym, ap, ◌∙◌, subst}
use Rattle.fst_base.specs.Sorts.{Srt, s_bool}
use Rattle.fst_terms.specs.Terms.{Tms, t_end, t_more}
use Rattle.fst_terms.specs.Sorted.{TmSorted, TmsSorted, is_run, are_run}
use Rattle.fst_program.specs.declared.effect.Effect.TheVariants as effect
use Rattle.fst_program.specs.Texts.{Prog}
use Rattle.fst_program.specs.Sorted.{FSorts, GSorts, Applies, RunSorted, DmSorted, DmArmsSorted}
use Rattle.fst_trees.specs.declared.word.Word.{Word}
use Rattle.fst_names.specs.declared.reference.Ref.{Ref}
use Rattle.fst_names.specs.declared.reference.RefKind.{RefKind}
use Rattle.fst_names.specs.declared.reference.RefKind.TheVariants as kind
use Rattle.fst_names.specs.Broken.{innermost}
use Rattle.fst_names.specs.Names.{count_forms, texts}
use Rattle.fst_names.specs.Trees.{WForm, WForms, WText, WPart, WArms, x_let, x_assert, x_if, x_match, x_part, p_block, p_call, p_reify, p_reflect, p_term, x_end, x_arm}
use Rattle.fst_program.specs.LiftPaths.{or_else}
use Rattle.fst_effects.specs.Known.{Ctx, Callee, Known, or_unit, with_sort, where_known, clash, needs_sort, refused}
use Rattle.fst_effects.specs.TermSorts.{given, broken, broken_giving, core, cores, visible, args_of, wants_of, place_of, is_pure_or_ghost}
use Rattle.fst_effects.specs.Patterns.{part_sorts, under, in_pattern}
use Rattle.fst_effects.specs.TextSorts.{noted, bound_sort, part_place, text_given, part_given, arms_given, broken_text, broken_part, broken_arms, broken_args, callee_effect}
use Rattle.fst_effects.specs.Definitions.{computation, known_in_definition, run_of, run_text, first_term, rest_terms, core_dm, core_dm_part, core_dm_arms}
use Rattle.fst_sorting.proofs.Scoped.{FormScoped, FormsScoped, Takes, TextScoped, PartScoped, ArmsScoped}
use Rattle.fst_program.proofs.ThereLemmas.{there}
use Rattle.fst_sorting.proofs.BasicLemmas.{none-left, none-right, no-parts, no-own, clash-settled, needed, known, settled-first, none-first, none-second, none-third, and-left, and-right}
use Rattle.fst_sorting.proofs.TermLemmas.{sorts_of, term-sorted, core-run, cores-run}
use Rattle.fst_sorting.proofs.PatternLemmas.{pattern, pattern-broken, args-sorted}

-- the computations of a header as they are called
abbrev pub first_run : Option FSorts → Option Callee
first_run None = None
first_run (Some h) = computation (h.input ∷ []) h.result

abbrev pub second_run : Option GSorts → Option Callee
second_run None = None
second_run (Some h) = computation (h.value ∷ h.input ∷ []) h.result

pub or-unit-is : (G : Option Srt) (S : Srt) → G ≡ Some S → G ≡ Some (or_unit G)
or-unit-is G S e = e ∙ ap Some (sym (ap or_unit e))

pub length-texts : (ws : List Word) → length (texts ws) ≡ length ws
length-texts [] = refl
length-texts (w ∷ ws) = ap suc (length-texts ws)

module _ (P : Prog) where
  first-sorted : (Ss : List Srt) (ts : Tms) (A : Srt) (As : List Srt) → TmsSorted (Applies P) Ss ts (A ∷ As) → IsTrue (are_run ts)
      → RunSorted P Ss (first_term ts) A × (TmsSorted (Applies P) Ss (rest_terms ts) As × IsTrue (are_run (rest_terms ts)))
  first-sorted Ss t_end A As h r = cc
  first-sorted Ss (t_more t ts) A As h r =
      let p : h.0 ≡ A = cc in
      let q : h.1.0 ≡ As = cc in
      ((subst (TmSorted (Applies P) Ss t) p h.1.1.1, and-left (is_run t) (are_run ts) r), (subst (TmsSorted (Applies P) Ss ts) q h.1.1.2, and-right (is_run t) (are_run ts) r))

  run-sorted : (hf : Option FSorts) (hg : Option GSorts) (k : RefKind) (ts : Tms) (Ss : List Srt) (c : Callee) → run_of (first_run hf) (second_run hg) k ≡ Some c
      → TmsSorted (Applies P) Ss ts (sorts_of c.args) → IsTrue (are_run ts) → DmSorted P hf hg Ss (run_text k ts) c.sort
  run-sorted None hg kind.RunF ts Ss c e h r = cc
  run-sorted (Some hf) hg kind.RunF ts Ss c e h r =
      let args : sorts_of c.args ≡ hf.input ∷ [] = cc in
      let res : c.sort ≡ hf.result = cc in
      ((first-sorted Ss ts hf.input [] (subst (TmsSorted (Applies P) Ss ts) args h) r).0, res)
  run-sorted hf None kind.RunG ts Ss c e h r = cc
  run-sorted hf (Some hg) kind.RunG ts Ss c e h r =
      let args : sorts_of c.args ≡ hg.value ∷ hg.input ∷ [] = cc in
      let res : c.sort ≡ hg.result = cc in
      let one = first-sorted Ss ts hg.value (hg.input ∷ []) (subst (TmsSorted (Applies P) Ss ts) args h) r in
      (one.0, (first-sorted Ss (rest_terms ts) hg.input [] one.1.0 one.1.1).0, res)
  run-sorted hf hg k ts Ss c e h r = cc

  module _ (hf : Option FSorts) (hg : Option GSorts) where
    abbrev runs : Known
    runs = known_in_definition (first_run hf) (second_run hg)

    no-applications : (r : Ref) (c : Callee) → runs.applied r ≡ Some c → is_pure_or_ghost c.effect ≡ true → Applies P r.index (sorts_of c.args) c.sort
    no-applications r c e h = cc

    call-sorted : (gh : Bool) (xs : Ctx) (r : Ref) (fs : WForms Ref) (W : Option Srt) (S : Srt) (at : ℕ)
        → Takes (runs.called r) (count_forms fs) → FormsScoped runs false (length xs) fs
        → innermost (broken_args runs gh xs fs (args_of (runs.called r))) (refused runs effect.Pure (callee_effect (runs.called r)) at ++ clash at (option_map (λ f. f.sort) (runs.called r)) W) ≡ []
        → or_else W (option_map (λ f. f.sort) (runs.called r)) ≡ Some S
        → DmSorted P hf hg (sorts_of xs) (run_text r.kind (cores runs.applied xs fs (wants_of (args_of (runs.called r))))) S
    call-sorted gh xs r fs W S at t s b h =
        let c = there (runs.called r) _ t in
        let args : args_of (runs.called r) ≡ c.0.args = ap args_of c.1.0 in
        let own = none-right (refused runs effect.Pure (callee_effect (runs.called r)) at) _ (no-own (broken_args runs gh xs fs (args_of (runs.called r))) _ b) in
        let sort : option_map (λ (f : Callee). f.sort) (runs.called r) ≡ Some c.0.sort = ap (option_map (λ f. f.sort)) c.1.0 in
        let same : c.0.sort ≡ S = clash-settled at c.0.sort S W (subst (λ X. clash at X W ≡ []) sort own) (subst (λ X. or_else W X ≡ Some S) sort h) in
        let sorted = args-sorted runs (Applies P) no-applications gh false xs fs (args_of (runs.called r)) s (c.1.1 ∙ ap length (sym args)) (no-parts (broken_args runs gh xs fs (args_of (runs.called r))) _ b) in
        subst (DmSorted P hf hg (sorts_of xs) (run_text r.kind (cores runs.applied xs fs (wants_of (args_of (runs.called r)))))) same
        (run-sorted hf hg r.kind (cores runs.applied xs fs (wants_of (args_of (runs.called r)))) (sorts_of xs) c.0 c.1.0
        (subst (λ ps. TmsSorted (Applies P) (sorts_of xs) (cores runs.applied xs fs (wants_of (args_of (runs.called r)))) (sorts_of ps)) args sorted)
        (cores-run runs (length xs) xs fs (wants_of (args_of (runs.called r))) s))

    run-term : (gh : Bool) (xs : Ctx) (f : WForm Ref) (W : Option Srt) (S : Srt)
        → FormScoped runs false (length xs) f → broken runs.applied gh xs f W ≡ [] → or_else W (given runs.applied xs f) ≡ Some S → RunSorted P (sorts_of xs) (core runs.applied xs f W) S
    run-term gh xs f W S s b h = (term-sorted runs (Applies P) no-applications gh false xs f W S s b h, core-run runs (length xs) xs f W s)

    mutual
      pub dm-sorted : (xs : Ctx) (c : WText Ref) (W : Option Srt) (S : Srt)
          → TextScoped runs false (length xs) c → broken_text runs effect.Pure false xs c W ≡ [] → or_else W (text_given runs xs c) ≡ Some S
          → DmSorted P hf hg (sorts_of xs) (core_dm runs xs c W) S
      dm-sorted xs (x_let true y s p c) W S d b h = cc
      dm-sorted xs (x_let false y s p c) W S d b h =
          let B = bound_sort runs xs s p in
          let T = or_unit B in
          let first = none-left (innermost (broken_part runs effect.Pure false xs p (noted s)) (needs_sort (part_place p) B)) _ b in
          let second = none-right (innermost (broken_part runs effect.Pure false xs p (noted s)) (needs_sort (part_place p) B)) _ b in
          let gave = needed (part_place p) B (no-own (broken_part runs effect.Pure false xs p (noted s)) _ first) in
          let gives = or-unit-is B gave.0 gave.1 in (
            T,
            (
              dm-part-sorted xs p (noted s) T d.0 (no-parts (broken_part runs effect.Pure false xs p (noted s)) _ first) gives,
              dm-sorted (visible T ∷ xs) c W S d.1 (known B T _ gives second) (ap (λ X. or_else W (with_sort X (λ S. text_given runs (visible S ∷ xs) c))) (sym gives) ∙ h),
            ),
          )
      dm-sorted xs (x_assert f at c) W S d b h = cc
      dm-sorted xs (x_if f c e) W S d b h =
          let V = or_else W (or_else (text_given runs xs c) (text_given runs xs e)) in (
            run-term false xs f (Some s_bool) s_bool d.0 (none-first (broken runs.applied false xs f (Some s_bool)) _ _ b) refl,
            dm-sorted xs c V S d.1 (none-second (broken runs.applied false xs f (Some s_bool)) _ _ b) (settled-first V _ S h),
            dm-sorted xs e V S d.2 (none-third (broken runs.applied false xs f (Some s_bool)) _ _ b) (settled-first V _ S h),
          )
      dm-sorted xs (x_match f at arms) W S d b h =
          let G = given runs.applied xs f in
          let T = or_unit G in
          let inner = no-parts (broken_giving runs.applied false xs f ++ where_known G (λ T. broken_arms runs effect.Pure false xs T arms (or_else W (arms_given runs xs T arms)))) _ b in
          let first = none-left (broken_giving runs.applied false xs f) _ inner in
          let gave = needed (place_of f) G (no-own (broken runs.applied false xs f None) _ first) in
          let gives = or-unit-is G gave.0 gave.1 in
          let V = or_else W (arms_given runs xs T arms) in (
            T,
            (
              run-term false xs f None T d.0 (no-parts (broken runs.applied false xs f None) _ first) gives,
              dm-arms-sorted xs T arms V S d.1 (known G T _ gives (none-right (broken_giving runs.applied false xs f) _ inner)) (ap (λ X. or_else W (with_sort X (λ T. arms_given runs xs T arms))) (sym gives) ∙ h),
            ),
          )
      dm-sorted xs (x_part p) W S d b h = dm-part-sorted xs p W S d b h

      pub dm-part-sorted : (xs : Ctx) (p : WPart Ref) (W : Option Srt) (S : Srt)
          → PartScoped runs false (length xs) p → broken_part runs effect.Pure false xs p W ≡ [] → or_else W (part_given runs xs p) ≡ Some S
          → DmSorted P hf hg (sorts_of xs) (core_dm_part runs xs p W) S
      dm-part-sorted xs (p_block at c) W S d b h = dm-sorted xs c W S d b h
      dm-part-sorted xs (p_call at r fs) W S d b h = call-sorted false xs r fs W S at d.0 d.1 b h
      dm-part-sorted xs (p_reify at r s c f) W S d b h = cc
      dm-part-sorted xs (p_reflect at r s y c) W S d b h = cc
      dm-part-sorted xs (p_term at f) W S d b h = run-term false xs f W S d b h

      pub dm-arms-sorted : (xs : Ctx) (T : Srt) (arms : WArms Ref) (W : Option Srt) (S : Srt)
          → ArmsScoped runs false (length xs) arms → broken_arms runs effect.Pure false xs T arms W ≡ [] → W ≡ Some S
          → DmArmsSorted P hf hg (sorts_of xs) T (core_dm_arms runs xs T arms W) S
      dm-arms-sorted xs T x_end W S d b h = tt
      dm-arms-sorted xs T (x_arm at con ws c more) W S d b h =
          let first = none-left (in_pattern at (part_sorts con T) (λ ys. broken_text runs effect.Pure false (map visible ys ++ xs) c W)) _ b in
          let fit = pattern at con T xs _ first in
          let zs = under (part_sorts con T) xs in (
            fit.0,
            length-texts ws ∙ d.0 ∙ sym fit.1,
            subst (λ Ss. DmSorted P hf hg Ss (core_dm runs zs c W) S) fit.2
                (dm-sorted zs c W S (subst (λ n. TextScoped runs false n c) (sym fit.3) d.1) (pattern-broken at (part_sorts con T) xs (λ zs. broken_text runs effect.Pure false zs c W) first) (settled-first W _ S h)),
            dm-arms-sorted xs T more W S d.2 (none-right (in_pattern at (part_sorts con T) (λ ys. broken_text runs effect.Pure false (map visible ys ++ xs) c W)) _ b) h,
          )
