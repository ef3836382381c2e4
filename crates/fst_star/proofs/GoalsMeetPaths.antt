-- The walk of the transformer of core text is the walk of the text.
use Rattle.std.proofs.Common.{◌≡◌, ℕ, ◌-◌, Bool, true, false, if◌then◌else◌, List, [], ◌∷◌, ◌++◌, map, reverse, Option, slice_get, Some, None, IsTrue, refl, sym, ap, ap₂, ◌∙◌, subst}
use Rattle.fst_base.specs.Sorts.{Srt, s_unit}
use Rattle.fst_terms.specs.Terms.{Tm, t_var, t_bool, t_unit, listed, shift}
use Rattle.fst_terms.specs.Formulas.{put, puts, negation, sort_of}
use Rattle.fst_terms.specs.Sorted.{TmsSorted, are_run}
use Rattle.fst_program.specs.declared.comp.Con.{Con}
use Rattle.fst_program.specs.declared.goal.SiteKind.{SiteKind}
use Rattle.fst_program.specs.declared.goal.SiteKind.TheVariants as kind
use Rattle.fst_program.specs.declared.goal.Choice.TheVariants as choice
use Rattle.fst_program.specs.Texts.{Cm, CmArms, c_ret, c_let, c_bind, c_ghost, c_assert, c_if, c_match, c_call, c_reify, c_reflect, c_return, c_lift, c_end, c_arm, d_ret, EffDef, LftDef, Fn, Prog, if_there, fun_at, effect_at, result_at, bind_text, return_text, lift_text}
use Rattle.fst_program.specs.Paths.{Way, count, suppose, choose, raised, all_raised, term_sites, text_sort, walk, sort_on, dm_at, dm_walk, no_walk_f, no_walk_g, arm_walk, call_walk, Case, selectors, same_con, cm_family, part_sorts, all_divisions, divisor_sites, requires_site, decreases_site, demands_of, measures_at, after_call}
use Rattle.fst_program.specs.Sorted.{Applies, CmSorted, ArmsSorted, place_of, result_in, RunSorted, DmSorted, IsSorted}
use Rattle.fst_program.specs.Full.{IsFull, HasArm, CmFull, ArmsFull}
use Rattle.fst_star.proofs.FullTexts.{bind-full, return-full, lift-full}
use Rattle.fst_star.specs.Transformers.{Wt, w_post}
use Rattle.fst_star.specs.Translation.{Scope, under, star, con_ways}
use Rattle.fst_star.specs.Inference.{input_of, infer, infer_arm, call_wp, no_wp}
use Rattle.fst_star.specs.Walking.{by_look, literal, negated, wp_walk, ways_walk}
use Rattle.fst_star.proofs.PutLaws.{Skips, skips-front, put-put, puts-puts, map-put-under, map-shift-put, put-under, shift-put}
use Rattle.fst_program.proofs.SortedTerms.{append-sorted, put-sorted, sort-is, sorts-are}
use Rattle.fst_star.proofs.TextSorts.{text-sort-is}
use Rattle.fst_star.proofs.Places.{all-raised-here, sorts_of, Later, later-same, Sorted, AllOf, all-put-sorted, under-sorted, shifted-sorted, InputSorted, input-under, At, at-same, at-under, Agree, agree-later}
use Rattle.fst_star.proofs.Needs.{append-again, append-none, needs-walk, term-needs-walk, if-ways, sides-agree}
use Rattle.fst_star.proofs.StarMeets.{MeetsF, MeetsG, Deep, dm-meets, dm-full-at}
use Rattle.fst_star.proofs.EffectTexts.{input-is, input-from, is-effect, bind-sorted, return-sorted, lift-sorted, lift-inputs}
use Rattle.fst_star.proofs.Calls.{map-append, map-reverse, listed-puts, call-meets}
use Rattle.fst_star.proofs.ConWays.{put-selectors, sort_family, family-of, same-con-is, look_ways, case_ways, con-ways, selectors-sorted, con-ways-walk}

module _ (P : Prog) (sorted : IsSorted P) (full : IsFull P) (f : Fn) (X : Type 0) (site : SiteKind → (place : ℕ) → Tm → Way → List X) where
  abbrev Rest : Type 0
  Rest = Way → Tm → List X

  abbrev here : Wt → (vs : List Tm) → Way → Rest → List X
  here = wp_walk X site

  abbrev there : Cm → (us : List Tm) → Tm → Way → Rest → List X
  there = walk P X site (call_walk P f X site)

  -- the sort of the first part of a let
  abbrev first_sort : Scope → List Tm → Cm → Srt
  first_sort sc us c = text_sort P (map (sort_of sc.sorts) us) c

  first-sort-is : (sc : Scope) (us : List Tm) (Ts : List Srt) (c : Cm) (x : Option ℕ) (S : Srt) → AllOf P sc.sorts us Ts → CmSorted P Ts x c S → CmFull c → first_sort sc us c ≡ S
  first-sort-is sc us Ts c x S a h n = ap (λ Us. text_sort P Us c) (sorts-are (Applies P) sc.sorts us Ts a) ∙ text-sort-is P c Ts x S h n

  -- a term put in and read in the text's own terms
  term-sorted : (w : Way) (sc : Scope) (vs us : List Tm) (Ts : List Srt) (t : Tm) (S : Srt) → At P f w vs sc → AllOf P sc.sorts us Ts → Sorted P Ts t S → Sorted P (sorts_of w.vars) (put (map (put vs) us) t) S
  term-sorted w sc vs us Ts t S a b h = put-sorted (Applies P) (sorts_of w.vars) (map (put vs) us) Ts t S (all-put-sorted P (sorts_of w.vars) sc.sorts vs us Ts a.sorted b) h

  -- a let, where its first part meets its walk, and so does the second part under it
  meets-let : (c1 c2 : Cm) (T : Srt) (sc : Scope) (us : List Tm) (Ts : List Srt) (s : Tm) (vs : List Tm) (w : Way) (k k' : Rest)
      → CmSorted P Ts None c1 T → CmFull c1 → AllOf P sc.sorts us Ts → At P f w vs sc
      → ((k k' : Rest) → Agree P f X w T k k' → here (infer P f sc us t_unit c1) vs w k ≡ there c1 (map (put vs) us) t_unit w k')
      → ((w1 : Way) (t : Tm) → Later w.vars w1.vars → Sorted P (sorts_of w1.vars) t T
      → AllOf P (T ∷ sc.sorts) (t_var 0 ∷ map (shift 0 1) us) (T ∷ Ts) → At P f w1 (t ∷ all_raised (count w) w1 vs) (under T sc)
      → here (infer P f (under T sc) (t_var 0 ∷ map (shift 0 1) us) (shift 0 1 s) c2) (t ∷ all_raised (count w) w1 vs) w1 k
      ≡ there c2 (map (put (t ∷ all_raised (count w) w1 vs)) (t_var 0 ∷ map (shift 0 1) us)) (put (t ∷ all_raised (count w) w1 vs) (shift 0 1 s)) w1 k')
      → here (infer P f sc us t_unit c1) vs w (λ w1 t. here (infer P f (under (first_sort sc us c1) sc) (t_var 0 ∷ map (shift 0 1) us) (shift 0 1 s) c2) (t ∷ all_raised (count w) w1 vs) w1 k)
      ≡ there c1 (map (put vs) us) t_unit w (λ w1 t. there c2 (t ∷ all_raised (count w) w1 (map (put vs) us)) (raised (count w) w1 (put vs s)) w1 k')
  meets-let c1 c2 T sc us Ts s vs w k k' h1 n1 b a first second =
      ap (λ T. here (infer P f sc us t_unit c1) vs w (λ w1 t. here (infer P f (under T sc) (t_var 0 ∷ map (shift 0 1) us) (shift 0 1 s) c2) (t ∷ all_raised (count w) w1 vs) w1 k)) (first-sort-is sc us Ts c1 None T b h1 n1)
      ∙ first _ _ (λ w1 t later r.
      let rvs = all_raised (count w) w1 vs in
      second w1 t later r (refl, under-sorted P T sc.sorts us Ts b) (at-under P f w w1 vs sc t T a later r)
      ∙ ap₂ (λ us s. there c2 (t ∷ us) s w1 k') (map-put-under t rvs us ∙ sym (map-shift-put 0 (count w1 - count w) vs us)) (put-under t rvs s ∙ sym (shift-put 0 (count w1 - count w) vs s)))

  abbrev in_arm : CmArms → (place : ℕ) → Case → (us : List Tm) → Tm → Rest → List X
  in_arm = arm_walk P X site (call_walk P f X site)

  -- a match, where its arms meet their walks
  meets-match : (t : Tm) (at : ℕ) (arms : CmArms) (x : Option ℕ) (S T : Srt) (sc : Scope) (us : List Tm) (Ts : List Srt) (s : Tm) (vs : List Tm) (w : Way) (k k' : Rest)
      → Sorted P Ts t T → ArmsSorted P Ts x T arms S → HasArm arms → AllOf P sc.sorts us Ts → At P f w vs sc
      → ((c : Con) → Unit {0} → (w1 : Way) → w1.vars ≡ w.vars → here (infer_arm P f sc us s at arms c (selectors c T (put us t))) vs w1 k ≡ in_arm arms at (record { con = c; parts = selectors c T (put vs (put us t)); way = w1 }) (map (put vs) us) (put vs s) k')
      → here (infer P f sc us s (c_match t at arms)) vs w k ≡ there (c_match t at arms) (map (put vs) us) (put vs s) w k'
  meets-match t at arms x S T sc us Ts s vs w k k' h q n b a ih =
      let u = put us t in
      let us1 = map (put vs) us in
      let A = λ (c : Con) (parts : List Tm) (w : Way). in_arm arms at (record { con = c; parts = parts; way = w }) us1 (put vs s) k' in
      let r : Sorted P (sorts_of w.vars) (put us1 t) T = term-sorted w sc vs us Ts t T a b h in
      term-needs-walk P X site t vs us _ w k
      ∙ ap (λ l. term_sites P X site t us1 w ++ l)
      (ap (λ T. ways_walk X site (con_ways (cm_family arms) T u (λ c parts. infer_arm P f sc us s at arms c parts)) vs w k) (sort-is (Applies P) sc.sorts u T (put-sorted (Applies P) sc.sorts us Ts t T b h))
      ∙ con-ways-walk X site A (λ c parts. infer_arm P f sc us s at arms c parts) vs w k T u (λ c w1 p. ih c tt w1 p) (cm_family arms)
      ∙ ap₂ (λ cs u. look_ways X A w cs T u) (arms-family arms x S T Ts q n) (put-put vs us t)
      ∙ con-ways X A w P (sorts_of w.vars) (put us1 t) T r
      ∙ ap₂ (λ cs T. case_ways X A w cs T (put us1 t)) (sym (arms-family arms x S T Ts q n)) (sym (sort-is (Applies P) (sorts_of w.vars) (put us1 t) T r)))
    where
      arms-family : (arms : CmArms) (x : Option ℕ) (S T : Srt) (Ts : List Srt) → ArmsSorted P Ts x T arms S → HasArm arms → cm_family arms ≡ sort_family T
      arms-family c_end x S T Ts h n = absurd n
      arms-family (c_arm c ys body more) x S T Ts h n = family-of c T h.0

  -- ---- binds, returns and lifts

  -- the sorts of the text's own terms on a way
  own-sorts : (w : Way) (sc : Scope) (vs us : List Tm) (Ts : List Srt) → At P f w vs sc → AllOf P sc.sorts us Ts → map (sort_on w) (map (put vs) us) ≡ Ts
  own-sorts w sc vs us Ts a b = sorts-are (Applies P) (sorts_of w.vars) (map (put vs) us) Ts (all-put-sorted P (sorts_of w.vars) sc.sorts vs us Ts a.sorted b)

  at-start : (w : Way) (vs : List Tm) (sc : Scope) → At P f w vs sc → Deep P f X site w vs w vs sc 0
  at-start w vs sc a = record { at = a; later = later-same w.vars w.vars refl; skips = subst (λ us. Skips 0 0 us vs) (sym (all-raised-here w w refl vs)) (skips-front [] vs) }

  abbrev f_wp : Scope → List Tm → ℕ → Cm → Wt
  f_wp sc us E c = infer P f (under (input_of P E) sc) (map (shift 0 1) us) (t_var 0) c

  abbrev g_wp : Scope → List Tm → ℕ → Srt → Cm → Wt
  g_wp sc us E T c = infer P f (under (input_of P E) (under T sc)) (t_var 1 ∷ map (shift 0 1) (map (shift 0 1) us)) (t_var 0) c

  -- what the induction gives of a part of a bind or a lift
  abbrev Part : Cm → (x : Option ℕ) → (S : Srt) → Scope → List Tm → List Srt → Tm → Type 0
  Part c x S sc us Ts s = (vs : List Tm) (w : Way) (k k' : Rest) → AllOf P sc.sorts us Ts → InputSorted P x sc.sorts s → At P f w vs sc → Agree P f X w (result_in P x S) k k' → here (infer P f sc us s c) vs w k ≡ there c (map (put vs) us) (put vs s) w k'

  f-meets : (c : Cm) (E : ℕ) (T : Srt) (sc : Scope) (us : List Tm) (Ts : List Srt) (vs : List Tm) (w : Way) → AllOf P sc.sorts us Ts → At P f w vs sc
      → ((Ss : List Srt) (s : Tm) → Sorted P Ss s (input_of P E) → InputSorted P (Some E) Ss s)
      → Part c (Some E) T (under (input_of P E) sc) (map (shift 0 1) us) Ts (t_var 0)
      → MeetsF P f X site w vs (Some (record { input = input_of P E; result = result_at P E T })) (f_wp sc us E c) (λ s1 w1 k1. there c (all_raised (count w) w1 (map (put vs) us)) s1 w1 k1)
  f-meets c E T sc us Ts vs w b a i part w1 s1 k k' later r g =
      let I = input_of P E in
      let rvs = all_raised (count w) w1 vs in
      part (s1 ∷ rvs) w1 k k' (under-sorted P I sc.sorts us Ts b) (i (I ∷ sc.sorts) (t_var 0) refl) (at-under P f w w1 vs sc s1 I a later r) g
      ∙ ap (λ us. there c us s1 w1 k') (map-put-under s1 rvs us ∙ sym (map-shift-put 0 (count w1 - count w) vs us))

  g-meets : (c : Cm) (E : ℕ) (T S : Srt) (sc : Scope) (us : List Tm) (Ts : List Srt) (vs : List Tm) (w : Way) → AllOf P sc.sorts us Ts → At P f w vs sc
      → ((Ss : List Srt) (s : Tm) → Sorted P Ss s (input_of P E) → InputSorted P (Some E) Ss s)
      → Part c (Some E) S (under (input_of P E) (under T sc)) (t_var 1 ∷ map (shift 0 1) (map (shift 0 1) us)) (T ∷ Ts) (t_var 0)
      → MeetsG P f X site w vs (Some (record { value = T; input = input_of P E; result = result_at P E S })) (g_wp sc us E T c) (λ v s1 w1 k1. there c (v ∷ all_raised (count w) w1 (map (put vs) us)) s1 w1 k1)
  g-meets c E T S sc us Ts vs w b a i part w1 v s1 k k' later rv rs g =
      let I = input_of P E in
      let rvs = all_raised (count w) w1 vs in
      let at1 = at-under P f w w1 vs sc v T a later rv in
      let at2 = subst (λ l. At P f w1 (s1 ∷ l) (under I (under T sc))) (all-raised-here w1 w1 refl (v ∷ rvs)) (at-under P f w1 w1 (v ∷ rvs) (under T sc) s1 I at1 (later-same w1.vars w1.vars refl) rs) in
      part (s1 ∷ v ∷ rvs) w1 k k' (refl, under-sorted P I (T ∷ sc.sorts) (map (shift 0 1) us) Ts (under-sorted P T sc.sorts us Ts b)) (i (I ∷ T ∷ sc.sorts) (t_var 0) refl) at2 g
      ∙ ap (λ us. there c (v ∷ us) s1 w1 k') (map-put-under s1 (v ∷ rvs) (map (shift 0 1) us) ∙ map-put-under v rvs us ∙ sym (map-shift-put 0 (count w1 - count w) vs us))

  bind-meets : (E : ℕ) (c1 c2 : Cm) (y : List ℕ) (S T : Srt) (sc : Scope) (us : List Tm) (Ts : List Srt) (s : Tm) (vs : List Tm) (w : Way) (k k' : Rest)
      → CmSorted P Ts (Some E) c1 T → CmSorted P (T ∷ Ts) (Some E) c2 S → CmFull c1 → CmFull c2 → AllOf P sc.sorts us Ts → InputSorted P (Some E) sc.sorts s → At P f w vs sc → Agree P f X w (result_at P E S) k k'
      → Part c1 (Some E) T (under (input_of P E) sc) (map (shift 0 1) us) Ts (t_var 0)
      → Part c2 (Some E) S (under (input_of P E) (under T sc)) (t_var 1 ∷ map (shift 0 1) (map (shift 0 1) us)) (T ∷ Ts) (t_var 0)
      → here (infer P f sc us s (c_bind E y c1 c2)) vs w k ≡ there (c_bind E y c1 c2) (map (put vs) us) (put vs s) w k'
  bind-meets E c1 c2 y S T sc us Ts s vs w k k' h1 h2 n1 n2 b i a g part1 part2 =
      let sorts = sorts-are (Applies P) sc.sorts us Ts b in
      let first = λ (Us : List Srt) (q : Us ≡ Ts). ap (λ Us. text_sort P Us c1) q ∙ text-sort-is P c1 Ts (Some E) T h1 n1 in
      let second = λ (A : Srt) (Us : List Srt) (p : A ≡ T) (q : Us ≡ Ts). ap₂ (λ A Us. text_sort P (A ∷ Us) c2) p q ∙ text-sort-is P c2 (T ∷ Ts) (Some E) S h2 n2 in
      let p = first _ sorts in
      let own = own-sorts w sc vs us Ts a b in
      let inputs = λ (Ss : List Srt) (s1 : Tm) (h : Sorted P Ss s1 (input_of P E)). input-from P E Ss sc.sorts s1 s i h in
      let e = is-effect P E sc.sorts s i in
      ap₂ (λ A B. here (star (result_at P E A) (result_at P E B) (f_wp sc us E c1) (g_wp sc us E A c2) sc (s ∷ []) 0 (dm_at A B (bind_text P E))) vs w k) p (second _ _ p sorts)
      ∙ dm-meets P f X site w vs
      (Some (record { input = input_of P E; result = result_at P E T })) (Some (record { value = T; input = input_of P E; result = result_at P E S }))
      (result_at P E T) (result_at P E S) refl refl (f_wp sc us E c1) (g_wp sc us E T c2)
      (λ s1 w1 k1. there c1 (all_raised (count w) w1 (map (put vs) us)) s1 w1 k1) (λ v s1 w1 k1. there c2 (v ∷ all_raised (count w) w1 (map (put vs) us)) s1 w1 k1)
      (f-meets c1 E T sc us Ts vs w b a inputs part1) (g-meets c2 E T S sc us Ts vs w b a inputs part2)
      (dm_at T S (bind_text P E)) (result_at P E S) sc (s ∷ []) (input_of P E ∷ []) 0 vs w k k'
      (bind-sorted P sorted E T S e) (dm-full-at P T S (bind_text P E) (bind-full P full E)) (input-is P E sc.sorts s i, tt) (at-start w vs sc a) g
      ∙ ap₂ (λ A B. dm_walk P X site (λ s1 w1 k1. there c1 (all_raised (count w) w1 (map (put vs) us)) s1 w1 k1) (λ v s1 w1 k1. there c2 (v ∷ all_raised (count w) w1 (map (put vs) us)) s1 w1 k1) (dm_at A B (bind_text P E)) (put vs s ∷ []) w k') (sym (first _ own)) (sym (second _ _ (first _ own) own))

  return-meets : (E : ℕ) (c : Cm) (S : Srt) (sc : Scope) (us : List Tm) (Ts : List Srt) (s : Tm) (vs : List Tm) (w : Way) (k k' : Rest)
      → CmSorted P Ts None c S → CmFull c → AllOf P sc.sorts us Ts → InputSorted P (Some E) sc.sorts s → At P f w vs sc → Agree P f X w (result_at P E S) k k'
      → Part c None S sc us Ts t_unit
      → here (infer P f sc us s (c_return E c)) vs w k ≡ there (c_return E c) (map (put vs) us) (put vs s) w k'
  return-meets E c S sc us Ts s vs w k k' h n b i a g part =
      let first = λ (Us : List Srt) (q : Us ≡ Ts). ap (λ Us. text_sort P Us c) q ∙ text-sort-is P c Ts None S h n in
      let nothing = no_wp P f in
      let e = is-effect P E sc.sorts s i in
      let I = input_of P E in
      ap (λ A. here (infer P f sc us t_unit c) vs w (λ w1 t. here (star s_unit s_unit nothing nothing (under A sc) (shift 0 1 s ∷ t_var 0 ∷ []) 0 (dm_at A A (return_text P E))) (t ∷ all_raised (count w) w1 vs) w1 k)) (first _ (sorts-are (Applies P) sc.sorts us Ts b))
      ∙ part vs w _ _ b tt a (λ w1 t later r.
      let rvs = all_raised (count w) w1 vs in
      dm-meets P f X site w1 (t ∷ rvs) None None s_unit s_unit tt tt nothing nothing (no_walk_f P X site) (no_walk_g P X site) tt tt
      (dm_at S S (return_text P E)) (result_at P E S) (under S sc) (shift 0 1 s ∷ t_var 0 ∷ []) (I ∷ S ∷ []) 0 (t ∷ rvs) w1 k k'
      (return-sorted P sorted E S e) (dm-full-at P S S (return_text P E) (return-full P full E)) (shifted-sorted P S sc.sorts s I (input-is P E sc.sorts s i), (refl, tt)) (at-start w1 (t ∷ rvs) (under S sc) (at-under P f w w1 vs sc t S a later r)) (agree-later P f X w w1 (result_at P E S) k k' later g)
      ∙ ap (λ s. dm_walk P X site (no_walk_f P X site) (no_walk_g P X site) (dm_at S S (return_text P E)) (s ∷ t ∷ []) w1 k') (put-under t rvs s ∙ sym (shift-put 0 (count w1 - count w) vs s)))
      ∙ ap (λ A. there c (map (put vs) us) t_unit w (λ w1 t. dm_walk P X site (no_walk_f P X site) (no_walk_g P X site) (dm_at A A (return_text P E)) (raised (count w) w1 (put vs s) ∷ t ∷ []) w1 k')) (sym (first _ (own-sorts w sc vs us Ts a b)))

  lift-meets : (m : ℕ) (l : LftDef) (c : Cm) (S : Srt) (sc : Scope) (us : List Tm) (Ts : List Srt) (s : Tm) (vs : List Tm) (w : Way) (k k' : Rest)
      → slice_get P.lifts m ≡ Some l → CmSorted P Ts (Some l.from) c S → CmFull c → AllOf P sc.sorts us Ts → InputSorted P (Some l.«to») sc.sorts s → At P f w vs sc → Agree P f X w (result_at P l.«to» S) k k'
      → Part c (Some l.from) S (under (input_of P l.from) sc) (map (shift 0 1) us) Ts (t_var 0)
      → here (infer P f sc us s (c_lift m c)) vs w k ≡ there (c_lift m c) (map (put vs) us) (put vs s) w k'
  lift-meets m l c S sc us Ts s vs w k k' q h n b i a g part =
      let first = λ (Us : List Srt) (q : Us ≡ Ts). ap (λ Us. text_sort P Us c) q ∙ text-sort-is P c Ts (Some l.from) S h n in
      let nothing = no_wp P f in
      let fw = λ (s1 : Tm) (w1 : Way) (k1 : Rest). there c (all_raised (count w) w1 (map (put vs) us)) s1 w1 k1 in
      let text : lift_text P m ≡ l.text = ap (λ o. if_there o (λ d. d.text) (d_ret t_unit)) q in
      ap₂ (λ E A. here (star (result_at P E A) s_unit (f_wp sc us E c) nothing sc (s ∷ []) 0 (dm_at A A (lift_text P m))) vs w k) (ap (λ o. if_there o (λ d. d.from) 0) q) (first _ (sorts-are (Applies P) sc.sorts us Ts b))
      ∙ dm-meets P f X site w vs (Some (record { input = input_of P l.from; result = result_at P l.from S })) None (result_at P l.from S) s_unit refl tt (f_wp sc us l.from c) nothing fw (no_walk_g P X site)
      (f-meets c l.from S sc us Ts vs w b a (lift-inputs P sorted m l q) part) tt
      (dm_at S S (lift_text P m)) (result_at P l.«to» S) sc (s ∷ []) (input_of P l.«to» ∷ []) 0 vs w k k'
      (subst (λ d. DmSorted P (Some (record { input = input_of P l.from; result = result_at P l.from S })) None (input_of P l.«to» ∷ []) (dm_at S S d) (result_at P l.«to» S)) (sym text) (lift-sorted P sorted m l S q))
      (dm-full-at P S S (lift_text P m) (lift-full P full m)) (input-is P l.«to» sc.sorts s i, tt) (at-start w vs sc a) g
      ∙ ap (λ A. dm_walk P X site fw (no_walk_g P X site) (dm_at A A (lift_text P m)) (put vs s ∷ []) w k') (sym (first _ (own-sorts w sc vs us Ts a b)))

  mutual
    pub meets : (c : Cm) (x : Option ℕ) (S : Srt) (sc : Scope) (us : List Tm) (Ts : List Srt) (s : Tm) (vs : List Tm) (w : Way) (k k' : Rest)
        → CmSorted P Ts x c S → CmFull c → AllOf P sc.sorts us Ts → InputSorted P x sc.sorts s → At P f w vs sc → Agree P f X w (result_in P x S) k k'
        → here (infer P f sc us s c) vs w k ≡ there c (map (put vs) us) (put vs s) w k'
    meets (c_ret t) x S sc us Ts s vs w k k' h n b i a g =
        term-needs-walk P X site t vs us (w_post (put us t)) w k
        ∙ ap (λ l. term_sites P X site t (map (put vs) us) w ++ l)
        (ap (k w) (put-put vs us t) ∙ g w (put (map (put vs) us) t) (later-same w.vars w.vars refl) (subst (λ y. Sorted P (sorts_of w.vars) (put (map (put vs) us) t) (result_in P y S)) (sym h.0) (term-sorted w sc vs us Ts t S a b h.1.0)))
    meets (c_let y c1 c2) x S sc us Ts s vs w k k' h n b i a g =
        meets-let c1 c2 h.0 sc us Ts s vs w k k' h.1.0 n.0 b a
        (λ k k' g. meets c1 None h.0 sc us Ts t_unit vs w k k' h.1.0 n.0 b tt a g)
        (λ w1 t later r b1 a1. meets c2 x S (under h.0 sc) (t_var 0 ∷ map (shift 0 1) us) (h.0 ∷ Ts) (shift 0 1 s) (t ∷ all_raised (count w) w1 vs) w1 k k' h.1.1 n.1 b1 (input-under P x h.0 sc.sorts s i) a1 (agree-later P f X w w1 (result_in P x S) k k' later g))
    meets (c_bind E y c1 c2) x S sc us Ts s vs w k k' h n b i a g =
        let h1 = subst (λ y. CmSorted P Ts y c1 h.1.0) h.0 h.1.1.0 in
        let h2 = subst (λ y. CmSorted P (h.1.0 ∷ Ts) y c2 S) h.0 h.1.1.1 in
        bind-meets E c1 c2 y S h.1.0 sc us Ts s vs w k k' h1 h2 n.0 n.1 b (subst (λ y. InputSorted P y sc.sorts s) h.0 i) a (subst (λ y. Agree P f X w (result_in P y S) k k') h.0 g)
        (λ vs w k k' b i a g. meets c1 (Some E) h.1.0 (under (input_of P E) sc) (map (shift 0 1) us) Ts (t_var 0) vs w k k' h1 n.0 b i a g)
        (λ vs w k k' b i a g. meets c2 (Some E) S (under (input_of P E) (under h.1.0 sc)) (t_var 1 ∷ map (shift 0 1) (map (shift 0 1) us)) (h.1.0 ∷ Ts) (t_var 0) vs w k k' h2 n.1 b i a g)
    meets (c_ghost y c1 c2) x S sc us Ts s vs w k k' h n b i a g =
        meets-let c1 c2 h.0 sc us Ts s vs w k k' h.1.0 n.0 b a
        (λ k k' g. meets c1 None h.0 sc us Ts t_unit vs w k k' h.1.0 n.0 b tt a g)
        (λ w1 t later r b1 a1. meets c2 x S (under h.0 sc) (t_var 0 ∷ map (shift 0 1) us) (h.0 ∷ Ts) (shift 0 1 s) (t ∷ all_raised (count w) w1 vs) w1 k k' h.1.1 n.1 b1 (input-under P x h.0 sc.sorts s i) a1 (agree-later P f X w w1 (result_in P x S) k k' later g))
    meets (c_assert phi at c) x S sc us Ts s vs w k k' h n b i a g =
        let p = put-put vs us phi in
        ap₂ ◌++◌ (ap (λ phi. site kind.Assert at phi w) p)
        (ap (λ phi. here (infer P f sc us s c) vs (suppose phi w) k) p
        ∙ meets c x S sc us Ts s vs (suppose (put (map (put vs) us) phi) w) k k' h.1 n b i (at-same P f w (suppose (put (map (put vs) us) phi) w) vs sc refl a) g)
    meets (c_if t c1 c2) x S sc us Ts s vs w k k' h n b i a g =
        term-needs-walk P X site t vs us _ w k
        ∙ ap (λ l. term_sites P X site t (map (put vs) us) w ++ l)
        (ap (λ u. by_look (literal u) (here (infer P f sc us s c1) vs w k) (here (infer P f sc us s c1) vs (choose choice.Then (suppose u w)) k) ++ (by_look (negated (negation u)) (here (infer P f sc us s c2) vs w k) (here (infer P f sc us s c2) vs (choose choice.Else (suppose (negation u) w)) k) ++ [])) (put-put vs us t)
        ∙ if-ways P X site (put (map (put vs) us) t) (λ w. here (infer P f sc us s c1) vs w k) (λ w. here (infer P f sc us s c2) vs w k) w
        ∙ sides-agree P X site (put (map (put vs) us) t) w _ _ (λ y w1 p.
        go y w1 (meets c1 x S sc us Ts s vs w1 k k' h.1 n.0 b i (at-same P f w w1 vs sc p a) (agree-later P f X w w1 (result_in P x S) k k' (later-same w.vars w1.vars p) g))
        (meets c2 x S sc us Ts s vs w1 k k' h.2 n.1 b i (at-same P f w w1 vs sc p a) (agree-later P f X w w1 (result_in P x S) k k' (later-same w.vars w1.vars p) g))))
      where
        go : (y : Bool) (w1 : Way) → here (infer P f sc us s c1) vs w1 k ≡ there c1 (map (put vs) us) (put vs s) w1 k' → here (infer P f sc us s c2) vs w1 k ≡ there c2 (map (put vs) us) (put vs s) w1 k'
            → (if y then here (infer P f sc us s c1) vs w1 k else here (infer P f sc us s c2) vs w1 k) ≡ (if y then there c1 (map (put vs) us) (put vs s) w1 k' else there c2 (map (put vs) us) (put vs s) w1 k')
        go true w1 p q = p
        go false w1 p q = q
    meets (c_match t at arms) x S sc us Ts s vs w k k' h n b i a g =
        meets-match t at arms x S h.0 sc us Ts s vs w k k' h.1.0.0 h.1.1 n.0 b a
        (λ c o w1 p. meets-arms arms at c x S h.0 sc us Ts s (put us t) vs w1 k k' h.1.1 n.1 (put-sorted (Applies P) sc.sorts us Ts t h.0 b h.1.0.0) b i (at-same P f w w1 vs sc p a) (agree-later P f X w w1 (result_in P x S) k k' (later-same w.vars w1.vars p) g))
    meets (c_call j ts at) x S sc us Ts s vs w k k' h n b i a g =
        needs-walk P X site (all_divisions [] ts) vs us _ w k
        ∙ ap (λ l. divisor_sites P X site (all_divisions [] ts) (map (put vs) us) w ++ l) (go (fun_at P j) h)
      where
        args : listed (puts (map (put vs) us) ts) ≡ map (put vs) (listed (puts us ts))
        args = ap listed (sym (puts-puts vs us ts)) ∙ listed-puts vs (puts us ts)

        go : (o : Option Fn) → if_there o (λ g. (x ≡ place_of g.effect) × (S ≡ g.sort) × TmsSorted (Applies P) Ts ts (map (λ p. p.sort) g.params) × IsTrue (are_run ts)) ⊥
            → here (if_there o (λ g. call_wp P f j g sc (listed (puts us ts)) s at) (no_wp P f)) vs w k
            ≡ if_there o (λ g. requires_site P f X site (demands_of g (listed (puts (map (put vs) us) ts)) (put vs s)) at w ++ decreases_site P f X site g (measures_at g (listed (puts (map (put vs) us) ts))) at w ++ k' (after_call P f X site j g (listed (puts (map (put vs) us) ts)) (put vs s) w) (t_var 0)) []
        go None q = absurd q
        go (Some h) q =
            call-meets P f X site j h sc (listed (puts us ts)) s at vs w k k' a (subst (λ S. Agree P f X w (result_in P (place_of h.effect) S) k k') q.1 (subst (λ y. Agree P f X w (result_in P y S) k k') q.0 g))
            ∙ append-again (requires_site P f X site (demands_of h (map (put vs) (listed (puts us ts))) (put vs s)) at w) (decreases_site P f X site h (measures_at h (map (put vs) (listed (puts us ts)))) at w) (k' (after_call P f X site j h (map (put vs) (listed (puts us ts))) (put vs s) w) (t_var 0))
            ∙ ap (λ ts. requires_site P f X site (demands_of h ts (put vs s)) at w ++ decreases_site P f X site h (measures_at h ts) at w ++ k' (after_call P f X site j h ts (put vs s) w) (t_var 0)) (sym args)
    meets (c_reify E T c t) x S sc us Ts s vs w k k' h n b i a g =
        term-needs-walk P X site t vs us _ w k
        ∙ ap (λ l. term_sites P X site t (map (put vs) us) w ++ l)
        (meets c (Some E) T sc us Ts (put us t) vs w k k' h.2 n b (reify-input (effect_at P E) h.3) a (subst (λ R. Agree P f X w R k k') h.1 (subst (λ y. Agree P f X w (result_in P y S) k k') h.0 g))
        ∙ ap (λ s. there c (map (put vs) us) s w k') (put-put vs us t))
      where
        reify-input : (o : Option EffDef) → if_there o (λ d. RunSorted P Ts t d.input) ⊥ → if_there o (λ d. Sorted P sc.sorts (put us t) d.input) ⊥
        reify-input None q = q
        reify-input (Some d) q = put-sorted (Applies P) sc.sorts us Ts t d.input b q.0
    meets (c_reflect E T y c) x S sc us Ts s vs w k k' h n b i a g =
        go (λ d h1 j. meets c None (result_at P E T) sc (s ∷ us) (d.input ∷ Ts) t_unit vs w k k' h1 n (j, b) tt a (subst (λ U. Agree P f X w (result_at P E U) k k') h.1 (subst (λ y. Agree P f X w (result_in P y S) k k') h.0 g)))
        (effect_at P E) h.2 (subst (λ y. InputSorted P y sc.sorts s) h.0 i)
      where
        go : ((d : EffDef) → CmSorted P (d.input ∷ Ts) None c (result_at P E T) → Sorted P sc.sorts s d.input → here (infer P f sc (s ∷ us) t_unit c) vs w k ≡ there c (map (put vs) (s ∷ us)) t_unit w k')
            → (o : Option EffDef) → if_there o (λ d. CmSorted P (d.input ∷ Ts) None c (result_at P E T)) ⊥ → if_there o (λ d. Sorted P sc.sorts s d.input) ⊥
            → here (infer P f sc (s ∷ us) t_unit c) vs w k ≡ there c (map (put vs) (s ∷ us)) t_unit w k'
        go ih None q r = absurd q
        go ih (Some d) q r = ih d q r
    meets (c_return E c) x S sc us Ts s vs w k k' h n b i a g =
        return-meets E c S sc us Ts s vs w k k' h.1 n b (subst (λ y. InputSorted P y sc.sorts s) h.0 i) a (subst (λ y. Agree P f X w (result_in P y S) k k') h.0 g)
        (λ vs w k k' b i a g. meets c None S sc us Ts t_unit vs w k k' h.1 n b i a g)
    meets (c_lift m c) x S sc us Ts s vs w k k' h n b i a g =
        go (slice_get P.lifts m) refl h (λ l r. λ vs w k k' b i a g. meets c (Some l.from) S (under (input_of P l.from) sc) (map (shift 0 1) us) Ts (t_var 0) vs w k k' r n b i a g)
      where
        go : (o : Option LftDef) → slice_get P.lifts m ≡ o → if_there o (λ l. (x ≡ Some l.«to») × CmSorted P Ts (Some l.from) c S) ⊥
            → ((l : LftDef) → CmSorted P Ts (Some l.from) c S → Part c (Some l.from) S (under (input_of P l.from) sc) (map (shift 0 1) us) Ts (t_var 0))
            → here (infer P f sc us s (c_lift m c)) vs w k ≡ there (c_lift m c) (map (put vs) us) (put vs s) w k'
        go None q r part = absurd r
        go (Some l) q r part = lift-meets m l c S sc us Ts s vs w k k' q r.1 n b (subst (λ y. InputSorted P y sc.sorts s) r.0 i) a (subst (λ y. Agree P f X w (result_in P y S) k k') r.0 g) (part l r.1)

    -- the arm of a constructor
    meets-arms : (arms : CmArms) (at : ℕ) (c : Con) (x : Option ℕ) (S T : Srt) (sc : Scope) (us : List Tm) (Ts : List Srt) (s u : Tm) (vs : List Tm) (w : Way) (k k' : Rest)
        → ArmsSorted P Ts x T arms S → ArmsFull arms → Sorted P sc.sorts u T → AllOf P sc.sorts us Ts → InputSorted P x sc.sorts s → At P f w vs sc → Agree P f X w (result_in P x S) k k'
        → here (infer_arm P f sc us s at arms c (selectors c T u)) vs w k ≡ in_arm arms at (record { con = c; parts = selectors c T (put vs u); way = w }) (map (put vs) us) (put vs s) k'
    meets-arms c_end at c x S T sc us Ts s u vs w k k' h n r b i a g = append-none (site kind.Match at (t_bool false) w)
    meets-arms (c_arm c' ys body more) at c x S T sc us Ts s u vs w k k' h n r b i a g =
        go (same_con c' c) refl
        (λ parts. meets body x S sc (parts ++ us) (part_sorts c' T ++ Ts) s vs w k k' h.2 n.0)
        (meets-arms more at c x S T sc us Ts s u vs w k k' h.3 n.1 r b i a g)
      where
        go : (y : Bool) → same_con c' c ≡ y
            → ((parts : List Tm) → AllOf P sc.sorts (parts ++ us) (part_sorts c' T ++ Ts) → InputSorted P x sc.sorts s → At P f w vs sc → Agree P f X w (result_in P x S) k k' → here (infer P f sc (parts ++ us) s body) vs w k ≡ there body (map (put vs) (parts ++ us)) (put vs s) w k')
            → here (infer_arm P f sc us s at more c (selectors c T u)) vs w k ≡ in_arm more at (record { con = c; parts = selectors c T (put vs u); way = w }) (map (put vs) us) (put vs s) k'
            → here (if y then infer P f sc (reverse (selectors c T u) ++ us) s body else infer_arm P f sc us s at more c (selectors c T u)) vs w k
            ≡ (if y then there body (reverse (selectors c T (put vs u)) ++ map (put vs) us) (put vs s) w k' else in_arm more at (record { con = c; parts = selectors c T (put vs u); way = w }) (map (put vs) us) (put vs s) k')
        go false q ih other = other
        go true q ih other =
            let p = same-con-is c' c q in
            ih (reverse (selectors c T u))
            (append-sorted (Applies P) sc.sorts (reverse (selectors c T u)) us (part_sorts c' T) Ts (subst (λ d. AllOf P sc.sorts (reverse (selectors d T u)) (part_sorts c' T)) p (selectors-sorted P sc.sorts c' T u h.0 r)) b) i a g
            ∙ ap (λ us. there body us (put vs s) w k') (map-append (put vs) (reverse (selectors c T u)) us ∙ ap (λ l. l ++ map (put vs) us) (map-reverse (put vs) (selectors c T u) ∙ ap reverse (put-selectors vs c T u)))
