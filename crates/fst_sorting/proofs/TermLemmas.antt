-- A term of which no rule is broken is well sorted.
use Rattle.std.proofs.Common.{◌≡◌, ℕ, zero, suc, ◌<◌, Bool, true, false, not, List, [], ◌∷◌, ◌++◌, map, length, slice_get, Option, Some, None, option_map, IsTrue, refl, sym, ap, ◌∙◌, subst, arith, if◌then◌else◌}
use Rattle.fst_base.specs.Sorts.{Srt, s_unit, s_bool, s_int}
use Rattle.fst_base.specs.Rows.{Fits, is_inner}
use Rattle.fst_terms.specs.Terms.{t_app}
use Rattle.fst_terms.specs.Sorted.{TmSorted, TmsSorted, is_run, are_run}
use Rattle.fst_names.specs.declared.reference.Ref.{Ref}
use Rattle.fst_names.specs.declared.broken.Broken.{Broken}
use Rattle.fst_names.specs.Broken.{innermost}
use Rattle.fst_names.specs.Names.{count_forms}
use Rattle.fst_names.specs.Trees.{WForm, WForms, f_ident, f_int, f_bool, f_unit, f_prim, f_if, f_app, f_let, f_end, f_more}
use Rattle.fst_program.specs.LiftPaths.{or_else}
use Rattle.fst_effects.specs.Known.{Entry, Ctx, Callee, Known, or_unit, with_sort, clash, needs_sort}
use Rattle.fst_effects.specs.TermSorts.{given, givens, broken, brokens, core, cores, prim_given, prim_wants, prim_needs, place_of, first_place, sort_in, visible, misused, is_pure_or_ghost, not_applied, args_of, wants_of}
use Rattle.fst_sorting.proofs.Scoped.{FormScoped, FormsScoped, Takes}
use Rattle.fst_sorting.proofs.BasicLemmas.{none-left, none-right, no-parts, no-own, clash-settled, needed, known, fitted, settled-first, none-first, none-second, none-third, and-both}
use Rattle.fst_sorting.proofs.PrimitiveLemmas.{Settled, prim-row}

-- the sorts of the variables in scope, or of parameters
abbrev pub sorts_of : Ctx → List Srt
sorts_of = map (λ x. x.sort)

pub at-sort : (xs : Ctx) (i : ℕ) → i < length xs → (e : Entry) × ((slice_get xs i ≡ Some e) × (slice_get (sorts_of xs) i ≡ Some e.sort))
at-sort [] i h = absurd (omega arith)
at-sort (x ∷ xs) zero h = (x, (refl, refl))
at-sort (x ∷ xs) (suc i) h = at-sort xs i (omega arith)

pub if-none : (b : Bool) (bs : List Broken) (c : Broken) (cs : List Broken) → (if b then [] else c ∷ cs) ≡ [] → b ≡ true
if-none true bs c cs e = refl
if-none false bs c cs e = cc

module _ (K : Known) where
  count-givens : (xs : Ctx) (fs : WForms Ref) → length (givens K.applied xs fs) ≡ count_forms fs
  count-givens xs f_end = refl
  count-givens xs (f_more f fs) = ap suc (count-givens xs fs)

  -- a term outside formulas is run
  mutual
    pub core-run : (n : ℕ) (xs : Ctx) (f : WForm Ref) (W : Option Srt) → FormScoped K false n f → IsTrue (is_run (core K.applied xs f W))
    core-run n xs (f_ident at r) W s = refl
    core-run n xs (f_int at m) W s = refl
    core-run n xs (f_bool at b) W s = refl
    core-run n xs (f_unit at) W s = refl
    core-run n xs (f_prim at o fs) W s = and-both (not (is_inner o)) _ (ap not s.0) (cores-run n xs fs (prim_wants o (givens K.applied xs fs) W) s.2)
    core-run n xs (f_if at c f g) W s =
        let V = or_else (or_else (given K.applied xs f) (given K.applied xs g)) W in
        and-both _ _ (and-both _ _ (core-run n xs c (Some s_bool) s.0) (core-run n xs f V s.1)) (core-run n xs g V s.2)
    core-run n xs (f_app at r fs) W s = cc
    core-run n xs (f_let at x f g) W s = cc

    pub cores-run : (n : ℕ) (xs : Ctx) (fs : WForms Ref) (Ws : List (Option Srt)) → FormsScoped K false n fs → IsTrue (are_run (cores K.applied xs fs Ws))
    cores-run n xs f_end Ws s = refl
    cores-run n xs (f_more f fs) [] s = and-both _ _ (core-run n xs f None s.0) (cores-run n xs fs [] s.1)
    cores-run n xs (f_more f fs) (W ∷ Ws) s = and-both _ _ (core-run n xs f W s.0) (cores-run n xs fs Ws s.1)

  settled-args : (xs : Ctx) (fs : WForms Ref) (ps : List Entry) → count_forms fs ≡ length ps → Settled (wants_of ps) (givens K.applied xs fs) (sorts_of ps)
  settled-args xs f_end [] e = tt
  settled-args xs f_end (p ∷ ps) e = cc
  settled-args xs (f_more f fs) [] e = cc
  settled-args xs (f_more f fs) (p ∷ ps) e = (refl, settled-args xs fs ps cc)

  module _ (Applies : (k : ℕ) → List Srt → (S : Srt) → Type 0)
      (applies : (r : Ref) (c : Callee) → K.applied r ≡ Some c → is_pure_or_ghost c.effect ≡ true → Applies r.index (sorts_of c.args) c.sort) where
    app-sorted : (xs : Ctx) (at : ℕ) (r : Ref) (fs : WForms Ref) (W : Option Srt) (S : Srt) (o : Option Callee)
        → ((c : Callee) → o ≡ Some c → is_pure_or_ghost c.effect ≡ true → Applies r.index (sorts_of c.args) c.sort)
        → Takes o (count_forms fs)
        → ((ps : List Entry) → count_forms fs ≡ length ps → brokens K.applied true xs fs (wants_of ps) ≡ [] → TmsSorted Applies (sorts_of xs) (cores K.applied xs fs (wants_of ps)) (sorts_of ps))
        → innermost (brokens K.applied true xs fs (wants_of (args_of o))) (not_applied at o ++ clash at (option_map (λ f. f.sort) o) W) ≡ []
        → or_else W (option_map (λ f. f.sort) o) ≡ Some S
        → TmSorted Applies (sorts_of xs) (t_app r.index (or_unit (option_map (λ f. f.sort) o)) (cores K.applied xs fs (wants_of (args_of o)))) S
    app-sorted xs at r fs W S None a t s b h = absurd t
    app-sorted xs at r fs W S (Some c) a t s b h =
        let own = no-own (brokens K.applied true xs fs (wants_of c.args)) _ b in
        let pure = if-none (is_pure_or_ghost c.effect) [] _ _ (none-left (not_applied at (Some c)) _ own) in (
          sym (clash-settled at c.sort S W (none-right (not_applied at (Some c)) _ own) h),
          (sorts_of c.args, (a c refl pure, s c.args t (no-parts (brokens K.applied true xs fs (wants_of c.args)) _ b))),
        )

    mutual
      pub term-sorted : (gh l : Bool) (xs : Ctx) (f : WForm Ref) (W : Option Srt) (S : Srt)
          → FormScoped K l (length xs) f → broken K.applied gh xs f W ≡ [] → or_else W (given K.applied xs f) ≡ Some S → TmSorted Applies (sorts_of xs) (core K.applied xs f W) S
      term-sorted gh l xs (f_ident at r) W S s b h =
          let e = at-sort xs r.index s in
          let there : sort_in (slice_get xs r.index) ≡ Some e.0.sort = ap sort_in e.1.0 in
          let fit = subst (λ X. clash at X W ≡ []) there (none-right (misused gh at (slice_get xs r.index)) _ b) in
          let same : e.0.sort ≡ S = clash-settled at e.0.sort S W fit (subst (λ X. or_else W X ≡ Some S) there h) in
          e.1.1 ∙ ap Some same
      term-sorted gh l xs (f_int at n) W S s b h = sym (clash-settled at s_int S W b h)
      term-sorted gh l xs (f_bool at x) W S s b h = sym (clash-settled at s_bool S W b h)
      term-sorted gh l xs (f_unit at) W S s b h = sym (clash-settled at s_unit S W b h)
      term-sorted gh l xs (f_prim at o fs) W S s b h =
          let Gs = givens K.applied xs fs in
          let parts = no-parts (innermost (brokens K.applied gh xs fs (prim_wants o Gs W)) (prim_needs (first_place at fs) o Gs)) _ b in
          let own = no-own (innermost (brokens K.applied gh xs fs (prim_wants o Gs W)) (prim_needs (first_place at fs) o Gs)) _ b in
          let args = no-parts (brokens K.applied gh xs fs (prim_wants o Gs W)) _ parts in
          let needs = no-own (brokens K.applied gh xs fs (prim_wants o Gs W)) _ parts in
          let row = prim-row (first_place at fs) at o Gs W S s.0 (count-givens xs fs ∙ s.1) needs own h in
          let same : S ≡ or_unit (or_else W (prim_given o Gs)) = sym (ap or_unit h) in
          (same, (row.0, (subst (Fits o row.0) same row.1.0, terms-sorted gh l xs fs (prim_wants o Gs W) row.0 s.2 args row.1.1)))
      term-sorted gh l xs (f_if at c f g) W S s b h =
          let G = or_else (given K.applied xs f) (given K.applied xs g) in
          let parts = no-parts (broken K.applied gh xs c (Some s_bool) ++ broken K.applied gh xs f (or_else G W) ++ broken K.applied gh xs g (or_else G W)) _ b in
          let own = no-own (broken K.applied gh xs c (Some s_bool) ++ broken K.applied gh xs f (or_else G W) ++ broken K.applied gh xs g (or_else G W)) _ b in
          let there = fitted at G W S own h in (
            term-sorted gh l xs c (Some s_bool) s_bool s.0 (none-first (broken K.applied gh xs c (Some s_bool)) _ _ parts) refl,
            term-sorted gh l xs f (or_else G W) S s.1 (none-second (broken K.applied gh xs c (Some s_bool)) _ _ parts) (settled-first (or_else G W) _ S there),
            term-sorted gh l xs g (or_else G W) S s.2 (none-third (broken K.applied gh xs c (Some s_bool)) _ _ parts) (settled-first (or_else G W) _ S there),
          )
      term-sorted gh l xs (f_app at r fs) W S s b h = app-sorted xs at r fs W S (K.applied r) (applies r) s.1
          (λ ps n c. terms-sorted true l xs fs (wants_of ps) (sorts_of ps) s.2 c (settled-args xs fs ps n)) b h
      term-sorted gh l xs (f_let at x f g) W S s b h =
          let T = or_unit (given K.applied xs f) in
          let ys = visible T ∷ xs in
          let G = given K.applied ys g in
          let first = none-left (innermost (broken K.applied gh xs f None) (needs_sort (place_of f) (given K.applied xs f))) _ b in
          let second = none-right (innermost (broken K.applied gh xs f None) (needs_sort (place_of f) (given K.applied xs f))) _ b in
          let gave = needed (place_of f) (given K.applied xs f) (no-own (broken K.applied gh xs f None) _ first) in
          let gives : given K.applied xs f ≡ Some T = gave.1 ∙ ap Some (sym (ap or_unit gave.1)) in
          let body : innermost (broken K.applied gh ys g (or_else G W)) (clash at G W) ≡ [] = known (given K.applied xs f) T _ gives second in
          let whole : or_else W G ≡ Some S = ap (λ X. or_else W (with_sort X (λ S. given K.applied (visible S ∷ xs) g))) (sym gives) ∙ h in
          let there = fitted at G W S (no-own (broken K.applied gh ys g (or_else G W)) _ body) whole in (
            T,
            (
              term-sorted gh l xs f None T s.1 (no-parts (broken K.applied gh xs f None) _ first) gives,
              term-sorted gh l ys g (or_else G W) S s.2 (no-parts (broken K.applied gh ys g (or_else G W)) _ body) (settled-first (or_else G W) G S there),
            ),
          )

      pub terms-sorted : (gh l : Bool) (xs : Ctx) (fs : WForms Ref) (Ws : List (Option Srt)) (Ts : List Srt)
          → FormsScoped K l (length xs) fs → brokens K.applied gh xs fs Ws ≡ [] → Settled Ws (givens K.applied xs fs) Ts → TmsSorted Applies (sorts_of xs) (cores K.applied xs fs Ws) Ts
      terms-sorted gh l xs f_end Ws [] s b h = refl
      terms-sorted gh l xs f_end [] (T ∷ Ts) s b h = absurd h
      terms-sorted gh l xs f_end (W ∷ Ws) (T ∷ Ts) s b h = absurd h
      terms-sorted gh l xs (f_more f fs) [] [] s b h = absurd h
      terms-sorted gh l xs (f_more f fs) (W ∷ Ws) [] s b h = absurd h
      terms-sorted gh l xs (f_more f fs) [] (T ∷ Ts) s b h =
          (T, (Ts, (refl, term-sorted gh l xs f None T s.0 (none-left (broken K.applied gh xs f None) _ b) h.0, terms-sorted gh l xs fs [] Ts s.1 (none-right (broken K.applied gh xs f None) _ b) h.1)))
      terms-sorted gh l xs (f_more f fs) (W ∷ Ws) (T ∷ Ts) s b h =
          (T, (Ts, (refl, term-sorted gh l xs f W T s.0 (none-left (broken K.applied gh xs f W) _ b) h.0, terms-sorted gh l xs fs Ws Ts s.1 (none-right (broken K.applied gh xs f W) _ b) h.1)))
