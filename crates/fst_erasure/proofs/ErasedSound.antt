-- An erased program is sound code: well-sorted text names what is there, and erasure leaves no ghost let, assertion or ghost parameter.
use Rattle.std.proofs.Common.{◌≡◌, ◌⊎◌, inl, inr, ℕ, zero, suc, ◌+◌, ◌<◌, Bool, true, false, not, ◌&&◌, if◌then◌else◌, nat_lt, List, [], ◌∷◌, ◌++◌, map, filter, reverse, length, slice_get, Option, Some, None, IsTrue, refl, sym, ap, ◌∙◌, subst, arith, lt-ltb}
use Rattle.std.specs.Prelude.{⊤}
use Rattle.std.specs.List.{list_all}
use Rattle.std.proofs.lemmas.List.{length-append, length-reverse, length-map}
use Rattle.fst_base.specs.Sorts.{Srt, s_bool, s_a, s_b, put_sorts}
use Rattle.fst_base.specs.Rows.{is_inner}
use Rattle.fst_terms.specs.Terms.{Tm, Tms, t_var, t_int, t_bool, t_unit, t_prim, t_if, t_app, t_let, t_end, t_more}
use Rattle.fst_terms.specs.Sorted.{TmSorted, TmsSorted, is_run, are_run}
use Rattle.fst_program.specs.declared.effect.Effect.{Effect}
use Rattle.fst_program.specs.declared.effect.Effect.TheVariants as effect
use Rattle.fst_program.specs.Texts.{Dm, DmArms, d_ret, d_let, d_if, d_match, d_run_f, d_run_g, d_end, d_arm, Cm, CmArms, c_ret, c_let, c_bind, c_ghost, c_assert, c_if, c_match, c_call, c_reify, c_reflect, c_return, c_lift, c_end, c_arm, Prm, EffDef, LftDef, Fn, Prog, if_there, fun_at, effect_at}
use Rattle.fst_program.specs.Paths.{part_sorts}
use Rattle.fst_program.specs.Erasure.{Scope, erased_text, erased_arms, erased_param, erased_fun, erased}
use Rattle.fst_program.specs.Sorted.{FSorts, GSorts, place_of, Applies, RunSorted, DmSorted, DmArmsSorted, CmSorted, ArmsSorted, IsSorted}
use Rattle.fst_program.specs.Discipline.{EffectThere, IsDisciplined}
use Rattle.fst_program.proofs.ThereLemmas.{there}
use Rattle.fst_program.proofs.SortedTerms.{and-left, and-right}
use Rattle.fst_code.specs.Within.{term_within, terms_within, dm_within, dm_arms_within}
use Rattle.fst_code.specs.Sound.{is_effect, effect_within, text_sound, arms_sound, params_sound, fun_sound, effect_sound, lift_sound}
use Rattle.fst_erasure.specs.ErasureLaws.{ErasedSound}
use Rattle.fst_erasure.proofs.ErasedSorts.{and-both, erased-sorted, erased-from}

-- ---- lists

stands-below : {A : Type 0} (xs : List A) (i : ℕ) (x : A) → slice_get xs i ≡ Some x → i < length xs
stands-below [] i x e = cc
stands-below (y ∷ ys) zero x e = omega arith
stands-below (y ∷ ys) (suc i) x e = let h = stands-below ys i x e in omega arith

get-below : {A : Type 0} (xs : List A) (i : ℕ) (x : A) → slice_get xs i ≡ Some x → IsTrue (nat_lt i (length xs))
get-below xs i x e = lt-ltb i (length xs) (stands-below xs i x e)

all-true : {A : Type 0} (p : A → Bool) (xs : List A) → ((i : ℕ) (x : A) → slice_get xs i ≡ Some x → IsTrue (p x)) → IsTrue (list_all p xs)
all-true p [] h = refl
all-true p (x ∷ xs) h = and-both (p x) (list_all p xs) (h zero x refl) (all-true p xs (λ i y e. h (suc i) y e))

-- ---- terms that are run

module _ (A : (k : ℕ) → List Srt → (S : Srt) → Type 0) where
  mutual
    run-within : (Ss : List Srt) (t : Tm) (S : Srt) → TmSorted A Ss t S → IsTrue (is_run t) → IsTrue (term_within (length Ss) 0 t)
    run-within Ss (t_var i) S h r = get-below Ss i S h
    run-within Ss (t_int n) S h r = refl
    run-within Ss (t_bool b) S h r = refl
    run-within Ss t_unit S h r = refl
    run-within Ss (t_prim o T ts at) S h r = runs-within Ss ts h.1.0 h.1.1.1 (and-right (not (is_inner o)) (are_run ts) r)
    run-within Ss (t_if c t u) S h r =
        let first = and-left (is_run c && is_run t) (is_run u) r in
        and-both _ _ (and-both _ _ (run-within Ss c s_bool h.0 (and-left (is_run c) (is_run t) first)) (run-within Ss t S h.1 (and-right (is_run c) (is_run t) first)))
        (run-within Ss u S h.2 (and-right (is_run c && is_run t) (is_run u) r))
    run-within Ss (t_app k T ts) S h r = cc
    run-within Ss (t_let x t u) S h r = cc

    pub runs-within : (Ss : List Srt) (ts : Tms) (Ts : List Srt) → TmsSorted A Ss ts Ts → IsTrue (are_run ts) → IsTrue (terms_within (length Ss) 0 ts)
    runs-within Ss t_end Ts h r = refl
    runs-within Ss (t_more t ts) Ts h r = and-both _ _ (run-within Ss t h.0 h.1.1.1 (and-left (is_run t) (are_run ts) r)) (runs-within Ss ts h.1.0 h.1.1.2 (and-right (is_run t) (are_run ts) r))

-- the variables behind a pattern are those of its names and the others
under-names : (xs : List (List ℕ)) (Ts Ss : List Srt) → length xs ≡ length Ts → length (Ts ++ Ss) ≡ length xs + length Ss
under-names xs Ts Ss e = length-append Ts Ss ∙ ap (λ n. n + length Ss) (sym e)

-- ---- definition text

module _ (Q : Prog) where
  run-in : (Ss : List Srt) (t : Tm) (S : Srt) → RunSorted Q Ss t S → IsTrue (term_within (length Ss) 0 t)
  run-in Ss t S h = run-within (Applies Q) Ss t S h.0 h.1

  module _ (f : Option FSorts) (g : Option GSorts) where
    mutual
      dm-in : (Ss : List Srt) (d : Dm) (R : Srt) → DmSorted Q f g Ss d R → IsTrue (dm_within (length Ss) d)
      dm-in Ss (d_ret t) R h = run-in Ss t R h
      dm-in Ss (d_let x d1 d2) R h = and-both _ _ (dm-in Ss d1 h.0 h.1.0) (dm-in (h.0 ∷ Ss) d2 R h.1.1)
      dm-in Ss (d_if t d1 d2) R h = and-both _ _ (and-both _ _ (run-in Ss t s_bool h.0) (dm-in Ss d1 R h.1)) (dm-in Ss d2 R h.2)
      dm-in Ss (d_match t arms) R h = and-both _ _ (run-in Ss t h.0 h.1.0) (dm-arms-in Ss h.0 arms R h.1.1)
      dm-in Ss (d_run_f t) R h = let s = there f _ h in run-in Ss t s.0.input s.1.1.0
      dm-in Ss (d_run_g t u) R h = let s = there g _ h in and-both _ _ (run-in Ss t s.0.value s.1.1.0) (run-in Ss u s.0.input s.1.1.1)

      dm-arms-in : (Ss : List Srt) (S : Srt) (arms : DmArms) (R : Srt) → DmArmsSorted Q f g Ss S arms R → IsTrue (dm_arms_within (length Ss) arms)
      dm-arms-in Ss S d_end R h = refl
      dm-arms-in Ss S (d_arm c xs d more) R h =
          and-both _ _ (subst (λ n. IsTrue (dm_within n d)) (under-names xs (part_sorts c S) Ss h.1) (dm-in (part_sorts c S ++ Ss) d R h.2)) (dm-arms-in Ss S more R h.3)

-- ---- core text

module _ (P : Prog) (sorted : IsSorted (erased P)) where
  abbrev Q : Prog
  Q = erased P

  effect-in : (E : ℕ) (d : EffDef) → effect_at Q E ≡ Some d → IsTrue (is_effect Q E)
  effect-in E d e = get-below P.effects E d e

  -- the user effect of a place is there
  abbrev PlaceThere : Option ℕ → Type 0
  PlaceThere None = ⊤
  PlaceThere (Some E) = IsTrue (is_effect Q E)

  lower-in : (n : ℕ) (l : LftDef) → slice_get P.lifts n ≡ Some l → IsTrue (is_effect Q l.from) × IsTrue (is_effect Q l.«to»)
  lower-in n l e =
      let low = there (effect_at Q l.from) _ (sorted.lifts n l e) in
      let up = there (effect_at Q l.«to») _ low.1.1 in
      (effect-in l.from low.0 low.1.0, effect-in l.«to» up.0 up.1.0)

  mutual
    text-in : (scope : Scope) (Ss : List Srt) (x : Option ℕ) (c : Cm) (S : Srt) → CmSorted Q Ss x (erased_text P scope c) S → PlaceThere x → IsTrue (text_sound Q (length Ss) (erased_text P scope c))
    text-in scope Ss x (c_ret t) S h p = run-in Q Ss _ S h.1
    text-in scope Ss x (c_let y c1 c2) S h p = and-both _ _ (text-in scope Ss None c1 h.0 h.1.0 tt) (text-in (false ∷ scope) (h.0 ∷ Ss) x c2 S h.1.1 p)
    text-in scope Ss x (c_bind E y c1 c2) S h p = and-both _ _ (and-both _ _ (subst PlaceThere h.0 p) (text-in scope Ss x c1 h.1.0 h.1.1.0 p)) (text-in (false ∷ scope) (h.1.0 ∷ Ss) x c2 S h.1.1.1 p)
    text-in scope Ss x (c_ghost y c1 c2) S h p = text-in (true ∷ scope) Ss x c2 S h p
    text-in scope Ss x (c_assert phi at c) S h p = text-in scope Ss x c S h p
    text-in scope Ss x (c_if t c1 c2) S h p = and-both _ _ (and-both _ _ (run-in Q Ss _ s_bool h.0) (text-in scope Ss x c1 S h.1 p)) (text-in scope Ss x c2 S h.2 p)
    text-in scope Ss x (c_match t at arms) S h p = and-both _ _ (run-in Q Ss _ h.0 h.1.0) (arms-in scope Ss x h.0 arms S h.1.1 p)
    text-in scope Ss x (c_call j ts at) S h p =
        let f = there (fun_at Q j) _ h in
        and-both _ _ (ap (λ o. if_there o (λ f. true) false) f.1.0) (runs-within (Applies Q) Ss _ _ f.1.1.2 f.1.1.3)
    text-in scope Ss x (c_reify E T c t) S h p =
        let d = there (effect_at Q E) _ h.3 in
        let e = effect-in E d.0 d.1.0 in
        and-both _ _ (and-both _ _ e (text-in scope Ss (Some E) c T h.2 e)) (run-in Q Ss _ d.0.input d.1.1)
    text-in scope Ss x (c_reflect E T y c) S h p =
        let d = there (effect_at Q E) _ h.2 in
        and-both _ _ (effect-in E d.0 d.1.0) (text-in (false ∷ scope) (d.0.input ∷ Ss) None c _ d.1.1 tt)
    text-in scope Ss x (c_return E c) S h p = and-both _ _ (subst PlaceThere h.0 p) (text-in scope Ss None c S h.1 tt)
    text-in scope Ss x (c_lift n c) S h p =
        let l = there (slice_get P.lifts n) _ h in
        and-both _ _ (get-below P.lifts n l.0 l.1.0) (text-in scope Ss (Some l.0.from) c S l.1.1.1 (lower-in n l.0 l.1.0).0)

    arms-in : (scope : Scope) (Ss : List Srt) (x : Option ℕ) (T : Srt) (arms : CmArms) (S : Srt) → ArmsSorted Q Ss x T (erased_arms P scope arms) S → PlaceThere x → IsTrue (arms_sound Q (length Ss) (erased_arms P scope arms))
    arms-in scope Ss x T c_end S h p = refl
    arms-in scope Ss x T (c_arm c ys body more) S h p =
        and-both _ _ (subst (λ n. IsTrue (text_sound Q n (erased_text P (map (λ y. false) ys ++ scope) body))) (under-names ys (part_sorts c T) Ss h.1) (text-in (map (λ y. false) ys ++ scope) (part_sorts c T ++ Ss) x body S h.2 p))
        (arms-in scope Ss x T more S h.3 p)

  -- ---- functions

  params-in : (n : ℕ) (ps : List Prm) → IsTrue (params_sound Q n (map (erased_param P) (filter (λ p. not p.hidden) ps)))
  params-in n [] = refl
  params-in n (p ∷ ps) = go p.hidden refl (params-in n ps) (params-in (suc n) ps)
    where
      go : (x : Bool) → p.hidden ≡ x → IsTrue (params_sound Q n (map (erased_param P) (filter (λ p. not p.hidden) ps))) → IsTrue (params_sound Q (suc n) (map (erased_param P) (filter (λ p. not p.hidden) ps)))
          → IsTrue (params_sound Q n (map (erased_param P) (if not x then p ∷ filter (λ p. not p.hidden) ps else filter (λ p. not p.hidden) ps)))
      go true e here later = here
      go false e here later = and-both _ _ (and-both (not p.hidden) true (ap not e) refl) later

  place-in : (x : Effect) → EffectThere P x → IsTrue (effect_within Q x) × PlaceThere (place_of x)
  place-in effect.Pure h = (refl, tt)
  place-in effect.Ghost h = (refl, tt)
  place-in effect.Div h = (refl, tt)
  place-in (effect.User E) h = let d = there (effect_at P E) _ h in let e = effect-in E d.0 d.1.0 in (e, e)

  fun-in : IsDisciplined P → (k : ℕ) (f : Fn) → fun_at Q k ≡ Some f → IsTrue (fun_sound Q f)
  fun-in disciplined k f q =
      let r = erased-from P k f q in
      let g = r.0 in
      let place = place-in g.effect (disciplined.funs k g r.1.0).effect_there in
      let body = text-in _ _ (place_of g.effect) g.body g.sort (subst (λ f. CmSorted Q (reverse (map (λ p. p.sort) f.params)) (place_of f.effect) f.body f.sort) r.1.2 (sorted.funs k f q).body) place.1 in
      subst (λ f. IsTrue (fun_sound Q f)) (sym r.1.2)
      (and-both _ _ (and-both _ _ (and-both _ _ (and-both _ _ (ap not r.1.1) place.0) (group-in k g r.1.0)) (params-in 0 g.params)) (subst (λ n. IsTrue (text_sound Q n (erased_fun P g).body)) (many (erased_fun P g).params) body))
    where
      many : (ps : List Prm) → length (reverse (map (λ p. p.sort) ps)) ≡ length ps
      many ps = length-reverse (map (λ (p : Prm). p.sort) ps) ∙ length-map ps (λ (p : Prm). p.sort)

      there-below : (fs : List (Option Fn)) (i : ℕ) (g : Fn) → if_there (slice_get fs i) (λ f. f) None ≡ Some g → i < length fs
      there-below [] i g e = cc
      there-below (x ∷ fs) zero g e = omega arith
      there-below (x ∷ fs) (suc i) g e = let h = there-below fs i g e in omega arith

      group-in : (k : ℕ) (g : Fn) → fun_at P k ≡ Some g → IsTrue (nat_lt g.group (length Q.funs))
      group-in k g e =
          let le = disciplined.groups k g e in
          let lt = there-below P.funs k g e in
          let n : length Q.funs ≡ length P.funs = length-map P.funs _ in
          lt-ltb g.group (length Q.funs) (omega (arith, n))

pub erased-sound : (P : Prog) → ErasedSound P
erased-sound P sorted disciplined =
    let code = erased-sorted P sorted disciplined in
    and-both (list_all (effect_sound (erased P)) P.effects && list_all (lift_sound (erased P)) P.lifts) (list_all fun_in (erased P).funs)
    (and-both (list_all (effect_sound (erased P)) P.effects) (list_all (lift_sound (erased P)) P.lifts) (all-true (effect_sound (erased P)) P.effects (effects code)) (all-true (lift_sound (erased P)) P.lifts (lifts code)))
    (all-true fun_in (erased P).funs (funs code))
  where
    fun_in : Option Fn → Bool
    fun_in f = if_there f (fun_sound (erased P)) true

    base-in : (b : Effect) → (b ≡ effect.Pure) ⊎ (b ≡ effect.Div) → IsTrue (effect_within (erased P) b)
    base-in b (inl e) = ap (effect_within (erased P)) e
    base-in b (inr e) = ap (effect_within (erased P)) e

    effects : IsSorted (erased P) → (E : ℕ) (d : EffDef) → slice_get P.effects E ≡ Some d → IsTrue (effect_sound (erased P) d)
    effects code E d e =
        let s = code.effects E d e in
        and-both _ _ (and-both _ _ (base-in d.base (disciplined.bases E d e)) (dm-in (erased P) None None (d.input ∷ s_a ∷ []) d.ret d.result s.returns))
        (dm-in (erased P) (Some (record { input = d.input; result = d.result })) (Some (record { value = s_a; input = d.input; result = put_sorts s_b s_b d.result })) (d.input ∷ []) d.bind (put_sorts s_b s_b d.result) s.binds)

    lifts : IsSorted (erased P) → (n : ℕ) (l : LftDef) → slice_get P.lifts n ≡ Some l → IsTrue (lift_sound (erased P) l)
    lifts code n l e =
        let ends = lower-in P code n l e in
        let low = there (effect_at (erased P) l.from) _ (code.lifts n l e) in
        let up = there (effect_at (erased P) l.«to») _ low.1.1 in
        and-both _ _ (and-both _ _ ends.0 ends.1) (dm-in (erased P) (Some (record { input = low.0.input; result = low.0.result })) None (up.0.input ∷ []) l.text up.0.result up.1.1)

    funs : IsSorted (erased P) → (k : ℕ) (o : Option Fn) → slice_get (erased P).funs k ≡ Some o → IsTrue (fun_in o)
    funs code k None e = refl
    funs code k (Some f) e = fun-in P code disciplined k f (ap (λ o. if_there o (λ f. f) None) e)
