-- An erased program is well sorted.
use Rattle.std.proofs.Common.{◌≡◌, ℕ, zero, suc, Bool, true, false, not, ◌&&◌, if◌then◌else◌, List, [], ◌∷◌, ◌++◌, map, filter, reverse, length, slice_get, Option, Some, None, IsTrue, refl, sym, ap, ◌∙◌, subst, arith}
use mathlib.Core.List.{reverse_aux}
use Rattle.fst_base.specs.Sorts.{Srt, s_bool, s_a, s_b, put_sorts}
use Rattle.fst_base.specs.Rows.{is_inner}
use Rattle.fst_terms.specs.Terms.{Tm, Tms, t_var, t_int, t_bool, t_unit, t_prim, t_if, t_app, t_let, t_end, t_more}
use Rattle.fst_terms.specs.Sorted.{TmSorted, TmsSorted, is_run, are_run}
use Rattle.fst_program.specs.declared.comp.Con.{Con}
use Rattle.fst_program.specs.Texts.{Dm, DmArms, d_ret, d_let, d_if, d_match, d_run_f, d_run_g, d_end, d_arm, Cm, CmArms, c_ret, c_let, c_bind, c_ghost, c_assert, c_if, c_match, c_call, c_reify, c_reflect, c_return, c_lift, c_end, c_arm, Prm, EffDef, LftDef, Fn, Prog, if_there, fun_at, effect_at, params_of, result_at, is_ghost}
use Rattle.fst_program.specs.Paths.{part_sorts}
use Rattle.fst_program.specs.Erasure.{Scope, kept, erased_term, erased_terms, erased_args, erased_text, erased_arms, erased_param, erased_fun, unless_ghost, erased}
use Rattle.fst_program.specs.Sorted.{FSorts, GSorts, place_of, Applies, RunSorted, DmSorted, DmArmsSorted, LiftSorted, CmSorted, ArmsSorted, FunSorted, RefinesSorted}
use Rattle.fst_program.specs.Places.{is_hidden, TmShown, TmsShown}
use Rattle.fst_program.specs.Discipline.{body_scope}
use Rattle.fst_erasure.specs.ErasureLaws.{ErasedSorted}
use Rattle.fst_erasure.proofs.Shown.{ArgsShown, CmShown, ArmsShown, ghosts-apart}
use Rattle.fst_erasure.proofs.ErasureLemmas.{erased-there}
use Rattle.fst_program.proofs.SortedTerms.{and-left, and-right}

-- the sorts of the variables that aren't ghost ones
abbrev shown_sorts : Scope → List Srt → List Srt
shown_sorts [] Ss = Ss
shown_sorts (g ∷ scope) [] = []
shown_sorts (g ∷ scope) (S ∷ Ss) = if g then shown_sorts scope Ss else S ∷ shown_sorts scope Ss

pub and-both : (a b : Bool) → IsTrue a → IsTrue b → IsTrue (a && b)
and-both true b h k = k
and-both false b h k = h

-- ---- terms that are run

module _ (A B : (k : ℕ) → List Srt → (S : Srt) → Type 0) where
  var-sorted : (scope : Scope) (Ss : List Srt) (i : ℕ) (S : Srt) → is_hidden scope i ≡ false → slice_get Ss i ≡ Some S → slice_get (shown_sorts scope Ss) (kept scope i) ≡ Some S
  var-sorted [] Ss i S h k = k
  var-sorted (g ∷ scope) [] zero S h k = k
  var-sorted (g ∷ scope) [] (suc i) S h k = cc
  var-sorted (true ∷ scope) (T ∷ Ss) zero S h k = cc
  var-sorted (false ∷ scope) (T ∷ Ss) zero S h k = k
  var-sorted (true ∷ scope) (T ∷ Ss) (suc i) S h k = var-sorted scope Ss i S h k
  var-sorted (false ∷ scope) (T ∷ Ss) (suc i) S h k = var-sorted scope Ss i S h k

  mutual
    term-sorted : (scope : Scope) (Ss : List Srt) (t : Tm) (S : Srt) → TmShown scope t → TmSorted A Ss t S → IsTrue (is_run t) → TmSorted B (shown_sorts scope Ss) (erased_term scope t) S × IsTrue (is_run (erased_term scope t))
    term-sorted scope Ss (t_var i) S h k r = (var-sorted scope Ss i S h k, refl)
    term-sorted scope Ss (t_int n) S h k r = (k, refl)
    term-sorted scope Ss (t_bool b) S h k r = (k, refl)
    term-sorted scope Ss t_unit S h k r = (k, refl)
    term-sorted scope Ss (t_prim o T ts at) S h k r = let p = terms-sorted scope Ss ts k.1.0 h k.1.1.1 (and-right (not (is_inner o)) (are_run ts) r) in
        ((k.0, (k.1.0, (k.1.1.0, p.0))), and-both (not (is_inner o)) _ (and-left (not (is_inner o)) (are_run ts) r) p.1)
    term-sorted scope Ss (t_if c t u) S h k r =
        let rest = and-left (is_run c && is_run t) (is_run u) r in
        let p = term-sorted scope Ss c s_bool h.0 k.0 (and-left (is_run c) (is_run t) rest) in
        let q = term-sorted scope Ss t S h.1 k.1 (and-right (is_run c) (is_run t) rest) in
        let w = term-sorted scope Ss u S h.2 k.2 (and-right (is_run c && is_run t) (is_run u) r) in
        ((p.0, q.0, w.0), and-both _ _ (and-both _ _ p.1 q.1) w.1)
    term-sorted scope Ss (t_app j T ts) S h k r = cc
    term-sorted scope Ss (t_let x t u) S h k r = cc

    terms-sorted : (scope : Scope) (Ss : List Srt) (ts : Tms) (Ts : List Srt) → TmsShown scope ts → TmsSorted A Ss ts Ts → IsTrue (are_run ts) → TmsSorted B (shown_sorts scope Ss) (erased_terms scope ts) Ts × IsTrue (are_run (erased_terms scope ts))
    terms-sorted scope Ss t_end Ts h k r = (k, refl)
    terms-sorted scope Ss (t_more t ts) Ts h k r =
        let p = term-sorted scope Ss t k.0 h.0 k.1.1.1 (and-left (is_run t) (are_run ts) r) in
        let q = terms-sorted scope Ss ts k.1.0 h.1 k.1.1.2 (and-right (is_run t) (are_run ts) r) in
        ((k.0, (k.1.0, (k.1.1.0, p.0, q.0))), and-both _ _ p.1 q.1)

  -- a term that is run holds no application, so that what applies is of no account
  mutual
    run-any : (Ss : List Srt) (t : Tm) (S : Srt) → TmSorted A Ss t S → IsTrue (is_run t) → TmSorted B Ss t S
    run-any Ss (t_var i) S k r = k
    run-any Ss (t_int n) S k r = k
    run-any Ss (t_bool b) S k r = k
    run-any Ss t_unit S k r = k
    run-any Ss (t_prim o T ts at) S k r = (k.0, (k.1.0, (k.1.1.0, runs-any Ss ts k.1.0 k.1.1.1 (and-right (not (is_inner o)) (are_run ts) r))))
    run-any Ss (t_if c t u) S k r =
        let rest = and-left (is_run c && is_run t) (is_run u) r in
        (run-any Ss c s_bool k.0 (and-left (is_run c) (is_run t) rest), run-any Ss t S k.1 (and-right (is_run c) (is_run t) rest), run-any Ss u S k.2 (and-right (is_run c && is_run t) (is_run u) r))
    run-any Ss (t_app j T ts) S k r = cc
    run-any Ss (t_let x t u) S k r = cc

    runs-any : (Ss : List Srt) (ts : Tms) (Ts : List Srt) → TmsSorted A Ss ts Ts → IsTrue (are_run ts) → TmsSorted B Ss ts Ts
    runs-any Ss t_end Ts k r = k
    runs-any Ss (t_more t ts) Ts k r = (k.0, (k.1.0, (k.1.1.0, run-any Ss t k.0 k.1.1.1 (and-left (is_run t) (are_run ts) r), runs-any Ss ts k.1.0 k.1.1.2 (and-right (is_run t) (are_run ts) r))))

-- ---- definitions' texts

module _ (P Q : Prog) (f : Option FSorts) (g : Option GSorts) where
  term-any : (Ss : List Srt) (t : Tm) (S : Srt) → RunSorted P Ss t S → RunSorted Q Ss t S
  term-any Ss t S h = (run-any (Applies P) (Applies Q) Ss t S h.0 h.1, h.1)

  run-f-any : (h : Option FSorts) (Ss : List Srt) (t : Tm) (R : Srt) → if_there h (λ h. RunSorted P Ss t h.input × (R ≡ h.result)) ⊥ → if_there h (λ h. RunSorted Q Ss t h.input × (R ≡ h.result)) ⊥
  run-f-any None Ss t R k = k
  run-f-any (Some x) Ss t R k = (term-any Ss t x.input k.0, k.1)

  run-g-any : (h : Option GSorts) (Ss : List Srt) (t u : Tm) (R : Srt) → if_there h (λ h. RunSorted P Ss t h.value × RunSorted P Ss u h.input × (R ≡ h.result)) ⊥ → if_there h (λ h. RunSorted Q Ss t h.value × RunSorted Q Ss u h.input × (R ≡ h.result)) ⊥
  run-g-any None Ss t u R k = k
  run-g-any (Some x) Ss t u R k = (term-any Ss t x.value k.0, term-any Ss u x.input k.1, k.2)

  mutual
    dm-any : (Ss : List Srt) (d : Dm) (R : Srt) → DmSorted P f g Ss d R → DmSorted Q f g Ss d R
    dm-any Ss (d_ret t) R h = term-any Ss t R h
    dm-any Ss (d_let x d1 d2) R h = (h.0, (dm-any Ss d1 h.0 h.1.0, dm-any (h.0 ∷ Ss) d2 R h.1.1))
    dm-any Ss (d_if t d1 d2) R h = (term-any Ss t s_bool h.0, dm-any Ss d1 R h.1, dm-any Ss d2 R h.2)
    dm-any Ss (d_match t arms) R h = (h.0, (term-any Ss t h.0 h.1.0, dm-arms-any Ss h.0 arms R h.1.1))
    dm-any Ss (d_run_f t) R h = run-f-any f Ss t R h
    dm-any Ss (d_run_g t u) R h = run-g-any g Ss t u R h

    dm-arms-any : (Ss : List Srt) (S : Srt) (arms : DmArms) (R : Srt) → DmArmsSorted P f g Ss S arms R → DmArmsSorted Q f g Ss S arms R
    dm-arms-any Ss S d_end R h = tt
    dm-arms-any Ss S (d_arm c xs d more) R h = (h.0, h.1, dm-any (part_sorts c S ++ Ss) d R h.2, dm-arms-any Ss S more R h.3)

-- ---- core text

module _ (P : Prog) where
  abbrev shown_params : List Prm → List Prm
  shown_params ps = map (erased_param P) (filter (λ p. not p.hidden) ps)

  abbrev sorts_of : List Prm → List Srt
  sorts_of ps = map (λ p. p.sort) ps

  args-sorted : (scope : Scope) (Ss : List Srt) (ps : List Prm) (ts : Tms) → ArgsShown scope ps ts → TmsSorted (Applies P) Ss ts (sorts_of ps) → IsTrue (are_run ts)
      → TmsSorted (Applies (erased P)) (shown_sorts scope Ss) (erased_args scope ps ts) (sorts_of (shown_params ps)) × IsTrue (are_run (erased_args scope ps ts))
  args-sorted scope Ss [] t_end h k r = (refl, refl)
  args-sorted scope Ss [] (t_more t ts) h k r = absurd h
  args-sorted scope Ss (p ∷ ps) t_end h k r = absurd h
  args-sorted scope Ss (p ∷ ps) (t_more t ts) h k r =
      let first : p.sort ≡ k.0 = cc (k.1.1.0) in
      let others : sorts_of ps ≡ k.1.0 = cc (k.1.1.0) in
      go p.hidden refl (h.0) (subst (TmSorted (Applies P) Ss t) (sym first) k.1.1.1) (args-sorted scope Ss ps ts h.1 (subst (TmsSorted (Applies P) Ss ts) (sym others) k.1.1.2) (and-right (is_run t) (are_run ts) r))
    where
      go : (x : Bool) → p.hidden ≡ x → (p.hidden ≡ false → TmShown scope t) → TmSorted (Applies P) Ss t p.sort
          → TmsSorted (Applies (erased P)) (shown_sorts scope Ss) (erased_args scope ps ts) (sorts_of (shown_params ps)) × IsTrue (are_run (erased_args scope ps ts))
          → TmsSorted (Applies (erased P)) (shown_sorts scope Ss) (if x then erased_args scope ps ts else t_more (erased_term scope t) (erased_args scope ps ts)) (sorts_of (map (erased_param P) (if not x then p ∷ filter (λ p. not p.hidden) ps else filter (λ p. not p.hidden) ps)))
          × IsTrue (are_run (if x then erased_args scope ps ts else t_more (erased_term scope t) (erased_args scope ps ts)))
      go true q s k w = w
      go false q s k w = let u = term-sorted (Applies P) (Applies (erased P)) scope Ss t p.sort (s q) k (and-left (is_run t) (are_run ts) r) in
          ((p.sort, (sorts_of (shown_params ps), (refl, u.0, w.0))), and-both _ _ u.1 w.1)

  shown-under : (c : Con) (xs : List (List ℕ)) (T : Srt) (scope : Scope) (Ss : List Srt) → length xs ≡ length (part_sorts c T) → shown_sorts (map (λ x. false) xs ++ scope) (part_sorts c T ++ Ss) ≡ part_sorts c T ++ shown_sorts scope Ss
  shown-under c xs T scope Ss q = go xs (part_sorts c T) q
    where
      go : (xs : List (List ℕ)) (Ts : List Srt) → length xs ≡ length Ts → shown_sorts (map (λ x. false) xs ++ scope) (Ts ++ Ss) ≡ Ts ++ shown_sorts scope Ss
      go [] [] q = refl
      go [] (T ∷ Ts) q = cc
      go (x ∷ xs) [] q = cc
      go (x ∷ xs) (T ∷ Ts) q = ap (λ Us. T ∷ Us) (go xs Ts (omega (arith, q)))

  run-sorted : (scope : Scope) (Ss : List Srt) (t : Tm) (S : Srt) → TmShown scope t → RunSorted P Ss t S → RunSorted (erased P) (shown_sorts scope Ss) (erased_term scope t) S
  run-sorted scope Ss t S h k = term-sorted (Applies P) (Applies (erased P)) scope Ss t S h k.0 k.1

  mutual
    text-sorted : (scope : Scope) (Ss : List Srt) (x : Option ℕ) (c : Cm) (S : Srt) → CmShown P scope c → CmSorted P Ss x c S → CmSorted (erased P) (shown_sorts scope Ss) x (erased_text P scope c) S
    text-sorted scope Ss x (c_ret t) S h k = (k.0, run-sorted scope Ss t S h k.1)
    text-sorted scope Ss x (c_let y c1 c2) S h k = (k.0, (text-sorted scope Ss None c1 k.0 h.0 k.1.0, text-sorted (false ∷ scope) (k.0 ∷ Ss) x c2 S h.1 k.1.1))
    text-sorted scope Ss x (c_bind E y c1 c2) S h k = (k.0, (k.1.0, (text-sorted scope Ss x c1 k.1.0 h.0 k.1.1.0, text-sorted (false ∷ scope) (k.1.0 ∷ Ss) x c2 S h.1 k.1.1.1)))
    text-sorted scope Ss x (c_ghost y c1 c2) S h k = text-sorted (true ∷ scope) (k.0 ∷ Ss) x c2 S h k.1.1
    text-sorted scope Ss x (c_assert phi at c) S h k = text-sorted scope Ss x c S h k.1
    text-sorted scope Ss x (c_if t c1 c2) S h k = (run-sorted scope Ss t s_bool h.0 k.0, text-sorted scope Ss x c1 S h.1 k.1, text-sorted scope Ss x c2 S h.2 k.2)
    text-sorted scope Ss x (c_match t at arms) S h k = (k.0, (run-sorted scope Ss t k.0 h.0 k.1.0, arms-sorted scope Ss x k.0 arms S h.1 k.1.1))
    text-sorted scope Ss x (c_call j ts at) S h k = go (fun_at P j) refl h k
      where
        go : (o : Option Fn) → fun_at P j ≡ o → if_there o (λ f. (is_ghost f.effect ≡ false) × ArgsShown scope f.params ts) ⊥ → if_there o (λ f. (x ≡ place_of f.effect) × (S ≡ f.sort) × TmsSorted (Applies P) Ss ts (map (λ p. p.sort) f.params) × IsTrue (are_run ts)) ⊥
            → CmSorted (erased P) (shown_sorts scope Ss) x (erased_text P scope (c_call j ts at)) S
        go None q m n = absurd m
        go (Some f) q m n =
            let there = erased-there P j f q m.0 in
            let ps : params_of P j ≡ f.params = ap (λ o. if_there o (λ f. f.params) []) q in
            let w = args-sorted scope Ss f.params ts m.1 n.2 n.3 in
            subst (λ o. if_there o (λ f. (x ≡ place_of f.effect) × (S ≡ f.sort) × TmsSorted (Applies (erased P)) (shown_sorts scope Ss) (erased_args scope (params_of P j) ts) (map (λ p. p.sort) f.params) × IsTrue (are_run (erased_args scope (params_of P j) ts))) ⊥) (sym there)
            (n.0, n.1, subst (λ ps. TmsSorted (Applies (erased P)) (shown_sorts scope Ss) (erased_args scope ps ts) (sorts_of (shown_params f.params))) (sym ps) w.0, subst (λ ps. IsTrue (are_run (erased_args scope ps ts))) (sym ps) w.1)
    text-sorted scope Ss x (c_reify E T c t) S h k = go (text-sorted scope Ss (Some E) c T h.0 k.2) (effect_at P E) refl k.3
      where
        go : CmSorted (erased P) (shown_sorts scope Ss) (Some E) (erased_text P scope c) T → (o : Option EffDef) → effect_at P E ≡ o → if_there o (λ d. RunSorted P Ss t d.input) ⊥ → CmSorted (erased P) (shown_sorts scope Ss) x (erased_text P scope (c_reify E T c t)) S
        go ih None q m = absurd m
        go ih (Some d) q m = (k.0, k.1, ih, subst (λ o. if_there o (λ d. RunSorted (erased P) (shown_sorts scope Ss) (erased_term scope t) d.input) ⊥) (sym q) (run-sorted scope Ss t d.input h.1 m))
    text-sorted scope Ss x (c_reflect E T y c) S h k = go (λ d m. text-sorted (false ∷ scope) (d.input ∷ Ss) None c (result_at P E T) h m) (effect_at P E) refl k.2
      where
        go : ((d : EffDef) → CmSorted P (d.input ∷ Ss) None c (result_at P E T) → CmSorted (erased P) (d.input ∷ shown_sorts scope Ss) None (erased_text P (false ∷ scope) c) (result_at P E T)) → (o : Option EffDef) → effect_at P E ≡ o → if_there o (λ d. CmSorted P (d.input ∷ Ss) None c (result_at P E T)) ⊥ → CmSorted (erased P) (shown_sorts scope Ss) x (erased_text P scope (c_reflect E T y c)) S
        go ih None q m = absurd m
        go ih (Some d) q m = (k.0, k.1, subst (λ o. if_there o (λ d. CmSorted (erased P) (d.input ∷ shown_sorts scope Ss) None (erased_text P (false ∷ scope) c) (result_at P E T)) ⊥) (sym q) (ih d m))
    text-sorted scope Ss x (c_return E c) S h k = (k.0, text-sorted scope Ss None c S h k.1)
    text-sorted scope Ss x (c_lift n c) S h k = go (λ l m. text-sorted scope Ss (Some l.from) c S h m) (slice_get P.lifts n) refl k
      where
        go : ((l : LftDef) → CmSorted P Ss (Some l.from) c S → CmSorted (erased P) (shown_sorts scope Ss) (Some l.from) (erased_text P scope c) S) → (o : Option LftDef) → slice_get P.lifts n ≡ o → if_there o (λ l. (x ≡ Some l.«to») × CmSorted P Ss (Some l.from) c S) ⊥ → CmSorted (erased P) (shown_sorts scope Ss) x (erased_text P scope (c_lift n c)) S
        go ih None q m = absurd m
        go ih (Some l) q m = subst (λ o. if_there o (λ l. (x ≡ Some l.«to») × CmSorted (erased P) (shown_sorts scope Ss) (Some l.from) (erased_text P scope c) S) ⊥) (sym q) (m.0, ih l m.1)

    arms-sorted : (scope : Scope) (Ss : List Srt) (x : Option ℕ) (T : Srt) (arms : CmArms) (S : Srt) → ArmsShown P scope arms → ArmsSorted P Ss x T arms S → ArmsSorted (erased P) (shown_sorts scope Ss) x T (erased_arms P scope arms) S
    arms-sorted scope Ss x T c_end S h k = tt
    arms-sorted scope Ss x T (c_arm c ys body more) S h k = (
      k.0,
      k.1,
      subst (λ Us. CmSorted (erased P) Us x (erased_text P (map (λ x. false) ys ++ scope) body) S) (shown-under c ys T scope Ss k.1) (text-sorted (map (λ x. false) ys ++ scope) (part_sorts c T ++ Ss) x body S h.1 k.2),
      arms-sorted scope Ss x T more S h.2 k.3,
    )

  -- ---- functions and programs

  refines-sorted : (Ss : List Srt) (ps : List Prm) → RefinesSorted (erased P) Ss (shown_params ps)
  refines-sorted Ss [] = tt
  refines-sorted Ss (p ∷ ps) = go (λ Us. refines-sorted Us ps) p.hidden
    where
      go : ((Us : List Srt) → RefinesSorted (erased P) Us (shown_params ps)) → (x : Bool) → RefinesSorted (erased P) Ss (map (erased_param P) (if not x then p ∷ filter (λ p. not p.hidden) ps else filter (λ p. not p.hidden) ps))
      go ih true = ih Ss
      go ih false = (tt, ih (p.sort ∷ Ss))

  turned-sorts : (ps : List Prm) (scope : Scope) (Ss : List Srt) → shown_sorts (reverse_aux (map (λ p. p.hidden) ps) scope) (reverse_aux (sorts_of ps) Ss) ≡ reverse_aux (sorts_of (shown_params ps)) (shown_sorts scope Ss)
  turned-sorts [] scope Ss = refl
  turned-sorts (p ∷ ps) scope Ss = turned-sorts ps (p.hidden ∷ scope) (p.sort ∷ Ss) ∙ go p.hidden
    where
      go : (x : Bool) → reverse_aux (sorts_of (shown_params ps)) (if x then shown_sorts scope Ss else p.sort ∷ shown_sorts scope Ss)
          ≡ reverse_aux (sorts_of (map (erased_param P) (if not x then p ∷ filter (λ p. not p.hidden) ps else filter (λ p. not p.hidden) ps))) (shown_sorts scope Ss)
      go true = refl
      go false = refl

  fun-sorted : (f : Fn) → FunSorted P f → CmShown P (body_scope f) f.body → FunSorted (erased P) (erased_fun P f)
  fun-sorted f h k = record {
    refines = refines-sorted [] f.params;
    needs = tt;
    gives = tt;
    measures = tt;
    body = subst (λ Us. CmSorted (erased P) Us (place_of f.effect) (erased_text P (body_scope f) f.body) f.sort) (turned-sorts f.params [] []) (text-sorted (body_scope f) (reverse (sorts_of f.params)) (place_of f.effect) f.body f.sort k h.body);
  }

  -- each function of an erased program is an erased one
  pub erased-from : (k : ℕ) (f : Fn) → fun_at (erased P) k ≡ Some f → (g : Fn) × ((fun_at P k ≡ Some g) × (is_ghost g.effect ≡ false) × (f ≡ erased_fun P g))
  erased-from k f e = go (fun_at P k) refl (sym (at P.funs k) ∙ e)
    where
      at : (fs : List (Option Fn)) (k : ℕ) → if_there (slice_get (map (λ f. if_there f (unless_ghost P) None) fs) k) (λ f. f) None ≡ if_there (if_there (slice_get fs k) (λ f. f) None) (unless_ghost P) None
      at [] zero = refl
      at [] (suc k) = refl
      at (x ∷ fs) zero = refl
      at (x ∷ fs) (suc k) = at fs k

      some : (g : Fn) (x : Bool) → is_ghost g.effect ≡ x → (if x then None else Some (erased_fun P g)) ≡ Some f → (is_ghost g.effect ≡ false) × (f ≡ erased_fun P g)
      some g true q e = cc
      some g false q e = let same : erased_fun P g ≡ f = cc in (q, sym same)

      go : (o : Option Fn) → fun_at P k ≡ o → if_there o (unless_ghost P) None ≡ Some f → (g : Fn) × ((fun_at P k ≡ Some g) × (is_ghost g.effect ≡ false) × (f ≡ erased_fun P g))
      go None q e = cc
      go (Some g) q e = let r = some g (is_ghost g.effect) refl e in (g, (q, r.0, r.1))

  lift-sorted : (l : LftDef) → LiftSorted P l → LiftSorted (erased P) l
  lift-sorted l = go (effect_at P l.from) (effect_at P l.«to»)
    where
      go : (o u : Option EffDef) → if_there o (λ lower. if_there u (λ upper. DmSorted P (Some (record { input = lower.input; result = lower.result })) None (upper.input ∷ []) l.text upper.result) ⊥) ⊥
          → if_there o (λ lower. if_there u (λ upper. DmSorted (erased P) (Some (record { input = lower.input; result = lower.result })) None (upper.input ∷ []) l.text upper.result) ⊥) ⊥
      go None u h = h
      go (Some a) None h = h
      go (Some a) (Some b) h = dm-any P (erased P) (Some (record { input = a.input; result = a.result })) None (b.input ∷ []) l.text b.result h

  -- an erased program is well sorted
  pub erased-sorted : ErasedSorted P
  erased-sorted h disciplined = let apart = ghosts-apart P h disciplined in record {
    effects = λ E d q. (let k = h.effects E d q in record { input_without_a = k.input_without_a; input_without_b = k.input_without_b; result_without_b = k.result_without_b; returns = dm-any P (erased P) None None (d.input ∷ s_a ∷ []) d.ret d.result k.returns; binds = dm-any P (erased P) (Some (record { input = d.input; result = d.result })) (Some (record { value = s_a; input = d.input; result = put_sorts s_b s_b d.result })) (d.input ∷ []) d.bind (put_sorts s_b s_b d.result) k.binds });
    lifts = λ n l q. lift-sorted l (h.lifts n l q);
    funs = λ k f q. (let r = erased-from k f q in subst (FunSorted (erased P)) (sym r.1.2) (fun-sorted r.0 (h.funs k r.0 r.1.0) (apart k r.0 r.1.0 r.1.1)));
  }
