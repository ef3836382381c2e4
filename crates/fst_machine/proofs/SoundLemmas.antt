-- Sound code is what a run of the machine relies on.
use Rattle.std.proofs.Common.{◌≡◌, ℕ, zero, suc, ◌+◌, Bool, true, false, not, ◌&&◌, List, [], ◌∷◌, length, slice_get, Option, Some, None, IsTrue, refl, sym}
use Rattle.std.specs.List.{list_all}
use Rattle.fst_program.specs.Texts.{Cm, CmArms, c_ret, c_let, c_bind, c_ghost, c_assert, c_if, c_match, c_call, c_reify, c_reflect, c_return, c_lift, c_end, c_arm, Prm, Fn, Prog, if_there, is_ghost}
use Rattle.fst_program.proofs.SortedTerms.{and-left, and-right}
use Rattle.fst_code.specs.Within.{term_within, terms_within}
use Rattle.fst_code.specs.Sound.{is_effect, is_lift, is_there, formula_within, text_sound, arms_sound, param_sound, params_sound, fun_sound, effect_sound, lift_sound, is_sound}
use Rattle.fst_machine.specs.Turns.{IsCode, AreCode, NoneHidden, CodeProg}

not-false : (b : Bool) → IsTrue (not b) → b ≡ false
not-false true h = sym h
not-false false h = refl

module _ (P : Prog) where
  mutual
    text-code : (n : ℕ) (c : Cm) → IsTrue (text_sound P n c) → IsCode P c
    text-code n (c_ret t) h = tt
    text-code n (c_let x c1 c2) h = (text-code n c1 (and-left _ _ h), text-code (suc n) c2 (and-right _ _ h))
    text-code n (c_bind E x c1 c2) h = let k = and-left (is_effect P E && text_sound P n c1) (text_sound P (suc n) c2) h in (text-code n c1 (and-right (is_effect P E) (text_sound P n c1) k), text-code (suc n) c2 (and-right (is_effect P E && text_sound P n c1) (text_sound P (suc n) c2) h), and-left (is_effect P E) (text_sound P n c1) k)
    text-code n (c_ghost x c1 c2) h = cc
    text-code n (c_assert phi at c) h = cc
    text-code n (c_if t c1 c2) h = (text-code n c1 (and-right (term_within n 0 t) (text_sound P n c1) (and-left (term_within n 0 t && text_sound P n c1) (text_sound P n c2) h)), text-code n c2 (and-right (term_within n 0 t && text_sound P n c1) (text_sound P n c2) h))
    text-code n (c_match t at arms) h = arms-code n arms (and-right (term_within n 0 t) (arms_sound P n arms) h)
    text-code n (c_call j ts at) h = and-left (is_there P j) (terms_within n 0 ts) h
    text-code n (c_reify E S c t) h = text-code n c (and-right (is_effect P E) (text_sound P n c) (and-left (is_effect P E && text_sound P n c) (term_within n 0 t) h))
    text-code n (c_reflect E S x c) h = text-code (suc n) c (and-right (is_effect P E) (text_sound P (suc n) c) h)
    text-code n (c_return E c) h = (text-code n c (and-right (is_effect P E) (text_sound P n c) h), and-left (is_effect P E) (text_sound P n c) h)
    text-code n (c_lift l c) h = (text-code n c (and-right (is_lift P l) (text_sound P n c) h), and-left (is_lift P l) (text_sound P n c) h)

    arms-code : (n : ℕ) (arms : CmArms) → IsTrue (arms_sound P n arms) → AreCode P arms
    arms-code n c_end h = tt
    arms-code n (c_arm c xs body more) h = (text-code (length xs + n) body (and-left (text_sound P (length xs + n) body) (arms_sound P n more) h), arms-code n more (and-right (text_sound P (length xs + n) body) (arms_sound P n more) h))

  params-shown : (n : ℕ) (ps : List Prm) → IsTrue (params_sound P n ps) → NoneHidden ps
  params-shown n [] h = tt
  params-shown n (p ∷ ps) h = (not-false p.hidden (and-left (not p.hidden) (formula_within P (suc n) p.refine) (and-left (param_sound P (suc n) p) (params_sound P (suc n) ps) h)), params-shown (suc n) ps (and-right (param_sound P (suc n) p) (params_sound P (suc n) ps) h))

  fun-code : (f : Fn) → IsTrue (fun_sound P f) → (is_ghost f.effect ≡ false) × IsCode P f.body × NoneHidden f.params
  fun-code f h =
      let a = and-left _ _ h in
      let b = and-left _ _ a in
      let c = and-left _ _ b in
      (not-false (is_ghost f.effect) (and-left _ _ c), text-code (length f.params) f.body (and-right _ _ h), params-shown 0 f.params (and-right _ _ a))

  all-there : (p : Fn → Bool) (fs : List (Option Fn)) (k : ℕ) (f : Fn) → IsTrue (list_all (λ f. if_there f p true) fs) → if_there (slice_get fs k) (λ f. f) None ≡ Some f → IsTrue (p f)
  all-there p [] zero f h q = cc
  all-there p [] (suc k) f h q = cc
  all-there p (None ∷ fs) zero f h q = cc
  all-there p (Some g ∷ fs) zero f h q = let same : g ≡ f = cc in rw (sym same) (and-left (p g) (list_all (λ f. if_there f p true) fs) h)
  all-there p (x ∷ fs) (suc k) f h q = all-there p fs k f (and-right (if_there x p true) (list_all (λ f. if_there f p true) fs) h) q

-- each function of sound code that is there is code
pub sound-code : (P : Prog) → IsTrue (is_sound P) → CodeProg P
sound-code P h k f q = fun-code P f (all-there P (fun_sound P) P.funs k f (and-right (list_all (effect_sound P) P.effects && list_all (lift_sound P) P.lifts) _ h) q)
