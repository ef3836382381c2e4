-- A built program that is erased is sound code.
use Rattle.std.proofs.Common.{◌≡◌, ℕ, zero, suc, ◌<◌, Bool, true, false, not, ◌&&◌, nat_lt, List, [], ◌∷◌, map, reverse, length, slice_get, Option, Some, None, IsTrue, refl, sym, ap, ◌∙◌, subst, arith}
use Rattle.std.specs.List.{list_all}
use Rattle.std.proofs.lemmas.Bool.{lt-ltb}
use Rattle.std.proofs.lemmas.List.{length-reverse, length-map}
use Rattle.fst_base.specs.Sorts.{Srt, s_bool}
use Rattle.fst_base.specs.declared.op.Op.TheVariants as op
use Rattle.fst_terms.specs.Terms.{Tm, t_var, t_bool, t_unit, t_prim, t_if, t_end, t_more}
use Rattle.fst_terms.specs.Propositional.{TmPropositional}
use Rattle.fst_program.specs.Erasure.{unless_ghost, erased}
use Rattle.fst_program.specs.Texts.{Cm, c_ret, c_let, c_if, Prm, Fn, Prog, if_there, fun_at, is_ghost}
use Rattle.fst_program.specs.declared.effect.Effect.{Effect}
use Rattle.fst_program.specs.declared.effect.Effect.TheVariants as effect
use Rattle.fst_code.specs.Within.{term_within}
use Rattle.fst_code.specs.Sound.{effect_within, text_sound, params_sound, fun_sound, effect_sound, lift_sound, is_sound}
use Rattle.fst_top.specs.Built.{CmBuilt, ParamsBuilt, FnBuilt, IsBuilt, sorts_of}
use Rattle.fst_top.specs.Code.{without_refinement, without_clauses}
use Rattle.fst_top.proofs.RunLemmas.{fun-erased}

both : (a b : Bool) → IsTrue a → IsTrue b → IsTrue (a && b)
both true b p q = q
both false b p q = p

-- ---- texts

there-below : {A : Type 0} (xs : List A) (i : ℕ) (x : A) → slice_get xs i ≡ Some x → i < length xs
there-below [] zero x e = cc
there-below [] (suc i) x e = cc
there-below (y ∷ ys) zero x e = omega arith
there-below (y ∷ ys) (suc i) x e = let h = there-below ys i x e in omega arith

term-sound : (Ss : List Srt) (t : Tm) (S : Srt) → TmPropositional Ss t S → IsTrue (term_within (length Ss) 0 t)
term-sound Ss (t_var i) S h = lt-ltb i (length Ss) (there-below Ss i S h)
term-sound Ss (t_bool b) S h = refl
term-sound Ss t_unit S h = refl
term-sound Ss (t_prim op.Eq T (t_more t (t_more u t_end)) at) S h = both _ _ (term-sound Ss t h.2.0 h.2.1.1) (both _ _ (term-sound Ss u h.2.0 h.2.1.2) refl)
term-sound Ss (t_if c t u) S h = both _ _ (both _ _ (term-sound Ss c s_bool h.1) (term-sound Ss t s_bool h.2)) (term-sound Ss u s_bool h.3)
term-sound Ss t S h = absurd h

built-text : (P : Prog) (Ss : List Srt) (c : Cm) (S : Srt) → CmBuilt Ss c S → IsTrue (text_sound P (length Ss) c)
built-text P Ss (c_ret t) S h = term-sound Ss t S h
built-text P Ss (c_let x (c_ret t) c) S h = both _ _ (term-sound Ss t h.0 h.1.0) (built-text P (h.0 ∷ Ss) c S h.1.1)
built-text P Ss (c_if t c d) S h = both _ _ (both _ _ (term-sound Ss t s_bool h.0) (built-text P Ss c S h.1)) (built-text P Ss d S h.2)
built-text P Ss c S h = absurd h

-- ---- functions

shown : (b : Bool) → b ≡ false → IsTrue (not b)
shown true q = sym q
shown false q = refl

built-params : (P : Prog) (n : ℕ) (ps : List Prm) → ParamsBuilt ps → IsTrue (params_sound P n (map without_refinement ps))
built-params P n [] h = refl
built-params P n (p ∷ ps) h = both _ _ (both _ _ (shown p.hidden h.1) refl) (built-params P (suc n) ps h.3)

pure-within : (P : Prog) (x : Effect) → x ≡ effect.Pure → IsTrue (not (is_ghost x) && effect_within P x)
pure-within P x q = rw q refl

built-fun : (P : Prog) (k : ℕ) (f : Fn) → FnBuilt f → f.group ≡ k → k < length P.funs → IsTrue (fun_sound P (without_clauses f))
built-fun P k f h g lt =
    let n : length (sorts_of f.params) ≡ length (map without_refinement f.params) = length-reverse (map (λ (p : Prm). p.sort) f.params) ∙ length-map f.params (λ (p : Prm). p.sort) ∙ sym (length-map f.params without_refinement) in
    both _ _ (both _ _ (both _ _ (pure-within P f.effect h.pure) (subst (λ i. IsTrue (nat_lt i (length P.funs))) (sym g) (lt-ltb k (length P.funs) lt))) (built-params P 0 f.params h.params))
    (subst (λ n. IsTrue (text_sound P n f.body)) n (built-text P (sorts_of f.params) f.body f.sort h.body))

-- ---- programs

all-sound : (p : Option Fn → Bool) (fs : List (Option Fn)) → ((k : ℕ) (x : Option Fn) → slice_get fs k ≡ Some x → IsTrue (p x)) → IsTrue (list_all p fs)
all-sound p [] h = refl
all-sound p (x ∷ fs) h = both (p x) (list_all p fs) (h zero x refl) (all-sound p fs (λ k y e. h (suc k) y e))

map-get : {A B : Type 0} (g : A → B) (xs : List A) (k : ℕ) (y : B) → slice_get (map g xs) k ≡ Some y → (x : A) × ((slice_get xs k ≡ Some x) × (g x ≡ y))
map-get g [] zero y e = cc
map-get g [] (suc k) y e = cc
map-get g (x ∷ xs) zero y e = (x, (refl, cc))
map-get g (x ∷ xs) (suc k) y e = map-get g xs k y e

pub built-sound : (P : Prog) → IsBuilt P → IsTrue (is_sound (erased P))
built-sound P built =
    both _ _ (both _ _ (subst (λ ds. IsTrue (list_all (effect_sound (erased P)) ds)) (sym built.effects) refl) (subst (λ ls. IsTrue (list_all (lift_sound (erased P)) ls)) (sym built.lifts) refl))
    (all-sound (λ f. if_there f (fun_sound (erased P)) true) (erased P).funs λ k y e.
    let m = map-get (λ f. if_there f (unless_ghost P) None) P.funs k y e in
    subst (λ y. IsTrue (if_there y (fun_sound (erased P)) true)) m.1.1 (go k m.0 m.1.0))
  where
    long : length (erased P).funs ≡ length P.funs
    long = length-map P.funs (λ f. if_there f (unless_ghost P) None)

    go : (k : ℕ) (x : Option Fn) → slice_get P.funs k ≡ Some x → IsTrue (if_there (if_there x (unless_ghost P) None) (fun_sound (erased P)) true)
    go k None e = refl
    go k (Some f) e =
        let at : fun_at P k ≡ Some f = ap (λ o. if_there o (λ f. f) None) e in
        let lt : k < length P.funs = there-below P.funs k (Some f) e in
        let below : k < length (erased P).funs = omega (arith, lt, long) in
        subst (λ o. IsTrue (if_there o (fun_sound (erased P)) true)) (sym (fun-erased P f (built.funs k f at))) (built-fun (erased P) k f (built.funs k f at) (built.groups k f at) below)
