-- For each sentence of the discipline a program that doesn't obey it; and the table of paths at worked lifts.
use Rattle.std.proofs.Common.{◌≡◌, ◌⊎◌, inl, inr, ℕ, ◌<◌, true, false, List, [], ◌∷◌, Option, Some, None, refl, arith}
use Rattle.fst_base.specs.Sorts.{s_unit, s_bool, s_int}
use Rattle.fst_terms.specs.Terms.{Tm, t_bool, t_app, row}
use Rattle.fst_program.specs.declared.effect.Effect.{Effect}
use Rattle.fst_program.specs.declared.effect.Effect.TheVariants as effect
use Rattle.fst_program.specs.Texts.{d_ret, Cm, c_ret, c_ghost, c_assert, c_match, c_end, Prm, EffDef, LftDef, Fn, Prog}
use Rattle.fst_program.specs.LiftPaths.{path}
use Rattle.fst_program.specs.Discipline.{IsDisciplined}
use Rattle.fst_program.proofs.WorkedPrograms.{word_f, word_g, word_m, word_s, word_x, v, num, call, param, fun_of, only}
use Rattle.fst_program.proofs.WorkedEffects.{state}

abbrev one_fun : Fn → Prog
one_fun f = record { effects = []; lifts = []; funs = only (f ∷ []) }

abbrev with_effects : List EffDef → List LftDef → Prog
with_effects ds ls = record { effects = ds; lifts = ls; funs = [] }

-- fun f (x : int) : PURE int ..
abbrev pure_fun : Cm → Fn
pure_fun c = fun_of word_f 0 (param word_x s_int ∷ []) effect.Pure s_int None None c

-- a match without an arm
empty-match : IsDisciplined (one_fun (pure_fun (c_match (v 0) 0 c_end))) → ⊥
empty-match d = (d.full.bodies 0 _ refl).0

-- a return with one name, a bind with two, a lift with one
short-return : IsDisciplined (with_effects (record state { ret_names = word_x ∷ [] } ∷ []) []) → ⊥
short-return d = let e = d.headers.returns 0 _ refl in absurd (omega (arith, e))

short-bind : IsDisciplined (with_effects (record state { bind_names = word_f ∷ word_s ∷ [] } ∷ []) []) → ⊥
short-bind d = let e = d.headers.binds 0 _ refl in absurd (omega (arith, e))

short-lift : IsDisciplined (with_effects (state ∷ state ∷ []) (record { from = 0; «to» = 1; names = word_f ∷ []; text = d_ret (v 0) } ∷ [])) → ⊥
short-lift d = let e = d.headers.lifts 0 _ refl in absurd (omega (arith, e))

-- the base GHOST
ghost-base : IsDisciplined (with_effects (record state { base = effect.Ghost } ∷ []) []) → ⊥
ghost-base d = go (d.bases 0 _ refl)
  where
    go : (effect.Ghost ≡ effect.Pure) ⊎ (effect.Ghost ≡ effect.Div) → ⊥
    go (inl e) = cc
    go (inr e) = cc

abbrev lift_of : ℕ → ℕ → LftDef
lift_of from up = record { from = from; «to» = up; names = word_f ∷ word_s ∷ []; text = d_ret (v 0) }

-- a lift from base DIV to base PURE
lift-from-div : IsDisciplined (with_effects (record state { base = effect.Div } ∷ state ∷ []) (lift_of 0 1 ∷ [])) → ⊥
lift-from-div d = let e : effect.Pure ≡ effect.Div = d.lifts 0 _ refl refl in cc

-- two lifts between the same effects, and one from an effect to itself
two-paths : IsDisciplined (with_effects (state ∷ state ∷ []) (lift_of 0 1 ∷ lift_of 0 1 ∷ [])) → ⊥
two-paths d = let e = d.paths 0 1 (0 ∷ []) (1 ∷ []) (refl, refl) (refl, refl) in cc

lift-to-itself : IsDisciplined (with_effects (state ∷ []) (lift_of 0 0 ∷ [])) → ⊥
lift-to-itself d = let e = d.paths 0 0 [] (0 ∷ []) refl (refl, refl) in cc

-- a group's number that is no function's so far
late-group : IsDisciplined (one_fun (fun_of word_f 1 [] effect.Pure s_unit None None (c_ret (v 0)))) → ⊥
late-group d = let e = d.groups 0 _ refl in absurd (omega (arith, e))

-- a function of the first group behind one of the second
split-group : IsDisciplined (record { effects = []; lifts = []; funs = only (pure_fun (c_ret (v 0)) ∷ fun_of word_g 1 [] effect.Pure s_int None None (c_ret (num 0)) ∷ pure_fun (c_ret (v 0)) ∷ []) }) → ⊥
split-group d = let e = d.order 2 1 _ _ refl refl (omega arith) in absurd (omega (arith, e))

-- a user effect that isn't there
no-effect : IsDisciplined (one_fun (fun_of word_f 0 [] (effect.User 0) s_int None None (c_ret (num 0)))) → ⊥
no-effect d = (d.funs 0 _ refl).effect_there

-- a ghost variable outside of ghost parts: ghost let m = 1 in m
ghost-leaks : IsDisciplined (one_fun (pure_fun (c_ghost word_m (c_ret (num 1)) (c_ret (v 0))))) → ⊥
ghost-leaks d = let e : true ≡ false = (d.funs 0 _ refl).places.1 in cc

-- a call of a DIV function at a PURE place, and one of a GHOST function
abbrev calls_first : Effect → Prog
calls_first x = record { effects = []; lifts = []; funs = only (fun_of word_g 0 [] x s_int None None (c_ret (num 0)) ∷ fun_of word_f 1 [] effect.Pure s_int None None (call 0 []) ∷ []) }

div-call : IsDisciplined (calls_first effect.Div) → ⊥
div-call d = (d.funs 1 _ refl).places.0

ghost-call : IsDisciplined (calls_first effect.Ghost) → ⊥
ghost-call d = (d.funs 1 _ refl).places.0

-- a formula that applies its own function: in a refinement, requires, ensures, a measure, an assertion
abbrev own : Tm
own = t_app 0 s_bool (row [])

abbrev applies_own : List Prm → Option Tm → Option Tm → List Tm → Cm → Prog
applies_own ps needs gives ms c = one_fun (record { name = word_f; place = 0; params = ps; effect = effect.Pure; sort = s_bool; needs = needs; gives = gives; measures = ms; unfolds = 1; body = c; group = 0 })

not-earlier : (0 < 0) → ⊥
not-earlier h = absurd (omega (arith, h))

own-refinement : IsDisciplined (applies_own (record { name = word_x; sort = s_bool; hidden = false; refine = Some own } ∷ []) None None [] (c_ret (t_bool true))) → ⊥
own-refinement d = not-earlier (d.funs 0 _ refl).refines.0.0.0

own-requires : IsDisciplined (applies_own [] (Some own) None [] (c_ret (t_bool true))) → ⊥
own-requires d = not-earlier (d.funs 0 _ refl).needs.0.0

own-ensures : IsDisciplined (applies_own [] None (Some own) [] (c_ret (t_bool true))) → ⊥
own-ensures d = not-earlier (d.funs 0 _ refl).gives.0.0

own-measure : IsDisciplined (applies_own [] None None (own ∷ []) (c_ret (t_bool true))) → ⊥
own-measure d = not-earlier (d.funs 0 _ refl).measures.0.0.0

own-assertion : IsDisciplined (applies_own [] None None [] (c_assert own 0 (c_ret (t_bool true)))) → ⊥
own-assertion d = not-earlier (d.funs 0 _ refl).calls.0.0.0

-- a DIV function in a formula
applies-div : IsDisciplined (record { effects = []; lifts = []; funs = only (fun_of word_g 0 [] effect.Div s_bool None None (c_ret (t_bool true)) ∷ fun_of word_f 1 [] effect.Pure s_int None (Some own) (c_ret (num 0)) ∷ []) }) → ⊥
applies-div d = go (d.funs 1 _ refl).gives.0.1
  where
    go : (effect.Div ≡ effect.Pure) ⊎ (effect.Div ≡ effect.Ghost) → ⊥
    go (inl e) = cc
    go (inr e) = cc

-- recursion without a measure, where it has to end; and a call of a later group
no-measure : IsDisciplined (applies_own [] None None [] (call 0 [])) → ⊥
no-measure d = ((d.funs 0 _ refl).calls.1 refl refl).0 refl

later-call : IsDisciplined (record { effects = []; lifts = []; funs = only (fun_of word_f 0 [] effect.Pure s_int None None (call 1 []) ∷ fun_of word_g 1 [] effect.Pure s_int None None (c_ret (num 0)) ∷ []) }) → ⊥
later-call d = let e = (d.funs 0 _ refl).calls.0 in absurd (omega (arith, e))

-- ---- the table of paths

abbrev three_lifts : List LftDef
three_lifts = lift_of 0 1 ∷ lift_of 2 3 ∷ lift_of 1 2 ∷ []

-- the last lift joins the first two
path-through : path three_lifts 0 3 ≡ Some (0 ∷ 2 ∷ 1 ∷ [])
path-through = refl

no-path-back : path three_lifts 3 0 ≡ None
no-path-back = refl
