-- The goals of the transformer of a function are the goals of the function.
use Rattle.std.proofs.Common.{◌≡◌, ℕ, zero, suc, ◌+◌, Bool, true, false, if◌then◌else◌, List, [], ◌∷◌, ◌++◌, map, reverse, length, slice_get, get_or, Option, Some, None, refl, sym, ap, ap₂, ◌∙◌, subst, arith}
use Rattle.std.specs.Prelude.{⊤}
use Rattle.std.proofs.lemmas.List.{length-reverse}
use mathlib.Core.List.{reverse_aux}
use Rattle.fst_base.specs.Sorts.{Srt}
use Rattle.fst_terms.specs.Terms.{Tm, t_var, t_unit}
use Rattle.fst_terms.specs.Meaning.{Vr}
use Rattle.fst_terms.specs.Formulas.{put, vars_from}
use Rattle.fst_program.specs.declared.effect.Effect.{Effect}
use Rattle.fst_program.specs.declared.effect.Effect.TheVariants as effect
use Rattle.fst_program.specs.declared.goal.SiteKind.{SiteKind}
use Rattle.fst_program.specs.Texts.{Prm, EffDef, Fn, Prog, if_there, fun_at, effect_at, is_user}
use Rattle.fst_program.specs.Paths.{Way, count, demands_of, input_name, input_vars, measures_at, own_vars, own_input, start, walk, call_walk, fun_walk}
use Rattle.fst_program.specs.Sorted.{place_of, input_sorts, body_sorts, IsSorted}
use Rattle.fst_program.specs.Full.{IsFull, CmFull}
use Rattle.fst_star.specs.Inference.{infer_fun, start_scope, start_terms}
use Rattle.fst_star.specs.Walking.{wp_walk}
use Rattle.fst_star.proofs.PutLaws.{map-put-put}
use Rattle.fst_star.proofs.Calls.{map-reverse, suppose-all-vars}
use Rattle.fst_star.proofs.Places.{sorts_of, AllOf, later-same, all-raised-here, InputSorted, At}
use Rattle.fst_star.proofs.GoalsMeetPaths.{meets}

-- the effect of the place is there
abbrev pub PlaceThere : Prog → Option ℕ → Type 0
PlaceThere P None = ⊤
PlaceThere P (Some E) = if_there (effect_at P E) (λ d. ⊤) ⊥

length-sorts : (xs : List Vr) → length (sorts_of xs) ≡ length xs
length-sorts [] = refl
length-sorts (x ∷ xs) = ap suc (length-sorts xs)

sorts-++ : (xs ys : List Vr) → sorts_of (xs ++ ys) ≡ sorts_of xs ++ sorts_of ys
sorts-++ [] ys = refl
sorts-++ (x ∷ xs) ys = ap (λ l. x.sort ∷ l) (sorts-++ xs ys)

sorts-turned : (xs ys : List Vr) → sorts_of (reverse_aux xs ys) ≡ reverse_aux (sorts_of xs) (sorts_of ys)
sorts-turned [] ys = refl
sorts-turned (x ∷ xs) ys = sorts-turned xs (x ∷ ys)

param-sorts : (ps : List Prm) → sorts_of (map (λ p. record { name = p.name; sort = p.sort }) ps) ≡ map (λ p. p.sort) ps
param-sorts [] = refl
param-sorts (p ∷ ps) = ap (λ l. p.sort ∷ l) (param-sorts ps)

length-params : (ps : List Prm) → length (map (λ p. p.sort) ps) ≡ length ps
length-params [] = refl
length-params (p ∷ ps) = ap suc (length-params ps)

-- ---- the first variables put in for themselves

vars-get : (i n j : ℕ) → suc j + 0 ≡ suc j → (k : ℕ) → n ≡ suc (j + k) → get_or (vars_from i n) j t_unit ≡ t_var (i + j)
vars-get i zero j z k q = absurd (omega arith)
vars-get i (suc n) zero z k q = let p : i ≡ i + 0 = omega arith in ap t_var p
vars-get i (suc n) (suc j) z k q = vars-get (suc i) n j (omega arith) k (omega arith) ∙ ap t_var (let p : suc i + j ≡ i + suc j = omega arith in p)

put-own : (n i m k : ℕ) → n ≡ i + m + k → map (put (vars_from 0 n)) (vars_from i m) ≡ vars_from i m
put-own n i zero k q = refl
put-own n i (suc m) k q = ap₂ ◌∷◌ (vars-get 0 n i (omega arith) (m + k) (omega arith) ∙ ap t_var (let p : 0 + i ≡ i = omega arith in p)) (put-own n (suc i) m k (omega arith))

module _ (P : Prog) where
  later-own : (i n : ℕ) (T : Srt) (Ss Ts : List Srt) → AllOf P Ss (vars_from i n) Ts → AllOf P (T ∷ Ss) (vars_from (suc i) n) Ts
  later-own i zero T Ss [] h = tt
  later-own i zero T Ss (U ∷ Us) h = absurd h
  later-own i (suc n) T Ss [] h = absurd h
  later-own i (suc n) T Ss (U ∷ Us) h = (h.0, later-own (suc i) n T Ss Us h.1)

  own-sorted : (Ss : List Srt) → AllOf P Ss (vars_from 0 (length Ss)) Ss
  own-sorted [] = tt
  own-sorted (S ∷ Ss) = (refl, later-own 0 (length Ss) S Ss Ss (own-sorted Ss))

  own-sorted-under : (x : Effect) (Ss : List Srt) → PlaceThere P (place_of x) → AllOf P (input_sorts P x ++ Ss) (vars_from (if is_user x then 1 else 0) (length Ss)) Ss
  own-sorted-under effect.Pure Ss h = own-sorted Ss
  own-sorted-under effect.Ghost Ss h = own-sorted Ss
  own-sorted-under effect.Div Ss h = own-sorted Ss
  own-sorted-under (effect.User E) Ss h = go (effect_at P E) h
    where
      go : (o : Option EffDef) → if_there o (λ d. ⊤) ⊥ → AllOf P (if_there o (λ d. d.input ∷ []) [] ++ Ss) (vars_from 1 (length Ss)) Ss
      go None h = absurd h
      go (Some d) h = later-own 0 (length Ss) d.input Ss Ss (own-sorted Ss)

  input-sorted : (x : Effect) (Ss : List Srt) → PlaceThere P (place_of x) → InputSorted P (place_of x) (input_sorts P x ++ Ss) (if is_user x then t_var 0 else t_unit)
  input-sorted effect.Pure Ss h = tt
  input-sorted effect.Ghost Ss h = tt
  input-sorted effect.Div Ss h = tt
  input-sorted (effect.User E) Ss h = go (effect_at P E) h
    where
      go : (o : Option EffDef) → if_there o (λ d. ⊤) ⊥ → if_there o (λ d. slice_get (if_there o (λ d. d.input ∷ []) [] ++ Ss) 0 ≡ Some d.input) ⊥
      go None h = absurd h
      go (Some d) h = refl

  input-vars-sorts : (x : Effect) → sorts_of (input_vars P x) ≡ input_sorts P x
  input-vars-sorts effect.Pure = refl
  input-vars-sorts effect.Ghost = refl
  input-vars-sorts effect.Div = refl
  input-vars-sorts (effect.User E) = go (effect_at P E)
    where
      go : (o : Option EffDef) → sorts_of (if_there o (λ d. record { name = input_name; sort = d.input } ∷ []) []) ≡ if_there o (λ d. d.input ∷ []) []
      go None = refl
      go (Some d) = refl

  inputs-count : (x : Effect) → PlaceThere P (place_of x) → length (input_sorts P x) ≡ (if is_user x then 1 else 0)
  inputs-count effect.Pure h = refl
  inputs-count effect.Ghost h = refl
  inputs-count effect.Div h = refl
  inputs-count (effect.User E) h = go (effect_at P E) h
    where
      go : (o : Option EffDef) → if_there o (λ d. ⊤) ⊥ → length (if_there o (λ d. d.input ∷ []) []) ≡ 1
      go None h = absurd h
      go (Some d) h = refl

length-append : (Ss Ts : List Srt) → length (Ss ++ Ts) ≡ length Ss + length Ts
length-append [] Ts = omega arith
length-append (S ∷ Ss) Ts = ap suc (length-append Ss Ts) ∙ omega arith

module _ (P : Prog) (sorted : IsSorted P) (full : IsFull P) (f : Fn) (there : PlaceThere P (place_of f.effect)) (X : Type 0) (site : SiteKind → (place : ℕ) → Tm → Way → List X) where
  start-sorts : sorts_of (start P f).vars ≡ input_sorts P f.effect ++ body_sorts P f
  start-sorts =
      ap sorts_of (suppose-all-vars (demands_of f (reverse (own_vars f)) (own_input f)) (record { vars = input_vars P f.effect ++ reverse (map (λ p. record { name = p.name; sort = p.sort }) f.params); hyps = []; choices = [] }))
      ∙ sorts-++ (input_vars P f.effect) (reverse (map (λ p. record { name = p.name; sort = p.sort }) f.params))
      ∙ ap₂ ◌++◌ (input-vars-sorts P f.effect) (sorts-turned (map (λ p. record { name = p.name; sort = p.sort }) f.params) [] ∙ ap reverse (param-sorts f.params))

  own-count : count (start P f) ≡ (if is_user f.effect then 1 else 0) + length f.params
  own-count =
      sym (length-sorts (start P f).vars) ∙ ap length start-sorts ∙ length-append (input_sorts P f.effect) (body_sorts P f)
      ∙ ap₂ ◌+◌ (inputs-count P f.effect there) (length-reverse (map (λ p. p.sort) f.params) ∙ length-params f.params)

  params-count : length (body_sorts P f) ≡ length f.params
  params-count = length-reverse (map (λ p. p.sort) f.params) ∙ length-params f.params

  own-put : map (put (start_terms P f)) (own_vars f) ≡ own_vars f
  own-put = let p = own-count in put-own (count (start P f)) (if is_user f.effect then 1 else 0) (length f.params) 0 (p ∙ omega arith)

  at-start : At P f (start P f) (start_terms P f) (start_scope P f)
  at-start = record {
    sorted = subst (λ n. AllOf P (sorts_of (start P f).vars) (vars_from 0 n) (sorts_of (start P f).vars)) (length-sorts (start P f).vars) (own-sorted P (sorts_of (start P f).vars));
    olds = map-put-put (start_terms P f) (reverse (reverse (own_vars f))) f.measures ∙ ap (λ us. map (put us) f.measures) (map-reverse (put (start_terms P f)) (reverse (own_vars f)) ∙ ap reverse (map-reverse (put (start_terms P f)) (own_vars f) ∙ ap reverse own-put)) ∙ sym (all-raised-here (start P f) (start P f) refl (measures_at f (reverse (own_vars f))));
    later = later-same (start P f).vars (start P f).vars refl;
  }

  own-all : AllOf P (sorts_of (start P f).vars) (own_vars f) (body_sorts P f)
  own-all = subst (λ Ss. AllOf P Ss (own_vars f) (body_sorts P f)) (sym start-sorts) (subst (λ n. AllOf P (input_sorts P f.effect ++ body_sorts P f) (vars_from (if is_user f.effect then 1 else 0) n) (body_sorts P f)) params-count (own-sorted-under P f.effect (body_sorts P f) there))

  -- the walk of the function's transformer is the run of the function
  pub goals-meet-paths : (j : ℕ) → fun_at P j ≡ Some f → CmFull f.body → (k : Way → Tm → List X) → wp_walk X site (infer_fun P f) (start_terms P f) (start P f) k ≡ fun_walk P f X site k
  goals-meet-paths j q n k =
      meets P sorted full f X site f.body (place_of f.effect) f.sort (start_scope P f) (own_vars f) (body_sorts P f) (own_input f) (start_terms P f) (start P f) k k
      (sorted.funs j f q).body n own-all (subst (λ Ss. InputSorted P (place_of f.effect) Ss (own_input f)) (sym start-sorts) (input-sorted P f.effect (body_sorts P f) there)) at-start (λ w t a s. refl)
      ∙ ap₂ (λ us s. walk P X site (call_walk P f X site) f.body us s (start P f) k) own-put own-input-put
    where
      own-input-put : put (start_terms P f) (own_input f) ≡ own_input f
      own-input-put = go (is_user f.effect) own-count
        where
          go : (b : Bool) → count (start P f) ≡ (if b then 1 else 0) + length f.params → put (start_terms P f) (if b then t_var 0 else t_unit) ≡ (if b then t_var 0 else t_unit)
          go false p = refl
          go true p = vars-get 0 (count (start P f)) 0 (omega arith) (length f.params) (p ∙ omega arith)
