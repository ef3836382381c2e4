-- The size of what is inferred.
use Rattle.std.proofs.Common.{◌≡◌, ℕ, zero, suc, ◌+◌, ◌*◌, ◌≤◌, Bool, true, false, nat_eq, ◌&&◌, if◌then◌else◌, List, [], ◌∷◌, ◌++◌, map, reverse, length, slice_get, Option, Some, None, ap, ◌∙◌, subst, arith}
use Rattle.std.proofs.lemmas.Nat.{mul-le}
use Rattle.fst_base.specs.Sorts.{Srt, s_unit}
use Rattle.fst_terms.specs.Terms.{Tm, t_var, t_unit, t_app, row, listed, shift}
use Rattle.fst_terms.specs.Formulas.{decrease, equation, negation, put, puts, sort_of}
use Rattle.fst_program.specs.declared.comp.Con.{Con}
use Rattle.fst_program.specs.declared.goal.Choice.TheVariants as choice
use Rattle.fst_program.specs.declared.goal.SiteKind.TheVariants as kind
use Rattle.fst_program.specs.Texts.{Cm, CmArms, c_ret, c_let, c_bind, c_ghost, c_assert, c_if, c_match, c_call, c_reify, c_reflect, c_return, c_lift, c_end, c_arm, Dm, Fn, Prog, if_there, fun_at, bind_text, return_text, lift_text, is_total, result_at, result_sort}
use Rattle.fst_program.specs.Paths.{clause_terms, cm_family, demands_of, dm_at, given, measures_at, own_vars, own_input, same_con, text_sort}
use Rattle.fst_star.specs.Transformers.{Wt, w_fresh, w_none, w_post, w_need, w_way, w_ways}
use Rattle.fst_star.specs.Translation.{Scope, under, con_ways, star}
use Rattle.fst_star.specs.Inference.{call_wp, decreasing, equates, givens, infer, infer_arm, input_of, known_after, needed, start_scope}
use Rattle.fst_star.specs.Size.{wnodes, tnodes, all_tnodes, dm_size, names_f, names_g, cm_size, cm_arms_size, big, InferredAreSmall}
use Rattle.fst_star.proofs.StarSizes.{all-needs-few, apart, cm-ways-few, fits, one-side, star-few, term-needs-few, two-sides}
use Rattle.fst_star.proofs.TextSizes.{IsSmall, big-least, bind-small, dm-size-at, lift-small, names-f-at, names-g-at, return-small}

-- ---- calls

needed-few : (phis : List Tm) (at : ℕ) (w : Wt) → wnodes (needed phis at w) ≤ suc (wnodes w)
needed-few [] at w = omega arith
needed-few (phi ∷ phis) at w = omega arith

side-few : (b : Bool) (phi : Tm) (at : ℕ) (w : Wt) → wnodes (if b then w_need phi kind.Decreases at w else w) ≤ suc (wnodes w)
side-few true phi at w = omega arith
side-few false phi at w = omega arith

givens-nodes : (phis : List Tm) (w : Wt) → wnodes (givens phis w) ≡ length phis + wnodes w
givens-nodes [] w = omega arith
givens-nodes (phi ∷ phis) w = ap suc (givens-nodes phis w) ∙ omega arith

known-few : (phi : Option Tm) (us : List Tm) (b : Bool) (psi : Tm) → length (given phi us ++ (if b then psi ∷ [] else [])) ≤ 2
known-few None us true psi = omega arith
known-few None us false psi = omega arith
known-few (Some phi) us true psi = omega arith
known-few (Some phi) us false psi = omega arith

there-few : (m : Option Fn) (k : Fn → Wt) → ((g : Fn) → wnodes (k g) ≤ 6) → wnodes (if_there m k (w_ways w_none)) ≤ 6
there-few None k h = omega arith
there-few (Some g) k h = h g

-- ---- translated parts

times-one : (a n : ℕ) → a ≤ 1 → a * n ≤ n
times-one zero n h = omega arith
times-one (suc zero) n h = omega arith
times-one (suc (suc a)) n h = absurd (omega (arith, h))

module _ (K : ℕ) (rf rg : Srt) (sc : Scope) (us : List Tm) (A B : Srt) (d : Dm) (small : IsSmall K d) where
  fits-at : (f g : Wt) → fits rf rg f g (dm_size (dm_at A B d)) (names_f (dm_at A B d)) (names_g (dm_at A B d)) ≡ fits rf rg f g (dm_size d) (names_f d) (names_g d)
  fits-at f g =
      ap (λ s. fits rf rg f g s (names_f (dm_at A B d)) (names_g (dm_at A B d))) (dm-size-at A B d)
      ∙ ap (λ a. fits rf rg f g (dm_size d) a (names_g (dm_at A B d))) (names-f-at A B d)
      ∙ ap (λ b. fits rf rg f g (dm_size d) (names_f d) b) (names-g-at A B d)

  star-fits : (f g : Wt) → wnodes (star rf rg f g sc us 0 (dm_at A B d)) ≤ fits rf rg f g (dm_size d) (names_f d) (names_g d)
  star-fits f g = subst (λ m. wnodes (star rf rg f g sc us 0 (dm_at A B d)) ≤ m) (fits-at f g) (star-few rf rg f g sc us 0 (dm_at A B d))

  bound-few : (f g : Wt) → wnodes (star rf rg f g sc us 0 (dm_at A B d)) ≤ 7 * K + wnodes f + wnodes g
  unfolding fits
  bound-few f g =
      let h = star-fits f g in
      let s = small.size in
      let p = times-one (names_f d) (wnodes f) small.once.f in
      let q = times-one (names_g d) (wnodes g) small.once.g in
      omega arith

  lifted-few : (f : Wt) → wnodes (star rf rg f (w_ways w_none) sc us 0 (dm_at A B d)) ≤ 7 * K + wnodes f
  unfolding fits
  lifted-few f =
      let h = star-fits f (w_ways w_none) in
      let s = small.size in
      let p = times-one (names_f d) (wnodes f) small.once.f in
      omega arith

  returned-few : wnodes (star rf rg (w_ways w_none) (w_ways w_none) sc us 0 (dm_at A B d)) ≤ 7 * K
  unfolding fits
  returned-few =
      let h = star-fits (w_ways w_none) (w_ways w_none) in
      let s = small.size in
      omega arith

-- ---- the inference

-- eight for each of n and of K
unfoldable part : (K n : ℕ) → ℕ
part K n = 8 * n * K

weigh : (K n m : ℕ) → 1 ≤ K → m ≤ 8 * n → m ≤ part K n
unfolding part
weigh K n m least h = let k = mul-le (8 * n) 1 (8 * n) K (omega arith) least in omega arith

module _ (P : Prog) (f : Fn) (K : ℕ) (least : 1 ≤ K) (binds : (E : ℕ) → IsSmall K (bind_text P E)) (returns : (E : ℕ) → IsSmall K (return_text P E)) (lifts : (l : ℕ) → IsSmall K (lift_text P l)) where
  call-few : (j : ℕ) (sc : Scope) (ts : List Tm) (s : Tm) (at : ℕ) (g : Fn) → wnodes (call_wp P f j g sc ts s at) ≤ 6
  call-few j sc ts s at g =
      let known = known_after P f j g (map (shift 0 1) ts) (shift 0 1 s) in
      let e = givens-nodes known (w_post (t_var 0)) in
      let l = known-few g.gives (t_var 0 ∷ clause_terms g.effect (map (shift 0 1) ts) (shift 0 1 s)) (equates P f g) (equation (t_var 0) (t_app j g.sort (row (map (shift 0 1) ts)))) in
      let end = w_fresh g.name (result_sort P g.effect g.sort) (givens known (w_post (t_var 0))) in
      let d = side-few (is_total P f.effect && nat_eq g.group f.group) (decrease (measures_at g ts) sc.olds) at end in
      let n = needed-few (demands_of g ts s) at (decreasing P f g sc (measures_at g ts) at end) in
      omega arith

  mutual
    unfolding part

    infer-few : (sc : Scope) (us : List Tm) (s : Tm) (c : Cm) → wnodes (infer P f sc us s c) ≤ part K (cm_size c)
    infer-few sc us s (c_ret t) = let h = term-needs-few t us (w_post (put us t)) in weigh K (suc (tnodes t)) _ least (omega arith)
    infer-few sc us s (c_let x c1 c2) =
        let S = text_sort P (map (sort_of sc.sorts) us) c1 in
        let h = infer-few sc us t_unit c1 in
        let k = infer-few (under S sc) (t_var 0 ∷ map (shift 0 1) us) (shift 0 1 s) c2 in
        omega arith
    infer-few sc us s (c_bind E x c1 c2) =
        let A = text_sort P (map (sort_of sc.sorts) us) c1 in
        let B = text_sort P (A ∷ map (sort_of sc.sorts) us) c2 in
        let h = infer-few (under (input_of P E) sc) (map (shift 0 1) us) (t_var 0) c1 in
        let k = infer-few (under (input_of P E) (under A sc)) (t_var 1 ∷ map (shift 0 1) (map (shift 0 1) us)) (t_var 0) c2 in
        let b = bound-few K (result_at P E A) (result_at P E B) sc (s ∷ []) A B (bind_text P E) (binds E) (infer P f (under (input_of P E) sc) (map (shift 0 1) us) (t_var 0) c1)
        (infer P f (under (input_of P E) (under A sc)) (t_var 1 ∷ map (shift 0 1) (map (shift 0 1) us)) (t_var 0) c2) in
        omega arith
    infer-few sc us s (c_ghost x c1 c2) =
        let S = text_sort P (map (sort_of sc.sorts) us) c1 in
        let h = infer-few sc us t_unit c1 in
        let k = infer-few (under S sc) (t_var 0 ∷ map (shift 0 1) us) (shift 0 1 s) c2 in
        omega arith
    infer-few sc us s (c_assert phi at c) = let h = infer-few sc us s c in let m = weigh K (tnodes phi) 0 least (omega arith) in omega arith
    infer-few sc us s (c_if t c1 c2) =
        let l = term-needs-few t us (w_ways (w_way choice.Then (put us t) (infer P f sc us s c1) (w_way choice.Else (negation (put us t)) (infer P f sc us s c2) w_none))) in
        let h = infer-few sc us s c1 in
        let k = infer-few sc us s c2 in
        let m = weigh K (suc (tnodes t)) (tnodes t + 1) least (omega arith) in
        omega arith
    infer-few sc us s (c_match t at arms) =
        let l = term-needs-few t us (w_ways (con_ways (cm_family arms) (sort_of sc.sorts (put us t)) (put us t) (λ c parts. infer_arm P f sc us s at arms c parts))) in
        let h = cm-ways-few arms (sort_of sc.sorts (put us t)) (put us t) (λ c parts. infer_arm P f sc us s at arms c parts) (part K (cm_arms_size arms))
        (λ a ps. arm-few sc us s at arms a ps) (λ a b ps qs e. two-arms-few sc us s at arms a b ps qs e) in
        let m = weigh K (suc (tnodes t)) (tnodes t + 5) least (omega arith) in
        omega arith
    infer-few sc us s (c_call j ts at) =
        let h = there-few (fun_at P j) (λ g. call_wp P f j g sc (listed (puts us ts)) s at) (λ g. call-few j sc (listed (puts us ts)) s at g) in
        let k = all-needs-few ts us (if_there (fun_at P j) (λ g. call_wp P f j g sc (listed (puts us ts)) s at) (w_ways w_none)) in
        weigh K (suc (all_tnodes ts)) _ least (omega arith)
    infer-few sc us s (c_reify E S c t) =
        let l = term-needs-few t us (infer P f sc us (put us t) c) in
        let h = infer-few sc us (put us t) c in
        let m = weigh K (tnodes t) (tnodes t) least (omega arith) in
        omega arith
    infer-few sc us s (c_reflect E S x c) = let h = infer-few sc (s ∷ us) t_unit c in omega arith
    infer-few sc us s (c_return E c) =
        let A = text_sort P (map (sort_of sc.sorts) us) c in
        let h = infer-few sc us t_unit c in
        let b = returned-few K s_unit s_unit (under A sc) (shift 0 1 s ∷ t_var 0 ∷ []) A A (return_text P E) (returns E) in
        omega arith
    infer-few sc us s (c_lift l c) =
        let A = text_sort P (map (sort_of sc.sorts) us) c in
        let E = if_there (slice_get P.lifts l) (λ d. d.from) 0 in
        let F = infer P f (under (input_of P E) sc) (map (shift 0 1) us) (t_var 0) c in
        let h = infer-few (under (input_of P E) sc) (map (shift 0 1) us) (t_var 0) c in
        let b = lifted-few K (result_at P E A) s_unit sc (s ∷ []) A A (lift_text P l) (lifts l) F in
        omega arith

    arm-few : (sc : Scope) (us : List Tm) (s : Tm) (at : ℕ) (arms : CmArms) (a : Con) (ps : List Tm) → wnodes (infer_arm P f sc us s at arms a ps) ≤ part K (cm_arms_size arms) + 2
    arm-few sc us s at c_end a ps = omega arith
    arm-few sc us s at (c_arm c xs body more) a ps =
        let h = one-side (same_con c a) _ _ _ _ (infer-few sc (reverse ps ++ us) s body) (arm-few sc us s at more a ps) in
        omega arith

    two-arms-few : (sc : Scope) (us : List Tm) (s : Tm) (at : ℕ) (arms : CmArms) (a b : Con) (ps qs : List Tm) → same_con a b ≡ false
        → wnodes (infer_arm P f sc us s at arms a ps) + wnodes (infer_arm P f sc us s at arms b qs) ≤ part K (cm_arms_size arms) + 4
    two-arms-few sc us s at c_end a b ps qs e = omega arith
    two-arms-few sc us s at (c_arm c xs body more) a b ps qs e =
        let h = two-sides (same_con c a) (same_con c b) _ _ _ _ _ _ (part K (cm_arms_size more) + 4) (apart c a b e)
        (infer-few sc (reverse ps ++ us) s body) (infer-few sc (reverse qs ++ us) s body) (arm-few sc us s at more a ps) (arm-few sc us s at more b qs) (omega arith) (two-arms-few sc us s at more a b ps qs e) in
        omega arith

pub small : (P : Prog) → InferredAreSmall P
unfolding part
small P once f = infer-few P f (big P) (big-least P) (bind-small P once) (return-small P once) (lift-small P once) (start_scope P f) (own_vars f) (own_input f) f.body
