-- The transformer of core text.
use Rattle.std.specs.Prelude.{ℕ, Bool, false, nat_lt, slice_get, if◌then◌else◌, List, [], ◌∷◌, ◌++◌, map, reverse, nat_eq, ◌&&◌}
use Rattle.fst_base.specs.Sorts.{Srt, s_unit}
use Rattle.fst_terms.specs.Terms.{Tm, t_var, t_unit, t_app, row, listed, shift}
use Rattle.fst_terms.specs.Meaning.{Vr}
use Rattle.fst_terms.specs.Formulas.{negation, equation, put, puts, sort_of, joined, decrease, vars_from}
use Rattle.fst_program.specs.declared.comp.Con.{Con}
use Rattle.fst_program.specs.declared.goal.SiteKind.TheVariants as kind
use Rattle.fst_program.specs.declared.goal.Choice.TheVariants as choice
use Rattle.fst_program.specs.declared.effect.Effect.TheVariants as effect
use Rattle.fst_program.specs.Texts.{Cm, CmArms, c_ret, c_let, c_bind, c_ghost, c_assert, c_if, c_match, c_call, c_reify, c_reflect, c_return, c_lift, c_end, c_arm, Fn, Prog, if_there, fun_at, effect_at, bind_text, return_text, lift_text, is_total, result_at, result_sort}
use Rattle.fst_program.specs.Paths.{count, start, all_divisions, same_con, cm_family, dm_at, text_sort, clause_terms, given, demands_of, measures_at, own_vars, own_input}
use Rattle.fst_star.specs.Transformers.{Wt, w_post, w_need, w_given, w_fresh, w_ways, w_then, w_none, w_way}
use Rattle.fst_star.specs.Translation.{Scope, under, divisor_needs, term_needs, con_ways, missing, star, value_name}

-- the sort of the inputs of effect E
abbrev pub input_of : Prog → ℕ → Srt
input_of P E = if_there (effect_at P E) (λ d. d.input) s_unit

-- all that a call asks for, joined, where there is something
abbrev pub needed : List Tm → (place : ℕ) → Wt → Wt
needed [] at w = w
needed (phi ∷ phis) at w = w_need (joined (phi ∷ phis)) kind.Requires at w

abbrev pub givens : List Tm → Wt → Wt
givens [] w = w
givens (phi ∷ phis) w = w_given phi (givens phis w)

module _ (P : Prog) (f : Fn) where
  -- a PURE or GHOST function of an earlier group has an equation of its result with the application
  abbrev pub equates : Fn → Bool
  equates g = elim g.effect [ effect.Pure ↦ nat_lt g.group f.group | effect.Ghost ↦ nat_lt g.group f.group | _ ↦ false ]

  abbrev pub decreasing : Fn → Scope → (ms : List Tm) → (place : ℕ) → Wt → Wt
  decreasing g sc ms at w = if is_total P f.effect && nat_eq g.group f.group then w_need (decrease ms sc.olds) kind.Decreases at w else w

  -- what is known of the result of function j, g, the variable with index 0
  abbrev pub known_after : (j : ℕ) → Fn → (args : List Tm) → (input : Tm) → List Tm
  known_after j g ts s = given g.gives (t_var 0 ∷ clause_terms g.effect ts s) ++ (if equates g then equation (t_var 0) (t_app j g.sort (row ts)) ∷ [] else [])

  abbrev pub call_wp : (j : ℕ) → Fn → Scope → (args : List Tm) → (input : Tm) → (place : ℕ) → Wt
  call_wp j g sc ts s at =
      needed (demands_of g ts s) at (decreasing g sc (measures_at g ts) at
      (w_fresh g.name (result_sort P g.effect g.sort) (givens (known_after j g (map (shift 0 1) ts) (shift 0 1 s)) (w_post (t_var 0)))))

  -- no run of a computation that the header doesn't have
  abbrev pub no_wp : Wt
  no_wp = w_ways w_none

  -- us stand for the text's variables, and s for its input
  abbrev mutual
    pub infer : Scope → (us : List Tm) → (s : Tm) → Cm → Wt
    infer sc us s (c_ret t) = term_needs t us (w_post (put us t))
    infer sc us s (c_let x c1 c2) =
        let S = text_sort P (map (sort_of sc.sorts) us) c1 in
        w_then (infer sc us t_unit c1) x (infer (under S sc) (t_var 0 ∷ map (shift 0 1) us) (shift 0 1 s) c2)
    infer sc us s (c_bind E x c1 c2) =
        let A = text_sort P (map (sort_of sc.sorts) us) c1 in
        let B = text_sort P (A ∷ map (sort_of sc.sorts) us) c2 in
        star (result_at P E A) (result_at P E B)
        (infer (under (input_of P E) sc) (map (shift 0 1) us) (t_var 0) c1)
        (infer (under (input_of P E) (under A sc)) (t_var 1 ∷ map (shift 0 1) (map (shift 0 1) us)) (t_var 0) c2)
        sc (s ∷ []) 0 (dm_at A B (bind_text P E))
    infer sc us s (c_ghost x c1 c2) =
        let S = text_sort P (map (sort_of sc.sorts) us) c1 in
        w_then (infer sc us t_unit c1) x (infer (under S sc) (t_var 0 ∷ map (shift 0 1) us) (shift 0 1 s) c2)
    infer sc us s (c_assert phi at c) = w_need (put us phi) kind.Assert at (w_given (put us phi) (infer sc us s c))
    infer sc us s (c_if t c1 c2) = term_needs t us (w_ways (w_way choice.Then (put us t) (infer sc us s c1) (w_way choice.Else (negation (put us t)) (infer sc us s c2) w_none)))
    infer sc us s (c_match t at arms) = term_needs t us (w_ways (con_ways (cm_family arms) (sort_of sc.sorts (put us t)) (put us t) (λ c parts. infer_arm sc us s at arms c parts)))
    infer sc us s (c_call j ts at) = divisor_needs (all_divisions [] ts) us (if_there (fun_at P j) (λ g. call_wp j g sc (listed (puts us ts)) s at) no_wp)
    infer sc us s (c_reify E S c t) = term_needs t us (infer sc us (put us t) c)
    infer sc us s (c_reflect E S x c) = infer sc (s ∷ us) t_unit c
    infer sc us s (c_return E c) =
        let A = text_sort P (map (sort_of sc.sorts) us) c in
        w_then (infer sc us t_unit c) value_name (star s_unit s_unit no_wp no_wp (under A sc) (shift 0 1 s ∷ t_var 0 ∷ []) 0 (dm_at A A (return_text P E)))
    infer sc us s (c_lift l c) =
        let A = text_sort P (map (sort_of sc.sorts) us) c in
        let E = if_there (slice_get P.lifts l) (λ d. d.from) 0 in
        star (result_at P E A) s_unit (infer (under (input_of P E) sc) (map (shift 0 1) us) (t_var 0) c) no_wp sc (s ∷ []) 0 (dm_at A A (lift_text P l))

    pub infer_arm : Scope → (us : List Tm) → (s : Tm) → (place : ℕ) → CmArms → Con → (parts : List Tm) → Wt
    infer_arm sc us s at c_end c parts = missing at
    infer_arm sc us s at (c_arm c' xs body more) c parts = if same_con c' c then infer sc (reverse parts ++ us) s body else infer_arm sc us s at more c parts

  -- the function's own variables, the last first: its parameters, then its input where it has one
  abbrev pub start_scope : Scope
  start_scope = record { sorts = map (λ (x : Vr). x.sort) (start P f).vars; olds = measures_at f (reverse (own_vars f)) }

  abbrev pub infer_fun : Wt
  infer_fun = infer start_scope (own_vars f) (own_input f) f.body

  abbrev pub start_terms : List Tm
  start_terms = vars_from 0 (count (start P f))
