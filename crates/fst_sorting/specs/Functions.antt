-- Functions and programs: the rules that they break, and the core program.
use Rattle.std.specs.Prelude.{ℕ, suc, Bool, true, false, not, ◌&&◌, ◌||◌, nat_eq, List, [], ◌∷◌, ◌++◌, length, map, reverse, Option, Some, option_map, slice_get, if◌then◌else◌}
use Rattle.fst_base.specs.declared.rule.Rule.TheVariants as rule
use Rattle.fst_base.specs.Sorts.{Srt, s_bool, s_int, s_b, put_sorts}
use Rattle.fst_trees.specs.declared.decl.EffectName.{EffectName}
use Rattle.fst_trees.specs.declared.decl.EffectName.TheVariants as name
use Rattle.fst_program.specs.declared.effect.Effect.{Effect}
use Rattle.fst_program.specs.declared.effect.Effect.TheVariants as effect
use Rattle.fst_program.specs.Texts.{Prm, Fn, Prog, LftDef, if_there, is_ghost}
use Rattle.fst_names.specs.declared.reference.Ref.{Ref}
use Rattle.fst_names.specs.declared.broken.Broken.{Broken}
use Rattle.fst_names.specs.Broken.{breaks}
use Rattle.fst_names.specs.Names.{each, optional}
use Rattle.fst_names.specs.Trees.{WForm, WText, WPart, WArms, x_let, x_assert, x_if, x_match, x_part, p_block, p_call, p_reify, p_reflect, p_term, x_end, x_arm, WParam, WFun, WDecl, w_effect, w_lift, w_fun}
use Rattle.fst_program.specs.LiftPaths.{path}
use Rattle.fst_effects.specs.Known.{Entry, Ctx, Callee, EffectSorts, Known, sort_of}
use Rattle.fst_effects.specs.TermSorts.{broken, core, visible}
use Rattle.fst_effects.specs.TextSorts.{broken_text, base_of}
use Rattle.fst_effects.specs.Definitions.{effect_sorts, effects_of, core_effects, core_lifts}
use Rattle.fst_sorting.specs.CoreTexts.{core_text}

-- a function with the number of the first of its group, and its own number
pub record Placed : Type 0 where
  pub tree : WFun Ref
  pub number : ℕ
  pub group : ℕ

abbrev pub place_in : (joined : Bool) → (group number : ℕ) → ℕ
place_in true g k = g
place_in false g k = k

abbrev pub funs_from : (group number : ℕ) → List (WDecl Ref) → List Placed
funs_from g k [] = []
funs_from g k (w_effect e ∷ ds) = funs_from g k ds
funs_from g k (w_lift l ∷ ds) = funs_from g k ds
funs_from g k (w_fun f ∷ ds) = record { tree = f; number = k; group = place_in f.joined g k } ∷ funs_from (place_in f.joined g k) (suc k) ds

abbrev pub funs_of : List (WDecl Ref) → List Placed
funs_of = funs_from 0 0

abbrev pub effect_of : EffectName Ref → Effect
effect_of name.Pure = effect.Pure
effect_of name.Ghost = effect.Ghost
effect_of name.Div = effect.Div
effect_of (name.User r) = effect.User r.index

abbrev pub param_entry : WParam Ref → Entry
param_entry p = record { sort = sort_of p.sort; hidden = p.hidden }

-- the sort of the results of a call at this effect
abbrev pub results : Effect → (ℕ → Option EffectSorts) → Srt → Srt
results (effect.User E) es S = if_there (es E) (λ e. put_sorts S s_b e.result) S
results _ es S = S

module _ (es : ℕ → Option EffectSorts) where
  abbrev pub called_as : WFun Ref → Callee
  called_as f = record { args = map param_entry f.params; sort = sort_of f.sort; effect = effect_of f.effect }

  -- an application has the sort of the function's results
  abbrev pub applied_as : WFun Ref → Callee
  applied_as f = record { args = map param_entry f.params; sort = results (effect_of f.effect) es (sort_of f.sort); effect = effect_of f.effect }

-- what is known in functions, where these are the program's effects, lifts and functions
abbrev pub known_of : (es : ℕ → Option EffectSorts) → (lifts : List LftDef) → List Placed → Known
known_of es ls fs = record {
  called = λ r. option_map (λ f. called_as es f.tree) (slice_get fs r.index);
  applied = λ r. option_map (λ f. applied_as es f.tree) (slice_get fs r.index);
  effects = es;
  path = path ls;
  complete = false;
}

abbrev pub known_in : List (WDecl Ref) → Known
known_in ds = known_of (λ E. option_map effect_sorts (slice_get (effects_of ds) E)) (core_lifts ds) (funs_of ds)

-- ---- measures

-- the numbers of the functions that a text calls
abbrev mutual
  pub callees : WText Ref → List ℕ
  callees (x_let ghost y s p c) = part_callees p ++ callees c
  callees (x_assert f at c) = callees c
  callees (x_if f c d) = callees c ++ callees d
  callees (x_match f at arms) = arm_callees arms
  callees (x_part p) = part_callees p

  pub part_callees : WPart Ref → List ℕ
  part_callees (p_block at c) = callees c
  part_callees (p_call at r fs) = r.index ∷ []
  part_callees (p_reify at r s c f) = callees c
  part_callees (p_reflect at r s y c) = callees c
  part_callees (p_term at f) = []

  pub arm_callees : WArms Ref → List ℕ
  arm_callees x_end = []
  arm_callees (x_arm at con ws c more) = callees c ++ arm_callees more

abbrev pub has_member : (ℕ → Bool) → List ℕ → Bool
has_member test [] = false
has_member test (n ∷ ns) = test n || has_member test ns

-- a call from a function with m measures to one with n of the same group goes without what makes it end
abbrev pub unmeasured : (m n : ℕ) → Bool
unmeasured m n = nat_eq m 0 || not (nat_eq m n)

abbrev pub diverges : (ℕ → Option EffectSorts) → Effect → Bool
diverges es effect.Div = true
diverges es (effect.User E) = elim (base_of (es E)) [
  | effect.Pure ↦ false
  | effect.Ghost ↦ false
  | effect.Div ↦ true
  | effect.User n ↦ false
]
diverges es _ = false

abbrev pub calls_unmeasured : List Placed → Placed → (j : ℕ) → Bool
calls_unmeasured fs f j = if_there (slice_get fs j) (λ g. nat_eq g.group f.group && unmeasured (length f.tree.measures) (length g.tree.measures)) false

-- a function without DIV calls one of its group without a measure; it stands at the declared name
abbrev pub no_measure : Known → List Placed → Placed → List Broken
no_measure K fs f =
    if not (diverges K.effects (effect_of f.tree.effect)) && has_member (calls_unmeasured fs f) (callees f.tree.body) then breaks rule.NoMeasure f.tree.name.at.at else []

-- ---- functions

-- the parameters in scope, the last first
abbrev pub scope_of : List (WParam Ref) → Ctx
scope_of ps = reverse (map param_entry ps)

-- with a user effect a clause has the input too
abbrev pub input_entry : Known → Effect → Ctx
input_entry K (effect.User E) = if_there (K.effects E) (λ e. visible e.input ∷ []) []
input_entry K _ = []

abbrev pub clause_scope : Known → WFun Ref → Ctx
clause_scope K f = input_entry K (effect_of f.effect) ++ scope_of f.params

-- the word result has the sort of the function's results
abbrev pub result_scope : Known → WFun Ref → Ctx
result_scope K f = visible (results (effect_of f.effect) K.effects (sort_of f.sort)) ∷ clause_scope K f

-- a formula of sort bool; all formulas are ghost places
abbrev pub broken_formula : Known → Ctx → WForm Ref → List Broken
broken_formula K xs f = broken K.applied true xs f (Some s_bool)

-- each refinement sees the parameters up to its own
abbrev pub broken_refinements : Known → Ctx → List (WParam Ref) → List Broken
broken_refinements K xs [] = []
broken_refinements K xs (p ∷ ps) = optional (broken_formula K (param_entry p ∷ xs)) p.refine ++ broken_refinements K (param_entry p ∷ xs) ps

abbrev pub core_params : Known → Ctx → List (WParam Ref) → List Prm
core_params K xs [] = []
core_params K xs (p ∷ ps) =
    record { name = p.name.text; sort = sort_of p.sort; hidden = p.hidden; refine = option_map (λ f. core K.applied (param_entry p ∷ xs) f (Some s_bool)) p.refine }
    ∷ core_params K (param_entry p ∷ xs) ps

module _ (K : Known) (fs : List Placed) where
  abbrev pub broken_fun : Placed → List Broken
  broken_fun f =
      let t = f.tree in
      let e = effect_of t.effect in
      no_measure K fs f ++ broken_refinements K [] t.params
      ++ optional (broken_formula K (clause_scope K t)) t.needs ++ optional (broken_formula K (result_scope K t)) t.gives
      ++ each (λ m. broken K.applied true (scope_of t.params) m (Some s_int)) t.measures
      ++ broken_text K e (is_ghost e) (scope_of t.params) t.body (Some (sort_of t.sort))

  abbrev pub core_fun : Placed → Fn
  core_fun f =
      let t = f.tree in
      let e = effect_of t.effect in
      record {
        name = t.name.text;
        place = t.name.at.at;
        params = core_params K [] t.params;
        effect = e;
        sort = sort_of t.sort;
        needs = option_map (λ g. core K.applied (clause_scope K t) g (Some s_bool)) t.needs;
        gives = option_map (λ g. core K.applied (result_scope K t) g (Some s_bool)) t.gives;
        measures = map (λ m. core K.applied (scope_of t.params) m (Some s_int)) t.measures;
        unfolds = t.unfolds;
        body = core_text K e (scope_of t.params) t.body (Some (sort_of t.sort));
        group = f.group;
      }

-- the fifth phase: what the functions break, and the program
abbrev pub broken_funs : List (WDecl Ref) → List Broken
broken_funs ds = each (broken_fun (known_in ds) (funs_of ds)) (funs_of ds)

abbrev pub core_program : List (WDecl Ref) → Prog
core_program ds = record { effects = core_effects ds; lifts = core_lifts ds; funs = map (λ f. Some (core_fun (known_in ds) (funs_of ds) f)) (funs_of ds) }
