-- Core text whose symbolic run has valid goals keeps every claim that its calls and ghost parts keep, by induction on the text: the run
-- takes the way that stands in its environment.
use Rattle.std.proofs.Common.{◌≡◌, ℕ, zero, ◌≤◌, Bool, true, false, if◌then◌else◌, List, [], ◌∷◌, ◌++◌, map, reverse, Option, Some, None, IsTrue, refl, sym, ap, ap₂, ◌∙◌, subst, slice_get}
use Rattle.fst_base.specs.Sorts.{Srt, s_bool, s_a, s_b}
use Rattle.fst_base.specs.Values.{Val, v_unit, v_bool, Has, HasSorts}
use Rattle.fst_base.specs.Primitives.{is_true}
use Rattle.fst_base.proofs.RowLemmas.{put_sorts-same}
use Rattle.fst_terms.specs.Terms.{Tm, t_bool, t_unit, listed}
use Rattle.fst_terms.specs.Meaning.{Env, Meaning, value, values}
use Rattle.fst_terms.specs.Formulas.{put, puts}
use Rattle.fst_terms.specs.Sorted.{TmsSorted, are_run}
use Rattle.fst_terms.proofs.PutLemmas.{put_values, put-value, puts-values}
use Rattle.fst_program.specs.declared.comp.Con.{Con}
use Rattle.fst_program.specs.declared.goal.SiteKind.TheVariants as kind
use Rattle.fst_program.specs.Texts.{d_ret, Cm, CmArms, c_ret, c_let, c_bind, c_ghost, c_assert, c_if, c_match, c_call, c_reify, c_reflect, c_return, c_lift, c_end, c_arm, EffDef, LftDef, Fn, Prog, if_there, fun_at, effect_at, params_of, bind_text, return_text, lift_text, is_total, result_at, group_of}
use Rattle.fst_program.specs.Evaluation.{eval, arguments}
use Rattle.fst_program.specs.Runs.{Outcome, Done, Stuck, parts, if_fits, dm, no_f, no_g, Calls, Ghosts, text, arm}
use Rattle.fst_program.specs.Paths.{Gl, Way, count, suppose, raised, all_raised, over, Side, Case, cases, same_con, sort_on, cm_family, all_divisions, divisor_sites, term_sites, part_sorts, text_sort, dm_at, dm_walk, no_walk_f, no_walk_g, walk, arm_walk, CallWalk, goal_site, GoalsValid}
use Rattle.fst_program.specs.Sorted.{Applies, RunSorted, ConOf, place_of, InputHas, result_in, CmSorted, ArmsSorted, param_sorts, IsSorted}
use Rattle.fst_program.proofs.SortedLemmas.{bound-parts, append-have}
use Rattle.fst_goodness.proofs.Kept.{total_fun, IsKept, CmKept, ArmsKept}
use Rattle.fst_program.specs.Full.{HasArm}
use Rattle.fst_program.proofs.SortedTerms.{AllSorted, append-sorted, puts-sorted, sorts-are, map-same}
use Rattle.fst_program.proofs.Ways.{valid-left, valid-right, way_sorts, Stands, suppose-stands, goal-true, Extends, extends-same, raised-value, Reaches, reaches-from}
use Rattle.fst_program.proofs.Evaluated.{sites-nonzero, AllNonzero}
use Rattle.fst_goodness.proofs.Choices.{chosen-side, same-con-is, other-con, taken-case}
use Rattle.fst_program.proofs.Modality.{Modality, with-term, with-terms}
use Rattle.fst_goodness.proofs.TextSorts.{text-sort-is}
use Rattle.fst_goodness.proofs.DefinitionText.{After, Steps, put-values-append}
use Rattle.fst_goodness.proofs.CoreEffects.{listed-sorted, listed-values, InputSorted, raised-input, Fit, fit-later, fit-on, fit-plain, fit-raised, core-args-sound, core-args-have, node-sound, node-has, symbol-value, symbol-sorted, Serves, input-of, input-to, sorted-of, sorted-to, bind-ok, return-ok, lift-ok}

module _ (P : Prog) (sorted : IsSorted P) (kept : IsKept P) (M : Meaning) (number : ℕ) (I : Type 0) (b : Bool) (Ok : (Val → Type 0) → (I → ℕ → Outcome) → Type 0) (GhostOk : (Val → Type 0) → (I → Outcome) → Type 0) (rules : Modality I b Ok GhostOk) (w0 : Way) (e0 : Env) where
  -- ---- core text

  module _ (gh : I → Ghosts) (call : I → Calls) (call_walk : CallWalk P Gl (goal_site number)) (total : Bool) (group : ℕ) where
    abbrev pub walked : Cm → List Tm → Steps
    walked c us s w rest = walk P Gl (goal_site number) call_walk c us s w rest

    abbrev pub runs : Cm → Env → Val → I → ℕ → Outcome
    runs c ev sv i F = text M P (gh i) (call i) b c ev sv F

    abbrev arms-walked : CmArms → (place : ℕ) → Case → List Tm → Tm → After → List Gl
    arms-walked arms at c us s rest = arm_walk P Gl (goal_site number) call_walk arms at c us s rest

    abbrev arm-runs : CmArms → (place : ℕ) → Val → Env → Val → I → ℕ → Outcome
    arm-runs arms at v ev sv i F = arm M P (gh i) (call i) b arms at v ev sv F

    abbrev side-goals : Cm → Cm → List Tm → Tm → After → Side → List Gl
    side-goals c1 c2 us s rest side = if side.first then walked c1 us s side.way rest else walked c2 us s side.way rest

    -- a call whose goals are valid reaches what follows it
    abbrev pub CallsOk : Type 0
    CallsOk = (j : ℕ) (g : Fn) → fun_at P j ≡ Some g → (total ≡ true → IsTrue (is_total P g.effect)) → g.group ≤ group → (w : Way) (e : Env) (ts : List Tm) (vs : List Val) (s : Tm) (sv : Val) (at : ℕ) (rest : After) → Extends w0 e0 w e → Stands M w e
        → AllSorted (Applies P) (way_sorts w) ts (param_sorts P g) → put_values M ts e ≡ vs → HasSorts (param_sorts P g) vs → InputSorted P w (place_of g.effect) s → value M s e ≡ sv → InputHas P (place_of g.effect) sv
        → GoalsValid M (call_walk j ts s at w rest) → Ok (Reaches P M w e (result_in P (place_of g.effect) g.sort) rest) (λ i F. call i j vs sv F)

    -- a ghost part whose goals are valid reaches what follows it; in total text it may be known to keep the claim as any other text
    abbrev pub GhostsOk : Type 0
    GhostsOk = (c : Cm) (Ss : List Srt) (T : Srt) (us : List Tm) (w : Way) (e ev : Env) (rest : After) → CmSorted P Ss None c T → CmKept P group true c → Fit P M w0 e0 Ss None us t_unit w e ev v_unit → GoalsValid M (walked c us t_unit w rest)
        → (total ≡ true → Ok (Reaches P M w e T rest) (runs c ev v_unit)) → GhostOk (Reaches P M w e T rest) (λ i. gh i c ev)

    -- the case of a match that a value takes
    record Entered (w : Way) (e : Env) (T : Srt) (v : Val) (c : Case) (items : List Val) : Type 0 where
      fits : parts c.con v ≡ Some items
      vars : c.way.vars ≡ w.vars
      stands : Stands M c.way e
      have : AllSorted (Applies P) (way_sorts w) (reverse c.parts) (part_sorts c.con T)
      gives : put_values M (reverse c.parts) e ≡ items

    bound-same : (c : Con) (S : Srt) (v : Val) → ConOf c S → Has S v → (ws : List Val) → parts c v ≡ Some ws → HasSorts (part_sorts c S) ws
    bound-same c S v o h ws q = subst (λ Us. HasSorts Us ws) (map-same (part_sorts c S)) (bound-parts s_a s_b c S v o (subst (λ T. Has T v) (sym (put_sorts-same S)) h) ws q)

    fit-under : (Ss : List Srt) (x : Option ℕ) (us : List Tm) (s : Tm) (w : Way) (e ev : Env) (sv : Val) (T : Srt) (v : Val) (c : Case) (items : List Val) → Entered w e T v c items → ConOf c.con T → Has T v → Fit P M w0 e0 Ss x us s w e ev sv → Fit P M w0 e0 (part_sorts c.con T ++ Ss) x (reverse c.parts ++ us) s c.way e (items ++ ev) sv
    fit-under Ss x us s w e ev sv T v c items t o h f =
        let g = (fit-on P sorted kept M number I b Ok GhostOk rules w0 e0) Ss x us s w c.way e ev sv t.vars t.stands f in
        record {
          extends = g.extends;
          stands = t.stands;
          sorted = append-sorted (Applies P) (way_sorts c.way) (reverse c.parts) us (part_sorts c.con T) Ss (subst (λ xs. AllSorted (Applies P) (map (λ x. x.sort) xs) (reverse c.parts) (part_sorts c.con T)) (sym t.vars) t.have) g.sorted;
          values = put-values-append M (reverse c.parts) us e ∙ ap₂ ◌++◌ t.gives f.values;
          have = append-have (part_sorts c.con T) Ss items ev (bound-same c.con T v o h items t.fits) f.have;
          input_sorted = g.input_sorted;
          input_value = g.input_value;
          input_has = g.input_has;
        }

    -- from a way with the same variables, or from one further on
    weaken-on : (w w1 : Way) (e : Env) (R : Srt) (rest : After) (r : I → ℕ → Outcome) → w1.vars ≡ w.vars → Ok (Reaches P M w1 e R rest) r → Ok (Reaches P M w e R rest) r
    weaken-on w w1 e R rest r q h = rules.weaken (Reaches P M w1 e R rest) (Reaches P M w e R rest) r (λ v x. reaches-from P M w e w1 e R rest v (extends-same w w1 e q) x) h

    weaken-later : (w : Way) (e : Env) (w1 : Way) (e1 : Env) (R : Srt) (rest : After) (r : I → ℕ → Outcome) → Extends w e w1 e1 → Ok (Reaches P M w1 e1 R rest) r → Ok (Reaches P M w e R rest) r
    weaken-later w e w1 e1 R rest r q h = rules.weaken (Reaches P M w1 e1 R rest) (Reaches P M w e R rest) r (λ v x. reaches-from P M w e w1 e1 R rest v q x) h

    total-callee : (j : ℕ) (g : Fn) → fun_at P j ≡ Some g → (total ≡ true → IsTrue (total_fun P j)) → total ≡ true → IsTrue (is_total P g.effect)
    total-callee j g q h t = subst (λ o. IsTrue (if_there o (λ g. is_total P g.effect) false)) q (h t)

    callee-group : (j : ℕ) (g : Fn) → fun_at P j ≡ Some g → group_of P j ≤ group → g.group ≤ group
    callee-group j g q h = subst (λ o. if_there o (λ f. f.group) zero ≤ group) q h

    module _ (calls-ok : CallsOk) (ghosts-ok : GhostsOk) where
      mutual
        pub text-ok : (c : Cm) (Ss : List Srt) (x : Option ℕ) (S : Srt) (us : List Tm) (s : Tm) (w : Way) (e ev : Env) (sv : Val) (rest : After) → CmSorted P Ss x c S → CmKept P group total c → Fit P M w0 e0 Ss x us s w e ev sv → GoalsValid M (walked c us s w rest) → Ok (Reaches P M w e (result_in P x S) rest) (runs c ev sv)
        text-ok (c_ret t) Ss x S us s w e ev sv rest h a f valid =
            subst (λ z. Ok (Reaches P M w e (result_in P z S) rest) (runs (c_ret t) ev sv)) (sym h.0)
            (rules.unit (Reaches P M w e S rest) _
            (with-term I b Ok GhostOk rules (Reaches P M w e S rest) (eval b t ev) (value M t ev) S (λ i v l. Done v l)
            ((node-sound P sorted kept M number I b Ok GhostOk rules w0 e0) Ss x t S us s w e ev sv h.1 f (valid-left M (term_sites P Gl (goal_site number) t us w) _ valid)) ((node-has P sorted kept M number I b Ok GhostOk rules w0 e0) Ss x t S us s w e ev sv h.1 f)
            (λ n. rules.done (Reaches P M w e S rest) (value M t ev)
            (record { way = w; env = e; extends = extends-same w w e refl; stands = f.stands; term = put us t; sorted = (symbol-sorted P sorted kept M number I b Ok GhostOk rules w0 e0) Ss x t S us s w e ev sv h.1 f; gives = (symbol-value P sorted kept M number I b Ok GhostOk rules w0 e0) Ss x t us s w e ev sv f; has = n; valid = valid-right M (term_sites P Gl (goal_site number) t us w) _ valid }))))
        text-ok (c_let y c1 c2) Ss x S us s w e ev sv rest h a f valid =
            let after : After = λ w1 t. walked c2 (t ∷ all_raised (count w) w1 us) (raised (count w) w1 s) w1 rest in
            let R = result_in P x S in
            rules.unit (Reaches P M w e R rest) _
            (rules.next (Reaches P M w e h.0 after) (Reaches P M w e R rest) (runs c1 ev v_unit) (λ i v l. runs c2 (v ∷ ev) sv i l)
            (text-ok c1 Ss None h.0 us t_unit w e ev v_unit after h.1.0 a.0 ((fit-plain P sorted kept M number I b Ok GhostOk rules w0 e0) Ss x us s w e ev sv f) valid)
            (λ v r. weaken-later w e r.way r.env R rest (runs c2 (v ∷ ev) sv) r.extends
            (text-ok c2 (h.0 ∷ Ss) x S (r.term ∷ all_raised (count w) r.way us) (raised (count w) r.way s) r.way r.env (v ∷ ev) sv rest h.1.1 a.1 ((fit-later P sorted kept M number I b Ok GhostOk rules w0 e0) Ss x us s w e ev sv h.0 after v f r) r.valid)))
        text-ok (c_bind E y c1 c2) Ss x S us s w e ev sv rest h a f valid =
            let T = h.1.0 in
            let fE = subst (λ z. Fit P M w0 e0 Ss z us s w e ev sv) h.0 f in
            let h1 = subst (λ z. CmSorted P Ss z c1 T) h.0 h.1.1.0 in
            let h2 = subst (λ z. CmSorted P (T ∷ Ss) z c2 S) h.0 h.1.1.1 in
            let fw : Steps = λ s1 w1 k1. walked c1 (all_raised (count w) w1 us) s1 w1 k1 in
            let gw : Tm → Steps = λ v s1 w1 k1. walked c2 (v ∷ all_raised (count w) w1 us) s1 w1 k1 in
            let sorts : map (sort_on w) us ≡ Ss = sorts-are (Applies P) (way_sorts w) us Ss f.sorted in
            let first_is : text_sort P (map (sort_on w) us) c1 ≡ T = ap (λ Us. text_sort P Us c1) sorts ∙ text-sort-is P group c1 total Ss (Some E) T h1 a.0 in
            let second_is : text_sort P (text_sort P (map (sort_on w) us) c1 ∷ map (sort_on w) us) c2 ≡ S = ap₂ (λ X Us. text_sort P (X ∷ Us) c2) first_is sorts ∙ text-sort-is P group c2 total (T ∷ Ss) (Some E) S h2 a.1 in
            let there = subst (λ B. GoalsValid M (dm_walk P Gl (goal_site number) fw gw (dm_at T B (bind_text P E)) (s ∷ []) w rest)) second_is
            (subst (λ A. GoalsValid M (dm_walk P Gl (goal_site number) fw gw (dm_at A (text_sort P (text_sort P (map (sort_on w) us) c1 ∷ map (sort_on w) us) c2) (bind_text P E)) (s ∷ []) w rest)) first_is valid) in
            subst (λ z. Ok (Reaches P M w e (result_in P z S) rest) (runs (c_bind E y c1 c2) ev sv)) (sym h.0)
            (rules.unit (Reaches P M w e (result_at P E S) rest) _
            ((bind-ok P sorted kept M number I b Ok GhostOk rules w0 e0) w e s sv rest f.stands E T S fw gw (λ i s1 r. runs c1 ev s1 i r) (λ i v s1 r. runs c2 (v ∷ ev) s1 i r) fE.input_sorted fE.input_value fE.input_has
            (λ w1 e1 s1 sv1 rest1 ex st is iv ih v1. text-ok c1 Ss (Some E) T (all_raised (count w) w1 us) s1 w1 e1 ev sv1 rest1 h1 a.0 ((fit-raised P sorted kept M number I b Ok GhostOk rules w0 e0) Ss x (Some E) us s s1 w e w1 e1 ev sv sv1 f ex st is iv ih) v1)
            (λ w1 e1 v vv s1 sv1 rest1 ex st vs vi vh is iv ih v1.
            let g = (fit-raised P sorted kept M number I b Ok GhostOk rules w0 e0) Ss x (Some E) us s s1 w e w1 e1 ev sv sv1 f ex st is iv ih in
            text-ok c2 (T ∷ Ss) (Some E) S (v ∷ all_raised (count w) w1 us) s1 w1 e1 (vv ∷ ev) sv1 rest1 h2 a.1
            (record { extends = g.extends; stands = g.stands; sorted = (vs, g.sorted); values = ap₂ ◌∷◌ vi g.values; have = (vh, g.have); input_sorted = g.input_sorted; input_value = g.input_value; input_has = g.input_has }) v1)
            there))
        text-ok (c_ghost y c1 c2) Ss x S us s w e ev sv rest h a f valid =
            let after : After = λ w1 t. walked c2 (t ∷ all_raised (count w) w1 us) (raised (count w) w1 s) w1 rest in
            let R = result_in P x S in
            let plain = (fit-plain P sorted kept M number I b Ok GhostOk rules w0 e0) Ss x us s w e ev sv f in
            rules.ghost (Reaches P M w e h.0 after) (Reaches P M w e R rest) (λ i. gh i c1 ev) (λ i v F. runs c2 (v ∷ ev) sv i F)
            (ghosts-ok c1 Ss h.0 us w e ev after h.1.0 a.0 plain valid (λ t. text-ok c1 Ss None h.0 us t_unit w e ev v_unit after h.1.0 (subst (λ z. CmKept P group z c1) (sym t) a.0) plain valid))
            (λ v r. weaken-later w e r.way r.env R rest (runs c2 (v ∷ ev) sv) r.extends
            (text-ok c2 (h.0 ∷ Ss) x S (r.term ∷ all_raised (count w) r.way us) (raised (count w) r.way s) r.way r.env (v ∷ ev) sv rest h.1.1 a.1 ((fit-later P sorted kept M number I b Ok GhostOk rules w0 e0) Ss x us s w e ev sv h.0 after v f r) r.valid))
        text-ok (c_assert phi at c) Ss x S us s w e ev sv rest h a f valid =
            let truth = goal-true M number kind.Assert at (put us phi) w e f.stands (valid-left M (goal_site number kind.Assert at (put us phi) w) _ valid) in
            let truth_here : value M phi ev ≡ v_bool true = ap (value M phi) (sym f.values) ∙ sym (put-value M us phi e) ∙ truth in
            subst (λ z. Ok (Reaches P M w e (result_in P x S) rest) (λ i F. if z then runs c ev sv i F else Stuck at)) (sym (ap is_true truth_here))
            (weaken-on w (suppose (put us phi) w) e (result_in P x S) rest (runs c ev sv) refl
            (text-ok c Ss x S us s (suppose (put us phi) w) e ev sv rest h.1 a ((fit-on P sorted kept M number I b Ok GhostOk rules w0 e0) Ss x us s w (suppose (put us phi) w) e ev sv refl (suppose-stands M (put us phi) w e f.stands truth) f) (valid-right M (goal_site number kind.Assert at (put us phi) w) _ valid)))
        text-ok (c_if t c1 c2) Ss x S us s w e ev sv rest h a f valid =
            let Q = Reaches P M w e (result_in P x S) rest in
            rules.unit Q _
            (with-term I b Ok GhostOk rules Q (eval b t ev) (value M t ev) s_bool (λ i v l. if is_true v then runs c1 ev sv i l else runs c2 ev sv i l)
            ((node-sound P sorted kept M number I b Ok GhostOk rules w0 e0) Ss x t s_bool us s w e ev sv h.0 f (valid-left M (term_sites P Gl (goal_site number) t us w) _ valid)) ((node-has P sorted kept M number I b Ok GhostOk rules w0 e0) Ss x t s_bool us s w e ev sv h.0 f)
            (λ n. go (is_true (value M t ev)) refl
            (λ w1 q st v1. text-ok c1 Ss x S us s w1 e ev sv rest h.1 a.0 ((fit-on P sorted kept M number I b Ok GhostOk rules w0 e0) Ss x us s w w1 e ev sv q st f) v1)
            (λ w1 q st v1. text-ok c2 Ss x S us s w1 e ev sv rest h.2 a.1 ((fit-on P sorted kept M number I b Ok GhostOk rules w0 e0) Ss x us s w w1 e ev sv q st f) v1)))
          where
            go : (z : Bool) → is_true (value M t ev) ≡ z
                → ((w1 : Way) → w1.vars ≡ w.vars → Stands M w1 e → GoalsValid M (walked c1 us s w1 rest) → Ok (Reaches P M w1 e (result_in P x S) rest) (runs c1 ev sv))
                → ((w1 : Way) → w1.vars ≡ w.vars → Stands M w1 e → GoalsValid M (walked c2 us s w1 rest) → Ok (Reaches P M w1 e (result_in P x S) rest) (runs c2 ev sv))
                → Ok (Reaches P M w e (result_in P x S) rest) (λ i l. if z then runs c1 ev sv i l else runs c2 ev sv i l)
            go true q on_then on_else =
                let o = chosen-side M e w (side-goals c1 c2 us s rest) f.stands (put us t) true (ap is_true ((symbol-value P sorted kept M number I b Ok GhostOk rules w0 e0) Ss x t us s w e ev sv f) ∙ q) (valid-right M (term_sites P Gl (goal_site number) t us w) _ valid) in
                weaken-on w o.way e (result_in P x S) rest (runs c1 ev sv) o.vars (on_then o.way o.vars o.stands o.valid)
            go false q on_then on_else =
                let o = chosen-side M e w (side-goals c1 c2 us s rest) f.stands (put us t) false (ap is_true ((symbol-value P sorted kept M number I b Ok GhostOk rules w0 e0) Ss x t us s w e ev sv f) ∙ q) (valid-right M (term_sites P Gl (goal_site number) t us w) _ valid) in
                weaken-on w o.way e (result_in P x S) rest (runs c2 ev sv) o.vars (on_else o.way o.vars o.stands o.valid)
        text-ok (c_match t at arms) Ss x S us s w e ev sv rest h a f valid =
            let Q = Reaches P M w e (result_in P x S) rest in
            rules.unit Q _
            (with-term I b Ok GhostOk rules Q (eval b t ev) (value M t ev) h.0 (λ i v l. arm-runs arms at v ev sv i l)
            ((node-sound P sorted kept M number I b Ok GhostOk rules w0 e0) Ss x t h.0 us s w e ev sv h.1.0 f (valid-left M (term_sites P Gl (goal_site number) t us w) _ valid)) ((node-has P sorted kept M number I b Ok GhostOk rules w0 e0) Ss x t h.0 us s w e ev sv h.1.0 f)
            (λ n. go arms h.1.1 a.0 (valid-right M (term_sites P Gl (goal_site number) t us w) _ valid) n
            (λ c items t1 v1. arm-ok arms Ss x h.0 S us s w e ev sv rest at c items (value M t ev) h.1.1 a.1 t1 n f v1)))
          where
            go : (arms1 : CmArms) → ArmsSorted P Ss x h.0 arms1 S → HasArm arms1
                → GoalsValid M (over (cases (cm_family arms1) (put us t) w) (λ c. arms-walked arms1 at c us s rest))
                → Has h.0 (value M t ev)
                → ((c : Case) (items : List Val) → Entered w e h.0 (value M t ev) c items → GoalsValid M (arms-walked arms1 at c us s rest) → Ok (Reaches P M w e (result_in P x S) rest) (λ i l. arm-runs arms1 at (value M t ev) ev sv i l))
                → Ok (Reaches P M w e (result_in P x S) rest) (λ i l. arm-runs arms1 at (value M t ev) ev sv i l)
            go c_end k z v1 n next = absurd z
            go (c_arm c xs body more) k z v1 n next =
                let y = taken-case P M w e (λ c1. arms-walked (c_arm c xs body more) at c1 us s rest) (put us t) c h.0 (value M t ev) f.stands k.0 n ((symbol-value P sorted kept M number I b Ok GhostOk rules w0 e0) Ss x t us s w e ev sv f) ((symbol-sorted P sorted kept M number I b Ok GhostOk rules w0 e0) Ss x t h.0 us s w e ev sv h.1.0 f) v1 in
                next y.case y.items (record { fits = y.fits; vars = y.vars; stands = y.stands; have = y.sorted; gives = y.gives }) y.valid
        text-ok (c_call j ts at) Ss x S us s w e ev sv rest h a f valid = go (fun_at P j) refl h
          where
            go : (o : Option Fn) → fun_at P j ≡ o → if_there o (λ g. (x ≡ place_of g.effect) × (S ≡ g.sort) × TmsSorted (Applies P) Ss ts (map (λ p. p.sort) g.params) × IsTrue (are_run ts)) ⊥ → Ok (Reaches P M w e (result_in P x S) rest) (runs (c_call j ts at) ev sv)
            go None q h = absurd h
            go (Some g) q h =
                let fx = subst (λ z. Fit P M w0 e0 Ss z us s w e ev sv) h.0 f in
                let R = result_in P (place_of g.effect) g.sort in
                let ds = divisor_sites P Gl (goal_site number) (all_divisions [] ts) us w in
                let is : result_in P x S ≡ R = ap₂ (λ z T. result_in P z T) h.0 h.1 in
                let args : put_values M (listed (puts us ts)) e ≡ values M ts ev = listed-values M (puts us ts) e ∙ puts-values M us ts e ∙ ap (values M ts) f.values in
                subst (λ X. Ok (Reaches P M w e X rest) (runs (c_call j ts at) ev sv)) (sym is)
                (rules.unit (Reaches P M w e R rest) _
                (with-terms I b Ok GhostOk rules (Reaches P M w e R rest) (arguments b (params_of P j) ts ev) (values M ts ev) (param_sorts P g) (λ i vs l. call i j vs sv l)
                ((core-args-sound P sorted kept M number I b Ok GhostOk rules w0 e0) Ss (params_of P j) ts (param_sorts P g) ev h.2 h.3 f.have (subst (λ v. AllNonzero M v (all_divisions [] ts)) f.values (sites-nonzero M P number (all_divisions [] ts) us w e f.stands (valid-left M ds _ valid))))
                ((core-args-have P sorted kept M number I b Ok GhostOk rules w0 e0) Ss (params_of P j) ts (param_sorts P g) ev h.2 h.3 f.have)
                (λ n. calls-ok j g q (total-callee j g q a.0) (callee-group j g q a.1) w e (listed (puts us ts)) (values M ts ev) s sv at rest f.extends f.stands (listed-sorted (Applies P) (way_sorts w) (puts us ts) (param_sorts P g) (puts-sorted (Applies P) (way_sorts w) us Ss ts (param_sorts P g) f.sorted h.2)) args n fx.input_sorted fx.input_value fx.input_has (valid-right M ds _ valid))))
        text-ok (c_reify E T c t) Ss x S us s w e ev sv rest h a f valid =
            subst (λ z. Ok (Reaches P M w e (result_in P z S) rest) (runs (c_reify E T c t) ev sv)) (sym h.0)
            (subst (λ X. Ok (Reaches P M w e X rest) (runs (c_reify E T c t) ev sv)) (sym h.1)
            (go (effect_at P E) refl h.3 (λ v g v1. text-ok c Ss (Some E) T us (put us t) w e ev v rest h.2 a g v1)))
          where
            go : (o : Option EffDef) → effect_at P E ≡ o → if_there o (λ d. RunSorted P Ss t d.input) ⊥ → ((v : Val) → Fit P M w0 e0 Ss (Some E) us (put us t) w e ev v → GoalsValid M (walked c us (put us t) w rest) → Ok (Reaches P M w e (result_at P E T) rest) (runs c ev v)) → Ok (Reaches P M w e (result_at P E T) rest) (runs (c_reify E T c t) ev sv)
            go None q k ih = absurd k
            go (Some d) q k ih =
                let Q = Reaches P M w e (result_at P E T) rest in
                rules.unit Q _
                (with-term I b Ok GhostOk rules Q (eval b t ev) (value M t ev) d.input (λ i s1 l. runs c ev s1 i l)
                ((node-sound P sorted kept M number I b Ok GhostOk rules w0 e0) Ss x t d.input us s w e ev sv k f (valid-left M (term_sites P Gl (goal_site number) t us w) _ valid)) ((node-has P sorted kept M number I b Ok GhostOk rules w0 e0) Ss x t d.input us s w e ev sv k f)
                (λ n. ih (value M t ev)
                (record { extends = f.extends; stands = f.stands; sorted = f.sorted; values = f.values; have = f.have; input_sorted = (sorted-to P sorted kept M number I b Ok GhostOk rules w0 e0) E d w (put us t) q ((symbol-sorted P sorted kept M number I b Ok GhostOk rules w0 e0) Ss x t d.input us s w e ev sv k f); input_value = (symbol-value P sorted kept M number I b Ok GhostOk rules w0 e0) Ss x t us s w e ev sv f; input_has = (input-to P sorted kept M number I b Ok GhostOk rules w0 e0) E d (value M t ev) q n })
                (valid-right M (term_sites P Gl (goal_site number) t us w) _ valid)))
        text-ok (c_reflect E T y c) Ss x S us s w e ev sv rest h a f valid =
            let fE = subst (λ z. Fit P M w0 e0 Ss z us s w e ev sv) h.0 f in
            subst (λ z. Ok (Reaches P M w e (result_in P z S) rest) (runs (c_reflect E T y c) ev sv)) (sym h.0)
            (subst (λ X. Ok (Reaches P M w e (result_at P E X) rest) (runs (c_reflect E T y c) ev sv)) (sym h.1)
            (go fE (effect_at P E) refl h.2 (λ d k g. text-ok c (d.input ∷ Ss) None (result_at P E T) (s ∷ us) t_unit w e (sv ∷ ev) v_unit rest k a g valid)))
          where
            go : Fit P M w0 e0 Ss (Some E) us s w e ev sv → (o : Option EffDef) → effect_at P E ≡ o → if_there o (λ d. CmSorted P (d.input ∷ Ss) None c (result_at P E T)) ⊥
                → ((d : EffDef) → CmSorted P (d.input ∷ Ss) None c (result_at P E T) → Fit P M w0 e0 (d.input ∷ Ss) None (s ∷ us) t_unit w e (sv ∷ ev) v_unit → Ok (Reaches P M w e (result_at P E T) rest) (runs c (sv ∷ ev) v_unit))
                → Ok (Reaches P M w e (result_at P E T) rest) (runs (c_reflect E T y c) ev sv)
            go fE None q k ih = absurd k
            go fE (Some d) q k ih =
                rules.unit (Reaches P M w e (result_at P E T) rest) _
                (ih d k
                (record { extends = f.extends; stands = f.stands; sorted = ((sorted-of P sorted kept M number I b Ok GhostOk rules w0 e0) E d w s q fE.input_sorted, f.sorted); values = ap₂ ◌∷◌ f.input_value f.values; have = ((input-of P sorted kept M number I b Ok GhostOk rules w0 e0) E d sv q fE.input_has, f.have); input_sorted = tt; input_value = refl; input_has = tt }))
        text-ok (c_return E c) Ss x S us s w e ev sv rest h a f valid =
            let fE = subst (λ z. Fit P M w0 e0 Ss z us s w e ev sv) h.0 f in
            let A = text_sort P (map (sort_on w) us) c in
            let sorts : map (sort_on w) us ≡ Ss = sorts-are (Applies P) (way_sorts w) us Ss f.sorted in
            let is : A ≡ S = ap (λ Us. text_sort P Us c) sorts ∙ text-sort-is P group c total Ss None S h.1 a in
            let ending : Srt → After = λ X w1 t. dm_walk P Gl (goal_site number) (no_walk_f P Gl (goal_site number)) (no_walk_g P Gl (goal_site number)) (dm_at X X (return_text P E)) (raised (count w) w1 s ∷ t ∷ []) w1 rest in
            subst (λ z. Ok (Reaches P M w e (result_in P z S) rest) (runs (c_return E c) ev sv)) (sym h.0)
            (rules.next (Reaches P M w e S (ending A)) (Reaches P M w e (result_at P E S) rest) (runs c ev v_unit) (λ i v r. dm b no_f no_g (return_text P E) (sv ∷ v ∷ []) r)
            (text-ok c Ss None S us t_unit w e ev v_unit (ending A) h.1 a ((fit-plain P sorted kept M number I b Ok GhostOk rules w0 e0) Ss x us s w e ev sv f) valid)
            (λ v r. weaken-later w e r.way r.env (result_at P E S) rest _ r.extends
            ((return-ok P sorted kept M number I b Ok GhostOk rules w0 e0) r.way r.env (raised (count w) r.way s) sv rest r.stands E S r.term v (raised-input P w e r.way r.env (Some E) s r.extends fE.input_sorted) (raised-value M w e r.way r.env s r.extends ∙ fE.input_value) fE.input_has r.sorted r.gives r.has
            (subst (λ X. GoalsValid M (ending X r.way r.term)) is r.valid))))
        text-ok (c_lift n c) Ss x S us s w e ev sv rest h a f valid = go (slice_get P.lifts n) refl h
            (λ l k w1 e1 s1 sv1 rest1 ex st is iv ih v1. text-ok c Ss (Some l.from) S (all_raised (count w) w1 us) s1 w1 e1 ev sv1 rest1 k a ((fit-raised P sorted kept M number I b Ok GhostOk rules w0 e0) Ss x (Some l.from) us s s1 w e w1 e1 ev sv sv1 f ex st is iv ih) v1)
          where
            go : (o : Option LftDef) → slice_get P.lifts n ≡ o → if_there o (λ l. (x ≡ Some l.«to») × CmSorted P Ss (Some l.from) c S) ⊥
                → ((l : LftDef) → CmSorted P Ss (Some l.from) c S → (Serves P sorted kept M number I b Ok GhostOk rules w0 e0) l.from (result_at P l.from S) w e (λ s1 w1 k1. walked c (all_raised (count w) w1 us) s1 w1 k1) (λ i s1 r. runs c ev s1 i r))
                → Ok (Reaches P M w e (result_in P x S) rest) (runs (c_lift n c) ev sv)
            go None q k serves = absurd k
            go (Some l) q k serves =
                let fE = subst (λ z. Fit P M w0 e0 Ss z us s w e ev sv) k.0 f in
                let A = text_sort P (map (sort_on w) us) c in
                let sorts : map (sort_on w) us ≡ Ss = sorts-are (Applies P) (way_sorts w) us Ss f.sorted in
                let is : A ≡ S = ap (λ Us. text_sort P Us c) sorts ∙ text-sort-is P group c total Ss (Some l.from) S k.1 a in
                let text_is : lift_text P n ≡ l.text = ap (λ o. if_there o (λ d. d.text) (d_ret t_unit)) q in
                let step : Steps = λ s1 w1 k1. walked c (all_raised (count w) w1 us) s1 w1 k1 in
                let there = subst (λ t. GoalsValid M (dm_walk P Gl (goal_site number) step (no_walk_g P Gl (goal_site number)) (dm_at S S t) (s ∷ []) w rest)) text_is
                (subst (λ X. GoalsValid M (dm_walk P Gl (goal_site number) step (no_walk_g P Gl (goal_site number)) (dm_at X X (lift_text P n)) (s ∷ []) w rest)) is valid) in
                subst (λ z. Ok (Reaches P M w e (result_in P z S) rest) (runs (c_lift n c) ev sv)) (sym k.0)
                (subst (λ t. Ok (Reaches P M w e (result_at P l.«to» S) rest) (λ i F. dm b (λ s1 r. runs c ev s1 i r) no_g t (sv ∷ []) F)) (sym text_is)
                ((lift-ok P sorted kept M number I b Ok GhostOk rules w0 e0) w e s sv rest f.stands n l S step (λ i s1 r. runs c ev s1 i r) q fE.input_sorted fE.input_value fE.input_has (serves l k.1) there))

        arm-ok : (arms : CmArms) (Ss : List Srt) (x : Option ℕ) (T S : Srt) (us : List Tm) (s : Tm) (w : Way) (e ev : Env) (sv : Val) (rest : After) (at : ℕ) (c : Case) (items : List Val) (v : Val) → ArmsSorted P Ss x T arms S → ArmsKept P group total arms → Entered w e T v c items → Has T v → Fit P M w0 e0 Ss x us s w e ev sv → GoalsValid M (arms-walked arms at c us s rest) → Ok (Reaches P M w e (result_in P x S) rest) (arm-runs arms at v ev sv)
        arm-ok c_end Ss x T S us s w e ev sv rest at c items v h a t n f valid = let bad = goal-true M number kind.Match at (t_bool false) c.way e t.stands valid in absurd (let y : v_bool false ≡ v_bool true = bad in cc)
        arm-ok (c_arm c' ys body more) Ss x T S us s w e ev sv rest at c items v h a t n f valid =
            go (same_con c' c.con) refl valid
            (λ o q v1. weaken-on w c.way e (result_in P x S) rest (runs body (items ++ ev) sv) t.vars
            (text-ok body (part_sorts c.con T ++ Ss) x S (reverse c.parts ++ us) s c.way e (items ++ ev) sv rest (subst (λ z. CmSorted P (part_sorts z T ++ Ss) x body S) q h.2) a.0 (fit-under Ss x us s w e ev sv T v c items t o n f) v1))
            (λ v1. arm-ok more Ss x T S us s w e ev sv rest at c items v h.3 a.1 t n f v1)
          where
            go : (z : Bool) → same_con c' c.con ≡ z → GoalsValid M (if z then walked body (reverse c.parts ++ us) s c.way rest else arms-walked more at c us s rest)
                → (ConOf c.con T → c' ≡ c.con → GoalsValid M (walked body (reverse c.parts ++ us) s c.way rest) → Ok (Reaches P M w e (result_in P x S) rest) (runs body (items ++ ev) sv))
                → (GoalsValid M (arms-walked more at c us s rest) → Ok (Reaches P M w e (result_in P x S) rest) (arm-runs more at v ev sv))
                → Ok (Reaches P M w e (result_in P x S) rest) (λ i l. if_fits (parts c' v) (λ vs. runs body (vs ++ ev) sv i l) (arm-runs more at v ev sv i l))
            go true q v1 on_this on_more =
                let is = same-con-is c' c.con q in
                subst (λ o. Ok (Reaches P M w e (result_in P x S) rest) (λ i l. if_fits o (λ vs. runs body (vs ++ ev) sv i l) (arm-runs more at v ev sv i l))) (sym (ap (λ z. parts z v) is ∙ t.fits))
                (on_this (subst (λ z. ConOf z T) is h.0) is v1)
            go false q v1 on_this on_more =
                subst (λ o. Ok (Reaches P M w e (result_in P x S) rest) (λ i l. if_fits o (λ vs. runs body (vs ++ ev) sv i l) (arm-runs more at v ev sv i l))) (sym (other-con c' c.con v items q t.fits))
                (on_more v1)
