-- The same for core text: on each way whose hypotheses are true, a run that is done gives the value of the way's result.
use Rattle.std.proofs.Common.{◌≡◌, ℕ, zero, suc, ◌≤◌, Bool, true, false, if◌then◌else◌, List, [], ◌∷◌, ◌++◌, map, reverse, Option, Some, None, IsTrue, refl, sym, ap, ap₂, ◌∙◌, subst, slice_get, ◌⊎◌, inl, inr}
use Rattle.fst_base.specs.Sorts.{Srt, s_bool, s_a, s_b}
use Rattle.fst_base.specs.Values.{Val, v_unit, Has, HasSorts}
use Rattle.fst_base.specs.Primitives.{is_true}
use Rattle.fst_base.proofs.RowLemmas.{put_sorts-same}
use Rattle.fst_terms.specs.Terms.{Tm, t_bool, t_unit, listed}
use Rattle.fst_terms.specs.Meaning.{Env, Meaning, value, values}
use Rattle.fst_terms.specs.Formulas.{put, puts}
use Rattle.fst_terms.specs.Sorted.{TmsSorted, are_run}
use Rattle.fst_terms.proofs.PutLemmas.{put_values, puts-values}
use Rattle.fst_program.specs.declared.comp.Con.{Con}
use Rattle.fst_program.specs.declared.goal.SiteKind.{SiteKind}
use Rattle.fst_program.specs.declared.goal.SiteKind.TheVariants as kind
use Rattle.fst_program.specs.Texts.{d_ret, Cm, CmArms, c_ret, c_let, c_bind, c_ghost, c_assert, c_if, c_match, c_call, c_reify, c_reflect, c_return, c_lift, c_end, c_arm, EffDef, LftDef, Fn, Prog, if_there, fun_at, effect_at, params_of, bind_text, return_text, lift_text, result_at, group_of}
use Rattle.fst_program.specs.Evaluation.{got, gots, eval, arguments}
use Rattle.fst_program.specs.Runs.{Outcome, Done, Out, Wide, Stuck, GhostOut, then_do, hide, parts, if_fits, dm, no_f, no_g, input_to, ghost_run, ev}
use Rattle.fst_program.specs.Paths.{Way, count, suppose, raised, all_raised, over, Side, Case, cases, same_con, sort_on, cm_family, divisions, all_divisions, part_sorts, text_sort, dm_at, dm_walk, no_walk_f, no_walk_g, walk, arm_walk, CallWalk}
use Rattle.fst_program.specs.Sorted.{Applies, FormSorted, RunSorted, ConOf, place_of, InputHas, result_in, CmSorted, ArmsSorted, param_sorts, IsSorted}
use Rattle.fst_program.proofs.SortedLemmas.{GotsHave, arguments-have, bound-parts, append-have}
use Rattle.fst_program.proofs.SortedRunLemmas.{ev-has}
use Rattle.fst_program.proofs.LevelLemmas.{ev_call, ev_let, ev_bind, ev_if, ev_arm, ev_match, ev_reify, ev_reflect, ev_lift}
use Rattle.fst_program.specs.Full.{HasArm}
use Rattle.fst_goodness.proofs.Kept.{IsKept, CmKept, ArmsKept}
use Rattle.fst_program.proofs.SortedTerms.{AllSorted, append-sorted, puts-sorted, sorts-are, terms_at-same, map-same}
use Rattle.fst_program.proofs.Ways.{way_sorts, extends-same, raised-value}
use Rattle.fst_goodness.proofs.Choices.{same-con-is, other-con}
use Rattle.fst_goodness.proofs.DefinitionText.{put-values-append}
use Rattle.fst_goodness.proofs.CoreEffects.{InputSorted, listed-sorted, listed-values}
use Rattle.fst_goodness.proofs.TextSorts.{text-sort-is}
use Rattle.fst_goodness.proofs.Gives.{Gives, spent, valued, all-valued, gone-on, arguments-give}
use Rattle.fst_goodness.proofs.Followed.{truth-decided, Every, Branch, every-case, every-side, every-divisor}
use Rattle.fst_goodness.proofs.FollowedEffects.{All, Lives, Next, Steps, Wants, both, wants-on, chosen, Fits, input-raised, fits-on, fits-plain, fits-later, fits-raised, core-is, core-has, core-sorted, text-has, done-is, input-of, input-to-has, sorted-to, Serves, bind-follows, return-follows, lift-follows}

lower : ℕ → ℕ
lower zero = zero
lower (suc n) = n

module _ (P : Prog) (sorted : IsSorted P) (kept : IsKept P) (M : Meaning) (X : Type 0) (site : SiteKind → (place : ℕ) → Tm → Way → List X) (Pi : X → Type 0) (e : Env) (site-ok : (m : SiteKind) (at : ℕ) (phi : Tm) (w : Way) → Every P M X site Pi e (site m at phi w)) where
  -- ---- core text

  module _ (call : CallWalk P X site) (group : ℕ) (total : Bool) where
    abbrev walked : Cm → List Tm → (Steps P sorted kept M X site Pi e site-ok)
    walked c us s w k = walk P X site call c us s w k

    abbrev arms-walked : CmArms → (place : ℕ) → Case → List Tm → Tm → (Next P sorted kept M X site Pi e site-ok) → List X
    arms-walked arms at c us s k = arm_walk P X site call arms at c us s k

    abbrev side-walked : Cm → Cm → List Tm → Tm → (Next P sorted kept M X site Pi e site-ok) → Side → List X
    side-walked c1 c2 us s k side = if side.first then walked c1 us s side.way k else walked c2 us s side.way k

    abbrev gives-at : ℕ → Cm → Env → Val → Val → Type 0
    gives-at G c env sv v = Gives (λ F. ev M P F G false env sv c) v

    -- a call whose body's run gives a value
    abbrev pub CallsFollow : Type 0
    CallsFollow = (G : ℕ) (j : ℕ) (g : Fn) → fun_at P j ≡ Some g → g.group ≤ group → (w : Way) (ts : List Tm) (vs : List Val) (s : Tm) (sv v : Val) (at : ℕ) (k : (Next P sorted kept M X site Pi e site-ok)) → AllSorted (Applies P) (way_sorts w) ts (param_sorts P g) → InputSorted P w (place_of g.effect) s
        → ((Lives P sorted kept M X site Pi e site-ok) w → (put_values M ts e ≡ vs) × HasSorts (param_sorts P g) vs × (value M s e ≡ sv) × InputHas P (place_of g.effect) sv × gives-at G g.body (reverse vs) (input_to g.effect sv) v)
        → (Wants P sorted kept M X site Pi e site-ok) w (result_in P (place_of g.effect) g.sort) k v → (All P sorted kept M X site Pi e site-ok) (call j ts s at w k)

    chosen-list : (w : Way) (Q : List Val → Type 0) → ((Lives P sorted kept M X site Pi e site-ok) w → (x : List Val) × Q x) → (x : List Val) × ((Lives P sorted kept M X site Pi e site-ok) w → Q x)
    chosen-list w Q h = go (truth-decided M e w.hyps)
      where
        go : (Lives P sorted kept M X site Pi e site-ok) w ⊎ ((Lives P sorted kept M X site Pi e site-ok) w → ⊥) → (x : List Val) × ((Lives P sorted kept M X site Pi e site-ok) w → Q x)
        go (inl a) = let r = h a in (r.0, λ z. r.1)
        go (inr lacks) = ([], λ a. absurd (lacks a))

    -- a ghost part that is done
    ghost-gives : (G : ℕ) (c : Cm) (env : Env) (k : Val → ℕ → Outcome) (v : Val) (left : ℕ) → then_do (ghost_run M P G c env) k ≡ Done v left → (x : Val) × gives-at (lower G) c env v_unit x × (k x zero ≡ Done v left)
    unfolding lower
    ghost-gives zero c env k v left q = cc
    ghost-gives (suc G) c env k v left q = go (ev M P (suc G) G false env v_unit c) refl q
      where
        go : (o : Outcome) → ev M P (suc G) G false env v_unit c ≡ o → then_do (hide o) k ≡ Done v left → (x : Val) × Gives (λ F. ev M P F G false env v_unit c) x × (k x zero ≡ Done v left)
        go (Done x l) p q = (x, (suc G, l, p), q)
        go Out p q = cc
        go Wide p q = cc
        go (Stuck at) p q = cc
        go GhostOut p q = cc

    if-done : (b : Bool) (o : Outcome) (at : ℕ) (v : Val) (left : ℕ) → (if b then o else Stuck at) ≡ Done v left → o ≡ Done v left
    if-done true o at v left q = q
    if-done false o at v left q = cc

    bound-same : (c : Con) (S : Srt) (v : Val) → ConOf c S → Has S v → (ws : List Val) → parts c v ≡ Some ws → HasSorts (part_sorts c S) ws
    bound-same c S v o h ws q = subst (λ Us. HasSorts Us ws) (map-same (part_sorts c S)) (bound-parts s_a s_b c S v o (subst (λ T. Has T v) (sym (put_sorts-same S)) h) ws q)

    fits-under : (Ss : List Srt) (x : Option ℕ) (us : List Tm) (s : Tm) (w : Way) (env : Env) (sv : Val) (T : Srt) (u : Tm) (c : Case) → Branch P M X site Pi e w T u c → ConOf c.con T → ((Lives P sorted kept M X site Pi e site-ok) w → Has T (value M u e)) → (Fits P sorted kept M X site Pi e site-ok) Ss x us s w env sv → (Fits P sorted kept M X site Pi e site-ok) (part_sorts c.con T ++ Ss) x (reverse c.parts ++ us) s c.way (put_values M (reverse c.parts) e ++ env) sv
    fits-under Ss x us s w env sv T u c br o has f =
        let g = (fits-on P sorted kept M X site Pi e site-ok) Ss x us s w c.way env sv br.vars br.alive f in
        record {
          terms = append-sorted (Applies P) (way_sorts c.way) (reverse c.parts) us (part_sorts c.con T) Ss (subst (λ xs. AllSorted (Applies P) (map (λ x. x.sort) xs) (reverse c.parts) (part_sorts c.con T)) (sym br.vars) br.sorted) g.terms;
          input = g.input;
          values = λ a. let r = g.values a in (
            put-values-append M (reverse c.parts) us e ∙ ap (λ l. put_values M (reverse c.parts) e ++ l) r.0,
            append-have (part_sorts c.con T) Ss (put_values M (reverse c.parts) e) env (bound-same c.con T (value M u e) o (has (br.alive a)) (put_values M (reverse c.parts) e) (br.fits a)) r.1,
            r.2,
            r.3,
          );
        }

    callee-group : (j : ℕ) (g : Fn) → fun_at P j ≡ Some g → group_of P j ≤ group → g.group ≤ group
    callee-group j g q h = subst (λ o. if_there o (λ f. f.group) zero ≤ group) q h

    module _ (calls-follow : CallsFollow) where
      mutual
        pub text-follows : (c : Cm) (G : ℕ) (tot : Bool) (Ss : List Srt) (x : Option ℕ) (S : Srt) (us : List Tm) (s : Tm) (w : Way) (env : Env) (sv v : Val) (k : (Next P sorted kept M X site Pi e site-ok)) → CmSorted P Ss x c S → CmKept P group tot c → (Fits P sorted kept M X site Pi e site-ok) Ss x us s w env sv → ((Lives P sorted kept M X site Pi e site-ok) w → gives-at G c env sv v) → (Wants P sorted kept M X site Pi e site-ok) w (result_in P x S) k v → (All P sorted kept M X site Pi e site-ok) (walked c us s w k)
        text-follows (c_ret t) G tot Ss x S us s w env sv v k h own f gives wants =
            (both P sorted kept M X site Pi e site-ok) _ _ (every-divisor P M X site Pi e site-ok (divisions [] t) us w)
            (subst (λ z. (Wants P sorted kept M X site Pi e site-ok) w (result_in P z S) k v) h.0 wants w (put us t) refl ((core-sorted P sorted kept M X site Pi e site-ok) Ss x t S us s w env sv h.1 f) (λ a. a)
            (λ a. let r = gives a in let sp = spent r.0 _ v r.1 r.2 in let va = valued (eval false t env) (λ x. Done x sp.0) v r.1 sp.1 in (core-is P sorted kept M X site Pi e site-ok) Ss x t S us s w env sv va.0 h.1 f a va.1 ∙ (done-is P sorted kept M X site Pi e site-ok) va.0 v sp.0 r.1 va.2))
        text-follows (c_let y c1 c2) G tot Ss x S us s w env sv v k h own f gives wants =
            let c = (chosen P sorted kept M X site Pi e site-ok) w (λ z. gives-at G c1 env v_unit z × gives-at G c2 (z ∷ env) sv v) (λ a.
            let r = gives a in
            let sp = spent r.0 _ v r.1 (sym (ev_let M P G false r.0 y c1 c2 env sv) ∙ r.2) in
            let z = gone-on (ev M P sp.0 G false env v_unit c1) (λ z l. ev M P l G false (z ∷ env) sv c2) v r.1 sp.1 in
            (z.0, ((sp.0, z.1, z.2), (z.1, r.1, z.3)))) in
            text-follows c1 G tot Ss None h.0 us t_unit w env v_unit c.0 _ h.1.0 own.0 ((fits-plain P sorted kept M X site Pi e site-ok) Ss x us s w env sv f) (λ a. (c.1 a).0)
            (λ w1 t q st al val. text-follows c2 G tot (h.0 ∷ Ss) x S (t ∷ all_raised (count w) w1 us) (raised (count w) w1 s) w1 (c.0 ∷ env) sv v k h.1.1 own.1
            ((fits-later P sorted kept M X site Pi e site-ok) Ss x us s w w1 env sv h.0 t c.0 f q al st val (λ a. let r = (c.1 a).0 in (text-has P sorted kept M X site Pi e site-ok) G r.0 r.1 Ss None c1 h.0 env v_unit c.0 h.1.0 (f.values a).1 tt r.2)) (λ a. (c.1 (al a)).1) ((wants-on P sorted kept M X site Pi e site-ok) w w1 (result_in P x S) k v q al wants))
        text-follows (c_bind E y c1 c2) G tot Ss x S us s w env sv v k h own f gives wants =
            let T = h.1.0 in
            let fE = subst (λ z. (Fits P sorted kept M X site Pi e site-ok) Ss z us s w env sv) h.0 f in
            let h1 = subst (λ z. CmSorted P Ss z c1 T) h.0 h.1.1.0 in
            let h2 = subst (λ z. CmSorted P (T ∷ Ss) z c2 S) h.0 h.1.1.1 in
            let fw : (Steps P sorted kept M X site Pi e site-ok) = λ s1 w1 k1. walked c1 (all_raised (count w) w1 us) s1 w1 k1 in
            let gw : Tm → (Steps P sorted kept M X site Pi e site-ok) = λ t s1 w1 k1. walked c2 (t ∷ all_raised (count w) w1 us) s1 w1 k1 in
            let sorts : map (sort_on w) us ≡ Ss = sorts-are (Applies P) (way_sorts w) us Ss f.terms in
            let first_is : text_sort P (map (sort_on w) us) c1 ≡ T = ap (λ Us. text_sort P Us c1) sorts ∙ text-sort-is P group c1 tot Ss (Some E) T h1 own.0 in
            let second_is : text_sort P (text_sort P (map (sort_on w) us) c1 ∷ map (sort_on w) us) c2 ≡ S = ap₂ (λ X Us. text_sort P (X ∷ Us) c2) first_is sorts ∙ text-sort-is P group c2 tot (T ∷ Ss) (Some E) S h2 own.1 in
            subst (λ A. (All P sorted kept M X site Pi e site-ok) (dm_walk P X site fw gw (dm_at A (text_sort P (text_sort P (map (sort_on w) us) c1 ∷ map (sort_on w) us) c2) (bind_text P E)) (s ∷ []) w k)) (sym first_is)
            (subst (λ B. (All P sorted kept M X site Pi e site-ok) (dm_walk P X site fw gw (dm_at T B (bind_text P E)) (s ∷ []) w k)) (sym second_is)
            ((bind-follows P sorted kept M X site Pi e site-ok) w s sv v k E T S fw gw (λ s1 r. ev M P r G false env s1 c1) (λ z s1 r. ev M P r G false (z ∷ env) s1 c2) fE.input (λ a. let r = fE.values a in (r.2, r.3))
            (λ w1 s1 sv1 v1 k1 q al is hv wn. text-follows c1 G tot Ss (Some E) T (all_raised (count w) w1 us) s1 w1 env sv1 v1 k1 h1 own.0 ((fits-raised P sorted kept M X site Pi e site-ok) Ss x (Some E) us s s1 w w1 env sv sv1 f q al is (λ z. let r = hv z in (r.0, r.1))) (λ z. (hv z).2) wn)
            (λ w1 t tv s1 sv1 v1 k1 q al ts is hv wn.
            let g = (fits-raised P sorted kept M X site Pi e site-ok) Ss x (Some E) us s s1 w w1 env sv sv1 f q al is (λ z. let r = hv z in (r.2, r.3)) in
            text-follows c2 G tot (T ∷ Ss) (Some E) S (t ∷ all_raised (count w) w1 us) s1 w1 (tv ∷ env) sv1 v1 k1 h2 own.1
            (record { terms = (ts, g.terms); input = g.input; values = λ z. let r = g.values z in let u = hv z in (ap₂ ◌∷◌ u.0 r.0, (u.1, r.1), r.2, r.3) }) (λ z. (hv z).4) wn)
            (λ a s1 l i. ev-has P sorted M l G false Ss (Some E) c1 T env s1 h1 (f.values a).1 i)
            (λ a t s1 l m i. ev-has P sorted M l G false (T ∷ Ss) (Some E) c2 S (t ∷ env) s1 h2 (m, (f.values a).1) i)
            (λ a. let r = gives a in let sp = spent r.0 _ v r.1 (sym (ev_bind M P G false r.0 E y c1 c2 env sv) ∙ r.2) in (sp.0, r.1, sp.1))
            (subst (λ z. (Wants P sorted kept M X site Pi e site-ok) w (result_in P z S) k v) h.0 wants)))
        text-follows (c_ghost y c1 c2) G tot Ss x S us s w env sv v k h own f gives wants =
            let c = (chosen P sorted kept M X site Pi e site-ok) w (λ z. gives-at (lower G) c1 env v_unit z × gives-at G c2 (z ∷ env) sv v) (λ a.
            let r = gives a in
            let z = ghost-gives G c1 env (λ z l. ev M P r.0 G false (z ∷ env) sv c2) v r.1 r.2 in
            (z.0, (z.1, (r.0, r.1, z.2)))) in
            text-follows c1 (lower G) true Ss None h.0 us t_unit w env v_unit c.0 _ h.1.0 own.0 ((fits-plain P sorted kept M X site Pi e site-ok) Ss x us s w env sv f) (λ a. (c.1 a).0)
            (λ w1 t q st al val. text-follows c2 G tot (h.0 ∷ Ss) x S (t ∷ all_raised (count w) w1 us) (raised (count w) w1 s) w1 (c.0 ∷ env) sv v k h.1.1 own.1
            ((fits-later P sorted kept M X site Pi e site-ok) Ss x us s w w1 env sv h.0 t c.0 f q al st val (λ a. let r = (c.1 a).0 in (text-has P sorted kept M X site Pi e site-ok) (lower G) r.0 r.1 Ss None c1 h.0 env v_unit c.0 h.1.0 (f.values a).1 tt r.2)) (λ a. (c.1 (al a)).1) ((wants-on P sorted kept M X site Pi e site-ok) w w1 (result_in P x S) k v q al wants))
        text-follows (c_assert phi at c) G tot Ss x S us s w env sv v k h own f gives wants =
            (both P sorted kept M X site Pi e site-ok) _ _ (site-ok kind.Assert at (put us phi) w)
            (text-follows c G tot Ss x S us s (suppose (put us phi) w) env sv v k h.1 own ((fits-on P sorted kept M X site Pi e site-ok) Ss x us s w (suppose (put us phi) w) env sv refl (λ a. a.1) f)
            (λ a. let r = gives a.1 in (r.0, r.1, if-done (is_true (value M phi env)) (ev M P r.0 G false env sv c) at v r.1 r.2)) ((wants-on P sorted kept M X site Pi e site-ok) w (suppose (put us phi) w) (result_in P x S) k v refl (λ a. a.1) wants))
        text-follows (c_if t c1 c2) G tot Ss x S us s w env sv v k h own f gives wants =
            (both P sorted kept M X site Pi e site-ok) _ _ (every-divisor P M X site Pi e site-ok (divisions [] t) us w)
            (every-side P M X site Pi e w (put us t) (side-walked c1 c2 us s k) (λ w1 z q al is. go w1 z q al is
            (λ gv. text-follows c1 G tot Ss x S us s w1 env sv v k h.1 own.0 ((fits-on P sorted kept M X site Pi e site-ok) Ss x us s w w1 env sv q al f) gv ((wants-on P sorted kept M X site Pi e site-ok) w w1 (result_in P x S) k v q al wants))
            (λ gv. text-follows c2 G tot Ss x S us s w1 env sv v k h.2 own.1 ((fits-on P sorted kept M X site Pi e site-ok) Ss x us s w w1 env sv q al f) gv ((wants-on P sorted kept M X site Pi e site-ok) w w1 (result_in P x S) k v q al wants))))
          where
            taken : (w1 : Way) (z : Bool) → ((Lives P sorted kept M X site Pi e site-ok) w1 → (Lives P sorted kept M X site Pi e site-ok) w) → ((Lives P sorted kept M X site Pi e site-ok) w1 → is_true (value M (put us t) e) ≡ z) → (Lives P sorted kept M X site Pi e site-ok) w1 → Gives (λ l. if z then ev M P l G false env sv c1 else ev M P l G false env sv c2) v
            taken w1 z al is a =
                let r = gives (al a) in
                let sp = spent r.0 _ v r.1 (sym (ev_if M P G false r.0 t c1 c2 env sv) ∙ r.2) in
                let va = valued (eval false t env) (λ x. if is_true x then ev M P sp.0 G false env sv c1 else ev M P sp.0 G false env sv c2) v r.1 sp.1 in
                let side : is_true va.0 ≡ z = ap is_true (sym ((core-is P sorted kept M X site Pi e site-ok) Ss x t s_bool us s w env sv va.0 h.0 f (al a) va.1)) ∙ is a in
                (sp.0, r.1, subst (λ z. (if z then ev M P sp.0 G false env sv c1 else ev M P sp.0 G false env sv c2) ≡ Done v r.1) side va.2)

            go : (w1 : Way) (z : Bool) → w1.vars ≡ w.vars → ((Lives P sorted kept M X site Pi e site-ok) w1 → (Lives P sorted kept M X site Pi e site-ok) w) → ((Lives P sorted kept M X site Pi e site-ok) w1 → is_true (value M (put us t) e) ≡ z)
                → (((Lives P sorted kept M X site Pi e site-ok) w1 → gives-at G c1 env sv v) → (All P sorted kept M X site Pi e site-ok) (walked c1 us s w1 k)) → (((Lives P sorted kept M X site Pi e site-ok) w1 → gives-at G c2 env sv v) → (All P sorted kept M X site Pi e site-ok) (walked c2 us s w1 k)) → (All P sorted kept M X site Pi e site-ok) (side-walked c1 c2 us s k (record { first = z; way = w1 }))
            go w1 true q al is k1 k2 = k1 (taken w1 true al is)
            go w1 false q al is k1 k2 = k2 (taken w1 false al is)
        text-follows (c_match t at arms) G tot Ss x S us s w env sv v k h own f gives wants =
            (both P sorted kept M X site Pi e site-ok) _ _ (every-divisor P M X site Pi e site-ok (divisions [] t) us w)
            (go arms own.0 h.1.1 (λ c br. arm-follows arms G tot Ss x h.0 S us s w env sv v k at c (put us t) h.1.1 own.1 br has f (λ a. scrutinee (br.alive a)) wants))
          where
            scrutinee : (Lives P sorted kept M X site Pi e site-ok) w → Gives (λ l. ev_arm M P G false arms at (value M (put us t) e) l env sv) v
            scrutinee a =
                let r = gives a in
                let sp = spent r.0 _ v r.1 (sym (ev_match M P G false r.0 at t arms env sv) ∙ r.2) in
                let va = valued (eval false t env) (λ x. ev_arm M P G false arms at x sp.0 env sv) v r.1 sp.1 in
                (sp.0, r.1, subst (λ x. ev_arm M P G false arms at x sp.0 env sv ≡ Done v r.1) (sym ((core-is P sorted kept M X site Pi e site-ok) Ss x t h.0 us s w env sv va.0 h.1.0 f a va.1)) va.2)

            has : (Lives P sorted kept M X site Pi e site-ok) w → Has h.0 (value M (put us t) e)
            has a =
                let r = gives a in
                let sp = spent r.0 _ v r.1 (sym (ev_match M P G false r.0 at t arms env sv) ∙ r.2) in
                let va = valued (eval false t env) (λ x. ev_arm M P G false arms at x sp.0 env sv) v r.1 sp.1 in
                subst (Has h.0) (sym ((core-is P sorted kept M X site Pi e site-ok) Ss x t h.0 us s w env sv va.0 h.1.0 f a va.1)) ((core-has P sorted kept M X site Pi e site-ok) Ss x t h.0 us s w env sv va.0 h.1.0 f a va.1)

            go : (arms1 : CmArms) → HasArm arms1 → ArmsSorted P Ss x h.0 arms1 S → ((c : Case) → Branch P M X site Pi e w h.0 (put us t) c → (All P sorted kept M X site Pi e site-ok) (arms-walked arms1 at c us s k)) → (All P sorted kept M X site Pi e site-ok) (over (cases (cm_family arms1) (put us t) w) (λ c. arms-walked arms1 at c us s k))
            go c_end z sorts next = absurd z
            go (c_arm c xs body more) z sorts next = every-case P M X site Pi e w (put us t) (λ c1. arms-walked (c_arm c xs body more) at c1 us s k) c h.0 sorts.0 ((core-sorted P sorted kept M X site Pi e site-ok) Ss x t h.0 us s w env sv h.1.0 f) has next
        text-follows (c_call j ts at) G tot Ss x S us s w env sv v k h own f gives wants = go (fun_at P j) refl h
          where
            go : (o : Option Fn) → fun_at P j ≡ o → if_there o (λ g. (x ≡ place_of g.effect) × (S ≡ g.sort) × TmsSorted (Applies P) Ss ts (map (λ p. p.sort) g.params) × IsTrue (are_run ts)) ⊥ → (All P sorted kept M X site Pi e site-ok) (walked (c_call j ts at) us s w k)
            go None q h = absurd h
            go (Some g) q h =
                let fx = subst (λ z. (Fits P sorted kept M X site Pi e site-ok) Ss z us s w env sv) h.0 f in
                let c = chosen-list w (λ vs. (arguments false (params_of P j) ts env ≡ gots vs) × gives-at G g.body (reverse vs) (input_to g.effect sv) v) (λ a.
                let r = gives a in
                let sp = spent r.0 _ v r.1 (sym (ev_call M P G false r.0 j at ts env sv) ∙ r.2) in
                let va = all-valued (arguments false (params_of P j) ts env) _ v r.1 sp.1 in
                (va.0, (va.1, (sp.0, r.1, subst (λ o. if_there o (λ f. ev M P sp.0 G false (reverse va.0) (input_to f.effect sv) f.body) (Stuck zero) ≡ Done v r.1) q va.2)))) in
                (both P sorted kept M X site Pi e site-ok) _ _ (every-divisor P M X site Pi e site-ok (all_divisions [] ts) us w)
                (calls-follow G j g q (callee-group j g q own.1) w (listed (puts us ts)) c.0 s sv v at k (listed-sorted (Applies P) (way_sorts w) (puts us ts) (param_sorts P g) (puts-sorted (Applies P) (way_sorts w) us Ss ts (param_sorts P g) f.terms h.2)) fx.input
                (λ a.
                let r = fx.values a in
                let have = subst (λ Us. HasSorts Us env) (sym (map-same Ss)) r.1 in (
                  listed-values M (puts us ts) e ∙ puts-values M us ts e ∙ ap (values M ts) r.0 ∙ ap (λ us. values M us env) (sym (terms_at-same ts)) ∙ arguments-give M (Applies P) s_a s_b env Ss have (params_of P j) ts (param_sorts P g) c.0 h.2 h.3 (c.1 a).0,
                  subst (GotsHave (param_sorts P g)) (c.1 a).0 (subst (λ Us. GotsHave Us (arguments false (params_of P j) ts env)) (map-same (param_sorts P g)) (arguments-have s_a s_b (Applies P) false (params_of P j) Ss ts (param_sorts P g) env h.2 h.3 have)),
                  r.2,
                  r.3,
                  (c.1 a).1,
                ))
                (subst (λ T. (Wants P sorted kept M X site Pi e site-ok) w (result_in P (place_of g.effect) T) k v) h.1 (subst (λ z. (Wants P sorted kept M X site Pi e site-ok) w (result_in P z S) k v) h.0 wants)))
        text-follows (c_reify E T c t) G tot Ss x S us s w env sv v k h own f gives wants =
            go (effect_at P E) refl h.3 (λ sv1 fit gv. text-follows c G tot Ss (Some E) T us (put us t) w env sv1 v k h.2 own fit gv (subst (λ R. (Wants P sorted kept M X site Pi e site-ok) w R k v) h.1 (subst (λ z. (Wants P sorted kept M X site Pi e site-ok) w (result_in P z S) k v) h.0 wants)))
          where
            go : (o : Option EffDef) → effect_at P E ≡ o → if_there o (λ d. RunSorted P Ss t d.input) ⊥ → ((sv1 : Val) → (Fits P sorted kept M X site Pi e site-ok) Ss (Some E) us (put us t) w env sv1 → ((Lives P sorted kept M X site Pi e site-ok) w → gives-at G c env sv1 v) → (All P sorted kept M X site Pi e site-ok) (walked c us (put us t) w k)) → (All P sorted kept M X site Pi e site-ok) (walked (c_reify E T c t) us s w k)
            go None q z ih = absurd z
            go (Some d) q z ih =
                let c1 = (chosen P sorted kept M X site Pi e site-ok) w (λ y. (eval false t env ≡ got y) × gives-at G c env y v) (λ a.
                let r = gives a in
                let sp = spent r.0 _ v r.1 (sym (ev_reify M P G false r.0 E T c t env sv) ∙ r.2) in
                let va = valued (eval false t env) (λ y. ev M P sp.0 G false env y c) v r.1 sp.1 in
                (va.0, (va.1, (sp.0, r.1, va.2)))) in
                (both P sorted kept M X site Pi e site-ok) _ _ (every-divisor P M X site Pi e site-ok (divisions [] t) us w)
                (ih c1.0
                (record {
                  terms = f.terms;
                  input = (sorted-to P sorted kept M X site Pi e site-ok) E d w (put us t) q ((core-sorted P sorted kept M X site Pi e site-ok) Ss x t d.input us s w env sv z f);
                  values = λ a. let r = f.values a in (r.0, r.1, (core-is P sorted kept M X site Pi e site-ok) Ss x t d.input us s w env sv c1.0 z f a (c1.1 a).0, (input-to-has P sorted kept M X site Pi e site-ok) E d c1.0 q ((core-has P sorted kept M X site Pi e site-ok) Ss x t d.input us s w env sv c1.0 z f a (c1.1 a).0));
                })
                (λ a. (c1.1 a).1))
        text-follows (c_reflect E T y c) G tot Ss x S us s w env sv v k h own f gives wants =
            go (subst (λ z. (Fits P sorted kept M X site Pi e site-ok) Ss z us s w env sv) h.0 f) (effect_at P E) refl h.2
            (λ d z fit. text-follows c G tot (d.input ∷ Ss) None (result_at P E T) (s ∷ us) t_unit w (sv ∷ env) v_unit v k z own fit
            (λ a. let r = gives a in let sp = spent r.0 _ v r.1 (sym (ev_reflect M P G false r.0 E T y c env sv) ∙ r.2) in (sp.0, r.1, sp.1))
            (subst (λ R. (Wants P sorted kept M X site Pi e site-ok) w (result_at P E R) k v) h.1 (subst (λ z. (Wants P sorted kept M X site Pi e site-ok) w (result_in P z S) k v) h.0 wants)))
          where
            go : (Fits P sorted kept M X site Pi e site-ok) Ss (Some E) us s w env sv → (o : Option EffDef) → effect_at P E ≡ o → if_there o (λ d. CmSorted P (d.input ∷ Ss) None c (result_at P E T)) ⊥
                → ((d : EffDef) → CmSorted P (d.input ∷ Ss) None c (result_at P E T) → (Fits P sorted kept M X site Pi e site-ok) (d.input ∷ Ss) None (s ∷ us) t_unit w (sv ∷ env) v_unit → (All P sorted kept M X site Pi e site-ok) (walked c (s ∷ us) t_unit w k)) → (All P sorted kept M X site Pi e site-ok) (walked c (s ∷ us) t_unit w k)
            go fE None q z ih = absurd z
            go fE (Some d) q z ih = ih d z
                (record { terms = (subst (λ o. if_there o (λ d. FormSorted P (way_sorts w) s d.input) ⊥) q fE.input, f.terms); input = tt; values = λ a. let r = fE.values a in (ap₂ ◌∷◌ r.2 r.0, ((input-of P sorted kept M X site Pi e site-ok) E d sv q r.3, r.1), refl, tt) })
        text-follows (c_return E c) G tot Ss x S us s w env sv v k h own f gives wants =
            let fE = subst (λ z. (Fits P sorted kept M X site Pi e site-ok) Ss z us s w env sv) h.0 f in
            let sorts : map (sort_on w) us ≡ Ss = sorts-are (Applies P) (way_sorts w) us Ss f.terms in
            let is : text_sort P (map (sort_on w) us) c ≡ S = ap (λ Us. text_sort P Us c) sorts ∙ text-sort-is P group c tot Ss None S h.1 own in
            let z = (chosen P sorted kept M X site Pi e site-ok) w (λ y. gives-at G c env v_unit y × Gives (dm false no_f no_g (return_text P E) (sv ∷ y ∷ [])) v) (λ a.
            let r = gives a in
            let g = gone-on (ev M P r.0 G false env v_unit c) (λ y l. dm false no_f no_g (return_text P E) (sv ∷ y ∷ []) l) v r.1 r.2 in
            (g.0, ((r.0, g.1, g.2), (g.1, r.1, g.3)))) in
            subst (λ A. (All P sorted kept M X site Pi e site-ok) (walked c us t_unit w (λ w1 t. dm_walk P X site (no_walk_f P X site) (no_walk_g P X site) (dm_at A A (return_text P E)) (raised (count w) w1 s ∷ t ∷ []) w1 k))) (sym is)
            (text-follows c G tot Ss None S us t_unit w env v_unit z.0 _ h.1 own ((fits-plain P sorted kept M X site Pi e site-ok) Ss x us s w env sv f) (λ a. (z.1 a).0)
            (λ w1 t q st al val. (return-follows P sorted kept M X site Pi e site-ok) w1 (raised (count w) w1 s) sv v k E S t z.0 ((input-raised P sorted kept M X site Pi e site-ok) w w1 (Some E) s q fE.input) st
            (λ a. let r = fE.values (al a) in (raised-value M w e w1 e s (extends-same w w1 e q) ∙ r.2, r.3, val a, (let g = (z.1 (al a)).0 in (text-has P sorted kept M X site Pi e site-ok) G g.0 g.1 Ss None c S env v_unit z.0 h.1 (f.values (al a)).1 tt g.2)))
            (λ a. (z.1 (al a)).1) ((wants-on P sorted kept M X site Pi e site-ok) w w1 (result_at P E S) k v q al (subst (λ y. (Wants P sorted kept M X site Pi e site-ok) w (result_in P y S) k v) h.0 wants))))
        text-follows (c_lift n c) G tot Ss x S us s w env sv v k h own f gives wants = go (slice_get P.lifts n) refl h
            (λ l z w1 s1 sv1 v1 k1 q al is hv wn. text-follows c G tot Ss (Some l.from) S (all_raised (count w) w1 us) s1 w1 env sv1 v1 k1 z own ((fits-raised P sorted kept M X site Pi e site-ok) Ss x (Some l.from) us s s1 w w1 env sv sv1 f q al is (λ y. let r = hv y in (r.0, r.1))) (λ y. (hv y).2) wn)
          where
            go : (o : Option LftDef) → slice_get P.lifts n ≡ o → if_there o (λ l. (x ≡ Some l.«to») × CmSorted P Ss (Some l.from) c S) ⊥
                → ((l : LftDef) → CmSorted P Ss (Some l.from) c S → (Serves P sorted kept M X site Pi e site-ok) l.from (result_at P l.from S) w (λ s1 w1 k1. walked c (all_raised (count w) w1 us) s1 w1 k1) (λ s1 r. ev M P r G false env s1 c))
                → (All P sorted kept M X site Pi e site-ok) (walked (c_lift n c) us s w k)
            go None q z serves = absurd z
            go (Some l) q z serves =
                let fE = subst (λ y. (Fits P sorted kept M X site Pi e site-ok) Ss y us s w env sv) z.0 f in
                let sorts : map (sort_on w) us ≡ Ss = sorts-are (Applies P) (way_sorts w) us Ss f.terms in
                let is : text_sort P (map (sort_on w) us) c ≡ S = ap (λ Us. text_sort P Us c) sorts ∙ text-sort-is P group c tot Ss (Some l.from) S z.1 own in
                let text_is : lift_text P n ≡ l.text = ap (λ o. if_there o (λ d. d.text) (d_ret t_unit)) q in
                let step : (Steps P sorted kept M X site Pi e site-ok) = λ s1 w1 k1. walked c (all_raised (count w) w1 us) s1 w1 k1 in
                subst (λ A. (All P sorted kept M X site Pi e site-ok) (dm_walk P X site step (no_walk_g P X site) (dm_at A A (lift_text P n)) (s ∷ []) w k)) (sym is)
                (subst (λ t. (All P sorted kept M X site Pi e site-ok) (dm_walk P X site step (no_walk_g P X site) (dm_at S S t) (s ∷ []) w k)) (sym text_is)
                ((lift-follows P sorted kept M X site Pi e site-ok) w s sv v k n l S step (λ s1 r. ev M P r G false env s1 c) q fE.input (λ a. let r = fE.values a in (r.2, r.3)) (serves l z.1)
                (λ a s1 l1 i. ev-has P sorted M l1 G false Ss (Some l.from) c S env s1 z.1 (f.values a).1 i)
                (λ a. let r = gives a in (r.0, r.1, ap (λ t. dm false (λ s1 r. ev M P r G false env s1 c) no_g t (sv ∷ []) r.0) (sym text_is) ∙ sym (ev_lift M P G false r.0 n c env sv) ∙ r.2))
                (subst (λ y. (Wants P sorted kept M X site Pi e site-ok) w (result_in P y S) k v) z.0 wants)))

        arm-follows : (arms : CmArms) (G : ℕ) (tot : Bool) (Ss : List Srt) (x : Option ℕ) (T S : Srt) (us : List Tm) (s : Tm) (w : Way) (env : Env) (sv v : Val) (k : (Next P sorted kept M X site Pi e site-ok)) (at : ℕ) (c : Case) (u : Tm) → ArmsSorted P Ss x T arms S → ArmsKept P group tot arms → Branch P M X site Pi e w T u c → ((Lives P sorted kept M X site Pi e site-ok) w → Has T (value M u e)) → (Fits P sorted kept M X site Pi e site-ok) Ss x us s w env sv → ((Lives P sorted kept M X site Pi e site-ok) c.way → Gives (λ l. ev_arm M P G false arms at (value M u e) l env sv) v) → (Wants P sorted kept M X site Pi e site-ok) w (result_in P x S) k v → (All P sorted kept M X site Pi e site-ok) (arms-walked arms at c us s k)
        arm-follows c_end G tot Ss x T S us s w env sv v k at c u h own br has f gives wants = site-ok kind.Match at (t_bool false) c.way
        arm-follows (c_arm c' ys body more) G tot Ss x T S us s w env sv v k at c u h own br has f gives wants =
            go (same_con c' c.con) refl
            (λ o q gv. text-follows body G tot (part_sorts c.con T ++ Ss) x S (reverse c.parts ++ us) s c.way (put_values M (reverse c.parts) e ++ env) sv v k (subst (λ z. CmSorted P (part_sorts z T ++ Ss) x body S) q h.2) own.0 (fits-under Ss x us s w env sv T u c br o has f) gv ((wants-on P sorted kept M X site Pi e site-ok) w c.way (result_in P x S) k v br.vars br.alive wants))
            (λ gv. arm-follows more G tot Ss x T S us s w env sv v k at c u h.3 own.1 br has f gv wants)
          where
            go : (z : Bool) → same_con c' c.con ≡ z
                → (ConOf c.con T → c' ≡ c.con → ((Lives P sorted kept M X site Pi e site-ok) c.way → gives-at G body (put_values M (reverse c.parts) e ++ env) sv v) → (All P sorted kept M X site Pi e site-ok) (walked body (reverse c.parts ++ us) s c.way k))
                → (((Lives P sorted kept M X site Pi e site-ok) c.way → Gives (λ l. ev_arm M P G false more at (value M u e) l env sv) v) → (All P sorted kept M X site Pi e site-ok) (arms-walked more at c us s k))
                → (All P sorted kept M X site Pi e site-ok) (if z then walked body (reverse c.parts ++ us) s c.way k else arms-walked more at c us s k)
            go true q on_this on_more =
                let is = same-con-is c' c.con q in
                on_this (subst (λ z. ConOf z T) is h.0) is
                (λ a. let r = gives a in (r.0, r.1, subst (λ o. if_fits o (λ vs. ev M P r.0 G false (vs ++ env) sv body) (ev_arm M P G false more at (value M u e) r.0 env sv) ≡ Done v r.1) (ap (λ z. parts z (value M u e)) is ∙ br.fits a) r.2))
            go false q on_this on_more =
                on_more (λ a. let r = gives a in (r.0, r.1, subst (λ o. if_fits o (λ vs. ev M P r.0 G false (vs ++ env) sv body) (ev_arm M P G false more at (value M u e) r.0 env sv) ≡ Done v r.1) (other-con c' c.con (value M u e) (put_values M (reverse c.parts) e) q (br.fits a)) r.2))
