-- A result of core text has its text's sort.
use Rattle.std.proofs.Common.{◌≡◌, ℕ, zero, suc, Bool, false, not, ◌&&◌, List, [], ◌∷◌, ◌++◌, map, reverse, slice_get, Option, Some, None, IsTrue, refl, sym, ap₂, ◌∙◌, subst}
use mathlib.Core.List.{reverse_aux}
use Rattle.fst_base.specs.Sorts.{Srt, s_bool, s_a, s_b, put_sorts}
use Rattle.fst_base.specs.Values.{Val, v_unit, Has, HasSorts}
use Rattle.fst_base.specs.Primitives.{is_true}
use Rattle.fst_base.proofs.RowLemmas.{put_sorts-twice, put_sorts-same, put_sorts-without_b, put_sorts-closed}
use Rattle.fst_terms.specs.Terms.{Tm, Tms, t_unit}
use Rattle.fst_terms.specs.Meaning.{Env, Meaning, value}
use Rattle.fst_terms.specs.Sorted.{TmsSorted, are_run}
use Rattle.fst_program.specs.declared.effect.Effect.{Effect}
use Rattle.fst_program.specs.declared.effect.Effect.TheVariants as effect
use Rattle.fst_program.specs.Texts.{d_ret, Cm, CmArms, c_ret, c_let, c_bind, c_ghost, c_assert, c_if, c_match, c_call, c_reify, c_reflect, c_return, c_lift, c_end, c_arm, Prm, EffDef, LftDef, Fn, Prog, if_there, fun_at, effect_at, params_of, bind_text, return_text, is_ghost, result_at}
use Rattle.fst_program.specs.Evaluation.{eval, arguments}
use Rattle.fst_program.specs.Runs.{parts, Run, dm, no_f, no_g, input_to, Calls, Ghosts, text, arm, calls, ghost_run, ev}
use Rattle.fst_program.specs.Paths.{part_sorts}
use Rattle.fst_program.specs.Sorted.{place_of, Applies, RunSorted, LiftSorted, InputHas, result_in, CmSorted, ArmsSorted, param_sorts, IsSorted}
use Rattle.fst_program.proofs.SortedLemmas.{GotHas, GotsHave, eval-has, arguments-have, OutcomeHas, spend-has, then-has, value-has, values-have, if-has, hide-has, fits-has, bound-parts, append-have, dm-has}

map-same : (Ss : List Srt) → map (put_sorts s_a s_b) Ss ≡ Ss
map-same [] = refl
map-same (S ∷ Ss) = ap₂ ◌∷◌ (put_sorts-same S) (map-same Ss)

module _ (P : Prog) (sorted : IsSorted P) where
  -- ---- the texts of effects and lifts, at the sorts of their values

  -- what is put for b is of no account in an effect's results, and the sorts of inputs hold no variable
  bind-sort : (T S R : Srt) → put_sorts T S (put_sorts s_b s_b R) ≡ put_sorts S S R
  bind-sort T S R = put_sorts-twice T S s_b s_b R

  bind-has : (b : Bool) (E : ℕ) (T S : Srt) (f : Run) (g : Val → Run) (s : Val) (F : ℕ) → InputHas P (Some E) s
      → ((s : Val) (l : ℕ) → InputHas P (Some E) s → OutcomeHas (result_at P E T) (f s l))
      → ((v s : Val) (l : ℕ) → Has T v → InputHas P (Some E) s → OutcomeHas (result_at P E S) (g v s l))
      → OutcomeHas (result_at P E S) (dm b f g (bind_text P E) (s ∷ []) F)
  bind-has b E T S f g s F = go (effect_at P E) refl
    where
      go : (o : Option EffDef) → effect_at P E ≡ o → if_there o (λ d. Has d.input s) ⊥
          → ((s : Val) (l : ℕ) → if_there o (λ d. Has d.input s) ⊥ → OutcomeHas (if_there o (λ d. put_sorts T s_b d.result) T) (f s l))
          → ((v s : Val) (l : ℕ) → Has T v → if_there o (λ d. Has d.input s) ⊥ → OutcomeHas (if_there o (λ d. put_sorts S s_b d.result) S) (g v s l))
          → OutcomeHas (if_there o (λ d. put_sorts S s_b d.result) S) (dm b f g (if_there o (λ d. d.bind) (d_ret t_unit)) (s ∷ []) F)
      go None q i hf hg = absurd i
      go (Some d) q i hf hg =
          let ok = sorted.effects E d q in
          let input = put_sorts-closed T S d.input ok.input_without_a ok.input_without_b in
          let upper : put_sorts T S (put_sorts s_b s_b d.result) ≡ put_sorts S s_b d.result = bind-sort T S d.result ∙ put_sorts-without_b S S s_b d.result ok.result_without_b in
          subst (λ R. OutcomeHas R (dm b f g d.bind (s ∷ []) F)) upper
          (dm-has P T S b (Some (record { input = d.input; result = d.result })) (Some (record { value = s_a; input = d.input; result = put_sorts s_b s_b d.result })) f g
          (λ s1 l j. subst (λ R. OutcomeHas R (f s1 l)) (put_sorts-without_b T s_b S d.result ok.result_without_b) (hf s1 l (subst (λ I. Has I s1) input j)))
          (λ v s1 l k j. subst (λ R. OutcomeHas R (g v s1 l)) (sym upper) (hg v s1 l k (subst (λ I. Has I s1) input j)))
          (d.input ∷ []) d.bind (put_sorts s_b s_b d.result) (s ∷ []) F ok.binds (subst (λ I. Has I s) (sym input) i, tt))

  return-has : (b : Bool) (E : ℕ) (S : Srt) (v s : Val) (F : ℕ) → InputHas P (Some E) s → Has S v → OutcomeHas (result_at P E S) (dm b no_f no_g (return_text P E) (s ∷ v ∷ []) F)
  return-has b E S v s F = go (effect_at P E) refl
    where
      go : (o : Option EffDef) → effect_at P E ≡ o → if_there o (λ d. Has d.input s) ⊥ → Has S v → OutcomeHas (if_there o (λ d. put_sorts S s_b d.result) S) (dm b no_f no_g (if_there o (λ d. d.ret) (d_ret t_unit)) (s ∷ v ∷ []) F)
      go None q i h = absurd i
      go (Some d) q i h =
          let ok = sorted.effects E d q in
          let input = put_sorts-closed S s_b d.input ok.input_without_a ok.input_without_b in
          dm-has P S s_b b None None no_f no_g tt tt (d.input ∷ s_a ∷ []) d.ret d.result (s ∷ v ∷ []) F ok.returns (subst (λ I. Has I s) (sym input) i, (h, tt))

  lift-has : (b : Bool) (n : ℕ) (l : LftDef) (S : Srt) (f : Run) (s : Val) (F : ℕ) → slice_get P.lifts n ≡ Some l → InputHas P (Some l.«to») s
      → ((s : Val) (l1 : ℕ) → InputHas P (Some l.from) s → OutcomeHas (result_at P l.from S) (f s l1))
      → OutcomeHas (result_at P l.«to» S) (dm b f no_g l.text (s ∷ []) F)
  lift-has b n l S f s F q = go (effect_at P l.from) refl (effect_at P l.«to») refl (sorted.lifts n l q)
    where
      go : (o : Option EffDef) → effect_at P l.from ≡ o → (u : Option EffDef) → effect_at P l.«to» ≡ u
          → if_there o (λ lower. if_there u (λ upper. Rattle.fst_program.specs.Sorted.DmSorted P (Some (record { input = lower.input; result = lower.result })) None (upper.input ∷ []) l.text upper.result) ⊥) ⊥
          → if_there u (λ d. Has d.input s) ⊥
          → ((s : Val) (l1 : ℕ) → if_there o (λ d. Has d.input s) ⊥ → OutcomeHas (if_there o (λ d. put_sorts S s_b d.result) S) (f s l1))
          → OutcomeHas (if_there u (λ d. put_sorts S s_b d.result) S) (dm b f no_g l.text (s ∷ []) F)
      go None p u r h i hf = absurd h
      go (Some lower) p None r h i hf = absurd i
      go (Some lower) p (Some upper) r h i hf =
          let low = sorted.effects l.from lower p in
          let up = sorted.effects l.«to» upper r in
          dm-has P S s_b b (Some (record { input = lower.input; result = lower.result })) None f no_g
          (λ s1 l1 j. hf s1 l1 (subst (λ I. Has I s1) (put_sorts-closed S s_b lower.input low.input_without_a low.input_without_b) j)) tt
          (upper.input ∷ []) l.text upper.result (s ∷ []) F h (subst (λ I. Has I s) (sym (put_sorts-closed S s_b upper.input up.input_without_a up.input_without_b)) i, tt)

  -- ---- core text

  run-has : (b : Bool) (Ss : List Srt) (t : Tm) (S : Srt) (e : Env) → RunSorted P Ss t S → HasSorts Ss e → GotHas S (eval b t e)
  run-has b Ss t S e h k = subst (λ T. GotHas T (eval b t e)) (put_sorts-same S) (eval-has s_a s_b (Applies P) b Ss t S e h.0 h.1 (subst (λ Us. HasSorts Us e) (sym (map-same Ss)) k))

  run-args-have : (b : Bool) (ps : List Prm) (Ss : List Srt) (ts : Tms) (Ts : List Srt) (e : Env) → TmsSorted (Applies P) Ss ts Ts → IsTrue (are_run ts) → HasSorts Ss e → GotsHave Ts (arguments b ps ts e)
  run-args-have b ps Ss ts Ts e h r k = subst (λ Us. GotsHave Us (arguments b ps ts e)) (map-same Ts) (arguments-have s_a s_b (Applies P) b ps Ss ts Ts e h r (subst (λ Us. HasSorts Us e) (sym (map-same Ss)) k))

  bound-same : (c : _) (S : Srt) (v : Val) → Rattle.fst_program.specs.Sorted.ConOf c S → Has S v → (ws : List Val) → parts c v ≡ Some ws → HasSorts (part_sorts c S) ws
  bound-same c S v o h ws q = subst (λ Us. HasSorts Us ws) (map-same (part_sorts c S)) (bound-parts s_a s_b c S v o (subst (λ T. Has T v) (sym (put_sorts-same S)) h) ws q)

  module _ (M : Meaning) (gh : Ghosts) (hgh : (Ss : List Srt) (c : Cm) (S : Srt) (e : Env) → CmSorted P Ss None c S → HasSorts Ss e → OutcomeHas S (gh c e)) where
    module _ (call : Calls) (hc : (j : ℕ) (f : Fn) (vs : List Val) (s : Val) (l : ℕ) → fun_at P j ≡ Some f → HasSorts (param_sorts P f) vs → InputHas P (place_of f.effect) s → OutcomeHas (result_in P (place_of f.effect) f.sort) (call j vs s l)) (b : Bool) where
      mutual
        text-has : (Ss : List Srt) (x : Option ℕ) (c : Cm) (S : Srt) (e : Env) (s : Val) (F : ℕ) → CmSorted P Ss x c S → HasSorts Ss e → InputHas P x s → OutcomeHas (result_in P x S) (text M P gh call b c e s F)
        text-has Ss x (c_ret t) S e s F h k i = subst (λ y. OutcomeHas (result_in P y S) (text M P gh call b (c_ret t) e s F)) (sym h.0) (spend-has S F _ λ l. value-has S S (eval b t e) _ (run-has b Ss t S e h.1 k) λ v j. j)
        text-has Ss x (c_let y c1 c2) S e s F h k i = spend-has (result_in P x S) F _ λ l. then-has h.0 (result_in P x S) _ _ (text-has Ss None c1 h.0 e v_unit l h.1.0 k tt) λ v r j. text-has (h.0 ∷ Ss) x c2 S (v ∷ e) s r h.1.1 (j, k) i
        text-has Ss x (c_bind E y c1 c2) S e s F h k i = subst (λ z. OutcomeHas (result_in P z S) (text M P gh call b (c_bind E y c1 c2) e s F)) (sym h.0)
            (spend-has (result_at P E S) F _ λ l. bind-has b E h.1.0 S (λ s1 r. text M P gh call b c1 e s1 r) (λ v s1 r. text M P gh call b c2 (v ∷ e) s1 r) s l (subst (λ z. InputHas P z s) h.0 i)
            (λ s1 r j. text-has Ss (Some E) c1 h.1.0 e s1 r (subst (λ z. CmSorted P Ss z c1 h.1.0) h.0 h.1.1.0) k j)
            (λ v s1 r n j. text-has (h.1.0 ∷ Ss) (Some E) c2 S (v ∷ e) s1 r (subst (λ z. CmSorted P (h.1.0 ∷ Ss) z c2 S) h.0 h.1.1.1) (n, k) j))
        text-has Ss x (c_ghost y c1 c2) S e s F h k i = then-has h.0 (result_in P x S) _ _ (hgh Ss c1 h.0 e h.1.0 k) λ v r j. text-has (h.0 ∷ Ss) x c2 S (v ∷ e) s F h.1.1 (j, k) i
        text-has Ss x (c_assert phi at c) S e s F h k i = if-has (result_in P x S) (is_true (value M phi e)) _ _ (text-has Ss x c S e s F h.1 k i) tt
        text-has Ss x (c_if t c1 c2) S e s F h k i = spend-has (result_in P x S) F _ λ l. value-has s_bool (result_in P x S) (eval b t e) _ (run-has b Ss t s_bool e h.0 k) λ v j. if-has (result_in P x S) (is_true v) _ _ (text-has Ss x c1 S e s l h.1 k i) (text-has Ss x c2 S e s l h.2 k i)
        text-has Ss x (c_match t at arms) S e s F h k i = spend-has (result_in P x S) F _ λ l. value-has h.0 (result_in P x S) (eval b t e) _ (run-has b Ss t h.0 e h.1.0 k) λ v j. arm-has Ss x h.0 arms S at v e s l h.1.1 j k i
        text-has Ss x (c_call j ts at) S e s F h k i = go (fun_at P j) refl h
          where
            go : (o : Option Fn) → fun_at P j ≡ o → if_there o (λ f. (x ≡ place_of f.effect) × (S ≡ f.sort) × TmsSorted (Applies P) Ss ts (map (λ p. p.sort) f.params) × IsTrue (are_run ts)) ⊥ → OutcomeHas (result_in P x S) (text M P gh call b (c_call j ts at) e s F)
            go None q h = absurd h
            go (Some f) q h = spend-has (result_in P x S) F _ λ l. values-have (param_sorts P f) (result_in P x S) (arguments b (params_of P j) ts e) _ (run-args-have b (params_of P j) Ss ts (param_sorts P f) e h.2 h.3 k)
                λ vs n. subst (λ z. OutcomeHas (result_in P z S) (call j vs s l)) (sym h.0) (subst (λ T. OutcomeHas (result_in P (place_of f.effect) T) (call j vs s l)) (sym h.1) (hc j f vs s l q n (subst (λ z. InputHas P z s) h.0 i)))
        text-has Ss x (c_reify E T c t) S e s F h k i = subst (λ z. OutcomeHas (result_in P z S) (text M P gh call b (c_reify E T c t) e s F)) (sym h.0) (subst (λ R. OutcomeHas R (text M P gh call b (c_reify E T c t) e s F)) (sym h.1) (go (λ s1 l j. text-has Ss (Some E) c T e s1 l h.2 k j) (effect_at P E) refl h.3))
          where
            go : ((s1 : Val) (l : ℕ) → InputHas P (Some E) s1 → OutcomeHas (result_at P E T) (text M P gh call b c e s1 l)) → (o : Option EffDef) → effect_at P E ≡ o → if_there o (λ d. RunSorted P Ss t d.input) ⊥ → OutcomeHas (result_at P E T) (text M P gh call b (c_reify E T c t) e s F)
            go ih None q r = absurd r
            go ih (Some d) q r = spend-has (result_at P E T) F _ λ l. value-has d.input (result_at P E T) (eval b t e) _ (run-has b Ss t d.input e r k) λ s1 j. ih s1 l (rw q j)
        text-has Ss x (c_reflect E T y c) S e s F h k i = subst (λ z. OutcomeHas (result_in P z S) (text M P gh call b (c_reflect E T y c) e s F)) (sym h.0) (subst (λ U. OutcomeHas (result_at P E U) (text M P gh call b (c_reflect E T y c) e s F)) (sym h.1) (go (λ d r j l. text-has (d.input ∷ Ss) None c (result_at P E T) (s ∷ e) v_unit l r (j, k) tt) (effect_at P E) refl h.2 (subst (λ z. InputHas P z s) h.0 i)))
          where
            go : ((d : EffDef) → CmSorted P (d.input ∷ Ss) None c (result_at P E T) → Has d.input s → (l : ℕ) → OutcomeHas (result_at P E T) (text M P gh call b c (s ∷ e) v_unit l)) → (o : Option EffDef) → effect_at P E ≡ o → if_there o (λ d. CmSorted P (d.input ∷ Ss) None c (result_at P E T)) ⊥ → if_there o (λ d. Has d.input s) ⊥ → OutcomeHas (result_at P E T) (text M P gh call b (c_reflect E T y c) e s F)
            go ih None q r j = absurd r
            go ih (Some d) q r j = spend-has (result_at P E T) F _ λ l. ih d r j l
        text-has Ss x (c_return E c) S e s F h k i = subst (λ z. OutcomeHas (result_in P z S) (text M P gh call b (c_return E c) e s F)) (sym h.0) (then-has S (result_at P E S) _ _ (text-has Ss None c S e v_unit F h.1 k tt) λ v r j. return-has b E S v s r (subst (λ z. InputHas P z s) h.0 i) j)
        text-has Ss x (c_lift n c) S e s F h k i = go (λ l r s1 m j. text-has Ss (Some l.from) c S e s1 m r k j) (slice_get P.lifts n) refl h
          where
            go : ((l : LftDef) → CmSorted P Ss (Some l.from) c S → (s1 : Val) (m : ℕ) → InputHas P (Some l.from) s1 → OutcomeHas (result_at P l.from S) (text M P gh call b c e s1 m)) → (o : Option LftDef) → slice_get P.lifts n ≡ o → if_there o (λ l. (x ≡ Some l.«to») × CmSorted P Ss (Some l.from) c S) ⊥ → OutcomeHas (result_in P x S) (dm b (λ s1 r. text M P gh call b c e s1 r) no_g (if_there o (λ d. d.text) (d_ret t_unit)) (s ∷ []) F)
            go ih None q r = absurd r
            go ih (Some l) q r = subst (λ z. OutcomeHas (result_in P z S) (dm b (λ s1 m. text M P gh call b c e s1 m) no_g l.text (s ∷ []) F)) (sym r.0)
                (lift-has b n l S (λ s1 m. text M P gh call b c e s1 m) s F q (subst (λ z. InputHas P z s) r.0 i) (λ s1 m j. ih l r.1 s1 m j))

        arm-has : (Ss : List Srt) (x : Option ℕ) (T : Srt) (arms : CmArms) (S : Srt) (at : ℕ) (v : Val) (e : Env) (s : Val) (F : ℕ) → ArmsSorted P Ss x T arms S → Has T v → HasSorts Ss e → InputHas P x s → OutcomeHas (result_in P x S) (arm M P gh call b arms at v e s F)
        arm-has Ss x T c_end S at v e s F h j k i = tt
        arm-has Ss x T (c_arm c ys body more) S at v e s F h j k i = fits-has (part_sorts c T) (result_in P x S) (parts c v) _ _ (bound-same c T v h.0 j) (λ ws n. text-has (part_sorts c T ++ Ss) x body S (ws ++ e) s F h.2 (append-have (part_sorts c T) Ss ws e n k) i) (arm-has Ss x T more S at v e s F h.3 j k i)

-- ---- functions, ghost parts and whole runs

-- values in turn have sorts in turn
pub turned-have : (Ss Ts : List Srt) (vs ws : List Val) → HasSorts Ss vs → HasSorts Ts ws → HasSorts (reverse_aux Ss Ts) (reverse_aux vs ws)
turned-have [] Ts [] ws h k = k
turned-have [] Ts (v ∷ vs) ws h k = absurd h
turned-have (S ∷ Ss) Ts [] ws h k = absurd h
turned-have (S ∷ Ss) Ts (v ∷ vs) ws h k = turned-have Ss (S ∷ Ts) vs (v ∷ ws) h.1 (h.0, k)

input-to-has : (P : Prog) (x : Effect) (s : Val) → InputHas P (place_of x) s → InputHas P (place_of x) (input_to x s)
input-to-has P (effect.User E) s h = h
input-to-has P effect.Pure s h = tt
input-to-has P effect.Ghost s h = tt
input-to-has P effect.Div s h = tt

module _ (P : Prog) (sorted : IsSorted P) (M : Meaning) where
  -- calls and ghost parts that keep sorts
  abbrev CallsKeep : Calls → Type 0
  CallsKeep call = (j : ℕ) (f : Fn) (vs : List Val) (s : Val) (l : ℕ) → fun_at P j ≡ Some f → HasSorts (param_sorts P f) vs → InputHas P (place_of f.effect) s → OutcomeHas (result_in P (place_of f.effect) f.sort) (call j vs s l)

  abbrev GhostsKeep : Ghosts → Type 0
  GhostsKeep gh = (Ss : List Srt) (c : Cm) (S : Srt) (e : Env) → CmSorted P Ss None c S → HasSorts Ss e → OutcomeHas S (gh c e)

  calls-keep : (gh : Ghosts) → GhostsKeep gh → (n : ℕ) (b : Bool) → CallsKeep (calls M P gh n b)
  calls-keep gh hgh zero b j f vs s l q h i = tt
  calls-keep gh hgh (suc n) b j f vs s l q h i =
      let b1 = b && not (is_ghost f.effect) in
      let ih = calls-keep gh hgh n b1 in
      rw q (text-has P sorted M gh hgh (calls M P gh n b1) ih b1 (reverse (param_sorts P f)) (place_of f.effect) f.body f.sort (reverse vs) (input_to f.effect s) l (sorted.funs j f q).body (turned-have (param_sorts P f) [] vs [] h tt) (input-to-has P f.effect s i))

  ghosts-keep : (G : ℕ) → GhostsKeep (ghost_run M P G)
  ghosts-keep zero Ss c S e h k = tt
  ghosts-keep (suc G) Ss c S e h k = hide-has S _ (text-has P sorted M (ghost_run M P G) (ghosts-keep G) _ (calls-keep (ghost_run M P G) (ghosts-keep G) (suc G) false) false Ss None c S e v_unit (suc G) h k tt)

  -- the outcome of well-sorted text has its sort
  pub ev-has : (F G : ℕ) (b : Bool) (Ss : List Srt) (x : Option ℕ) (c : Cm) (S : Srt) (e : Env) (s : Val) → CmSorted P Ss x c S → HasSorts Ss e → InputHas P x s → OutcomeHas (result_in P x S) (ev M P F G b e s c)
  ev-has F G b Ss x c S e s h k i = text-has P sorted M (ghost_run M P G) (ghosts-keep G) _ (calls-keep (ghost_run M P G) (ghosts-keep G) F b) b Ss x c S e s F h k i
