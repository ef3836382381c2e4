-- A unit of the machine is a unit of the run.
use Rattle.std.proofs.Common.{◌≡◌, ℕ, zero, suc, Bool, true, false, not, ◌&&◌, if◌then◌else◌, List, [], ◌∷◌, ◌++◌, reverse, Option, Some, None, refl, sym, ap, ◌∙◌}
use Rattle.std.specs.Prelude.{⊤}
use Rattle.fst_base.specs.Values.{Val, v_unit}
use Rattle.fst_base.specs.Primitives.{is_true}
use Rattle.fst_terms.specs.Terms.{Tm, Tms}
use Rattle.fst_terms.specs.Meaning.{Env}
use Rattle.fst_program.specs.Texts.{Dm, DmArms, d_ret, d_let, d_if, d_match, d_run_f, d_run_g, d_end, d_arm, Cm, CmArms, c_ret, c_let, c_bind, c_ghost, c_assert, c_if, c_match, c_call, c_reify, c_reflect, c_return, c_lift, c_end, c_arm, Fn, Prog, if_there, fun_at, params_of, bind_text, return_text, lift_text, is_ghost}
use Rattle.fst_program.specs.Evaluation.{Got, got, got_wide, got_stuck, Gots, gots, gots_wide, gots_stuck, eval, arguments}
use Rattle.fst_program.specs.Runs.{Outcome, Done, Out, Wide, Stuck, GhostOut, then_do, with_value, with_values, parts, if_fits, dm, dm_arm, input_to, ev}
use Rattle.fst_program.proofs.LevelLemmas.{ev_call, ev_let, ev_bind, ev_if, ev_arm, ev_match, ev_reify, ev_reflect, ev_return, ev_lift}
use Rattle.fst_machine.specs.Turns.{Hdr, no_header, lift_header, bind_header, Tsk, run_text, run_def, Frm, let_rest, def_rest, return_rest, Turn, next, over, stopped, with_got, with_gots, no_meaning, text_run, f_of, g_of, part, given, resumed, whole, after, give, f_turn, g_turn, def_arm_turn, def_turn, arm_turn, text_turn, turn, go_on, machine_run, IsCode, AreCode, CodeHeader, CodeTask, CodeFrames, CodeProg}

-- other outcomes than a value pass all frames
abbrev IsStop : Outcome → Type 0
IsStop (Done v l) = ⊥
IsStop o = ⊤

module _ (P : Prog) where
  then-stop : (o : Outcome) (k : Val → ℕ → Outcome) → IsStop o → then_do o k ≡ o
  then-stop (Done v l) k h = absurd h
  then-stop Out k h = refl
  then-stop Wide k h = refl
  then-stop (Stuck at) k h = refl
  then-stop GhostOut k h = refl

  pub resumed-stop : (fs : List Frm) (o : Outcome) → IsStop o → resumed P fs o ≡ o
  resumed-stop [] o h = refl
  resumed-stop (f ∷ fs) o h = rw (then-stop o (λ v l. part P (given f v) l) h) (resumed-stop fs o h)

  got-turn : (g : Got) (fs : List Frm) (k : Val → Outcome) (k' : Val → Turn) (l : ℕ) → ((v : Val) → resumed P fs (k v) ≡ after P (k' v) l) → resumed P fs (with_value g k) ≡ after P (with_got g k') l
  got-turn (got v) fs k k' l h = h v
  got-turn got_wide fs k k' l h = resumed-stop fs Wide tt
  got-turn (got_stuck at) fs k k' l h = resumed-stop fs (Stuck at) tt

  gots-turn : (g : Gots) (fs : List Frm) (k : List Val → Outcome) (k' : List Val → Turn) (l : ℕ) → ((vs : List Val) → resumed P fs (k vs) ≡ after P (k' vs) l) → resumed P fs (with_values g k) ≡ after P (with_gots g k') l
  gots-turn (gots vs) fs k k' l h = h vs
  gots-turn gots_wide fs k k' l h = resumed-stop fs Wide tt
  gots-turn (gots_stuck at) fs k k' l h = resumed-stop fs (Stuck at) tt

  give-turn : (fs : List Frm) (v : Val) (l : ℕ) → resumed P fs (Done v l) ≡ after P (give v fs) l
  give-turn [] v l = refl
  give-turn (f ∷ fs) v l = refl

  fits-turn : (vs : Option (List Val)) (fs : List Frm) (k : List Val → Outcome) (k' : List Val → Turn) (o : Outcome) (o' : Turn) (l : ℕ) → ((ws : List Val) → resumed P fs (k ws) ≡ after P (k' ws) l) → resumed P fs o ≡ after P o' l → resumed P fs (if_fits vs k o) ≡ after P (if_fits vs k' o') l
  fits-turn None fs k k' o o' l h r = r
  fits-turn (Some ws) fs k k' o o' l h r = h ws

  -- ---- definitions' texts

  f-turn : (h : Hdr) (s : Val) (fs : List Frm) (l : ℕ) → resumed P fs (f_of P h s l) ≡ after P (f_turn h s fs) l
  f-turn no_header s fs l = resumed-stop fs (Stuck zero) tt
  f-turn (lift_header c e) s fs l = refl
  f-turn (bind_header c d e) s fs l = refl

  g-turn : (h : Hdr) (v s : Val) (fs : List Frm) (l : ℕ) → resumed P fs (g_of P h v s l) ≡ after P (g_turn h v s fs) l
  g-turn no_header v s fs l = resumed-stop fs (Stuck zero) tt
  g-turn (lift_header c e) v s fs l = resumed-stop fs (Stuck zero) tt
  g-turn (bind_header c d e) v s fs l = refl

  def-arm-turn : (arms : DmArms) (v : Val) (e : Env) (h : Hdr) (fs : List Frm) (l : ℕ) → resumed P fs (dm_arm true (f_of P h) (g_of P h) arms v e l) ≡ after P (def_arm_turn arms v e h fs) l
  def-arm-turn d_end v e h fs l = resumed-stop fs (Stuck zero) tt
  def-arm-turn (d_arm c xs d more) v e h fs l = fits-turn (parts c v) fs _ _ _ _ l (λ vs. refl) (def-arm-turn more v e h fs l)

  def-if : (x : Bool) (d1 d2 : Dm) (e : Env) (h : Hdr) (fs : List Frm) (l : ℕ)
      → resumed P fs (if x then dm true (f_of P h) (g_of P h) d1 e l else dm true (f_of P h) (g_of P h) d2 e l) ≡ whole P (run_def (if x then d1 else d2) e h) fs l
  def-if true d1 d2 e h fs l = refl
  def-if false d1 d2 e h fs l = refl

  pub def-step : (d : Dm) (e : Env) (h : Hdr) (fs : List Frm) (l : ℕ) → whole P (run_def d e h) fs (suc l) ≡ after P (def_turn P d e h fs) l
  def-step (d_ret t) e h fs l = got-turn (eval true t e) fs _ _ l λ v. give-turn fs v l
  def-step (d_let x d1 d2) e h fs l = refl
  def-step (d_if t d1 d2) e h fs l = got-turn (eval true t e) fs _ _ l λ v. def-if (is_true v) d1 d2 e h fs l
  def-step (d_match t arms) e h fs l = got-turn (eval true t e) fs _ _ l λ v. def-arm-turn arms v e h fs l
  def-step (d_run_f t) e h fs l = got-turn (eval true t e) fs _ _ l λ s. f-turn h s fs l
  def-step (d_run_g t u) e h fs l = got-turn (eval true t e) fs _ _ l λ v. got-turn (eval true u e) fs _ _ l λ s. g-turn h v s fs l

  -- ---- core text

  run-let : (l : ℕ) (x : List ℕ) (c1 c2 : Cm) (e : Env) (s : Val) → text_run P (suc l) e s (c_let x c1 c2) ≡ then_do (text_run P l e v_unit c1) (λ v r. text_run P r (v ∷ e) s c2)
  unfolding text_run
  run-let l x c1 c2 e s = ev_let no_meaning P 0 true (suc l) x c1 c2 e s

  run-ret : (l : ℕ) (t : Tm) (e : Env) (s : Val) → text_run P (suc l) e s (c_ret t) ≡ with_value (eval true t e) (λ v. Done v l)
  unfolding text_run
  run-ret l t e s = refl

  run-bind : (l E : ℕ) (x : List ℕ) (c1 c2 : Cm) (e : Env) (s : Val) → text_run P (suc l) e s (c_bind E x c1 c2) ≡ part P (run_def (bind_text P E) (s ∷ []) (bind_header c1 c2 e)) l
  unfolding text_run
  run-bind l E x c1 c2 e s = ev_bind no_meaning P 0 true (suc l) E x c1 c2 e s

  run-if : (l : ℕ) (t : Tm) (c1 c2 : Cm) (e : Env) (s : Val) → text_run P (suc l) e s (c_if t c1 c2) ≡ with_value (eval true t e) (λ v. if is_true v then text_run P l e s c1 else text_run P l e s c2)
  unfolding text_run
  run-if l t c1 c2 e s = ev_if no_meaning P 0 true (suc l) t c1 c2 e s

  unfoldable arm_run : CmArms → (place : ℕ) → Val → (fuel : ℕ) → Env → (input : Val) → Outcome
  arm_run arms at v l e s = ev_arm no_meaning P 0 true arms at v l e s

  run-match : (l at : ℕ) (t : Tm) (arms : CmArms) (e : Env) (s : Val) → text_run P (suc l) e s (c_match t at arms) ≡ with_value (eval true t e) (λ v. arm_run arms at v l e s)
  unfolding text_run arm_run
  run-match l at t arms e s = ev_match no_meaning P 0 true (suc l) at t arms e s

  run-end : (l at : ℕ) (v : Val) (e : Env) (s : Val) → arm_run c_end at v l e s ≡ Stuck at
  unfolding arm_run
  run-end l at v e s = refl

  run-arm : (l at : ℕ) (c : _) (xs : _) (body : Cm) (more : CmArms) (v : Val) (e : Env) (s : Val) → arm_run (c_arm c xs body more) at v l e s ≡ if_fits (parts c v) (λ vs. text_run P l (vs ++ e) s body) (arm_run more at v l e s)
  unfolding text_run arm_run
  run-arm l at c xs body more v e s = refl

  -- the body of a function that isn't GHOST runs bounded
  if-bounded : (o : Option Fn) (l : ℕ) (vs : List Val) (s : Val) → ((f : Fn) → o ≡ Some f → is_ghost f.effect ≡ false)
      → if_there o (λ f. ev no_meaning P l 0 (true && not (is_ghost f.effect)) (reverse vs) (input_to f.effect s) f.body) (Stuck zero) ≡ if_there o (λ f. text_run P l (reverse vs) (input_to f.effect s) f.body) (Stuck zero)
  unfolding text_run
  if-bounded None l vs s h = refl
  if-bounded (Some f) l vs s h = ap (λ x. ev no_meaning P l 0 (true && not x) (reverse vs) (input_to f.effect s) f.body) (h f refl)

  with-same : (g : Gots) (k k' : List Val → Outcome) → ((vs : List Val) → k vs ≡ k' vs) → with_values g k ≡ with_values g k'
  with-same (gots vs) k k' h = h vs
  with-same gots_wide k k' h = refl
  with-same (gots_stuck at) k k' h = refl

  run-callee : (l j at : ℕ) (ts : Tms) (e : Env) (s : Val) → text_run P (suc l) e s (c_call j ts at) ≡ with_values (arguments true (params_of P j) ts e) (λ vs. if_there (fun_at P j) (λ f. ev no_meaning P l 0 (true && not (is_ghost f.effect)) (reverse vs) (input_to f.effect s) f.body) (Stuck zero))
  unfolding text_run
  run-callee l j at ts e s = ev_call no_meaning P 0 true (suc l) j at ts e s

  run-call : (l j at : ℕ) (ts : Tms) (e : Env) (s : Val) → ((f : Fn) → fun_at P j ≡ Some f → is_ghost f.effect ≡ false) → text_run P (suc l) e s (c_call j ts at) ≡ with_values (arguments true (params_of P j) ts e) (λ vs. if_there (fun_at P j) (λ f. text_run P l (reverse vs) (input_to f.effect s) f.body) (Stuck zero))
  run-call l j at ts e s h = run-callee l j at ts e s ∙ with-same (arguments true (params_of P j) ts e) _ _ λ vs. if-bounded (fun_at P j) l vs s h

  run-reify : (l E : ℕ) (S : _) (c : Cm) (t : Tm) (e : Env) (s : Val) → text_run P (suc l) e s (c_reify E S c t) ≡ with_value (eval true t e) (λ s1. text_run P l e s1 c)
  unfolding text_run
  run-reify l E S c t e s = ev_reify no_meaning P 0 true (suc l) E S c t e s

  run-reflect : (l E : ℕ) (S : _) (x : List ℕ) (c : Cm) (e : Env) (s : Val) → text_run P (suc l) e s (c_reflect E S x c) ≡ text_run P l (s ∷ e) v_unit c
  unfolding text_run
  run-reflect l E S x c e s = ev_reflect no_meaning P 0 true (suc l) E S x c e s

  run-return : (F E : ℕ) (c : Cm) (e : Env) (s : Val) → text_run P F e s (c_return E c) ≡ then_do (text_run P F e v_unit c) (λ v l. part P (given (return_rest (return_text P E) s) v) l)
  unfolding text_run
  run-return F E c e s = ev_return no_meaning P 0 true F E c e s

  run-lift : (F n : ℕ) (c : Cm) (e : Env) (s : Val) → text_run P F e s (c_lift n c) ≡ part P (run_def (lift_text P n) (s ∷ []) (lift_header c e)) F
  unfolding text_run
  run-lift F n c e s = ev_lift no_meaning P 0 true F n c e s

  text-if : (x : Bool) (c1 c2 : Cm) (e : Env) (s : Val) (fs : List Frm) (l : ℕ) → resumed P fs (if x then text_run P l e s c1 else text_run P l e s c2) ≡ whole P (run_text (if x then c1 else c2) e s) fs l
  text-if true c1 c2 e s fs l = refl
  text-if false c1 c2 e s fs l = refl

  arm-turn : (arms : CmArms) (at : ℕ) (v : Val) (e : Env) (s : Val) (fs : List Frm) (l : ℕ) → resumed P fs (arm_run arms at v l e s) ≡ after P (arm_turn arms at v e s fs) l
  arm-turn c_end at v e s fs l = ap (resumed P fs) (run-end l at v e s) ∙ resumed-stop fs (Stuck at) tt
  arm-turn (c_arm c xs body more) at v e s fs l = ap (resumed P fs) (run-arm l at c xs body more v e s) ∙ fits-turn (parts c v) fs _ _ _ _ l (λ vs. refl) (arm-turn more at v e s fs l)

  fun-turn : (o : Option Fn) (vs : List Val) (s : Val) (fs : List Frm) (l : ℕ)
      → resumed P fs (if_there o (λ f. text_run P l (reverse vs) (input_to f.effect s) f.body) (Stuck zero)) ≡ after P (if_there o (λ f. next (run_text f.body (reverse vs) (input_to f.effect s)) fs) (stopped (Stuck zero))) l
  fun-turn None vs s fs l = resumed-stop fs (Stuck zero) tt
  fun-turn (Some f) vs s fs l = refl

  module _ (code : CodeProg P) where
    pub text-step : (c : Cm) (e : Env) (s : Val) (fs : List Frm) (l : ℕ) → IsCode P c → whole P (run_text c e s) fs (suc l) ≡ after P (text_turn P c e s fs) l
    text-step (c_ret t) e s fs l h = ap (resumed P fs) (run-ret l t e s) ∙ got-turn (eval true t e) fs _ _ l λ v. give-turn fs v l
    text-step (c_let x c1 c2) e s fs l h = ap (resumed P fs) (run-let l x c1 c2 e s)
    text-step (c_bind E x c1 c2) e s fs l h = ap (resumed P fs) (run-bind l E x c1 c2 e s)
    text-step (c_ghost x c1 c2) e s fs l h = absurd h
    text-step (c_assert phi at c) e s fs l h = absurd h
    text-step (c_if t c1 c2) e s fs l h = ap (resumed P fs) (run-if l t c1 c2 e s) ∙ got-turn (eval true t e) fs _ _ l λ v. text-if (is_true v) c1 c2 e s fs l
    text-step (c_match t at arms) e s fs l h = ap (resumed P fs) (run-match l at t arms e s) ∙ got-turn (eval true t e) fs _ _ l λ v. arm-turn arms at v e s fs l
    text-step (c_call j ts at) e s fs l h = ap (resumed P fs) (run-call l j at ts e s (λ f q. (code j f q).0)) ∙ gots-turn (arguments true (params_of P j) ts e) fs _ _ l λ vs. fun-turn (fun_at P j) vs s fs l
    text-step (c_reify E S c t) e s fs l h = ap (resumed P fs) (run-reify l E S c t e s) ∙ got-turn (eval true t e) fs _ _ l λ s1. refl
    text-step (c_reflect E S x c) e s fs l h = ap (resumed P fs) (run-reflect l E S x c e s)
    text-step (c_return E c) e s fs l h = ap (resumed P fs) (run-return (suc l) E c e s) ∙ text-step c e v_unit (return_rest (return_text P E) s ∷ fs) l h.0
    text-step (c_lift n c) e s fs l h = ap (resumed P fs) (run-lift (suc l) n c e s) ∙ def-step (lift_text P n) (s ∷ []) (lift_header c e) fs l

    -- a unit of the machine is a unit of the run
    pub step : (t : Tsk) (fs : List Frm) (l : ℕ) → CodeTask P t → whole P t fs (suc l) ≡ after P (turn P t fs) l
    step (run_text c e s) fs l h = text-step c e s fs l h
    step (run_def d e hd) fs l h = def-step d e hd fs l

  -- ---- runs

  -- without fuel nothing is done
  def-out : (d : Dm) (e : Env) (h : Hdr) → part P (run_def d e h) zero ≡ Out
  def-out (d_ret t) e h = refl
  def-out (d_let x d1 d2) e h = refl
  def-out (d_if t d1 d2) e h = refl
  def-out (d_match t arms) e h = refl
  def-out (d_run_f t) e h = refl
  def-out (d_run_g t u) e h = refl

  text-out : (c : Cm) (e : Env) (s : Val) → IsCode P c → text_run P zero e s c ≡ Out
  unfolding text_run
  text-out (c_ret t) e s h = refl
  text-out (c_let x c1 c2) e s h = refl
  text-out (c_bind E x c1 c2) e s h = refl
  text-out (c_ghost x c1 c2) e s h = absurd h
  text-out (c_assert phi at c) e s h = absurd h
  text-out (c_if t c1 c2) e s h = refl
  text-out (c_match t at arms) e s h = refl
  text-out (c_call j ts at) e s h = refl
  text-out (c_reify E S c t) e s h = refl
  text-out (c_reflect E S x c) e s h = refl
  text-out (c_return E c) e s h = rw (text-out c e v_unit h.0) refl
  text-out (c_lift n c) e s h = run-lift zero n c e s ∙ def-out (lift_text P n) (s ∷ []) (lift_header c e)

  part-out : (t : Tsk) → CodeTask P t → part P t zero ≡ Out
  part-out (run_text c e s) h = text-out c e s h
  part-out (run_def d e h) k = def-out d e h

  pub whole-out : (t : Tsk) (fs : List Frm) → CodeTask P t → whole P t fs zero ≡ Out
  whole-out t fs h = ap (resumed P fs) (part-out t h) ∙ resumed-stop fs Out tt

module _ (P : Prog) where
  -- where a unit leads is code
  abbrev pub CodeTurn : Turn → Type 0
  CodeTurn (next t fs) = CodeTask P t × CodeFrames P fs
  CodeTurn (over v) = ⊤
  CodeTurn (stopped o) = ⊤

  code-got : (g : Got) (k : Val → Turn) → ((v : Val) → CodeTurn (k v)) → CodeTurn (with_got g k)
  code-got (got v) k h = h v
  code-got got_wide k h = tt
  code-got (got_stuck at) k h = tt

  code-gots : (g : Gots) (k : List Val → Turn) → ((vs : List Val) → CodeTurn (k vs)) → CodeTurn (with_gots g k)
  code-gots (gots vs) k h = h vs
  code-gots gots_wide k h = tt
  code-gots (gots_stuck at) k h = tt

  code-fits : (vs : Option (List Val)) (k : List Val → Turn) (o : Turn) → ((ws : List Val) → CodeTurn (k ws)) → CodeTurn o → CodeTurn (if_fits vs k o)
  code-fits None k o h r = r
  code-fits (Some ws) k o h r = h ws

  code-side : (x : Bool) (c1 c2 : Cm) → IsCode P c1 → IsCode P c2 → IsCode P (if x then c1 else c2)
  code-side true c1 c2 h k = h
  code-side false c1 c2 h k = k

  code-f : (h : Hdr) (s : Val) (fs : List Frm) → CodeHeader P h → CodeFrames P fs → CodeTurn (f_turn h s fs)
  code-f no_header s fs h k = tt
  code-f (lift_header c e) s fs h k = (h, k)
  code-f (bind_header c d e) s fs h k = (h.0, k)

  code-g : (h : Hdr) (v s : Val) (fs : List Frm) → CodeHeader P h → CodeFrames P fs → CodeTurn (g_turn h v s fs)
  code-g no_header v s fs h k = tt
  code-g (lift_header c e) v s fs h k = tt
  code-g (bind_header c d e) v s fs h k = (h.1, k)

  code-def-arm : (arms : DmArms) (v : Val) (e : Env) (h : Hdr) (fs : List Frm) → CodeHeader P h → CodeFrames P fs → CodeTurn (def_arm_turn arms v e h fs)
  code-def-arm d_end v e h fs p q = tt
  code-def-arm (d_arm c xs d more) v e h fs p q = code-fits (parts c v) _ _ (λ vs. (p, q)) (code-def-arm more v e h fs p q)

  code-arm : (arms : CmArms) (at : ℕ) (v : Val) (e : Env) (s : Val) (fs : List Frm) → AreCode P arms → CodeFrames P fs → CodeTurn (arm_turn arms at v e s fs)
  code-arm c_end at v e s fs p q = tt
  code-arm (c_arm c xs body more) at v e s fs p q = code-fits (parts c v) _ _ (λ vs. (p.0, q)) (code-arm more at v e s fs p.1 q)

  module _ (code : CodeProg P) where
    code-given : (f : Frm) (fs : List Frm) (v : Val) → CodeFrames P (f ∷ fs) → CodeTurn (next (given f v) fs)
    code-given (let_rest c e s) fs v h = h
    code-given (def_rest d e k) fs v h = h
    code-given (return_rest d s) fs v h = (tt, h)

    code-give : (v : Val) (fs : List Frm) → CodeFrames P fs → CodeTurn (give v fs)
    code-give v [] h = tt
    code-give v (f ∷ fs) h = code-given f fs v h

    code-def : (d : Dm) (e : Env) (h : Hdr) (fs : List Frm) → CodeHeader P h → CodeFrames P fs → CodeTurn (def_turn P d e h fs)
    code-def (d_ret t) e h fs p q = code-got (eval true t e) _ λ v. code-give v fs q
    code-def (d_let x d1 d2) e h fs p q = (p, (p, q))
    code-def (d_if t d1 d2) e h fs p q = code-got (eval true t e) _ λ v. (p, q)
    code-def (d_match t arms) e h fs p q = code-got (eval true t e) _ λ v. code-def-arm arms v e h fs p q
    code-def (d_run_f t) e h fs p q = code-got (eval true t e) _ λ s. code-f h s fs p q
    code-def (d_run_g t u) e h fs p q = code-got (eval true t e) _ λ v. code-got (eval true u e) _ λ s. code-g h v s fs p q

    code-fun : (o : Option Fn) (vs : List Val) (s : Val) (fs : List Frm) → ((f : Fn) → o ≡ Some f → IsCode P f.body) → CodeFrames P fs → CodeTurn (if_there o (λ f. next (run_text f.body (reverse vs) (input_to f.effect s)) fs) (stopped (Stuck zero)))
    code-fun None vs s fs h k = tt
    code-fun (Some f) vs s fs h k = (h f refl, k)

    code-text : (c : Cm) (e : Env) (s : Val) (fs : List Frm) → IsCode P c → CodeFrames P fs → CodeTurn (text_turn P c e s fs)
    code-text (c_ret t) e s fs p q = code-got (eval true t e) _ λ v. code-give v fs q
    code-text (c_let x c1 c2) e s fs p q = (p.0, (p.1, q))
    code-text (c_bind E x c1 c2) e s fs p q = ((p.0, p.1), q)
    code-text (c_ghost x c1 c2) e s fs p q = absurd p
    code-text (c_assert phi at c) e s fs p q = absurd p
    code-text (c_if t c1 c2) e s fs p q = code-got (eval true t e) _ λ v. (code-side (is_true v) c1 c2 p.0 p.1, q)
    code-text (c_match t at arms) e s fs p q = code-got (eval true t e) _ λ v. code-arm arms at v e s fs p q
    code-text (c_call j ts at) e s fs p q = code-gots (arguments true (params_of P j) ts e) _ λ vs. code-fun (fun_at P j) vs s fs (λ f r. (code j f r).1) q
    code-text (c_reify E S c t) e s fs p q = code-got (eval true t e) _ λ s1. (p, q)
    code-text (c_reflect E S x c) e s fs p q = (p, q)
    code-text (c_return E c) e s fs p q = code-text c e v_unit (return_rest (return_text P E) s ∷ fs) p.0 q
    code-text (c_lift n c) e s fs p q = code-def (lift_text P n) (s ∷ []) (lift_header c e) fs p.0 q

    pub turn-code : (t : Tsk) (fs : List Frm) → CodeTask P t → CodeFrames P fs → CodeTurn (turn P t fs)
    turn-code (run_text c e s) fs p q = code-text c e s fs p q
    turn-code (run_def d e h) fs p q = code-def d e h fs p q

    -- a run of the machine gives the meaning of its state
    pub machine-runs : (F : ℕ) (t : Tsk) (fs : List Frm) → CodeTask P t → CodeFrames P fs → machine_run P F t fs ≡ whole P t fs F
    machine-runs zero t fs p q = sym (whole-out P t fs p)
    machine-runs (suc F) t fs p q = went F (λ u gs p q. machine-runs F u gs p q) (turn P t fs) (turn-code t fs p q) ∙ sym (step P code t fs F p)
      where
        went : (F : ℕ) → ((u : Tsk) (gs : List Frm) → CodeTask P u → CodeFrames P gs → machine_run P F u gs ≡ whole P u gs F) → (n : Turn) → CodeTurn n → go_on P (machine_run P F) F n ≡ after P n F
        went F ih (next u gs) h = ih u gs h.0 h.1
        went F ih (over v) h = refl
        went F ih (stopped o) h = refl
