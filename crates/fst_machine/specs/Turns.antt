-- The machine: what runs, what waits, and what one unit of fuel does.
use Rattle.std.specs.Prelude.{ℕ, zero, suc, true, false, if◌then◌else◌, List, [], ◌∷◌, ◌++◌, reverse, Option, Some, slice_get, ◌≡◌, ⊤, IsTrue}
use Rattle.fst_base.specs.Values.{Val, v_unit}
use Rattle.fst_base.specs.Primitives.{is_true}
use Rattle.fst_terms.specs.Meaning.{Env, Meaning}
use Rattle.fst_program.specs.Texts.{Dm, DmArms, d_ret, d_let, d_if, d_match, d_run_f, d_run_g, d_end, d_arm, Cm, CmArms, c_ret, c_let, c_bind, c_ghost, c_assert, c_if, c_match, c_call, c_reify, c_reflect, c_return, c_lift, c_end, c_arm, Prm, LftDef, Fn, Prog, if_there, fun_at, params_of, bind_text, return_text, lift_text, is_ghost}
use Rattle.fst_code.specs.Sound.{is_effect, is_lift, is_there}
use Rattle.fst_program.specs.Evaluation.{Got, got, got_wide, got_stuck, Gots, gots, gots_wide, gots_stuck, eval, arguments}
use Rattle.fst_program.specs.Runs.{Outcome, Done, Out, Wide, Stuck, then_do, parts, if_fits, Run, dm, no_f, no_g, input_to, ev}

abbrev pub lift_at : Prog → ℕ → Option LftDef
lift_at P n = slice_get P.lifts n

-- the computations that a definition's text may run, with their environment: a return's has none, a lift's has f, and a bind's has f
-- and g, both in the environment of the bind
pub data Hdr : Type 0 where
  no_header : Hdr
  lift_header : Cm → Env → Hdr
  bind_header : Cm → Cm → Env → Hdr

-- what runs: core text in an environment on an input, or a definition's text with its header
pub data Tsk : Type 0 where
  run_text : Cm → Env → (input : Val) → Tsk
  run_def : Dm → Env → Hdr → Tsk

-- what waits for the value of what runs: the rest of a let, the rest of a let in a definition's text, and the text of a return
-- on an input; calls, matches, binds, lifts and the runs of f and g wait for nothing
pub data Frm : Type 0 where
  let_rest : Cm → Env → (input : Val) → Frm
  def_rest : Dm → Env → Hdr → Frm
  return_rest : Dm → (input : Val) → Frm

-- where a unit leads: on, to the run's value, or to another outcome
pub data Turn : Type 0 where
  next : Tsk → List Frm → Turn
  over : Val → Turn
  stopped : Outcome → Turn

abbrev pub with_got : Got → (Val → Turn) → Turn
with_got (got v) k = k v
with_got got_wide k = stopped Wide
with_got (got_stuck at) k = stopped (Stuck at)

abbrev pub with_gots : Gots → (List Val → Turn) → Turn
with_gots (gots vs) k = k vs
with_gots gots_wide k = stopped Wide
with_gots (gots_stuck at) k = stopped (Stuck at)

-- code holds no formula, so what applications mean is of no account
abbrev pub no_meaning : Meaning
no_meaning k vs = v_unit

-- what runs once the value is there
abbrev pub given : Frm → Val → Tsk
given (let_rest c e s) v = run_text c (v ∷ e) s
given (def_rest d e h) v = run_def d (v ∷ e) h
given (return_rest d s) v = run_def d (s ∷ v ∷ []) no_header

-- the value of a part goes to the frame that waits for it
abbrev pub give : Val → List Frm → Turn
give v [] = over v
give v (f ∷ fs) = next (given f v) fs

-- the runs of f and g
abbrev pub f_turn : Hdr → (input : Val) → List Frm → Turn
f_turn no_header s fs = stopped (Stuck zero)
f_turn (lift_header c e) s fs = next (run_text c e s) fs
f_turn (bind_header c d e) s fs = next (run_text c e s) fs

abbrev pub g_turn : Hdr → Val → (input : Val) → List Frm → Turn
g_turn no_header v s fs = stopped (Stuck zero)
g_turn (lift_header c e) v s fs = stopped (Stuck zero)
g_turn (bind_header c d e) v s fs = next (run_text d (v ∷ e) s) fs

abbrev pub def_arm_turn : DmArms → Val → Env → Hdr → List Frm → Turn
def_arm_turn d_end v e h fs = stopped (Stuck zero)
def_arm_turn (d_arm c xs d more) v e h fs = if_fits (parts c v) (λ vs. next (run_def d (vs ++ e) h) fs) (def_arm_turn more v e h fs)

abbrev pub arm_turn : CmArms → (place : ℕ) → Val → Env → (input : Val) → List Frm → Turn
arm_turn c_end at v e s fs = stopped (Stuck at)
arm_turn (c_arm c xs body more) at v e s fs = if_fits (parts c v) (λ vs. next (run_text body (vs ++ e) s) fs) (arm_turn more at v e s fs)

module _ (P : Prog) where
  -- ---- the meaning of a state

  -- a bounded run of core text, with no allowance for ghost parts
  unfoldable pub text_run : (fuel : ℕ) → Env → (input : Val) → Cm → Outcome
  text_run F e s c = ev no_meaning P F 0 true e s c

  abbrev pub f_of : Hdr → Run
  f_of no_header s F = no_f s F
  f_of (lift_header c e) s F = text_run F e s c
  f_of (bind_header c d e) s F = text_run F e s c

  abbrev pub g_of : Hdr → Val → Run
  g_of no_header v s F = no_g v s F
  g_of (lift_header c e) v s F = no_g v s F
  g_of (bind_header c d e) v s F = text_run F (v ∷ e) s d

  -- the outcome of what runs
  abbrev pub part : Tsk → (fuel : ℕ) → Outcome
  part (run_text c e s) F = text_run F e s c
  part (run_def d e h) F = dm true (f_of h) (g_of h) d e F

  -- the outcome of the whole, from that of the part; the frame that waits for the part stands first
  abbrev pub resumed : List Frm → Outcome → Outcome
  resumed [] o = o
  resumed (f ∷ fs) o = resumed fs (then_do o (λ v l. part (given f v) l))

  abbrev pub whole : Tsk → List Frm → (fuel : ℕ) → Outcome
  whole t fs F = resumed fs (part t F)

  abbrev pub after : Turn → (fuel : ℕ) → Outcome
  after (next t fs) F = whole t fs F
  after (over v) F = Done v F
  after (stopped o) F = o

  -- ---- what a unit does

  abbrev pub def_turn : Dm → Env → Hdr → List Frm → Turn
  def_turn (d_ret t) e h fs = with_got (eval true t e) (λ v. give v fs)
  def_turn (d_let x d1 d2) e h fs = next (run_def d1 e h) (def_rest d2 e h ∷ fs)
  def_turn (d_if t d1 d2) e h fs = with_got (eval true t e) (λ v. next (run_def (if is_true v then d1 else d2) e h) fs)
  def_turn (d_match t arms) e h fs = with_got (eval true t e) (λ v. def_arm_turn arms v e h fs)
  def_turn (d_run_f t) e h fs = with_got (eval true t e) (λ s. f_turn h s fs)
  def_turn (d_run_g t u) e h fs = with_got (eval true t e) (λ v. with_got (eval true u e) (λ s. g_turn h v s fs))

  -- a return and a lift take no unit of their own: the unit is that of what they hold. Code has neither ghost lets nor assertions, so
  -- what is said of them is of no account
  abbrev pub text_turn : Cm → Env → (input : Val) → List Frm → Turn
  text_turn (c_ret t) e s fs = with_got (eval true t e) (λ v. give v fs)
  text_turn (c_let x c1 c2) e s fs = next (run_text c1 e v_unit) (let_rest c2 e s ∷ fs)
  text_turn (c_bind E x c1 c2) e s fs = next (run_def (bind_text P E) (s ∷ []) (bind_header c1 c2 e)) fs
  text_turn (c_ghost x c1 c2) e s fs = stopped (Stuck zero)
  text_turn (c_assert phi at c) e s fs = stopped (Stuck at)
  text_turn (c_if t c1 c2) e s fs = with_got (eval true t e) (λ v. next (run_text (if is_true v then c1 else c2) e s) fs)
  text_turn (c_match t at arms) e s fs = with_got (eval true t e) (λ v. arm_turn arms at v e s fs)
  text_turn (c_call j ts at) e s fs = with_gots (arguments true (params_of P j) ts e) (λ vs. if_there (fun_at P j) (λ f. next (run_text f.body (reverse vs) (input_to f.effect s)) fs) (stopped (Stuck zero)))
  text_turn (c_reify E S c t) e s fs = with_got (eval true t e) (λ s1. next (run_text c e s1) fs)
  text_turn (c_reflect E S x c) e s fs = next (run_text c (s ∷ e) v_unit) fs
  text_turn (c_return E c) e s fs = text_turn c e v_unit (return_rest (return_text P E) s ∷ fs)
  text_turn (c_lift n c) e s fs = def_turn (lift_text P n) (s ∷ []) (lift_header c e) fs

  abbrev pub turn : Tsk → List Frm → Turn
  turn (run_text c e s) fs = text_turn c e s fs
  turn (run_def d e h) fs = def_turn d e h fs

  -- ---- a run of the machine

  abbrev pub go_on : (Tsk → List Frm → Outcome) → (left : ℕ) → Turn → Outcome
  go_on k left (next t fs) = k t fs
  go_on k left (over v) = Done v left
  go_on k left (stopped o) = o

  abbrev pub machine_run : (fuel : ℕ) → Tsk → List Frm → Outcome
  machine_run zero t fs = Out
  machine_run (suc F) t fs = go_on (machine_run F) F (turn t fs)

-- ---- code

module _ (P : Prog) where
  -- core text without ghost lets and assertions, whose effects, lifts and callees are there
  abbrev mutual
    pub IsCode : Cm → Type 0
    IsCode (c_ret t) = ⊤
    IsCode (c_let x c1 c2) = IsCode c1 × IsCode c2
    IsCode (c_bind E x c1 c2) = IsCode c1 × IsCode c2 × IsTrue (is_effect P E)
    IsCode (c_ghost x c1 c2) = ⊥
    IsCode (c_assert phi at c) = ⊥
    IsCode (c_if t c1 c2) = IsCode c1 × IsCode c2
    IsCode (c_match t at arms) = AreCode arms
    IsCode (c_call j ts at) = IsTrue (is_there P j)
    IsCode (c_reify E S c t) = IsCode c
    IsCode (c_reflect E S x c) = IsCode c
    IsCode (c_return E c) = IsCode c × IsTrue (is_effect P E)
    IsCode (c_lift n c) = IsCode c × IsTrue (is_lift P n)

    pub AreCode : CmArms → Type 0
    AreCode c_end = ⊤
    AreCode (c_arm c xs body more) = IsCode body × AreCode more

  abbrev pub CodeHeader : Hdr → Type 0
  CodeHeader no_header = ⊤
  CodeHeader (lift_header c e) = IsCode c
  CodeHeader (bind_header c d e) = IsCode c × IsCode d

  abbrev pub CodeTask : Tsk → Type 0
  CodeTask (run_text c e s) = IsCode c
  CodeTask (run_def d e h) = CodeHeader h

  abbrev pub CodeFrames : List Frm → Type 0
  CodeFrames [] = ⊤
  CodeFrames (let_rest c e s ∷ fs) = IsCode c × CodeFrames fs
  CodeFrames (def_rest d e h ∷ fs) = CodeHeader h × CodeFrames fs
  CodeFrames (return_rest d s ∷ fs) = CodeFrames fs

-- no parameter is a ghost one
abbrev pub NoneHidden : List Prm → Type 0
NoneHidden [] = ⊤
NoneHidden (p ∷ ps) = (p.hidden ≡ false) × NoneHidden ps

-- each function that is there isn't GHOST, has no ghost parameter, and its body is code
abbrev pub CodeProg : Prog → Type 0
CodeProg P = (k : ℕ) (f : Fn) → fun_at P k ≡ Some f → (is_ghost f.effect ≡ false) × IsCode P f.body × NoneHidden f.params
