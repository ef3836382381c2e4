-- Steps of the machine's state.
use Rattle.std.proofs.Common.{◌≡◌, ℕ, zero, suc, ◌<◌, nat_lt, length, slice_get, arith, IsTrue, option_map, Bool, true, false, if◌then◌else◌, List, [], ◌∷◌, ◌++◌, reverse, Result, Ok, Err, Option, Some, None, sym, ap, ◌∙◌, subst}
use Rattle.std.proofs.lemmas.Bool.{ltb-true}
use Rattle.std.proofs.lemmas.List.{reverse-append}
use Rattle.fst_base.specs.Values.{Val}
use Rattle.fst_base.specs.Primitives.{is_true}
use Rattle.fst_terms.specs.Meaning.{Env}
use Rattle.fst_terms.specs.Terms.{t_unit}
use Rattle.fst_code.specs.Sound.{is_effect, is_there}
use Rattle.fst_program.specs.Texts.{Dm, d_ret, Cm, c_return, c_lift, EffDef, LftDef, Fn, Prog, if_there, effect_at, fun_at, bind_text, return_text, lift_text}
use Rattle.fst_program.specs.Evaluation.{Got, got, got_wide, got_stuck}
use Rattle.fst_cells.specs.declared.cell.Cell.{Cell}
use Rattle.fst_machine.specs.declared.memory.Chain.{Chain}
use Rattle.fst_machine.specs.declared.memory.Memory.{Memory}
use Rattle.fst_machine.specs.declared.stop.Stop.{Stop}
use Rattle.fst_machine.specs.declared.stop.Stop.TheVariants as stop
use Rattle.fst_machine.specs.declared.state.Header as H
use Rattle.fst_machine.specs.declared.state.Header.TheVariants as header
use Rattle.fst_machine.specs.declared.state.Task.TheVariants as task
use Rattle.fst_machine.specs.declared.state.Frame as F
use Rattle.fst_machine.specs.declared.state.Frame.TheVariants as frame
use Rattle.fst_machine.specs.declared.state.State.{State}
use Rattle.fst_machine.specs.Memories.{Keeps, IsCell, InputIs, IsChain}
use Rattle.fst_machine.specs.Stops.{Gives}
use Rattle.fst_machine.specs.States.{HeaderIs, TaskIs, FrameIs, FramesAre, StateIs, TurnIs}
use Rattle.fst_machine.specs.Turns.{lift_at, IsCode, Hdr, no_header, lift_header, bind_header, run_text, run_def, Frm, let_rest, def_rest, return_rest, Turn, next, with_got, given, give, g_turn, def_turn}
use Rattle.fst_machine.proofs.MemoryLemmas.{value-kept, input-kept, chain-kept}

-- ---- as the memory grows

pub header-kept : (m m' : Memory) (h : H.Header) (k : Hdr) → Keeps m m' → HeaderIs m h k → HeaderIs m' h k
header-kept m m' header.None no_header n h = tt
header-kept m m' (header.Lift c env) (lift_header d e) n h = (h.0, chain-kept m m' env e n h.1)
header-kept m m' (header.Bind c1 c2 env) (bind_header d1 d2 e) n h = (h.0, h.1, chain-kept m m' env e n h.2)
header-kept m m' h k n i = absurd i

frame-kept : (m m' : Memory) (f : F.Frame) (g : Frm) → Keeps m m' → FrameIs m f g → FrameIs m' f g
frame-kept m m' (frame.Let c env input) (let_rest d e s) n h = (h.0, chain-kept m m' env e n h.1, input-kept m m' input s n h.2)
frame-kept m m' (frame.Definition c env k) (def_rest d e l) n h = (h.0, chain-kept m m' env e n h.1, header-kept m m' k l n h.2)
frame-kept m m' (frame.Return c input) (return_rest d s) n h = (h.0, input-kept m m' input s n h.1)
frame-kept m m' f g n h = absurd h

pub frames-kept : (m m' : Memory) (fs : List F.Frame) (gs : List Frm) → Keeps m m' → FramesAre m fs gs → FramesAre m' fs gs
frames-kept m m' [] [] n h = tt
frames-kept m m' [] (g ∷ gs) n h = absurd h
frames-kept m m' (f ∷ fs) [] n h = absurd h
frames-kept m m' (f ∷ fs) (g ∷ gs) n h = (frame-kept m m' f g n h.0, frames-kept m m' fs gs n h.1)

pub frames-push : (m : Memory) (fs hs : List F.Frame) (f : F.Frame) (g : Frm) (gs : List Frm) → hs ≡ fs ++ f ∷ [] → FrameIs m f g → FramesAre m (reverse fs) gs → FramesAre m (reverse hs) (g ∷ gs)
frames-push m fs hs f g gs q h k = subst (λ xs. FramesAre m xs (g ∷ gs)) (sym (ap reverse q ∙ reverse-append fs (f ∷ []))) (h, k)

-- ---- terms

-- a term's fault is that of the unit
pub stop-turn : (s : State) (r : Result (Option Cell) Stop) (x : Stop) (g : Got) (k : Val → Turn) → r ≡ Err x → Gives s.memory (Err x) g → TurnIs s r (with_got g k)
stop-turn s r x g k q h = subst (λ r. TurnIs s r (with_got g k)) (sym q) (go x g h)
  where
    go : (x : Stop) (g : Got) → Gives s.memory (Err x) g → TurnIs s (Err x) (with_got g k)
    go stop.PastRange (got v) h = absurd h
    go stop.PastRange got_wide h = tt
    go stop.PastRange (got_stuck at) h = absurd h
    go (stop.Stuck p) (got v) h = absurd h
    go (stop.Stuck p) got_wide h = absurd h
    go (stop.Stuck p) (got_stuck at) h = h
    go stop.NoMemory g h = tt

-- a term's value goes on
pub value-turn : (s : State) (r : Result (Option Cell) Stop) (m : Memory) (c : Cell) (g : Got) (k : Val → Turn) → Gives m (Ok c) g → ((v : Val) → IsCell m c v → TurnIs s r (k v)) → TurnIs s r (with_got g k)
value-turn s r m c (got v) k h n = n v h
value-turn s r m c got_wide k h n = absurd h
value-turn s r m c (got_stuck at) k h n = absurd h

-- ---- values that are given

pub give-turn : (s : State) (m : Memory) (fs : List F.Frame) (f : F.Frame) (ps : List Frm) (v : Val) → fs ≡ s.frames ++ f ∷ [] → Keeps m s.memory → ((p : Frm) → FrameIs m f p → TaskIs s.memory s.task (given p v)) → FramesAre m (reverse fs) ps → TurnIs s (Ok None) (give v ps)
give-turn s m fs f ps v q n t h = go ps (subst (λ xs. FramesAre m xs ps) (ap reverse q ∙ reverse-append s.frames (f ∷ [])) h)
  where
    go : (ps : List Frm) → FramesAre m (f ∷ reverse s.frames) ps → TurnIs s (Ok None) (give v ps)
    go [] h = absurd h
    go (p ∷ ps) h = (t p h.0, frames-kept m s.memory (reverse s.frames) ps n h.1)

-- what a link makes of an environment
abbrev pub Links : Memory → Memory → Cell → Chain → Chain → Type 0
Links m m' c rest env = (v : Val) (e : Env) → IsCell m c v → IsChain m rest e → IsChain m' env (v ∷ e)

pub let-given : (m m' : Memory) (text : _) (env env' : Chain) (input : Option Cell) (c : Cell) (v : Val) → Keeps m m' → Links m m' c env env' → IsCell m c v → (p : Frm) → FrameIs m (frame.Let text env input) p → TaskIs m' (task.Text text env' input) (given p v)
let-given m m' text env env' input c v n l h (let_rest d e s) k = (k.0, l v e h k.1, input-kept m m' input s n k.2)
let-given m m' text env env' input c v n l h (def_rest d e x) k = absurd k
let-given m m' text env env' input c v n l h (return_rest d s) k = absurd k

pub def-given : (m m' : Memory) (text : _) (env env' : Chain) (x : H.Header) (c : Cell) (v : Val) → Keeps m m' → Links m m' c env env' → IsCell m c v → (p : Frm) → FrameIs m (frame.Definition text env x) p → TaskIs m' (task.Definition text env' x) (given p v)
def-given m m' text env env' x c v n l h (let_rest d e s) k = absurd k
def-given m m' text env env' x c v n l h (def_rest d e y) k = (k.0, l v e h k.1, header-kept m m' x y n k.2)
def-given m m' text env env' x c v n l h (return_rest d s) k = absurd k

-- of a return the environment holds the value and the input
pub return-given : (m m1 m2 m3 : Memory) (text : _) (empty env env' : Chain) (input : Option Cell) (c i : Cell) (v : Val) → Keeps m m1 → Keeps m1 m2 → Keeps m2 m3 → IsChain m empty [] → Links m m1 c empty env
    → ((s : Val) → InputIs m1 input s → IsCell m2 i s) → Links m2 m3 i env env' → IsCell m c v → (p : Frm) → FrameIs m (frame.Return text input) p → TaskIs m3 (task.Definition text env' header.None) (given p v)
return-given m m1 m2 m3 text empty env env' input c i v n n1 n2 z l g l2 h (let_rest d e s) k = absurd k
return-given m m1 m2 m3 text empty env env' input c i v n n1 n2 z l g l2 h (def_rest d e y) k = absurd k
return-given m m1 m2 m3 text empty env env' input c i v n n1 n2 z l g l2 h (return_rest d s) k =
    (k.0, l2 s (v ∷ []) (g s (input-kept m m1 input s n k.1)) (chain-kept m1 m2 env (v ∷ []) n1 (l v [] h z)), tt)

-- ---- the runs of a header's computations

pub g-given : (s : State) (m : Memory) (text f_text : _) (env env' : Chain) (c i : Cell) (h : Hdr) (v t : Val) (gs : List Frm) → Keeps m s.memory → Links m s.memory c env env' → HeaderIs m (header.Bind f_text text env) h → IsCell m c v → IsCell m i t → FramesAre m (reverse s.frames) gs
    → s.task ≡ task.Text text env' (Some i) → TurnIs s (Ok None) (g_turn h v t gs)
g-given s m text f_text env env' c i no_header v t gs n l k h j fs q = absurd k
g-given s m text f_text env env' c i (lift_header d e) v t gs n l k h j fs q = absurd k
g-given s m text f_text env env' c i (bind_header d1 d2 e) v t gs n l k h j fs q =
    (subst (λ x. TaskIs s.memory x (run_text d2 (v ∷ e) t)) (sym q) (k.1, l v e h k.2, value-kept m s.memory i t n j), frames-kept m s.memory (reverse s.frames) gs n fs)

-- ---- definitions' texts

module _ (P : Prog) where
  -- a term's fault, where the text's unit takes the term's value
  pub def-stop : (s : State) (r : Result (Option Cell) Stop) (x : Stop) (text d : Dm) (e : Env) (h : Hdr) (fs : List Frm) (g : Got) (k : Val → Turn) → text ≡ d → def_turn P d e h fs ≡ with_got g k → r ≡ Err x → Gives s.memory (Err x) g → TurnIs s r (def_turn P text e h fs)
  def-stop s r x text d e h fs g k q p i n = subst (TurnIs s r) (sym (ap (λ d. def_turn P d e h fs) q ∙ p)) (stop-turn s r x g k i n)

  -- the side that a test takes
  pub def-side : (s : State) (test : Bool) (d1 d2 : Dm) (v : Val) (e : Env) (h : Hdr) (fs : List Frm) → test ≡ is_true v → StateIs s (run_def (if test then d1 else d2) e h) fs → TurnIs s (Ok None) (next (run_def (if is_true v then d1 else d2) e h) fs)
  def-side s test d1 d2 v e h fs q k = subst (λ b. StateIs s (run_def (if b then d1 else d2) e h) fs) q k

-- ---- core text

-- an environment with the input for one more variable
pub given-linked : (m m1 m2 : Memory) (i : Cell) (env inner : Chain) (input : Option Cell) (s : Val) (e : Env) → Keeps m m1 → ((v : Val) → InputIs m input v → IsCell m1 i v) → Links m1 m2 i env inner → InputIs m input s → IsChain m env e → IsChain m2 inner (s ∷ e)
given-linked m m1 m2 i env inner input s e n g l k c = l s e (g s k) (chain-kept m m1 env e n c)

-- the texts of effects and lifts
pub bind-is : (P : Prog) (E : ℕ) (d : Dm) → Some d ≡ option_map (λ x. x.bind) (effect_at P E) → d ≡ bind_text P E
bind-is P E d = go (effect_at P E)
  where
    go : (o : Option EffDef) → Some d ≡ option_map (λ x. x.bind) o → d ≡ if_there o (λ x. x.bind) (d_ret t_unit)
    go None q = cc
    go (Some x) q = cc

pub return-is : (P : Prog) (E : ℕ) (d : Dm) → Some d ≡ option_map (λ x. x.ret) (effect_at P E) → d ≡ return_text P E
return-is P E d = go (effect_at P E)
  where
    go : (o : Option EffDef) → Some d ≡ option_map (λ x. x.ret) o → d ≡ if_there o (λ x. x.ret) (d_ret t_unit)
    go None q = cc
    go (Some x) q = cc

pub lift-is : (P : Prog) (n : ℕ) (d : Dm) → Some d ≡ option_map (λ x. x.text) (lift_at P n) → d ≡ lift_text P n
lift-is P n d = go (lift_at P n)
  where
    go : (o : Option LftDef) → Some d ≡ option_map (λ x. x.text) o → d ≡ if_there o (λ x. x.text) (d_ret t_unit)
    go None q = cc
    go (Some x) q = cc

-- the effects and lifts of code are there
get-there : {X Y : Type 0} (xs : List X) (i : ℕ) (f : X → Y) → IsTrue (nat_lt i (length xs)) → None ≡ option_map f (slice_get xs i) → ⊥
get-there {X} xs i f h q = go xs i (ltb-true i (length xs) h) q
  where
    go : (xs : List X) (i : ℕ) → i < length xs → None ≡ option_map f (slice_get xs i) → ⊥
    go [] i lt q = omega (arith, lt)
    go (x ∷ xs) zero lt q = cc
    go (x ∷ xs) (suc i) lt q = go xs i (omega (arith, lt)) q

pub bind-there : (P : Prog) (E : ℕ) → IsTrue (is_effect P E) → None ≡ option_map (λ x. x.bind) (effect_at P E) → ⊥
bind-there P E h q = get-there P.effects E (λ x. x.bind) h q

pub return-there : (P : Prog) (E : ℕ) (c : Cm) → IsCode P (c_return E c) → None ≡ option_map (λ x. x.ret) (effect_at P E) → ⊥
return-there P E c h q = get-there P.effects E (λ x. x.ret) h.1 q

pub call-there : (P : Prog) (j : ℕ) → IsTrue (is_there P j) → None ≡ fun_at P j → ⊥
call-there P j = go (fun_at P j)
  where
    go : (o : Option Fn) → IsTrue (if_there o (λ f. true) false) → None ≡ o → ⊥
    go None h q = cc
    go (Some f) h q = cc

pub lift-there : (P : Prog) (n : ℕ) (c : Cm) → IsCode P (c_lift n c) → None ≡ option_map (λ x. x.text) (lift_at P n) → ⊥
lift-there P n c h q = get-there P.lifts n (λ x. x.text) h.1 q

-- what a return holds is code too
pub return-part : (P : Prog) (E : ℕ) (c : Cm) → IsCode P (c_return E c) → IsCode P c
return-part P E c h = h.0
