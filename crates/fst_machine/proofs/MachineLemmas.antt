-- Runs of a function by the machine.
use Rattle.std.proofs.Common.{◌≡◌, ℕ, Bool, true, false, IsTrue, List, [], ◌∷◌, ◌++◌, map, option_map, reverse, Option, Some, None, Result, Ok, Err, refl, sym, ap, ◌∙◌, subst}
use Rattle.std.proofs.lemmas.Bool.{false≢true}
use Rattle.std.proofs.lemmas.List.{reverse-append, append_assoc, append-nil}
use mathlib.Core.Bool.{Bool-set}
use mathlib.Core.Logic.{∥∥₁_elim}
use Rattle.fst_base.specs.Values.{Val, plain_value}
use Rattle.fst_base.specs.declared.value.Value.{Value}
use Rattle.fst_program.specs.Texts.{Fn, Prog, if_there, fun_at}
use Rattle.fst_program.specs.Runs.{Outcome, Done, Out, Wide, Stuck, GhostOut, ev}
use Rattle.fst_cells.specs.declared.cell.Cell.{Cell}
use Rattle.fst_machine.specs.declared.memory.Chain.{Chain}
use Rattle.fst_machine.specs.declared.memory.Memory.{Memory}
use Rattle.fst_machine.specs.declared.stop.Stop.{Stop}
use Rattle.fst_machine.specs.declared.stop.Stop.TheVariants as stop
use Rattle.fst_machine.specs.declared.state.State.{State}
use Rattle.fst_code.specs.declared.code.CodeFun.{CodeFun}
use Rattle.fst_code.specs.Plain.{plain_code_fun}
use Rattle.fst_code.specs.Sound.{is_sound, is_there}
use Rattle.fst_machine.specs.CodeRuns.{IsReady, Told, code_run}
use Rattle.fst_machine.specs.Memories.{IsCell, IsChain, Keeps}
use Rattle.fst_machine.specs.States.{StateIs, StateIsFit, RunIs}
use Rattle.fst_machine.specs.Turns.{run_text, no_meaning, text_run, whole, machine_run}
use Rattle.fst_machine.proofs.MemoryLemmas.{chain-kept}
use Rattle.fst_machine.proofs.SoundLemmas.{sound-code}
use Rattle.fst_machine.proofs.TurnLemmas.{machine-runs}

pub is-ready : (P : Prog) (k : ℕ) → ∥ IsReady P k ∥₁ → IsReady P k
is-ready P k h = ∥∥₁_elim h (λ x y. λ i. (Bool-set (is_sound P) true x.0 y.0 i, Bool-set (is_there P k) true x.1 y.1 i)) (λ x. x)

pub there-is : (P : Prog) (k : ℕ) (o : Option CodeFun) → option_map plain_code_fun o ≡ fun_at P k → (IsTrue (is_there P k) → o ≡ None → ⊥) × ((o ≡ None → ⊥) → IsTrue (is_there P k))
there-is P k o q = (λ h n. let wrong : IsTrue (if_there {X = Bool} None (λ (f : Fn). true) false) = subst (λ o. IsTrue (if_there o (λ f. true) false)) (sym q ∙ ap (option_map plain_code_fun) n) h in false≢true wrong, go o q)
  where
    go : (o : Option CodeFun) → option_map plain_code_fun o ≡ fun_at P k → (o ≡ None → ⊥) → IsTrue (is_there P k)
    go None q n = absurd (n refl)
    go (Some f) q n = subst (λ o. IsTrue (if_there o (λ f. true) false)) q refl

pub run-whole : (Q : Prog) (F : ℕ) (f : Fn) (vs : List Val) (s : Val) → ev no_meaning Q F 0 true (reverse vs) s f.body ≡ whole Q (run_text f.body (reverse vs) s) [] F
unfolding text_run
run-whole Q F f vs s = refl

module _ (P : Prog) (k : ℕ) (h : IsReady P k) where
  pub ready-there : None ≡ fun_at P k → ⊥
  ready-there q = let wrong : IsTrue (if_there {X = Bool} None (λ (f : Fn). true) false) = subst (λ o. IsTrue (if_there o (λ f. true) false)) (sym q) h.1 in false≢true wrong

  pub ready-fit : (f : Fn) (vs : List Val) (s : Val) (st : State) → Some f ≡ fun_at P k → StateIs st (run_text f.body (reverse vs) s) [] → StateIsFit P st
  ready-fit f vs s st q is = (run_text f.body (reverse vs) s, ([], (is, (sound-code P h.0 k f (sym q)).1, tt)))

  pub ready-run : (f : Fn) (vs : List Val) (s : Val) (F : ℕ) → Some f ≡ fun_at P k → machine_run P F (run_text f.body (reverse vs) s) [] ≡ code_run P k F vs s
  ready-run f vs s F q =
      machine-runs P (sound-code P h.0) F (run_text f.body (reverse vs) s) [] (sound-code P h.0 k f (sym q)).1 tt
      ∙ sym (run-whole P F f vs s)
      ∙ ap (λ o. if_there o (λ f. ev no_meaning P F 0 true (reverse vs) s f.body) (Stuck 0)) q

-- ---- what a run tells

pub told-value : (m : Memory) (c : Cell) (x : Value) (o : Outcome) → RunIs m (Ok (Some c)) o → ((v : Val) → IsCell m c v → plain_value x ≡ v) → Told o (Ok (Some x))
told-value m c x (Done v l) h k = (l, ap (λ v. Done v l) (sym (k v h)))
told-value m c x Out h k = absurd h
told-value m c x Wide h k = absurd h
told-value m c x (Stuck at) h k = absurd h
told-value m c x GhostOut h k = absurd h

pub told-out : (m : Memory) (o : Outcome) → RunIs m (Ok None) o → Told o (Ok None)
told-out m Out h = refl
told-out m (Done v l) h = absurd h
told-out m Wide h = absurd h
told-out m (Stuck at) h = absurd h
told-out m GhostOut h = absurd h

pub told-stop : (m : Memory) (r : Result (Option Value) Stop) (x : Stop) (o : Outcome) → r ≡ Err x → RunIs m (Err x) o → Told o r
told-stop m r x o q h = subst (Told o) (sym q) (go x o h)
  where
    go : (x : Stop) (o : Outcome) → RunIs m (Err x) o → Told o (Err x)
    go stop.NoMemory o h = tt
    go stop.PastRange Wide h = refl
    go stop.PastRange (Done v l) h = absurd h
    go stop.PastRange Out h = absurd h
    go stop.PastRange (Stuck at) h = absurd h
    go stop.PastRange GhostOut h = absurd h
    go (stop.Stuck p) (Stuck at) h = ap Stuck (sym h)
    go (stop.Stuck p) (Done v l) h = absurd h
    go (stop.Stuck p) Out h = absurd h
    go (stop.Stuck p) Wide h = absurd h
    go (stop.Stuck p) GhostOut h = absurd h

-- ---- arguments

-- the first values stand in the environment, and the others are still to come
abbrev pub Linked : Memory → Chain → (whole rest : List Value) → Type 0
Linked m c xs ys = (vs : List Val) × (IsChain m c (reverse vs) × (map plain_value xs ≡ vs ++ map plain_value ys))

pub linked-next : (m m1 m2 : Memory) (c c' : Chain) (x : Cell) (xs ys : List Value) (y : Value) → Linked m c xs (y ∷ ys) → Keeps m m1 → IsCell m1 x (plain_value y)
    → ((v : Val) (d : List Val) → IsCell m1 x v → IsChain m1 c d → IsChain m2 c' (v ∷ d)) → Linked m2 c' xs ys
linked-next m m1 m2 c c' x xs ys y g n k l = (
  g.0 ++ plain_value y ∷ [],
  (
    subst (IsChain m2 c') (sym (reverse-append g.0 (plain_value y ∷ []))) (l (plain_value y) (reverse g.0) k (chain-kept m m1 c (reverse g.0) n g.1.0)),
    g.1.1 ∙ sym (append_assoc g.0 (plain_value y ∷ []) (map plain_value ys)),
  ),
)

pub linked-all : (m : Memory) (c : Chain) (xs : List Value) → Linked m c xs [] → IsChain m c (reverse (map plain_value xs))
linked-all m c xs g = subst (λ vs. IsChain m c (reverse vs)) (sym (g.1.1 ∙ append-nil g.0)) g.1.0
