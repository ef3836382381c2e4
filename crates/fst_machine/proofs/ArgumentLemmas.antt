-- Arguments one by one.
use Rattle.std.proofs.Common.{◌≡◌, ℕ, zero, suc, ◌+◌, ◌<◌, Bool, true, false, not, ◌&&◌, List, [], ◌∷◌, ◌++◌, reverse, drop, get_or, length, Result, Ok, Err, Option, Some, None, slice_get, IsTrue, refl, sym, ap, ap₂, ◌∙◌, subst, arith}
use Rattle.std.proofs.lemmas.Bool.{false≢true}
use Rattle.std.proofs.lemmas.Option.{slice_get_read}
use Rattle.std.proofs.lemmas.List.{reverse-append, append_assoc, append-nil}
use Rattle.fst_base.specs.Values.{Val}
use Rattle.fst_terms.specs.Meaning.{Env}
use Rattle.fst_terms.specs.Terms.{Tms, t_end, t_more, plain_term, plain_terms}
use Rattle.fst_terms.specs.declared.term.Term.{Term}
use Rattle.fst_program.specs.Texts.{Prm, Fn, Prog, c_call, if_there, fun_at, params_of}
use Rattle.fst_program.specs.Runs.{Stuck, input_to}
use Rattle.fst_machine.specs.declared.state.State.{State}
use Rattle.fst_machine.specs.States.{TurnIs, StateIs}
use Rattle.fst_program.specs.Evaluation.{Got, got, got_wide, got_stuck, Gots, gots, gots_wide, gots_stuck, gots_more, eval, evals, arguments}
use Rattle.fst_cells.specs.declared.cell.Cell.{Cell}
use Rattle.fst_machine.specs.declared.memory.Chain.{Chain}
use Rattle.fst_machine.specs.declared.memory.Memory.{Memory}
use Rattle.fst_machine.specs.declared.stop.Stop.{Stop}
use Rattle.fst_machine.specs.declared.stop.Stop.TheVariants as stop
use Rattle.fst_machine.specs.Memories.{Keeps, IsCell, IsChain}
use Rattle.fst_machine.specs.Stops.{Gives, ChainGives}
use Rattle.fst_machine.specs.Turns.{IsCode, CodeProg, NoneHidden, Frm, Turn, next, stopped, run_text, with_gots, text_turn}
use Rattle.fst_machine.proofs.MemoryLemmas.{chain-kept}

-- what terms give after these values
abbrev pub gots_after : List Val → Gots → Gots
gots_after vs (gots ws) = gots (vs ++ ws)
gots_after vs gots_wide = gots_wide
gots_after vs (gots_stuck at) = gots_stuck at

pub after-none : (g : Gots) → gots_after [] g ≡ g
after-none (gots ws) = refl
after-none gots_wide = refl
after-none (gots_stuck at) = refl

pub after-more : (vs : List Val) (v : Val) (r : Gots) → gots_after vs (gots_more (got v) r) ≡ gots_after (vs ++ v ∷ []) r
after-more vs v (gots ws) = ap gots (sym (append_assoc vs (v ∷ []) ws))
after-more vs v gots_wide = refl
after-more vs v (gots_stuck at) = refl

-- the first arguments have given the values of this environment, turned round, and the others are still to come
abbrev pub Given : Memory → Chain → Env → (whole rest : List Term) → Type 0
Given m c e ts us = (vs : List Val) × (IsChain m c (reverse vs) × (evals true (plain_terms ts) e ≡ gots_after vs (evals true (plain_terms us) e)))

pub given-first : (m : Memory) (c : Chain) (e : Env) (ts : List Term) → c.links ≡ 0 → Given m c e ts ts
given-first m c e ts z = ([], (z, sym (after-none (evals true (plain_terms ts) e))))

pub given-next : (m m1 m2 : Memory) (c c' : Chain) (x : Cell) (e : Env) (ts us : List Term) (t : Term) → Given m c e ts (t ∷ us) → Keeps m m1 → Gives m1 (Ok x) (eval true (plain_term t) e)
    → ((v : Val) (d : Env) → IsCell m1 x v → IsChain m1 c d → IsChain m2 c' (v ∷ d)) → Given m2 c' e ts us
given-next m m1 m2 c c' x e ts us t g n h l = go (eval true (plain_term t) e) refl h
  where
    go : (o : Got) → eval true (plain_term t) e ≡ o → Gives m1 (Ok x) o → Given m2 c' e ts us
    go (got v) q k = (
      g.0 ++ v ∷ [],
      (
        subst (IsChain m2 c') (sym (reverse-append g.0 (v ∷ []))) (l v (reverse g.0) k (chain-kept m m1 c (reverse g.0) n g.1.0)),
        g.1.1 ∙ ap (λ o. gots_after g.0 (gots_more o (evals true (plain_terms us) e))) q ∙ after-more g.0 v (evals true (plain_terms us) e),
      ),
    )
    go got_wide q k = absurd k
    go (got_stuck at) q k = absurd k

pub given-stop : (m m1 : Memory) (c : Chain) (e : Env) (ts us : List Term) (t : Term) (r : Result Chain Stop) (x : Stop) → r ≡ Err x → Given m c e ts (t ∷ us) → Gives m1 (Err x) (eval true (plain_term t) e) → ChainGives m1 r (evals true (plain_terms ts) e)
given-stop m m1 c e ts us t r x p g h = subst (λ r. ChainGives m1 r (evals true (plain_terms ts) e)) (sym p) (subst (ChainGives m1 (Err x)) (sym g.1.1) (go x (eval true (plain_term t) e) h))
  where
    go : (x : Stop) (o : Got) → Gives m1 (Err x) o → ChainGives m1 (Err x) (gots_after g.0 (gots_more o (evals true (plain_terms us) e)))
    go stop.NoMemory o k = tt
    go stop.PastRange (got v) k = absurd k
    go stop.PastRange got_wide k = tt
    go stop.PastRange (got_stuck at) k = absurd k
    go (stop.Stuck p) (got v) k = absurd k
    go (stop.Stuck p) got_wide k = absurd k
    go (stop.Stuck p) (got_stuck at) k = k

pub given-memory : (m : Memory) (r : Result Chain Stop) (x : Stop) (g : Gots) → r ≡ Err x → x ≡ stop.NoMemory → ChainGives m r g
given-memory m r x g p q = rw (p, q) tt

pub given-all : (m : Memory) (c : Chain) (e : Env) (ts : List Term) → Given m c e ts [] → ChainGives m (Ok c) (evals true (plain_terms ts) e)
given-all m c e ts g = subst (ChainGives m (Ok c)) (sym g.1.1) (subst (λ vs. IsChain m c (reverse vs)) (sym (append-nil g.0)) g.1.0)

-- ---- parameters that aren't ghost ones

pub arguments-shown : (ps : List Prm) (ts : Tms) (e : Env) → NoneHidden ps → arguments true ps ts e ≡ evals true ts e
arguments-shown ps t_end e h = refl
arguments-shown [] (t_more t ts) e h = ap (gots_more (eval true t e)) (arguments-shown [] ts e tt)
arguments-shown (p ∷ ps) (t_more t ts) e h = ap₂ gots_more (ap (λ x. eval (true && not x) t e) h.0) (arguments-shown ps ts e h.1)

pub drop-item : {X : Type 0} (xs : List X) (i : ℕ) (x : X) → i < length xs → x ≡ get_or xs i x → drop i xs ≡ x ∷ drop (i + 1) xs
drop-item {X} xs i x lt q = let n : i + 1 ≡ suc i = omega arith in go xs i (slice_get_read xs (length xs) i x refl lt q) ∙ ap (λ n. x ∷ drop n xs) (sym n)
  where
    go : (xs : List X) (i : ℕ) → slice_get xs i ≡ Some x → drop i xs ≡ x ∷ drop (suc i) xs
    go [] zero e = cc
    go [] (suc i) e = cc
    go (y ∷ ys) zero e = let p : y ≡ x = cc in ap (λ y. y ∷ ys) p
    go (y ∷ ys) (suc i) e = go ys i e

-- ---- calls

pub call-there : (P : Prog) (j at : ℕ) (ts : Tms) → IsCode P (c_call j ts at) → fun_at P j ≡ None → ⊥
call-there P j at ts h q = let wrong : IsTrue (if_there {X = Bool} None (λ (f : Fn). true) false) = subst (λ o. IsTrue (if_there o (λ f. true) false)) q h in false≢true wrong

chain-turn : (s : State) (r : Result (Option Cell) Stop) (m : Memory) (c : Chain) (g : Gots) (k : List Val → Turn) → ChainGives m (Ok c) g → ((vs : List Val) → IsChain m c (reverse vs) → TurnIs s r (k vs)) → TurnIs s r (with_gots g k)
chain-turn s r m c (gots vs) k h n = n vs h
chain-turn s r m c gots_wide k h n = absurd h
chain-turn s r m c (gots_stuck at) k h n = absurd h

chain-stop : (s : State) (r : Result (Option Cell) Stop) (x : Stop) (g : Gots) (k : List Val → Turn) → r ≡ Err x → ChainGives s.memory (Err x) g → TurnIs s r (with_gots g k)
chain-stop s r x g k q h = subst (λ r. TurnIs s r (with_gots g k)) (sym q) (go x g h)
  where
    go : (x : Stop) (g : Gots) → ChainGives s.memory (Err x) g → TurnIs s (Err x) (with_gots g k)
    go stop.NoMemory g h = tt
    go stop.PastRange (gots vs) h = absurd h
    go stop.PastRange gots_wide h = tt
    go stop.PastRange (gots_stuck at) h = absurd h
    go (stop.Stuck p) (gots vs) h = absurd h
    go (stop.Stuck p) gots_wide h = absurd h
    go (stop.Stuck p) (gots_stuck at) h = h

module _ (P : Prog) (code : CodeProg P) (j at : ℕ) (f : Fn) (ts : Tms) (e : Env) (s : Val) (fs : List Frm) (there : fun_at P j ≡ Some f) where
  called : arguments true (params_of P j) ts e ≡ evals true ts e
  called = ap (λ ps. arguments true ps ts e) (ap (λ o. if_there o (λ f. f.params) []) there) ∙ arguments-shown f.params ts e (code j f there).2

  abbrev goes : Option Fn → List Val → Turn
  goes o vs = if_there o (λ f. next (run_text f.body (reverse vs) (input_to f.effect s)) fs) (stopped (Stuck zero))

  pub call-stop : (st : State) (r : Result (Option Cell) Stop) (x : Stop) → r ≡ Err x → ChainGives st.memory (Err x) (evals true ts e) → TurnIs st r (text_turn P (c_call j ts at) e s fs)
  call-stop st r x q h = subst (λ g. TurnIs st r (with_gots g (goes (fun_at P j)))) (sym called) (chain-stop st r x (evals true ts e) (goes (fun_at P j)) q h)

  pub call-turn : (st : State) (c : Chain) → ChainGives st.memory (Ok c) (evals true ts e) → ((vs : List Val) → IsChain st.memory c (reverse vs) → StateIs st (run_text f.body (reverse vs) (input_to f.effect s)) fs) → TurnIs st (Ok None) (text_turn P (c_call j ts at) e s fs)
  call-turn st c h k = subst (λ g. TurnIs st (Ok None) (with_gots g (goes (fun_at P j)))) (sym called)
      (subst (λ o. TurnIs st (Ok None) (with_gots (evals true ts e) (goes o))) (sym there) (chain-turn st (Ok None) st.memory c (evals true ts e) (goes (Some f)) h k))
