-- The arguments of a primitive, one by one.
use Rattle.std.proofs.Common.{◌≡◌, true, List, [], ◌∷◌, ◌++◌, Result, Ok, Err, refl, sym, ap, ◌∙◌, subst}
use Rattle.std.proofs.lemmas.List.{append-nil}
use Rattle.fst_base.specs.Values.{Val}
use Rattle.fst_terms.specs.Meaning.{Env}
use Rattle.fst_terms.specs.Terms.{plain_term, plain_terms}
use Rattle.fst_terms.specs.declared.term.Term.{Term}
use Rattle.fst_program.specs.Evaluation.{Got, got, got_wide, got_stuck, Gots, gots, gots_wide, gots_stuck, gots_more, gots_then, eval, evals}
use Rattle.fst_cells.specs.declared.cell.Cell.{Cell}
use Rattle.fst_machine.specs.declared.memory.Memory.{Memory}
use Rattle.fst_cells.specs.declared.operands.Operands.{Operands}
use Rattle.fst_machine.specs.declared.stop.Stop.{Stop}
use Rattle.fst_machine.specs.declared.stop.Stop.TheVariants as stop
use Rattle.fst_machine.specs.Memories.{Keeps, IsCell, OperandsAre}
use Rattle.fst_cells.specs.Made.{FilledBy}
use Rattle.fst_cells.proofs.OperandLemmas.{filled-are, filled-kept}
use Rattle.fst_machine.specs.Stops.{Gives, OperandsGive}
use Rattle.fst_machine.proofs.ArgumentLemmas.{gots_after, after-none, after-more}

-- ---- one by one

-- the first arguments have given these operands, and the others are still to come
abbrev pub Given : Memory → Operands → Env → (whole rest : List Term) → Type 0
Given m os e ts us = (vs : List Val) × (FilledBy m.store os vs × (evals true (plain_terms ts) e ≡ gots_after vs (evals true (plain_terms us) e)))

pub given-first : (m : Memory) (os : Operands) (e : Env) (ts : List Term) → FilledBy m.store os [] → Given m os e ts ts
given-first m os e ts h = ([], (h, sym (after-none (evals true (plain_terms ts) e))))

pub given-next : (m m1 : Memory) (os os' : Operands) (x : Cell) (e : Env) (ts us : List Term) (t : Term) → Given m os e ts (t ∷ us) → Keeps m m1 → Gives m1 (Ok x) (eval true (plain_term t) e)
    → ((v : Val) (vs : List Val) → FilledBy m1.store os vs → IsCell m1 x v → FilledBy m1.store os' (vs ++ v ∷ [])) → Given m1 os' e ts us
given-next m m1 os os' x e ts us t g n h l = go (eval true (plain_term t) e) refl h
  where
    go : (o : Got) → eval true (plain_term t) e ≡ o → Gives m1 (Ok x) o → Given m1 os' e ts us
    go (got v) q k = (
      g.0 ++ v ∷ [],
      (
        l v g.0 (filled-kept m.store m1.store os.first os.second g.0 n.cells g.1.0) k,
        g.1.1 ∙ ap (λ o. gots_after g.0 (gots_more o (evals true (plain_terms us) e))) q ∙ after-more g.0 v (evals true (plain_terms us) e),
      ),
    )
    go got_wide q k = absurd k
    go (got_stuck at) q k = absurd k

pub given-stop : (m m1 : Memory) (os : Operands) (e : Env) (ts us : List Term) (t : Term) (r : Result Operands Stop) (x : Stop) → r ≡ Err x → Given m os e ts (t ∷ us) → Gives m1 (Err x) (eval true (plain_term t) e) → OperandsGive m1 r (evals true (plain_terms ts) e)
given-stop m m1 os e ts us t r x p g h = subst (λ r. OperandsGive m1 r (evals true (plain_terms ts) e)) (sym p) (subst (OperandsGive m1 (Err x)) (sym g.1.1) (go x (eval true (plain_term t) e) h))
  where
    go : (x : Stop) (o : Got) → Gives m1 (Err x) o → OperandsGive m1 (Err x) (gots_after g.0 (gots_more o (evals true (plain_terms us) e)))
    go stop.NoMemory o k = tt
    go stop.PastRange (got v) k = absurd k
    go stop.PastRange got_wide k = tt
    go stop.PastRange (got_stuck at) k = absurd k
    go (stop.Stuck p) (got v) k = absurd k
    go (stop.Stuck p) got_wide k = absurd k
    go (stop.Stuck p) (got_stuck at) k = k

pub given-all : (m : Memory) (os : Operands) (e : Env) (ts : List Term) → Given m os e ts [] → OperandsGive m (Ok os) (evals true (plain_terms ts) e)
given-all m os e ts g = subst (OperandsGive m (Ok os)) (sym g.1.1) (subst (OperandsAre m os) (sym (append-nil g.0)) (filled-are m.store os.first os.second g.0 g.1.0))

-- ---- primitives

pub prim-gives : (m m' : Memory) (os : Operands) (g : Gots) (k : List Val → Got) (r : Result Cell Stop) → OperandsGive m (Ok os) g → ((vs : List Val) → OperandsAre m os vs → Gives m' r (k vs)) → Gives m' r (gots_then g k)
prim-gives m m' os (gots vs) k r h n = n vs h
prim-gives m m' os gots_wide k r h n = absurd h
prim-gives m m' os (gots_stuck at) k r h n = absurd h

pub prim-stop : (m : Memory) (x : Stop) (g : Gots) (k : List Val → Got) (r : Result Cell Stop) → r ≡ Err x → OperandsGive m (Err x) g → Gives m r (gots_then g k)
prim-stop m x g k r q h = subst (λ r. Gives m r (gots_then g k)) (sym q) (go x g h)
  where
    go : (x : Stop) (g : Gots) → OperandsGive m (Err x) g → Gives m (Err x) (gots_then g k)
    go stop.PastRange (gots vs) h = absurd h
    go stop.PastRange gots_wide h = tt
    go stop.PastRange (gots_stuck at) h = absurd h
    go (stop.Stuck p) (gots vs) h = absurd h
    go (stop.Stuck p) gots_wide h = absurd h
    go (stop.Stuck p) (gots_stuck at) h = h
    go stop.NoMemory g h = tt
