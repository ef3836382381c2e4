-- What patterns bind.
use Rattle.std.proofs.Common.{◌≡◌, ℕ, ℤ, length, Bool, true, false, List, ◌∷◌, Some, None, refl}
use Rattle.fst_base.specs.Values.{Val, v_unit, v_bool, v_int, v_pair, v_none, v_some, v_nil, v_cons, v_inl, v_inr}
use Rattle.fst_terms.specs.Meaning.{Env}
use Rattle.fst_program.specs.declared.comp.Con.{Con}
use Rattle.fst_program.specs.declared.comp.Con.TheVariants as con
use Rattle.fst_program.specs.Runs.{parts}
use Rattle.fst_cells.specs.declared.cell.Cell.{Cell}
use Rattle.fst_cells.specs.Trees.{NodeOf}
use Rattle.fst_machine.specs.declared.memory.Chain.{Chain}
use Rattle.fst_machine.specs.declared.memory.Memory.{Memory}
use Rattle.fst_cells.specs.declared.cell.Node.{Node}
use Rattle.fst_cells.specs.declared.cell.Node.TheVariants as node
use Rattle.fst_machine.specs.Memories.{Keeps, NodeHas, NodeIs, IsCell, IsChain, PartsGive}
use Rattle.fst_machine.proofs.MemoryLemmas.{value-kept}

unit-parts : (c : Con) → parts c v_unit ≡ None
unit-parts con.True = refl
unit-parts con.False = refl
unit-parts con.Empty = refl
unit-parts con.Full = refl
unit-parts con.Nil = refl
unit-parts con.Cons = refl
unit-parts con.Left = refl
unit-parts con.Right = refl
unit-parts con.Pair = refl

int-parts : (n : ℤ) (c : Con) → parts c (v_int n) ≡ None
int-parts n con.True = refl
int-parts n con.False = refl
int-parts n con.Empty = refl
int-parts n con.Full = refl
int-parts n con.Nil = refl
int-parts n con.Cons = refl
int-parts n con.Left = refl
int-parts n con.Right = refl
int-parts n con.Pair = refl

-- a value of another constructor has no such parts
parts-not : (ns : List Node) (at : ℕ) (n : Node) (v : Val) (c : Con) → NodeOf ns at n v → (NodeHas n c → ⊥) → parts c v ≡ None
parts-not ns at node.Unit v_unit c k h = unit-parts c
parts-not ns at (node.Bool b) (v_bool d) c k h = go b d c k h
  where
    go : (b d : Bool) (c : Con) → b ≡ d → (NodeHas (node.Bool b) c → ⊥) → parts c (v_bool d) ≡ None
    go true true con.True q h = absurd (h refl)
    go true true c q h = refl
    go false false con.False q h = absurd (h refl)
    go false false c q h = refl
    go true false c q h = cc
    go false true c q h = cc
parts-not ns at (node.Int b) (v_int d) c k h = int-parts d c
parts-not ns at (node.Pair a b) (v_pair x y) con.Pair k h = absurd (h refl)
parts-not ns at (node.Pair a b) (v_pair x y) c k h = refl
parts-not ns at node.Nothing v_none con.Empty k h = absurd (h refl)
parts-not ns at node.Nothing v_none c k h = refl
parts-not ns at (node.Just a) (v_some x) con.Full k h = absurd (h refl)
parts-not ns at (node.Just a) (v_some x) c k h = refl
parts-not ns at node.Nil v_nil con.Nil k h = absurd (h refl)
parts-not ns at node.Nil v_nil c k h = refl
parts-not ns at (node.Cons a b) (v_cons x y) con.Cons k h = absurd (h refl)
parts-not ns at (node.Cons a b) (v_cons x y) c k h = refl
parts-not ns at (node.Left a) (v_inl x) con.Left k h = absurd (h refl)
parts-not ns at (node.Left a) (v_inl x) c k h = refl
parts-not ns at (node.Right a) (v_inr x) con.Right k h = absurd (h refl)
parts-not ns at (node.Right a) (v_inr x) c k h = refl
parts-not ns at n v c k h = absurd k

pub parts-none : (m m' : Memory) (n : Node) (v : Val) (c : Con) (e : Env) → NodeIs m n v → (NodeHas n c → ⊥) → PartsGive m' None (parts c v) e
parts-none m m' n v c e k h = rw (parts-not m.store.nodes (length m.store.nodes) n v c k h) tt

-- what a link makes of an environment
abbrev Links : Memory → Memory → Cell → Chain → Chain → Type 0
Links m m' c rest env = (v : Val) (e : Env) → IsCell m c v → IsChain m rest e → IsChain m' env (v ∷ e)

module _ (m m' : Memory) (c : Con) (env chain : Chain) (e : Env) (rest : IsChain m env e) where
  pub parts-just : (p : Cell) (v : Val) → NodeIs m (node.Just p) v → NodeHas (node.Just p) c → Links m m' p env chain → PartsGive m' (Some chain) (parts c v) e
  parts-just p (v_some x) k h l = rw h (l x e k.1 rest)
  parts-just p v k h l = absurd k

  pub parts-left : (p : Cell) (v : Val) → NodeIs m (node.Left p) v → NodeHas (node.Left p) c → Links m m' p env chain → PartsGive m' (Some chain) (parts c v) e
  parts-left p (v_inl x) k h l = rw h (l x e k.1 rest)
  parts-left p v k h l = absurd k

  pub parts-right : (p : Cell) (v : Val) → NodeIs m (node.Right p) v → NodeHas (node.Right p) c → Links m m' p env chain → PartsGive m' (Some chain) (parts c v) e
  parts-right p (v_inr x) k h l = rw h (l x e k.1 rest)
  parts-right p v k h l = absurd k

-- those without parts
module _ (m : Memory) (c : Con) (env : Chain) (e : Env) (rest : IsChain m env e) where
  pub parts-bool : (b : Bool) (v : Val) → NodeIs m (node.Bool b) v → NodeHas (node.Bool b) c → PartsGive m (Some env) (parts c v) e
  parts-bool b (v_bool d) k h = go b d k h
    where
      go : (b d : Bool) → b ≡ d → NodeHas (node.Bool b) c → PartsGive m (Some env) (parts c (v_bool d)) e
      go true true q h = rw h rest
      go false false q h = rw h rest
      go true false q h = cc
      go false true q h = cc
  parts-bool b v k h = absurd k

  pub parts-nothing : (v : Val) → NodeIs m node.Nothing v → NodeHas node.Nothing c → PartsGive m (Some env) (parts c v) e
  parts-nothing v_none k h = rw h rest
  parts-nothing v k h = absurd k

  pub parts-nil : (v : Val) → NodeIs m node.Nil v → NodeHas node.Nil c → PartsGive m (Some env) (parts c v) e
  parts-nil v_nil k h = rw h rest
  parts-nil v k h = absurd k

-- those with two parts, of which the second one is the last variable
module _ (m m1 m2 : Memory) (c : Con) (env chain chain' : Chain) (e : Env) (rest : IsChain m env e) (kept : Keeps m m1) (p q : Cell) (l1 : Links m m1 p env chain) (l2 : Links m1 m2 q chain chain') where
  pub parts-pair : (v : Val) → NodeIs m (node.Pair p q) v → NodeHas (node.Pair p q) c → PartsGive m2 (Some chain') (parts c v) e
  parts-pair (v_pair x y) k h = rw h (l2 y (x ∷ e) (value-kept m m1 q y kept k.1.1) (l1 x e k.0.1 rest))
  parts-pair v k h = absurd k

  pub parts-cons : (v : Val) → NodeIs m (node.Cons p q) v → NodeHas (node.Cons p q) c → PartsGive m2 (Some chain') (parts c v) e
  parts-cons (v_cons x y) k h = rw h (l2 y (x ∷ e) (value-kept m m1 q y kept k.1.1) (l1 x e k.0.1 rest))
  parts-cons v k h = absurd k
