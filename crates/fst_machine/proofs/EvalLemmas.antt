-- Values of terms in cells.
use Rattle.std.proofs.Common.{◌≡◌, ℕ, length, List, Bool, true, false, if◌then◌else◌, Result, Ok, Err, refl, sym, ◌∙◌}
use Rattle.fst_base.specs.Values.{Val, v_unit, v_bool, v_int, v_pair, v_none, v_some, v_nil, v_cons, v_inl, v_inr}
use Rattle.fst_base.specs.Primitives.{is_true}
use Rattle.fst_program.specs.Evaluation.{Got, got, got_wide, got_stuck, got_then}
use Rattle.fst_cells.specs.declared.cell.Cell.{Cell}
use Rattle.fst_machine.specs.declared.memory.Memory.{Memory}
use Rattle.fst_cells.specs.declared.cell.Node.{Node}
use Rattle.fst_cells.specs.declared.cell.Node.TheVariants as node
use Rattle.fst_machine.specs.declared.stop.Stop.{Stop}
use Rattle.fst_machine.specs.declared.stop.Stop.TheVariants as stop
use Rattle.fst_machine.specs.Memories.{is_true_node, NodeIs, IsCell}
use Rattle.fst_cells.specs.Trees.{NodeOf}
use Rattle.fst_machine.specs.Stops.{Gives}

-- a truth value's node
node-true : (ns : List Node) (at : ℕ) (n : Node) (v : Val) → NodeOf ns at n v → is_true_node n ≡ is_true v
node-true ns at node.Unit v_unit k = refl
node-true ns at (node.Bool b) (v_bool c) k = k
node-true ns at (node.Int b) (v_int c) k = refl
node-true ns at (node.Pair c d) (v_pair a b) k = refl
node-true ns at node.Nothing v_none k = refl
node-true ns at (node.Just c) (v_some a) k = refl
node-true ns at node.Nil v_nil k = refl
node-true ns at (node.Cons c d) (v_cons a b) k = refl
node-true ns at (node.Left c) (v_inl a) k = refl
node-true ns at (node.Right c) (v_inr a) k = refl
node-true ns at n v k = absurd k

pub true-node : (m : Memory) (n : Node) (b : Bool) → b ≡ is_true_node n → (v : Val) → NodeIs m n v → b ≡ is_true v
true-node m n b q v h = q ∙ node-true m.store.nodes (length m.store.nodes) n v h

-- want of memory may come in place of anything
pub gives-memory : (m : Memory) (r : Result Cell Stop) (s : Stop) (g : Got) → r ≡ Err s → s ≡ stop.NoMemory → Gives m r g
gives-memory m r s g q p = rw (q, p) tt

-- a term's `if` gives what the side gives that its test takes
pub gives-true : (m m' : Memory) (c : Cell) (g x y : Got) (r : Result Cell Stop) → Gives m (Ok c) g → ((v : Val) → IsCell m c v → true ≡ is_true v) → Gives m' r x → Gives m' r (got_then g (λ v. if is_true v then x else y))
gives-true m m' c (got v) x y r k t h = rw (sym (t v k)) h
gives-true m m' c got_wide x y r k t h = absurd k
gives-true m m' c (got_stuck at) x y r k t h = absurd k

pub gives-false : (m m' : Memory) (c : Cell) (g x y : Got) (r : Result Cell Stop) → Gives m (Ok c) g → ((v : Val) → IsCell m c v → false ≡ is_true v) → Gives m' r y → Gives m' r (got_then g (λ v. if is_true v then x else y))
gives-false m m' c (got v) x y r k t h = rw (sym (t v k)) h
gives-false m m' c got_wide x y r k t h = absurd k
gives-false m m' c (got_stuck at) x y r k t h = absurd k
