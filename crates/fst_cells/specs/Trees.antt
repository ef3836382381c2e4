-- The trees of a store's cells.
use Rattle.std.specs.Prelude.{◌≡◌, ℕ, ◌+◌, ◌<◌, ◌≤◌, false, List, [], ◌∷◌, ◌++◌, Option, Some, None, slice_get, length, ⊤}
use Rattle.fst_base.specs.Values.{Val, v_unit, v_bool, v_int, v_pair, v_none, v_some, v_nil, v_cons, v_inl, v_inr}
use Rattle.fst_base.specs.Primitives.{is_wide}
use Rattle.fst_cells.specs.declared.cell.Cell.{Cell}
use Rattle.fst_cells.specs.declared.cell.Node.{Node}
use Rattle.fst_cells.specs.declared.cell.Node.TheVariants as node
use Rattle.fst_cells.specs.declared.store.Store.{Store}

-- the parts of the node stand before this place
abbrev pub IsBelow : ℕ → Node → Type 0
IsBelow at (node.Pair c d) = (c.at < at) × (d.at < at)
IsBelow at (node.Just c) = c.at < at
IsBelow at (node.Cons c d) = (c.at < at) × (d.at < at)
IsBelow at (node.Left c) = c.at < at
IsBelow at (node.Right c) = c.at < at
IsBelow at _ = ⊤

-- the node is that of a value, and the nodes of its parts stand before this place; no number in it is outside 128 bits
abbrev pub NodeOf : List Node → (at : ℕ) → Node → Val → Type 0
NodeOf ns at node.Unit v_unit = ⊤
NodeOf ns at (node.Bool b) (v_bool c) = b ≡ c
NodeOf ns at (node.Int m) (v_int n) = (m ≡ n) × (is_wide (v_int n) ≡ false)
NodeOf ns at (node.Pair c d) (v_pair a b) = ((c.at < at) × ((x : Node) × ((slice_get ns c.at ≡ Some x) × NodeOf ns c.at x a))) × ((d.at < at) × ((y : Node) × ((slice_get ns d.at ≡ Some y) × NodeOf ns d.at y b)))
NodeOf ns at node.Nothing v_none = ⊤
NodeOf ns at (node.Just c) (v_some a) = (c.at < at) × ((x : Node) × ((slice_get ns c.at ≡ Some x) × NodeOf ns c.at x a))
NodeOf ns at node.Nil v_nil = ⊤
NodeOf ns at (node.Cons c d) (v_cons a b) = ((c.at < at) × ((x : Node) × ((slice_get ns c.at ≡ Some x) × NodeOf ns c.at x a))) × ((d.at < at) × ((y : Node) × ((slice_get ns d.at ≡ Some y) × NodeOf ns d.at y b)))
NodeOf ns at (node.Left c) (v_inl a) = (c.at < at) × ((x : Node) × ((slice_get ns c.at ≡ Some x) × NodeOf ns c.at x a))
NodeOf ns at (node.Right c) (v_inr a) = (c.at < at) × ((x : Node) × ((slice_get ns c.at ≡ Some x) × NodeOf ns c.at x a))
NodeOf ns at _ _ = ⊥

-- the node is that of a value whose parts are cells of the store
abbrev pub NodeIs : Store → Node → Val → Type 0
NodeIs m n v = NodeOf m.nodes (length m.nodes) n v

-- the tree at this place of the store
abbrev pub ValueAt : Store → ℕ → Val → Type 0
ValueAt m at v = (n : Node) × ((slice_get m.nodes at ≡ Some n) × NodeOf m.nodes at n v)

-- the cell's tree
abbrev pub IsCell : Store → Cell → Val → Type 0
IsCell m c v = ValueAt m c.at v

-- cells of these values, in order
abbrev pub CellsAre : Store → List Cell → List Val → Type 0
CellsAre m [] [] = ⊤
CellsAre m (c ∷ cs) (v ∷ vs) = IsCell m c v × CellsAre m cs vs
CellsAre m _ _ = ⊥

-- an argument that may be missing; unit stands for one that is
abbrev pub IsGiven : Store → Option Cell → Val → Type 0
IsGiven m None v = v ≡ v_unit
IsGiven m (Some c) v = IsCell m c v

-- the cells before stay, and so do their nodes
pub record Keeps (m m' : Store) : Type 0 where
  pub nodes : (at : ℕ) (x : Node) → slice_get m.nodes at ≡ Some x → slice_get m'.nodes at ≡ Some x

-- the cell is one more, of this node
abbrev pub IsFresh : Store → Store → Node → Cell → Type 0
IsFresh m m' x c = (c.at ≡ length m.nodes) × (m'.nodes ≡ m.nodes ++ x ∷ [])

-- there are at most n cells more
abbrev pub AddsAtMost : ℕ → Store → Store → Type 0
AddsAtMost n m m' = length m'.nodes ≤ length m.nodes + n

-- the number of a tree's nodes: a list of n items has n + 1 besides those of its items
abbrev pub nodes_of : Val → ℕ
nodes_of (v_pair a b) = nodes_of a + nodes_of b + 1
nodes_of (v_some a) = nodes_of a + 1
nodes_of (v_cons a b) = nodes_of a + nodes_of b + 1
nodes_of (v_inl a) = nodes_of a + 1
nodes_of (v_inr a) = nodes_of a + 1
nodes_of _ = 1
