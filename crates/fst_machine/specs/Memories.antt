-- Values and environments in a machine's memory.
use Rattle.std.specs.Prelude.{◌≡◌, ℕ, zero, suc, ◌≤◌, Bool, true, false, List, [], ◌∷◌, ◌++◌, Option, Some, None, slice_get, ⊤}
use Rattle.fst_base.specs.Values.{Val}
use Rattle.fst_terms.specs.Meaning.{Env}
use Rattle.fst_program.specs.declared.comp.Con.{Con}
use Rattle.fst_program.specs.declared.comp.Con.TheVariants as con
use Rattle.fst_cells.specs.declared.cell.Cell.{Cell}
use Rattle.fst_cells.specs.declared.cell.Node.{Node}
use Rattle.fst_cells.specs.declared.cell.Node.TheVariants as node
use Rattle.fst_cells.specs.declared.operands.Operands.{Operands}
use Rattle.fst_cells.specs.Trees as trees
use Rattle.fst_cells.specs.Made as made
use Rattle.fst_machine.specs.declared.memory.Chain.{Chain}
use Rattle.fst_machine.specs.declared.memory.Link.{Link}
use Rattle.fst_machine.specs.declared.memory.Memory.{Memory}

-- ---- values

-- the node is that of `true`
abbrev pub is_true_node : Node → Bool
is_true_node (node.Bool b) = b
is_true_node _ = false

-- the node is that of a value with this constructor
abbrev pub NodeHas : Node → Con → Type 0
NodeHas node.Unit c = ⊥
NodeHas (node.Bool true) c = c ≡ con.True
NodeHas (node.Bool false) c = c ≡ con.False
NodeHas (node.Int n) c = ⊥
NodeHas (node.Pair a b) c = c ≡ con.Pair
NodeHas node.Nothing c = c ≡ con.Empty
NodeHas (node.Just a) c = c ≡ con.Full
NodeHas node.Nil c = c ≡ con.Nil
NodeHas (node.Cons a b) c = c ≡ con.Cons
NodeHas (node.Left a) c = c ≡ con.Left
NodeHas (node.Right a) c = c ≡ con.Right

abbrev pub NodeIs : Memory → Node → Val → Type 0
NodeIs m n v = trees.NodeIs m.store n v

abbrev pub IsCell : Memory → Cell → Val → Type 0
IsCell m c v = trees.IsCell m.store c v

-- an input; where there is none it is unit
abbrev pub InputIs : Memory → Option Cell → Val → Type 0
InputIs m i v = trees.IsGiven m.store i v

abbrev pub OperandsAre : Memory → Operands → List Val → Type 0
OperandsAre m os vs = made.OperandsAre m.store os vs

-- ---- environments

-- the first n links end with those of this environment; the link of a variable stands after those of the others
abbrev pub ChainAt : Memory → (n : ℕ) → Env → Type 0
ChainAt m n [] = n ≡ 0
ChainAt m zero (v ∷ e) = ⊥
ChainAt m (suc n) (v ∷ e) = (l : Link) × ((slice_get m.links n ≡ Some l) × IsCell m l.cell v × (l.rest.links ≤ n) × ChainAt m l.rest.links e)

abbrev pub IsChain : Memory → Chain → Env → Type 0
IsChain m c e = ChainAt m c.links e

-- an environment with the parts of a value, where there are some
abbrev pub PartsGive : Memory → Option Chain → Option (List Val) → Env → Type 0
PartsGive m (Some c) (Some vs) e = IsChain m c (vs ++ e)
PartsGive m None None e = ⊤
PartsGive m _ _ e = ⊥

-- all cells and links stay
pub record Keeps (m m' : Memory) : Type 0 where
  pub cells : trees.Keeps m.store m'.store
  pub links : (at : ℕ) (l : Link) → slice_get m.links at ≡ Some l → slice_get m'.links at ≡ Some l
