-- What a primitive makes of cells.
use Rattle.std.specs.Prelude.{◌≡◌, ◌↔◌, ◌+◌, ℕ, ℤ, Bool, true, false, if◌then◌else◌, List, [], ◌∷◌, ⊤, Option, Some, None, Ok, Result, Err, IsTrue, IfOk, slice_get}
use Rattle.fst_base.specs.Sorts.{Srt}
use Rattle.fst_base.specs.declared.op.Op.{Op}
use Rattle.fst_base.specs.declared.op.Op.TheVariants as op
use Rattle.fst_base.specs.Values.{Val, v_int, v_pair, v_some, v_cons, v_inl, v_inr, default_of}
use Rattle.fst_base.specs.Primitives.{prim, divides_by_zero, is_wide, len_of, first, second}
use Rattle.fst_prims.specs.declared.fault.PrimFault.{PrimFault}
use Rattle.fst_prims.specs.declared.fault.PrimFault.TheVariants.{PastRange, ZeroDivisor}
use Rattle.fst_cells.specs.declared.cell.Cell.{Cell}
use Rattle.fst_cells.specs.declared.cell.Node.TheVariants as node
use Rattle.fst_cells.specs.declared.store.Store.{Store}
use Rattle.fst_cells.specs.declared.operands.Operands.{Operands}
use Rattle.fst_cells.specs.Trees.{IsCell, IsGiven, IsFresh, AddsAtMost, nodes_of}

-- the answer is a cell of this value; past range exactly where it is a number outside 128 bits, a zero divisor exactly where it is said
pub record Made (m : Store) (v : Val) (by_zero : Bool) (answer : Result Cell PrimFault) : Type 0 where
  pub value : IfOk answer (λ c. IsCell m c v)
  pub past : (answer ≡ Err PastRange) ↔ IsTrue (is_wide v)
  pub zero : (answer ≡ Err ZeroDivisor) ↔ IsTrue by_zero

-- the same of a number
pub record NumberIs (n : ℤ) (by_zero : Bool) (answer : Result ℤ PrimFault) : Type 0 where
  pub value : IfOk answer (λ k. k ≡ n)
  pub past : (answer ≡ Err PastRange) ↔ IsTrue (is_wide (v_int n))
  pub zero : (answer ≡ Err ZeroDivisor) ↔ IsTrue by_zero

-- the cell is the rest of a list that has one item more; none where there is no item
abbrev pub RestIs : Store → Option Cell → Val → Type 0
RestIs m (Some c) v = (w : Val) × (IsCell m c w × (len_of v ≡ len_of w + 1))
RestIs m None v = len_of v ≡ 0

-- ---- arguments

-- operands of these arguments
abbrev pub OperandsAre : Store → Operands → List Val → Type 0
OperandsAre m os vs = IsGiven m os.first (first vs) × IsGiven m os.second (second vs)

-- operands of these arguments alone
abbrev pub Filled : Store → Option Cell → Option Cell → List Val → Type 0
Filled m None None [] = ⊤
Filled m (Some c) None (v ∷ []) = IsCell m c v
Filled m (Some c) (Some d) (v ∷ w ∷ vs) = IsCell m c v × IsCell m d w
Filled m _ _ _ = ⊥

abbrev pub FilledBy : Store → Operands → List Val → Type 0
FilledBy m os vs = Filled m os.first os.second vs

-- the first two cells of a list
abbrev pub operands_of : List Cell → Operands
operands_of [] = record { first = None; second = None }
operands_of (c ∷ []) = record { first = Some c; second = None }
operands_of (c ∷ d ∷ cs) = record { first = Some c; second = Some d }

abbrev pub HasOne : Operands → Type 0
HasOne os = (a : Cell) × (os.first ≡ Some a)

abbrev pub HasTwo : Operands → Type 0
HasTwo os = (a b : Cell) × ((os.first ≡ Some a) × (os.second ≡ Some b))

-- the arguments that the primitive makes data of, or compares, are there
abbrev pub IsFull : Op → Operands → Type 0
IsFull op.Eq os = HasTwo os
IsFull op.Pair os = HasTwo os
IsFull op.Cons os = HasTwo os
IsFull op.Just os = HasOne os
IsFull op.Inl os = HasOne os
IsFull op.Inr os = HasOne os
IsFull _ os = ⊤

-- ---- cells that are added, and cells that are passed on

-- the primitive is a selector, and the value is of another constructor than its own
abbrev pub lacks : Op → Val → Bool
lacks op.Fst (v_pair a b) = false
lacks op.Fst v = true
lacks op.Snd (v_pair a b) = false
lacks op.Snd v = true
lacks op.Hd (v_cons a b) = false
lacks op.Hd v = true
lacks op.Tl (v_cons a b) = false
lacks op.Tl v = true
lacks op.The (v_some a) = false
lacks op.The v = true
lacks op.Outl (v_inl a) = false
lacks op.Outl v = true
lacks op.Outr (v_inr a) = false
lacks op.Outr v = true
lacks _ v = false

-- the number of cells that may be added: that of a default value's nodes, where a selector gives one, else one
abbrev pub most : (lacking : Bool) → Srt → ℕ
most lacking S = if lacking then nodes_of (default_of S) else 1

-- what a selector finds: a part of this value; or none, where it lacks it and gives the default value of the sort
abbrev pub PartIs : Store → Option Cell → Srt → Val → (lacking : Bool) → Type 0
PartIs m (Some c) S v lacking = IsCell m c v × (lacking ≡ false)
PartIs m None S v lacking = (v ≡ default_of S) × (lacking ≡ true)

-- the answer of a selector
pub record Selects (S : Srt) (v : Val) (lacking : Bool) (m m' : Store) (answer : Result Cell PrimFault) : Type 0 where
  pub made : Made m' v false answer
  pub few : IfOk answer (λ c. AddsAtMost (most lacking S) m m')

-- the part's cell is the answer, and no cell is added
abbrev pub IsPassedOn : Cell → Store → Store → Result Cell PrimFault → Type 0
IsPassedOn c m m' answer = (answer ≡ Ok c) × (m' ≡ m)

-- a primitive that makes data of arguments adds one cell, whose node holds the arguments' very cells; a selector on its own
-- constructor answers the very cell in the node, and adds none
abbrev pub Owns : Op → Operands → Store → Store → Result Cell PrimFault → Type 0
Owns op.Pair os m m' r = (a b : Cell) → os.first ≡ Some a → os.second ≡ Some b → IfOk r (λ c. IsFresh m m' (node.Pair a b) c)
Owns op.Cons os m m' r = (a b : Cell) → os.first ≡ Some a → os.second ≡ Some b → IfOk r (λ c. IsFresh m m' (node.Cons a b) c)
Owns op.Just os m m' r = (a : Cell) → os.first ≡ Some a → IfOk r (λ c. IsFresh m m' (node.Just a) c)
Owns op.Inl os m m' r = (a : Cell) → os.first ≡ Some a → IfOk r (λ c. IsFresh m m' (node.Left a) c)
Owns op.Inr os m m' r = (a : Cell) → os.first ≡ Some a → IfOk r (λ c. IsFresh m m' (node.Right a) c)
Owns op.Fst os m m' r = (c x y : Cell) → os.first ≡ Some c → slice_get m.nodes c.at ≡ Some (node.Pair x y) → IsPassedOn x m m' r
Owns op.Snd os m m' r = (c x y : Cell) → os.first ≡ Some c → slice_get m.nodes c.at ≡ Some (node.Pair x y) → IsPassedOn y m m' r
Owns op.Hd os m m' r = (c x y : Cell) → os.first ≡ Some c → slice_get m.nodes c.at ≡ Some (node.Cons x y) → IsPassedOn x m m' r
Owns op.Tl os m m' r = (c x y : Cell) → os.first ≡ Some c → slice_get m.nodes c.at ≡ Some (node.Cons x y) → IsPassedOn y m m' r
Owns op.The os m m' r = (c x : Cell) → os.first ≡ Some c → slice_get m.nodes c.at ≡ Some (node.Just x) → IsPassedOn x m m' r
Owns op.Outl os m m' r = (c x : Cell) → os.first ≡ Some c → slice_get m.nodes c.at ≡ Some (node.Left x) → IsPassedOn x m m' r
Owns op.Outr os m m' r = (c x : Cell) → os.first ≡ Some c → slice_get m.nodes c.at ≡ Some (node.Right x) → IsPassedOn x m m' r
Owns _ os m m' r = ⊤

-- the answer of a primitive on these arguments, where S is the sort of its result
pub record Makes (o : Op) (os : Operands) (S : Srt) (vs : List Val) (m m' : Store) (answer : Result Cell PrimFault) : Type 0 where
  pub made : Made m' (prim o S vs) (divides_by_zero o vs) answer
  pub own : Owns o os m m' answer
  pub few : IsFull o os → IfOk answer (λ c. AddsAtMost (most (lacks o (first vs)) S) m m')
