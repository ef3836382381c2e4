-- What primitives make of cells.
use Rattle.std.proofs.Common.{◌≡◌, ℕ, ◌&&◌, ◌<◌, ℤ, pos, Bool, true, false, List, [], ◌∷◌, length, Option, Some, None, Result, Ok, Err, slice_get, IfOk, IfSome, refl, sym, ap, ◌∙◌, subst, arith}
use Rattle.std.proofs.lemmas.Bool.{false≢true}
use Rattle.std.specs.Ordering.{int_eq}
use Rattle.std.specs.Int.{int_div_euclid}
use Rattle.std.proofs.lemmas.Option.{slice_get_within}
use Rattle.fst_base.specs.Values.{Val, v_unit, v_bool, v_int, v_pair, v_none, v_some, v_nil, v_cons, v_inl, v_inr, same}
use Rattle.fst_base.specs.Primitives.{prim, divides_by_zero, quotient, is_wide, first}
use Rattle.fst_prims.specs.declared.fault.PrimFault.{PrimFault}
use Rattle.fst_base.specs.Sorts.{Srt}
use Rattle.fst_base.specs.declared.op.Op.{Op}
use Rattle.fst_cells.specs.declared.cell.Cell.{Cell}
use Rattle.fst_cells.specs.declared.store.Store.{Store}
use Rattle.fst_cells.specs.declared.cell.Node.{Node}
use Rattle.fst_cells.specs.declared.cell.Node.TheVariants as node
use Rattle.fst_cells.specs.Trees.{NodeOf, NodeIs, IsCell, CellsAre, IsFresh, AddsAtMost}
use Rattle.fst_cells.specs.Made.{Made, NumberIs, OperandsAre, operands_of, IsFull, lacks, most, Selects, IsPassedOn, Owns, Makes}
use Rattle.fst_cells.specs.declared.operands.Operands.{Operands}
use Rattle.fst_cells.specs.Compares.{ComparedIs}
use Rattle.fst_cells.specs.declared.compare.Compared.TheVariants as compared
use Rattle.fst_cells.proofs.TreeLemmas.{fresh-few}

-- ---- arguments

pub cells-operands : (m : Store) (cs : List Cell) (vs : List Val) → CellsAre m cs vs → OperandsAre m (operands_of cs) vs
cells-operands m [] [] k = (refl, refl)
cells-operands m [] (v ∷ vs) k = absurd k
cells-operands m (c ∷ cs) [] k = absurd k
cells-operands m (c ∷ []) (v ∷ []) k = (k.0, refl)
cells-operands m (c ∷ []) (v ∷ w ∷ vs) k = absurd k.1
cells-operands m (c ∷ d ∷ cs) (v ∷ []) k = absurd k.1
cells-operands m (c ∷ d ∷ cs) (v ∷ w ∷ vs) k = (k.0, k.1.0)

-- the node of an argument that is there
pub there-none : {X : Type 0} (m : Store) (i : Option Cell) (c a : Cell) (n : Node) → i ≡ Some c → i ≡ Some a → slice_get m.nodes a.at ≡ Some n → None ≡ slice_get m.nodes c.at → X
there-none m i c a n p q r s =
    let e : Some c ≡ Some a = sym p ∙ q in
    let same : c ≡ a = cc in
    let none : None ≡ Some n = s ∙ ap (λ c. slice_get m.nodes c.at) same ∙ r in
    cc

pub there-some : (m : Store) (i : Option Cell) (c a : Cell) (x n : Node) → i ≡ Some c → i ≡ Some a → slice_get m.nodes a.at ≡ Some n → Some x ≡ slice_get m.nodes c.at → x ≡ n
there-some m i c a x n p q r s =
    let e : Some c ≡ Some a = sym p ∙ q in
    let same : c ≡ a = cc in
    let there : Some x ≡ Some n = s ∙ ap (λ c. slice_get m.nodes c.at) same ∙ r in
    cc

-- ---- nodes with parts

within : (m : Store) (c : Cell) (v : Val) → IsCell m c v → (c.at < length m.nodes) × IsCell m c v
within m c v k = (slice_get_within m.nodes c.at k.0 k.1.0, k)

pub pair-node : (m : Store) (c d : Cell) (v w : Val) → IsCell m c v → IsCell m d w → NodeIs m (node.Pair c d) (v_pair v w)
pair-node m c d v w k l = (within m c v k, within m d w l)

pub cons-node : (m : Store) (c d : Cell) (v w : Val) → IsCell m c v → IsCell m d w → NodeIs m (node.Cons c d) (v_cons v w)
cons-node m c d v w k l = (within m c v k, within m d w l)

pub just-node : (m : Store) (c : Cell) (v : Val) → IsCell m c v → NodeIs m (node.Just c) (v_some v)
just-node m c v k = within m c v k

pub left-node : (m : Store) (c : Cell) (v : Val) → IsCell m c v → NodeIs m (node.Left c) (v_inl v)
left-node m c v k = within m c v k

pub right-node : (m : Store) (c : Cell) (v : Val) → IsCell m c v → NodeIs m (node.Right c) (v_inr v)
right-node m c v k = within m c v k

-- ---- quotients

pub div-row : (a b : ℤ) (r : Result ℤ PrimFault) → int_eq b (pos 0) ≡ false → NumberIs (int_div_euclid a b) false r → NumberIs (quotient a b) (int_eq b (pos 0)) r
div-row a b r q h = rw q h

-- ---- answers

pub made-ok : (m : Store) (c : Cell) (v : Val) → is_wide v ≡ false → IsCell m c v → Made m v false (Ok c)
made-ok m c v q k = record { value = k; past = ((λ h. cc), (λ h. absurd (false≢true (sym q ∙ h)))); zero = ((λ h. cc), (λ h. cc)) }

-- a cell is no number outside 128 bits
cell-narrow : (m : Store) (c : Cell) (v : Val) → IsCell m c v → is_wide v ≡ false
cell-narrow m c v k = go m.nodes c.at k.0 v k.1.1
  where
    go : (ns : List Node) (at : ℕ) (n : Node) (v : Val) → NodeOf ns at n v → is_wide v ≡ false
    go ns at node.Unit v_unit k = refl
    go ns at (node.Bool b) (v_bool c) k = refl
    go ns at (node.Int a) (v_int b) k = k.1
    go ns at (node.Pair a b) (v_pair v w) k = refl
    go ns at node.Nothing v_none k = refl
    go ns at (node.Just a) (v_some v) k = refl
    go ns at node.Nil v_nil k = refl
    go ns at (node.Cons a b) (v_cons v w) k = refl
    go ns at (node.Left a) (v_inl v) k = refl
    go ns at (node.Right a) (v_inr v) k = refl
    go ns at n v k = absurd k

-- ---- comparisons

module _ (m : Store) (a b c d : Cell) where
  pub both-pairs : (x y : Node) (v w : Val) → x ≡ node.Pair a b → y ≡ node.Pair c d → NodeIs m x v → NodeIs m y w → ComparedIs m (compared.TwoParts a c b d) (same v w)
  both-pairs x y v w p q k l = go v w (subst (λ n. NodeIs m n v) p k) (subst (λ n. NodeIs m n w) q l)
    where
      go : (v w : Val) → NodeIs m (node.Pair a b) v → NodeIs m (node.Pair c d) w → ComparedIs m (compared.TwoParts a c b d) (same v w)
      go (v_pair v1 v2) (v_pair w1 w2) k l = (v1, w1, v2, w2, (k.0.1, l.0.1, k.1.1, l.1.1, refl))
      go (v_pair v1 v2) w k l = absurd l
      go v w k l = absurd k

  pub both-conses : (x y : Node) (v w : Val) → x ≡ node.Cons a b → y ≡ node.Cons c d → NodeIs m x v → NodeIs m y w → ComparedIs m (compared.TwoParts a c b d) (same v w)
  both-conses x y v w p q k l = go v w (subst (λ n. NodeIs m n v) p k) (subst (λ n. NodeIs m n w) q l)
    where
      go : (v w : Val) → NodeIs m (node.Cons a b) v → NodeIs m (node.Cons c d) w → ComparedIs m (compared.TwoParts a c b d) (same v w)
      go (v_cons v1 v2) (v_cons w1 w2) k l = (v1, w1, v2, w2, (k.0.1, l.0.1, k.1.1, l.1.1, refl))
      go (v_cons v1 v2) w k l = absurd l
      go v w k l = absurd k

module _ (m : Store) (a c : Cell) where
  pub both-justs : (x y : Node) (v w : Val) → x ≡ node.Just a → y ≡ node.Just c → NodeIs m x v → NodeIs m y w → ComparedIs m (compared.Parts a c) (same v w)
  both-justs x y v w p q k l = go v w (subst (λ n. NodeIs m n v) p k) (subst (λ n. NodeIs m n w) q l)
    where
      go : (v w : Val) → NodeIs m (node.Just a) v → NodeIs m (node.Just c) w → ComparedIs m (compared.Parts a c) (same v w)
      go (v_some v1) (v_some w1) k l = (v1, w1, (k.1, l.1, refl))
      go (v_some v1) w k l = absurd l
      go v w k l = absurd k

  pub both-lefts : (x y : Node) (v w : Val) → x ≡ node.Left a → y ≡ node.Left c → NodeIs m x v → NodeIs m y w → ComparedIs m (compared.Parts a c) (same v w)
  both-lefts x y v w p q k l = go v w (subst (λ n. NodeIs m n v) p k) (subst (λ n. NodeIs m n w) q l)
    where
      go : (v w : Val) → NodeIs m (node.Left a) v → NodeIs m (node.Left c) w → ComparedIs m (compared.Parts a c) (same v w)
      go (v_inl v1) (v_inl w1) k l = (v1, w1, (k.1, l.1, refl))
      go (v_inl v1) w k l = absurd l
      go v w k l = absurd k

  pub both-rights : (x y : Node) (v w : Val) → x ≡ node.Right a → y ≡ node.Right c → NodeIs m x v → NodeIs m y w → ComparedIs m (compared.Parts a c) (same v w)
  both-rights x y v w p q k l = go v w (subst (λ n. NodeIs m n v) p k) (subst (λ n. NodeIs m n w) q l)
    where
      go : (v w : Val) → NodeIs m (node.Right a) v → NodeIs m (node.Right c) w → ComparedIs m (compared.Parts a c) (same v w)
      go (v_inr v1) (v_inr w1) k l = (v1, w1, (k.1, l.1, refl))
      go (v_inr v1) w k l = absurd l
      go v w k l = absurd k

pub and-false : (a b t : Bool) → t ≡ a → t ≡ false → a && b ≡ false
and-false true b t q p = absurd (false≢true (sym p ∙ q))
and-false false b t q p = refl

pub and-true : (a b t : Bool) → t ≡ a → t ≡ true → a && b ≡ b
and-true true b t q p = refl
and-true false b t q p = absurd (false≢true (sym q ∙ p))

-- ---- rows

pub number-at : (f : ℤ → ℤ → ℤ) (z : ℤ → ℤ → Bool) (a b x y : ℤ) (r : Result ℤ PrimFault) → a ≡ x → b ≡ y → NumberIs (f a b) (z a b) r → NumberIs (f x y) (z x y) r
number-at f z a b x y r p q h = subst (λ y. NumberIs (f x y) (z x y) r) q (subst (λ x. NumberIs (f x b) (z x b) r) p h)

-- a primitive that is no selector
pub makes-one : (o p : Op) (os : Operands) (S : Srt) (vs : List Val) (m m' : Store) (r : Result Cell PrimFault) → o ≡ p → Made m' (prim p S vs) (divides_by_zero p vs) r → Owns p os m m' r
    → lacks p (first vs) ≡ false → (IsFull p os → IfOk r (λ c. AddsAtMost 1 m m')) → Makes o os S vs m m' r
makes-one o p os S vs m m' r q made own nothing few = subst (λ o. Makes o os S vs m m' r) (sym q)
    (record { made = made; own = own; few = λ full. subst (λ b. IfOk r (λ c. AddsAtMost (most b S) m m')) (sym nothing) (few full) })

-- a selector
pub makes-part : (o p : Op) (os : Operands) (S : Srt) (vs : List Val) (m m' : Store) (r : Result Cell PrimFault) → o ≡ p → divides_by_zero p vs ≡ false
    → Selects S (prim p S vs) (lacks p (first vs)) m m' r → Owns p os m m' r → Makes o os S vs m m' r
makes-part o p os S vs m m' r q z h own = subst (λ o. Makes o os S vs m m' r) (sym q)
    (record { made = subst (λ z. Made m' (prim p S vs) z r) (sym z) h.made; own = own; few = λ full. h.few })

-- the part that a selector finds is passed on
pub passed-on : (m m' : Store) (part : Option Cell) (c : Cell) (r : Result Cell PrimFault) → part ≡ Some c → IfSome part (λ c. IsPassedOn c m m' r) → IsPassedOn c m m' r
passed-on m m' part c r q h = subst (λ p. IfSome p (λ c. IsPassedOn c m m' r)) q h

pub fresh-one : (m m' : Store) (x : Node) (r : Result Cell PrimFault) → IfOk r (λ c. IsFresh m m' x c) → IfOk r (λ c. AddsAtMost 1 m m')
fresh-one m m' x (Ok c) h = fresh-few m m' x c 1 (omega arith) h
fresh-one m m' x (Err e) h = tt

pub selected : (m m' : Store) (S : Srt) (v : Val) (l : Bool) (c : Cell) → IsCell m' c v → AddsAtMost (most l S) m m' → Selects S v l m m' (Ok c)
selected m m' S v l c h k = record { made = made-ok m' c v (cell-narrow m' c v h) h; few = k }
