-- Trees stay as a store grows.
use Rattle.std.proofs.Common.{◌≡◌, ℕ, ℤ, Bool, zero, suc, ◌+◌, ◌<◌, ◌≤◌, List, [], ◌∷◌, ◌++◌, drop, get_or, length, Option, Some, None, slice_get, refl, sym, ap, ap₂, ◌∙◌, subst, arith}
use Rattle.std.proofs.lemmas.Option.{slice_get_within, slice_get_read}
use Rattle.std.proofs.lemmas.List.{length-append}
use Rattle.std.specs.Prelude.{MatchOption}
use Rattle.fst_base.specs.Values.{Val, v_unit, v_bool, v_int, v_pair, v_none, v_some, v_nil, v_cons, v_inl, v_inr}
use Rattle.fst_cells.specs.declared.cell.Cell.{Cell}
use Rattle.fst_cells.specs.declared.store.Store.{Store}
use Rattle.fst_cells.specs.declared.cell.Node.{Node}
use Rattle.fst_cells.specs.declared.cell.Node.TheVariants as node
use Rattle.fst_cells.specs.Trees.{IsBelow, CellsAre, NodeOf, NodeIs, ValueAt, IsCell, IsGiven, Keeps, IsFresh, AddsAtMost, nodes_of}

-- the values of nodes that stay
pub node-kept : (ns ms : List Node) (h : (at : ℕ) (x : Node) → slice_get ns at ≡ Some x → slice_get ms at ≡ Some x) (b : ℕ) (v : Val) (n : Node) → NodeOf ns b n v → NodeOf ms b n v
node-kept ns ms h at v_unit node.Unit k = tt
node-kept ns ms h at (v_bool c) (node.Bool b) k = k
node-kept ns ms h at (v_int c) (node.Int b) k = k
node-kept ns ms h at (v_pair a b) (node.Pair c d) k = ((k.0.0, (k.0.1.0, (h c.at k.0.1.0 k.0.1.1.0, node-kept ns ms h c.at a k.0.1.0 k.0.1.1.1))), (k.1.0, (k.1.1.0, (h d.at k.1.1.0 k.1.1.1.0, node-kept ns ms h d.at b k.1.1.0 k.1.1.1.1))))
node-kept ns ms h at v_none node.Nothing k = tt
node-kept ns ms h at (v_some a) (node.Just c) k = (k.0, (k.1.0, (h c.at k.1.0 k.1.1.0, node-kept ns ms h c.at a k.1.0 k.1.1.1)))
node-kept ns ms h at v_nil node.Nil k = tt
node-kept ns ms h at (v_cons a b) (node.Cons c d) k = ((k.0.0, (k.0.1.0, (h c.at k.0.1.0 k.0.1.1.0, node-kept ns ms h c.at a k.0.1.0 k.0.1.1.1))), (k.1.0, (k.1.1.0, (h d.at k.1.1.0 k.1.1.1.0, node-kept ns ms h d.at b k.1.1.0 k.1.1.1.1))))
node-kept ns ms h at (v_inl a) (node.Left c) k = (k.0, (k.1.0, (h c.at k.1.0 k.1.1.0, node-kept ns ms h c.at a k.1.0 k.1.1.1)))
node-kept ns ms h at (v_inr a) (node.Right c) k = (k.0, (k.1.0, (h c.at k.1.0 k.1.1.0, node-kept ns ms h c.at a k.1.0 k.1.1.1)))
node-kept ns ms h at v n k = absurd k

-- a node whose parts stand before a place has them before a later one
pub node-raised : (ns : List Node) (i j : ℕ) → i ≤ j → (v : Val) (n : Node) → NodeOf ns i n v → NodeOf ns j n v
node-raised ns i j le v_unit node.Unit k = tt
node-raised ns i j le (v_bool c) (node.Bool b) k = k
node-raised ns i j le (v_int c) (node.Int b) k = k
node-raised ns i j le (v_pair a b) (node.Pair c d) k = ((omega (arith, le, k.0.0), k.0.1), (omega (arith, le, k.1.0), k.1.1))
node-raised ns i j le v_none node.Nothing k = tt
node-raised ns i j le (v_some a) (node.Just c) k = (omega (arith, le, k.0), k.1)
node-raised ns i j le v_nil node.Nil k = tt
node-raised ns i j le (v_cons a b) (node.Cons c d) k = ((omega (arith, le, k.0.0), k.0.1), (omega (arith, le, k.1.0), k.1.1))
node-raised ns i j le (v_inl a) (node.Left c) k = (omega (arith, le, k.0), k.1)
node-raised ns i j le (v_inr a) (node.Right c) k = (omega (arith, le, k.0), k.1)
node-raised ns i j le v n k = absurd k

node-below : (ns : List Node) (at : ℕ) (v : Val) (n : Node) → NodeOf ns at n v → IsBelow at n
node-below ns at v_unit node.Unit k = tt
node-below ns at (v_bool c) (node.Bool b) k = tt
node-below ns at (v_int c) (node.Int b) k = tt
node-below ns at (v_pair a b) (node.Pair c d) k = (k.0.0, k.1.0)
node-below ns at v_none node.Nothing k = tt
node-below ns at (v_some a) (node.Just c) k = k.0
node-below ns at v_nil node.Nil k = tt
node-below ns at (v_cons a b) (node.Cons c d) k = (k.0.0, k.1.0)
node-below ns at (v_inl a) (node.Left c) k = k.0
node-below ns at (v_inr a) (node.Right c) k = k.0
node-below ns at v n k = absurd k

-- the node of a value is there, with its parts before it
pub node-of : (m : Store) (at : ℕ) (v : Val) (o : Option Node) → o ≡ slice_get m.nodes at → ValueAt m at v → MatchOption o ⊥ (λ n. NodeIs m n v × IsBelow at n)
node-of m at v o q k =
    let lt : at < length m.nodes = slice_get_within m.nodes at k.0 k.1.0 in
    subst (λ o. MatchOption o ⊥ (λ n. NodeIs m n v × IsBelow at n)) (sym (q ∙ k.1.0)) (node-raised m.nodes at (length m.nodes) (omega (arith, lt)) v k.0 k.1.1, node-below m.nodes at v k.0 k.1.1)

value-stays : (m m' : Store) (h : (at : ℕ) (x : Node) → slice_get m.nodes at ≡ Some x → slice_get m'.nodes at ≡ Some x) (at : ℕ) (v : Val) → ValueAt m at v → ValueAt m' at v
value-stays m m' h at v k = (k.0, (h at k.0 k.1.0, node-kept m.nodes m'.nodes h at v k.0 k.1.1))

pub value-kept : (m m' : Store) (c : Cell) (v : Val) → Keeps m m' → IsCell m c v → IsCell m' c v
value-kept m m' c v h k = value-stays m m' h.nodes c.at v k

pub cells-kept : (m m' : Store) (cs : List Cell) (vs : List Val) → Keeps m m' → CellsAre m cs vs → CellsAre m' cs vs
cells-kept m m' [] [] h k = tt
cells-kept m m' [] (v ∷ vs) h k = absurd k
cells-kept m m' (c ∷ cs) [] h k = absurd k
cells-kept m m' (c ∷ cs) (v ∷ vs) h k = (value-kept m m' c v h k.0, cells-kept m m' cs vs h k.1)

pub given-kept : (m m' : Store) (c : Option Cell) (v : Val) → Keeps m m' → IsGiven m c v → IsGiven m' c v
given-kept m m' None v h k = k
given-kept m m' (Some c) v h k = value-kept m m' c v h k

pub kept-same : (m : Store) → Keeps m m
kept-same m = record { nodes = λ at v q. q }

pub kept-then : (m m' m'' : Store) → Keeps m m' → Keeps m' m'' → Keeps m m''
kept-then m m' m'' h k = record { nodes = λ at v q. k.nodes at v (h.nodes at v q) }

get-more : {X : Type 0} (xs ys : List X) (i : ℕ) (x : X) → slice_get xs i ≡ Some x → slice_get (xs ++ ys) i ≡ Some x
get-more [] ys zero x q = cc
get-more [] ys (suc i) x q = cc
get-more (z ∷ xs) ys zero x q = q
get-more (z ∷ xs) ys (suc i) x q = get-more xs ys i x q

get-last : {X : Type 0} (xs : List X) (x : X) → slice_get (xs ++ x ∷ []) (length xs) ≡ Some x
get-last [] x = refl
get-last (z ∷ xs) x = get-last xs x

-- a node more
pub add-kept : (m m' : Store) (x : Node) → m'.nodes ≡ m.nodes ++ x ∷ [] → Keeps m m'
add-kept m m' x p = record { nodes = λ at v h. subst (λ ns. slice_get ns at ≡ Some v) (sym p) (get-more m.nodes (x ∷ []) at v h) }

pub add-there : (m m' : Store) (x : Node) (v : Val) → m'.nodes ≡ m.nodes ++ x ∷ [] → NodeIs m x v → ValueAt m' (length m.nodes) v
add-there m m' x v p k = (x, (subst (λ ns. slice_get ns (length m.nodes) ≡ Some x) (sym p) (get-last m.nodes x), node-kept m.nodes m'.nodes (add-kept m m' x p).nodes (length m.nodes) v x k))

-- a cell more is one more
pub fresh-few : (m m' : Store) (x : Node) (c : Cell) (n : ℕ) → 1 ≤ n → IsFresh m m' x c → AddsAtMost n m m'
fresh-few m m' x c n le h = let q : length m'.nodes ≡ length m.nodes + 1 = ap length h.1 ∙ length-append m.nodes (x ∷ []) in omega (arith, q, le)

-- an item more, and the node that holds it
pub item-few : (m m1 m2 m3 : Store) (v w : Val) → AddsAtMost (nodes_of w) m m1 → AddsAtMost (nodes_of v) m1 m2 → AddsAtMost 1 m2 m3 → AddsAtMost (nodes_of (v_cons v w)) m m3
item-few m m1 m2 m3 v w h k l = omega (arith, h, k, l)

-- what is left of a list begins with its next item
pub drop-item : {X : Type 0} (xs : List X) (i : ℕ) (x : X) → i < length xs → x ≡ get_or xs i x → drop i xs ≡ x ∷ drop (i + 1) xs
drop-item {X} xs i x lt q = let n : i + 1 ≡ suc i = omega arith in go xs i (slice_get_read xs (length xs) i x refl lt q) ∙ ap (λ n. x ∷ drop n xs) (sym n)
  where
    go : (xs : List X) (i : ℕ) → slice_get xs i ≡ Some x → drop i xs ≡ x ∷ drop (suc i) xs
    go [] zero e = cc
    go [] (suc i) e = cc
    go (y ∷ ys) zero e = let p : y ≡ x = cc in ap (λ y. y ∷ ys) p
    go (y ∷ ys) (suc i) e = go ys i e

-- the part's node is one, so its value is one
one-part : (ns : List Node) (at : ℕ) (x y : Node) (b a : Val) → slice_get ns at ≡ Some x → slice_get ns at ≡ Some y → NodeOf ns at y b → (NodeOf ns at x b → a ≡ b) → a ≡ b
one-part ns at x y b a p q k f =
    let same : Some y ≡ Some x = sym q ∙ p in
    let is : y ≡ x = cc in
    f (subst (λ n. NodeOf ns at n b) is k)

-- the value of a node with this constructor
of-Pair : (ns : List Node) (at : ℕ) (c d : Cell) (w : Val) → NodeOf ns at (node.Pair c d) w → (a b : Val) × ((w ≡ v_pair a b) × NodeOf ns at (node.Pair c d) (v_pair a b))
of-Pair ns at c d (v_pair a b) k = (a, b, (refl, k))
of-Pair ns at c d w k = absurd k

of-Cons : (ns : List Node) (at : ℕ) (c d : Cell) (w : Val) → NodeOf ns at (node.Cons c d) w → (a b : Val) × ((w ≡ v_cons a b) × NodeOf ns at (node.Cons c d) (v_cons a b))
of-Cons ns at c d (v_cons a b) k = (a, b, (refl, k))
of-Cons ns at c d w k = absurd k

of-Just : (ns : List Node) (at : ℕ) (c : Cell) (w : Val) → NodeOf ns at (node.Just c) w → (a : Val) × ((w ≡ v_some a) × NodeOf ns at (node.Just c) (v_some a))
of-Just ns at c (v_some a) k = (a, (refl, k))
of-Just ns at c w k = absurd k

of-Left : (ns : List Node) (at : ℕ) (c : Cell) (w : Val) → NodeOf ns at (node.Left c) w → (a : Val) × ((w ≡ v_inl a) × NodeOf ns at (node.Left c) (v_inl a))
of-Left ns at c (v_inl a) k = (a, (refl, k))
of-Left ns at c w k = absurd k

of-Right : (ns : List Node) (at : ℕ) (c : Cell) (w : Val) → NodeOf ns at (node.Right c) w → (a : Val) × ((w ≡ v_inr a) × NodeOf ns at (node.Right c) (v_inr a))
of-Right ns at c (v_inr a) k = (a, (refl, k))
of-Right ns at c w k = absurd k

of-Unit : (ns : List Node) (at : ℕ) (w : Val) → NodeOf ns at node.Unit w → w ≡ v_unit
of-Unit ns at v_unit k = refl
of-Unit ns at w k = absurd k

of-Nothing : (ns : List Node) (at : ℕ) (w : Val) → NodeOf ns at node.Nothing w → w ≡ v_none
of-Nothing ns at v_none k = refl
of-Nothing ns at w k = absurd k

of-Nil : (ns : List Node) (at : ℕ) (w : Val) → NodeOf ns at node.Nil w → w ≡ v_nil
of-Nil ns at v_nil k = refl
of-Nil ns at w k = absurd k

of-Bool : (ns : List Node) (at : ℕ) (b : Bool) (w : Val) → NodeOf ns at (node.Bool b) w → w ≡ v_bool b
of-Bool ns at b (v_bool d) k = ap v_bool (sym k)
of-Bool ns at b w k = absurd k

of-Int : (ns : List Node) (at : ℕ) (z : ℤ) (w : Val) → NodeOf ns at (node.Int z) w → w ≡ v_int z
of-Int ns at z (v_int n) k = ap v_int (sym k.0)
of-Int ns at z w k = absurd k

-- a node is that of one value alone
pub one-value : (ns : List Node) (at : ℕ) (v w : Val) (n : Node) → NodeOf ns at n v → NodeOf ns at n w → v ≡ w
one-value ns at v_unit w node.Unit k l = sym (of-Unit ns at w l)
one-value ns at (v_bool c) w (node.Bool b) k l = ap v_bool (sym k) ∙ sym (of-Bool ns at b w l)
one-value ns at (v_int n) w (node.Int z) k l = ap v_int (sym k.0) ∙ sym (of-Int ns at z w l)
one-value ns at v_none w node.Nothing k l = sym (of-Nothing ns at w l)
one-value ns at v_nil w node.Nil k l = sym (of-Nil ns at w l)
one-value ns at (v_pair a b) w (node.Pair c d) k l =
    let h = of-Pair ns at c d w l in
    let m = h.2.1 in
    ap₂ v_pair (one-part ns c.at k.0.1.0 m.0.1.0 h.0 a k.0.1.1.0 m.0.1.1.0 m.0.1.1.1 (λ x. one-value ns c.at a h.0 k.0.1.0 k.0.1.1.1 x)) (one-part ns d.at k.1.1.0 m.1.1.0 h.1 b k.1.1.1.0 m.1.1.1.0 m.1.1.1.1 (λ x. one-value ns d.at b h.1 k.1.1.0 k.1.1.1.1 x)) ∙ sym h.2.0
one-value ns at (v_cons a b) w (node.Cons c d) k l =
    let h = of-Cons ns at c d w l in
    let m = h.2.1 in
    ap₂ v_cons (one-part ns c.at k.0.1.0 m.0.1.0 h.0 a k.0.1.1.0 m.0.1.1.0 m.0.1.1.1 (λ x. one-value ns c.at a h.0 k.0.1.0 k.0.1.1.1 x)) (one-part ns d.at k.1.1.0 m.1.1.0 h.1 b k.1.1.1.0 m.1.1.1.0 m.1.1.1.1 (λ x. one-value ns d.at b h.1 k.1.1.0 k.1.1.1.1 x)) ∙ sym h.2.0
one-value ns at (v_some a) w (node.Just c) k l =
    let h = of-Just ns at c w l in
    let m = h.1.1 in
    ap v_some (one-part ns c.at k.1.0 m.1.0 h.0 a k.1.1.0 m.1.1.0 m.1.1.1 (λ x. one-value ns c.at a h.0 k.1.0 k.1.1.1 x)) ∙ sym h.1.0
one-value ns at (v_inl a) w (node.Left c) k l =
    let h = of-Left ns at c w l in
    let m = h.1.1 in
    ap v_inl (one-part ns c.at k.1.0 m.1.0 h.0 a k.1.1.0 m.1.1.0 m.1.1.1 (λ x. one-value ns c.at a h.0 k.1.0 k.1.1.1 x)) ∙ sym h.1.0
one-value ns at (v_inr a) w (node.Right c) k l =
    let h = of-Right ns at c w l in
    let m = h.1.1 in
    ap v_inr (one-part ns c.at k.1.0 m.1.0 h.0 a k.1.1.0 m.1.1.0 m.1.1.1 (λ x. one-value ns c.at a h.0 k.1.0 k.1.1.1 x)) ∙ sym h.1.0
one-value ns at v w n k l = absurd k

-- a cell has one tree alone
pub one-tree : (m : Store) (c : Cell) (v w : Val) → IsCell m c v → IsCell m c w → v ≡ w
one-tree m c v w k l = one-part m.nodes c.at k.0 l.0 w v k.1.0 l.1.0 l.1.1 (λ h. one-value m.nodes c.at v w k.0 k.1.1 h)
