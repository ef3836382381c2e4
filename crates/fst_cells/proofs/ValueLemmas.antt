-- Values in cells.
use Rattle.std.proofs.Common.{◌≡◌, ℤ, Bool, List, [], ◌∷◌, ◌++◌, map, refl, sym, ap, ap₂, ◌∙◌, subst, rules}
use Rattle.fst_base.specs.Values.{Val, v_unit, v_bool, v_int, v_pair, v_none, v_some, v_nil, v_cons, v_inl, v_inr, chain, plain_value}
use Rattle.fst_base.specs.declared.value.Value as W
use Rattle.fst_base.specs.declared.value.Value.{Value}
use Rattle.fst_base.proofs.ValueLemmas.{plain-value-Pair, plain-value-Just, plain-value-List, plain-value-Left, plain-value-Right}
use Rattle.fst_cells.specs.declared.cell.Cell.{Cell}
use Rattle.fst_cells.specs.declared.store.Store.{Store}
use Rattle.fst_cells.specs.declared.cell.Node.{Node}
use Rattle.fst_cells.specs.declared.cell.Node.TheVariants as node
use Rattle.fst_cells.specs.Trees.{NodeIs, IsCell}
use Rattle.fst_cells.specs.Lists.{onto}

pub onto-item : (vs : List Val) (v w : Val) → onto (vs ++ v ∷ []) w ≡ onto vs (v_cons v w)
onto-item [] v w = refl
onto-item (x ∷ vs) v w = ap (v_cons x) (onto-item vs v w)

pub onto-nil : (vs : List Val) → onto vs v_nil ≡ chain vs
onto-nil [] = refl
onto-nil (x ∷ vs) = ap (v_cons x) (onto-nil vs)

-- ---- the value of a node

module _ (m : Store) (n : Node) (v : Val) where
  pub value-unit : n ≡ node.Unit → NodeIs m n v → plain_value W.Unit ≡ v
  value-unit q k = go v (subst (λ n. NodeIs m n v) q k)
    where
      go : (v : Val) → NodeIs m node.Unit v → plain_value W.Unit ≡ v
      go v_unit k = search (rules, W.the_lemmas)
      go v k = absurd k

  pub value-bool : (b : Bool) → n ≡ node.Bool b → NodeIs m n v → plain_value (W.Bool b) ≡ v
  value-bool b q k = go v (subst (λ n. NodeIs m n v) q k)
    where
      go : (v : Val) → NodeIs m (node.Bool b) v → plain_value (W.Bool b) ≡ v
      go (v_bool c) k = let p : plain_value (W.Bool b) ≡ v_bool b = search (rules, W.the_lemmas) in p ∙ ap v_bool k
      go v k = absurd k

  pub value-int : (z b : ℤ) → z ≡ b → n ≡ node.Int b → NodeIs m n v → plain_value (W.Int z) ≡ v
  value-int z b e q k = go v (subst (λ n. NodeIs m n v) q k)
    where
      go : (v : Val) → NodeIs m (node.Int b) v → plain_value (W.Int z) ≡ v
      go (v_int c) k = let p : plain_value (W.Int z) ≡ v_int z = search (rules, W.the_lemmas) in p ∙ ap v_int (e ∙ k.0)
      go v k = absurd k

  pub value-nothing : n ≡ node.Nothing → NodeIs m n v → plain_value W.Nothing ≡ v
  value-nothing q k = go v (subst (λ n. NodeIs m n v) q k)
    where
      go : (v : Val) → NodeIs m node.Nothing v → plain_value W.Nothing ≡ v
      go v_none k = search (rules, W.the_lemmas)
      go v k = absurd k

  pub nil-node : n ≡ node.Nil → NodeIs m n v → v ≡ v_nil
  nil-node q k = go v (subst (λ n. NodeIs m n v) q k)
    where
      go : (v : Val) → NodeIs m node.Nil v → v ≡ v_nil
      go v_nil k = refl
      go v k = absurd k

  pub value-nil : (xs : List Value) → xs ≡ [] → n ≡ node.Nil → NodeIs m n v → plain_value (W.List xs) ≡ v
  value-nil xs e q k = plain-value-List xs ∙ ap (λ xs. chain (map plain_value xs)) e ∙ sym (nil-node q k)

  pub value-pair : (a b : Cell) (x y x' y' : Value) → n ≡ node.Pair a b → NodeIs m n v → ((w : Val) → IsCell m a w → plain_value x ≡ w) → ((w : Val) → IsCell m b w → plain_value y ≡ w) → x' ≡ x → y' ≡ y → plain_value (W.Pair x' y') ≡ v
  value-pair a b x y x' y' q k f g p r = go v (subst (λ n. NodeIs m n v) q k)
    where
      go : (v : Val) → NodeIs m (node.Pair a b) v → plain_value (W.Pair x' y') ≡ v
      go (v_pair v w) k = plain-value-Pair x' y' ∙ ap₂ v_pair (ap plain_value p ∙ f v k.0.1) (ap plain_value r ∙ g w k.1.1)
      go v k = absurd k

  pub value-just : (a : Cell) (x x' : Value) → n ≡ node.Just a → NodeIs m n v → ((w : Val) → IsCell m a w → plain_value x ≡ w) → x' ≡ x → plain_value (W.Just x') ≡ v
  value-just a x x' q k f p = go v (subst (λ n. NodeIs m n v) q k)
    where
      go : (v : Val) → NodeIs m (node.Just a) v → plain_value (W.Just x') ≡ v
      go (v_some v) k = plain-value-Just x' ∙ ap v_some (ap plain_value p ∙ f v k.1)
      go v k = absurd k

  pub value-left : (a : Cell) (x x' : Value) → n ≡ node.Left a → NodeIs m n v → ((w : Val) → IsCell m a w → plain_value x ≡ w) → x' ≡ x → plain_value (W.Left x') ≡ v
  value-left a x x' q k f p = go v (subst (λ n. NodeIs m n v) q k)
    where
      go : (v : Val) → NodeIs m (node.Left a) v → plain_value (W.Left x') ≡ v
      go (v_inl v) k = plain-value-Left x' ∙ ap v_inl (ap plain_value p ∙ f v k.1)
      go v k = absurd k

  pub value-right : (a : Cell) (x x' : Value) → n ≡ node.Right a → NodeIs m n v → ((w : Val) → IsCell m a w → plain_value x ≡ w) → x' ≡ x → plain_value (W.Right x') ≡ v
  value-right a x x' q k f p = go v (subst (λ n. NodeIs m n v) q k)
    where
      go : (v : Val) → NodeIs m (node.Right a) v → plain_value (W.Right x') ≡ v
      go (v_inr v) k = plain-value-Right x' ∙ ap v_inr (ap plain_value p ∙ f v k.1)
      go v k = absurd k

  pub cons-item : (a b : Cell) → n ≡ node.Cons a b → NodeIs m n v → (x y : Val) × ((v ≡ v_cons x y) × IsCell m a x × IsCell m b y)
  cons-item a b q k = go v (subst (λ n. NodeIs m n v) q k)
    where
      go : (v : Val) → NodeIs m (node.Cons a b) v → (x y : Val) × ((v ≡ v_cons x y) × IsCell m a x × IsCell m b y)
      go (v_cons x y) k = (x, y, (refl, k.0.1, k.1.1))
      go v k = absurd k

-- ---- lists

pub list-more : (xs ys : List Value) (x : Value) (v w a b : Val) → v ≡ onto (map plain_value xs) w → w ≡ v_cons a b → ys ≡ xs ++ x ∷ [] → plain_value x ≡ a → v ≡ onto (map plain_value ys) b
list-more xs ys x v w a b p q r e = p ∙ ap (onto (map plain_value xs)) q ∙ sym (onto-item (map plain_value xs) a b) ∙ ap (λ a. onto (map plain_value xs ++ a ∷ []) b) (sym e)
    ∙ ap (λ vs. onto vs b) (sym (maps xs x)) ∙ ap (λ ys. onto (map plain_value ys) b) (sym r)
  where
    maps : (xs : List Value) (x : Value) → map plain_value (xs ++ x ∷ []) ≡ map plain_value xs ++ plain_value x ∷ []
    maps [] x = refl
    maps (y ∷ xs) x = ap (λ zs. plain_value y ∷ zs) (maps xs x)

pub list-whole : (xs : List Value) (v w : Val) → v ≡ onto (map plain_value xs) w → w ≡ v_nil → plain_value (W.List xs) ≡ v
list-whole xs v w p q = plain-value-List xs ∙ sym (p ∙ ap (onto (map plain_value xs)) q ∙ onto-nil (map plain_value xs))
