use Rattle.std.proofs.Common.{◌≡◌, ◌∙◌, ◌<◌, ◌+◌, ◌-◌, ◌∷◌, drop, map, length, ap, sym, subst, IfOk, arith}
use Rattle.fst_base.specs.Values.{Val, plain_value, chain}
use Rattle.fst_base.proofs.ValueLemmas.{plain-value-Pair, plain-value-Just, plain-value-Left, plain-value-Right}
use Rattle.fst_cells.specs.Trees.{IsCell, AddsAtMost, nodes_of}
use Rattle.fst_cells.proofs.TreeLemmas.{drop-item, value-kept, kept-then, fresh-few, item-few}
use Rattle.fst_cells.proofs.store.Store.+put.Goals as goal

pub put-returns-in_ok-second-in-Pair-clause-cell : goal.put-returns-in_ok-second-in-Pair-clause-cell
put-returns-in_ok-second-in-Pair-clause-cell t c =
    let a = c.in-Pair.first in
    let b = c.in-Pair.second in
    let m1 = c.put.new.self in
    let m2 = c.put-in-Pair.new.self in
    let first : IsCell m1 c.in_ok-first-in-Pair.first (plain_value a) = subst (λ s. IsCell m1 c.in_ok-first-in-Pair.first (plain_value s)) c.get.ensures c.in_ok-first-in-Pair.ensures.cell in
    let second : IsCell m2 c.in_ok-second-in-Pair.second (plain_value b) = subst (λ s. IsCell m2 c.in_ok-second-in-Pair.second (plain_value s)) c.get-in-Pair.ensures c.in_ok-second-in-Pair.ensures.cell in
    subst (λ (v : Val). IfOk c.pair.result (λ x. IsCell c.pair.new.self x v)) (sym (ap plain_value c.in-Pair.is ∙ plain-value-Pair a b))
    (c.pair.ensures.cell (plain_value a) (plain_value b) (value-kept m1 m2 c.in_ok-first-in-Pair.first _ c.in_ok-second-in-Pair.ensures.kept first) second)

pub put-returns-in_ok-part-in-Just-clause-cell : goal.put-returns-in_ok-part-in-Just-clause-cell
put-returns-in_ok-part-in-Just-clause-cell t c =
    let a = c.in-Just.part in
    let m1 = c.put-in-Just.new.self in
    let part : IsCell m1 c.in_ok-part-in-Just.part (plain_value a) = subst (λ s. IsCell m1 c.in_ok-part-in-Just.part (plain_value s)) c.get-in-Just.ensures c.in_ok-part-in-Just.ensures.cell in
    subst (λ (v : Val). IfOk c.just.result (λ x. IsCell c.just.new.self x v)) (sym (ap plain_value c.in-Just.is ∙ plain-value-Just a)) (c.just.ensures.cell (plain_value a) part)

pub put-returns-in_ok-part-in-Left-clause-cell : goal.put-returns-in_ok-part-in-Left-clause-cell
put-returns-in_ok-part-in-Left-clause-cell t c =
    let a = c.in-Left.part in
    let m1 = c.put-in-Left.new.self in
    let part : IsCell m1 c.in_ok-part-in-Left.part (plain_value a) = subst (λ s. IsCell m1 c.in_ok-part-in-Left.part (plain_value s)) c.get-in-Left.ensures c.in_ok-part-in-Left.ensures.cell in
    subst (λ (v : Val). IfOk c.left.result (λ x. IsCell c.left.new.self x v)) (sym (ap plain_value c.in-Left.is ∙ plain-value-Left a)) (c.left.ensures.cell (plain_value a) part)

pub put-returns-in_ok-part-in-Right-clause-cell : goal.put-returns-in_ok-part-in-Right-clause-cell
put-returns-in_ok-part-in-Right-clause-cell t c =
    let a = c.in-Right.part in
    let m1 = c.put-in-Right.new.self in
    let part : IsCell m1 c.in_ok-part-in-Right.part (plain_value a) = subst (λ s. IsCell m1 c.in_ok-part-in-Right.part (plain_value s)) c.get-in-Right.ensures c.in_ok-part-in-Right.ensures.cell in
    subst (λ (v : Val). IfOk c.right.result (λ x. IsCell c.right.new.self x v)) (sym (ap plain_value c.in-Right.is ∙ plain-value-Right a)) (c.right.ensures.cell (plain_value a) part)

pub put_items-items-preserved : goal.put_items-items-preserved
put_items-items-preserved t c =
    let m = c.items.self in
    let m1 = c.put.new.self in
    let m2 = c.cons.new.self in
    let xs = c.args.items.now in
    let i = c.items.left - 1 in
    let x = c.index-items-left.result in
    let lt : i < length xs = omega (arith, c.items-test.true, c.items.invariant.0) in
    let n : i + 1 ≡ c.items.left = omega (arith, c.items-test.true) in
    let q : drop i xs ≡ x ∷ drop c.items.left xs = drop-item xs i x lt c.index-items-left.is ∙ ap (λ n. x ∷ drop n xs) n in
    let n1 = c.in_ok-item.ensures.kept in (
      omega (arith, c.items.invariant.0),
      kept-then c.args.self.now m m2 c.items.invariant.1 (kept-then m m1 m2 n1 c.in_ok-rest-2.ensures.kept),
      subst (λ ys. IsCell m2 c.in_ok-rest-2.rest (chain (map plain_value ys))) (sym q)
          (c.in_ok-rest-2.ensures.cell (plain_value x) (chain (map plain_value (drop c.items.left xs))) c.in_ok-item.ensures.cell (value-kept m m1 c.items.rest _ n1 c.items.invariant.2)),
      subst (λ ys. AddsAtMost (nodes_of (chain (map plain_value ys))) c.args.self.now m2) (sym q)
          (item-few c.args.self.now m m1 m2 (plain_value x) (chain (map plain_value (drop c.items.left xs))) c.items.invariant.3 c.in_ok-item.ensures.few (fresh-few m1 m2 _ c.in_ok-rest-2.rest 1 (omega arith) c.in_ok-rest-2.ensures.fresh)),
    )

pub put_items-returns-clause-few : goal.put_items-returns-clause-few
put_items-returns-clause-few t c =
    let z : c.items.left ≡ 0 = omega (arith, c.items-test.false) in
    subst (λ n. AddsAtMost (nodes_of (chain (map plain_value (drop n c.args.items.now)))) c.args.self.now c.items.self) z c.items.invariant.3
