use Rattle.std.proofs.Common.{rules, arith}
use Rattle.std.proofs.Math.Facts.{to_z-of_z}
use mir.Syntax.{w128}
use Rattle.fst_cells.proofs.ValueLemmas.{value-unit, value-bool, value-int, value-nothing, value-nil, value-pair, value-just, value-left, value-right, nil-node, list-more, list-whole}
use Rattle.fst_cells.proofs.store.Store.+value.Goals as goal

pub value-returns-in-Unit : goal.value-returns-in-Unit
value-returns-in-Unit t c = λ v k. value-unit c.args.self.now c.in-Some.node v c.in-Unit.is (c.in-Some.ensures.value v k)

pub value-returns-in-Bool : goal.value-returns-in-Bool
value-returns-in-Bool t c = λ v k. value-bool c.args.self.now c.in-Some.node v c.in-Bool.truth c.in-Bool.is (c.in-Some.ensures.value v k)

pub value-returns-in-Int : goal.value-returns-in-Int
value-returns-in-Int t c = λ v k. value-int c.args.self.now c.in-Some.node v _ c.in-Int.number (to_z-of_z {w = w128} (search rules)) c.in-Int.is (c.in-Some.ensures.value v k)

pub value-returns-in-Nothing : goal.value-returns-in-Nothing
value-returns-in-Nothing t c = λ v k. value-nothing c.args.self.now c.in-Some.node v c.in-Nothing.is (c.in-Some.ensures.value v k)

pub value-returns-in-Nil : goal.value-returns-in-Nil
value-returns-in-Nil t c = λ v k. value-nil c.args.self.now c.in-Some.node v c.new-in-Nil.result c.new-in-Nil.ensures c.in-Nil.is (c.in-Some.ensures.value v k)

pub value-returns-in_ok-second-in-Pair : goal.value-returns-in_ok-second-in-Pair
value-returns-in_ok-second-in-Pair t c = λ v k. value-pair c.args.self.now c.in-Some.node v c.in-Pair.first c.in-Pair.second c.in_ok-value-in-Pair.field-0 c.in_ok-value-in-Pair-2.field-0 _ _ c.in-Pair.is (c.in-Some.ensures.value v k) c.in_ok-value-in-Pair.ensures c.in_ok-value-in-Pair-2.ensures c.in_ok-first-in-Pair.ensures c.in_ok-second-in-Pair.ensures

pub value-returns-in_ok-new-in-Just : goal.value-returns-in_ok-new-in-Just
value-returns-in_ok-new-in-Just t c = λ v k. value-just c.args.self.now c.in-Some.node v c.in-Just.part c.in_ok-value-in-Just.field-0 _ c.in-Just.is (c.in-Some.ensures.value v k) c.in_ok-value-in-Just.ensures c.in_ok-new-in-Just.ensures

pub value-returns-in_ok-new-in-Left : goal.value-returns-in_ok-new-in-Left
value-returns-in_ok-new-in-Left t c = λ v k. value-left c.args.self.now c.in-Some.node v c.in-Left.part c.in_ok-value-in-Left.field-0 _ c.in-Left.is (c.in-Some.ensures.value v k) c.in_ok-value-in-Left.ensures c.in_ok-new-in-Left.ensures

pub value-returns-in_ok-new-in-Right : goal.value-returns-in_ok-new-in-Right
value-returns-in_ok-new-in-Right t c = λ v k. value-right c.args.self.now c.in-Some.node v c.in-Right.part c.in_ok-value-in-Right.field-0 _ c.in-Right.is (c.in-Some.ensures.value v k) c.in_ok-value-in-Right.ensures c.in_ok-new-in-Right.ensures

pub list-items-preserved : goal.list-items-preserved
list-items-preserved t c = (
  omega (arith, c.items.invariant.0, c.in-Some.ensures.below),
  λ v k.
      let h = c.items.invariant.1 v k in
      let r = c.in-Some.ensures.item h.0 h.1.0 in
      (r.1, (r.2.2, list-more c.items.items c.push.new.self c.in_ok-value.field-0 v h.0 r.0 r.1 h.1.1 r.2.0 c.in_ok-push.ensures.ok (c.in_ok-value.ensures r.0 r.2.1))),
)

pub list-returns : goal.list-returns
list-returns t c = λ v k.
    let h = c.items.invariant.1 v k in
    list-whole c.items.items v h.0 h.1.1 (nil-node c.args.self.now c.in-Some-Nil.field-0 h.0 c.in-Some-Nil.field-0-is (c.in-Some-Nil.ensures.value h.0 h.1.0))
