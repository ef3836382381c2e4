use Rattle.std.proofs.Common.{rules, suc, length, Err}
use Rattle.fst_base.specs.Sorts.{plain_sort}
use Rattle.fst_values.specs.Reading.{items, reads, Gives}
use Rattle.fst_values.proofs.FormLemmas.{left_found, right_found, some_found, pair_found, items_found}
use Rattle.fst_values.proofs.ItemLemmas.{no_items, fault_at_item, ended, shorter, next, fault_at_mark}
use Rattle.fst_values.proofs.values.+value.Goals as goal

pub either-returns-then-is : goal.either-returns-then-is
either-returns-then-is t c = left_found (plain_sort c.args.left.now) (plain_sort c.args.right.now) c.args.reader.now _ _ _ _ _ c.word-word.ensures.word c.word-word.ensures.rest _ c.is.ensures c.if-is.true c.in_ok-part.ensures c.in_ok-left.ensures

pub either-returns-then-is-2 : goal.either-returns-then-is-2
either-returns-then-is-2 t c = right_found (plain_sort c.args.left.now) (plain_sort c.args.right.now) c.args.reader.now _ _ _ _ _ c.word-word.ensures.word c.word-word.ensures.rest _ _ c.is.ensures c.if-is.false c.is-2.ensures c.if-is-2.true c.in_ok-part-2.ensures c.in_ok-right.ensures

pub option-returns-then-is-2 : goal.option-returns-then-is-2
option-returns-then-is-2 t c = some_found (plain_sort c.args.item.now) (plain_sort c.args.item.now) c.args.reader.now _ _ _ _ _ c.word-word.ensures.word c.word-word.ensures.rest _ _ c.is.ensures c.if-is.false c.is-2.ensures c.if-is-2.true c.in_ok-part.ensures c.in_ok-just.ensures

pub pair-returns : goal.pair-returns
pair-returns t c = pair_found (plain_sort c.args.first.now) (plain_sort c.args.second.now) c.args.reader.now _ _ _ _ _ _ _ _ c.in_ok-expect.ensures c.in_ok-first.ensures c.in_ok-expect-2.ensures c.in_ok-second.ensures c.in_ok-expect-3.ensures c.in_ok-pair.ensures

pub list-returns : goal.list-returns
list-returns t c = items_found (plain_sort c.args.item.now) c.args.reader.now _ _ _ _ _ c.in_ok-expect.ensures c.take.ensures.found c.if-take.false c.take.ensures.rest c.items.ensures

pub items-loop-items-init : goal.items-loop-items-init
items-loop-items-init t c = no_items _ _ _ c.new.ensures

pub items-returns-in_err-part : goal.items-returns-in_err-part
items-returns-in_err-part t c =
    let h : Gives (items (reads (plain_sort c.args.item.now)) (suc (length c.args.reader.now)) c.args.reader.now) (Err c.in_err-part.field-0.0) c.value.new.reader =
    fault_at_item _ _ _ _ _ _ c.loop-items.invariant c.in_err-part.ensures in
    search rules

pub items-returns-then-take : goal.items-returns-then-take
items-returns-then-take t c = ended _ _ _ _ _ _ _ c.loop-items.invariant c.in_ok-part.ensures c.in_ok-items.ensures _ _ _ c.take.ensures.found c.if-take.true c.take.ensures.rest c.list.ensures

pub items-loop-items-smaller : goal.items-loop-items-smaller
items-loop-items-smaller t c = shorter _ _ _ _ _ _ _ c.loop-items.invariant c.in_ok-part.ensures c.in_ok-items.ensures _ _ _ c.take.ensures.found c.if-take.false c.take.ensures.rest c.in_ok-expect.ensures

pub items-loop-items-preserved : goal.items-loop-items-preserved
items-loop-items-preserved t c = next _ _ _ _ _ _ _ c.loop-items.invariant c.in_ok-part.ensures c.in_ok-items.ensures _ _ _ c.take.ensures.found c.if-take.false c.take.ensures.rest c.in_ok-expect.ensures

pub items-returns-in_err-expect : goal.items-returns-in_err-expect
items-returns-in_err-expect t c =
    let h : Gives (items (reads (plain_sort c.args.item.now)) (suc (length c.args.reader.now)) c.args.reader.now) (Err c.in_err-expect.field-0.0) c.expect.new.self =
    fault_at_mark _ _ _ _ _ _ _ c.loop-items.invariant c.in_ok-part.ensures c.in_ok-items.ensures _ _ _ _ c.take.ensures.found c.if-take.false c.take.ensures.rest c.in_err-expect.ensures in
    search rules
