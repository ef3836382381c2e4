use Rattle.std.proofs.Common.{sym, ap, ap₂, ◌∙◌, get_or}
use Rattle.fst_base.specs.Sorts.{plain_sort}
use Rattle.fst_shapes.specs.Shapes.{number_in}
use Rattle.fst_shapes.specs.Sides.{is_long}
use Rattle.fst_terms.specs.Skeletons.{args_of, equal, made_by}
use Rattle.fst_terms.specs.Terms.{listed, plain_term}
use Rattle.fst_shapes.proofs.ShapeLemmas.{shapes-as, options-just, options-nothing, options-rest, eithers-left, eithers-right, eithers-rest, heads-step, lists-done, pair-form, list-form, shapes-residual, and-true, spine-falls}
use Rattle.fst_shapes.proofs.reading.+shape.Goals as goal

pub options-returns-then-are_by : goal.options-returns-then-are_by
options-returns-then-are_by t c =
    let l = plain_term c.args.left.now in
    let r = plain_term c.args.right.now in
    shapes-as _ c.equal.result _ _
    (ap₂ (equal (plain_sort c.args.item.now)) (c.argument-left.ensures ∙ ap (get_or (listed (args_of l)) 0) c.requires) (c.argument.ensures ∙ ap (get_or (listed (args_of r)) 0) c.requires)
    ∙ sym (options-just (equal (plain_sort c.args.item.now)) (made_by l) (made_by r) l r (sym c.are_by.ensures ∙ c.if-are_by.true)))
    c.equal.ensures

pub options-returns-then-are_by-2 : goal.options-returns-then-are_by-2
options-returns-then-are_by-2 t c =
    let l = plain_term c.args.left.now in
    let r = plain_term c.args.right.now in
    shapes-as _ c.truth.result _ _ (sym (options-nothing (equal (plain_sort c.args.item.now)) (made_by l) (made_by r) l r (sym c.are_by-2.ensures ∙ c.if-are_by-2.true))) (c.truth.ensures (number_in c.args.atoms.now))

pub options-returns : goal.options-returns
options-returns t c =
    let l = plain_term c.args.left.now in
    let r = plain_term c.args.right.now in
    shapes-as _ c.unless_made.result _ _
    (sym (options-rest (equal (plain_sort c.args.item.now)) (made_by l) (made_by r) l r (sym c.are_by.ensures ∙ c.if-are_by.false) (sym c.are_by-2.ensures ∙ c.if-are_by-2.false)))
    c.unless_made.ensures

pub eithers-returns-then-are_by : goal.eithers-returns-then-are_by
eithers-returns-then-are_by t c =
    let l = plain_term c.args.left.now in
    let r = plain_term c.args.right.now in
    shapes-as _ c.equal.result _ _
    (ap₂ (equal (plain_sort c.args.first.now)) (c.argument-left.ensures ∙ ap (get_or (listed (args_of l)) 0) c.requires) (c.argument.ensures ∙ ap (get_or (listed (args_of r)) 0) c.requires)
    ∙ sym (eithers-left (equal (plain_sort c.args.first.now)) (equal (plain_sort c.args.second.now)) (made_by l) (made_by r) l r (sym c.are_by.ensures ∙ c.if-are_by.true)))
    c.equal.ensures

pub eithers-returns-then-are_by-2 : goal.eithers-returns-then-are_by-2
eithers-returns-then-are_by-2 t c =
    let l = plain_term c.args.left.now in
    let r = plain_term c.args.right.now in
    shapes-as _ c.equal-then-are_by-2.result _ _
    (ap₂ (equal (plain_sort c.args.second.now)) (c.argument-left-then-are_by-2.ensures ∙ ap (get_or (listed (args_of l)) 0) c.requires) (c.argument-then-are_by-2.ensures ∙ ap (get_or (listed (args_of r)) 0) c.requires)
    ∙ sym (eithers-right (equal (plain_sort c.args.first.now)) (equal (plain_sort c.args.second.now)) (made_by l) (made_by r) l r (sym c.are_by-2.ensures ∙ c.if-are_by-2.true)))
    c.equal-then-are_by-2.ensures

pub eithers-returns : goal.eithers-returns
eithers-returns t c =
    let l = plain_term c.args.left.now in
    let r = plain_term c.args.right.now in
    shapes-as _ c.unless_made.result _ _
    (sym (eithers-rest (equal (plain_sort c.args.first.now)) (equal (plain_sort c.args.second.now)) (made_by l) (made_by r) l r (sym c.are_by.ensures ∙ c.if-are_by.false) (sym c.are_by-2.ensures ∙ c.if-are_by-2.false)))
    c.unless_made.ensures

pub lists-loop-front-smaller : goal.lists-loop-front-smaller
lists-loop-front-smaller t c =
    let l = plain_term c.loop-front.left.now in
    spine-falls l _ (and-true (is_long l) _ (sym c.are_long.ensures ∙ c.loop-front-test.true)).0 (c.argument-left.ensures ∙ ap (get_or (listed (args_of l)) 1) c.requires)

pub lists-loop-front-preserved : goal.lists-loop-front-preserved
lists-loop-front-preserved t c =
    let l = plain_term c.loop-front.left.now in
    let r = plain_term c.loop-front.right.now in
    heads-step (equal (plain_sort c.args.item.now)) (number_in c.args.atoms.now) _ c.loop-front.heads _ l r _ _ _ _ _ (sym c.are_long.ensures ∙ c.loop-front-test.true)
    (c.argument-front.ensures ∙ ap (get_or (listed (args_of l)) 0) c.requires) (c.argument.ensures ∙ ap (get_or (listed (args_of r)) 0) c.requires) c.in_ok-head.ensures c.in_ok-push.ensures.ok
    (c.argument-left.ensures ∙ ap (get_or (listed (args_of l)) 1) c.requires) (c.argument-right.ensures ∙ ap (get_or (listed (args_of r)) 1) c.requires) c.loop-front.invariant

pub lists-returns-in_err-head : goal.lists-returns-in_err-head
lists-returns-in_err-head t c = shapes-residual _ _ c.from_residual.result _ c.from_residual.ensures.1

pub lists-returns-in_err-push : goal.lists-returns-in_err-push
lists-returns-in_err-push t c = shapes-residual _ _ c.from_residual-in_err-push.result _ c.from_residual-in_err-push.ensures.1

pub lists-returns : goal.lists-returns
lists-returns t c =
    let l = plain_term c.loop-front.left.now in
    let r = plain_term c.loop-front.right.now in
    lists-done (equal (plain_sort c.args.item.now)) (number_in c.args.atoms.now) c.before-2.result _ c.loop-front.heads l r (sym c.are_long.ensures ∙ c.loop-front-test.false) c.loop-front.invariant
    (c.before-2.ensures (number_in c.args.atoms.now) _ c.ends.ensures)

pub components_equal-returns-in_err-front : goal.components_equal-returns-in_err-front
components_equal-returns-in_err-front t c = shapes-residual _ _ c.from_residual.result _ c.from_residual.ensures.1

pub equal-returns-in-List : goal.equal-returns-in-List
equal-returns-in-List t c = shapes-as _ c.lists.result _ _ (list-form (plain_term c.args.left.now) (plain_term c.args.right.now) c.args.sort.now _ _ c.in-List.is c.get-in-List.ensures) c.lists.ensures

pub components_equal-returns : goal.components_equal-returns
components_equal-returns t c =
    shapes-as _ c.equal.result _ _
    (ap₂ (equal (plain_sort c.args.sort.now)) (ap plain_term c.get.ensures ∙ c.in_ok-front.ensures.left) (ap plain_term c.get-2.ensures ∙ c.in_ok-front.ensures.right))
    c.equal.ensures

pub equal-returns-in-Pair : goal.equal-returns-in-Pair
equal-returns-in-Pair t c =
    shapes-as _ c.both.result _ _ (pair-form (plain_term c.args.left.now) (plain_term c.args.right.now) c.args.sort.now _ _ _ _ c.in-Pair.is c.get.ensures c.get-in-Pair.ensures)
    (c.both.ensures (number_in c.args.atoms.now) _ _ c.components_equal-front.ensures c.components_equal-back.ensures)
