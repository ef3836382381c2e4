use Rattle.std.proofs.Common.{map, sym, ap, ◌∙◌, get_or}
use Rattle.std.proofs.lemmas.Result.{on_ok_weaker}
use Rattle.fst_base.specs.Sorts.{plain_sort}
use Rattle.fst_terms.specs.Skeletons.{args_of, equal}
use Rattle.fst_terms.specs.Terms.{listed, plain_term}
use Rattle.fst_flats.proofs.SideLemmas.{list-by, lists-more, pair-by}
use Rattle.fst_flats.proofs.equations.+equal.Goals as goal

pub collect_equal-returns-in-List : goal.collect_equal-returns-in-List
collect_equal-returns-in-List t c =
    on_ok_weaker c.collect_lists.result
    (list-by (map plain_term c.args.atoms.now) (plain_term c.args.left.now) (plain_term c.args.right.now) c.args.sort.now _ _ _ c.in-List.is c.get-in-List.ensures)
    c.collect_lists.ensures

pub collect_equal-returns-in_ok-back-in-Pair : goal.collect_equal-returns-in_ok-back-in-Pair
collect_equal-returns-in_ok-back-in-Pair t c =
    on_ok_weaker c.collect_equal-in-Pair.result
    (pair-by (map plain_term c.args.atoms.now) (plain_term c.args.left.now) (plain_term c.args.right.now) c.args.sort.now _ _ _ _ _ _ _ _ _ _ _ _ _ _ _ _
    c.in-Pair.is c.get.ensures c.get-in-Pair.ensures c.get-in-Pair-4.ensures c.get-in-Pair-5.ensures
    c.in_ok-front-in-Pair.ensures.left c.in_ok-front-in-Pair.ensures.right c.get-in-Pair-2.ensures c.get-in-Pair-3.ensures c.in_ok-collect_equal-in-Pair.ensures
    c.in_ok-back-in-Pair.ensures.left c.in_ok-back-in-Pair.ensures.right c.get-in-Pair-6.ensures c.get-in-Pair-7.ensures)
    c.collect_equal-in-Pair.ensures

pub collect_lists-loop-atoms-preserved : goal.collect_lists-loop-atoms-preserved
collect_lists-loop-atoms-preserved t c =
    let l = plain_term c.loop-atoms.left.now in
    let r = plain_term c.loop-atoms.right.now in
    lists-more (equal (plain_sort c.args.item.now)) (map plain_term c.loop-atoms.atoms) _ l r _ _
    (sym c.is_long.ensures ∙ c.loop-atoms-test.true) (sym c.is_by.ensures ∙ c.if-is_by.true)
    (c.argument.ensures ∙ ap (get_or (listed (args_of l)) 0) c.requires)
    (c.argument-in-loop-atoms.ensures ∙ ap (get_or (listed (args_of r)) 0) c.requires)
    c.in_ok-collect_equal.ensures _ _
    (c.argument-left.ensures ∙ ap (get_or (listed (args_of l)) 1) c.requires)
    (c.argument-right.ensures ∙ ap (get_or (listed (args_of r)) 1) c.requires)
    ∙ c.loop-atoms.invariant
