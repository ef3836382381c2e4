use Rattle.std.proofs.Common.{◌∙◌, ap, map}
use Rattle.std.proofs.lemmas.Result.{on_ok_weaker}
use Rattle.fst_terms.specs.Naming.{named_in}
use Rattle.fst_flats.specs.Preparing.{sorts_in}
use Rattle.fst_terms.specs.Same.{firsts}
use Rattle.fst_terms.specs.Terms.{plain_term}
use Rattle.fst_flats.proofs.NameLemmas.{named-If-by, named-Prim-by, named-more}
use Rattle.fst_flats.proofs.naming.+name.Goals as goal

pub name-returns-in_ok-name-in-If-3 : goal.name-returns-in_ok-name-in-If-3
name-returns-in_ok-name-in-If-3 t c = on_ok_weaker c.add_if.result
    (named-If-by (sorts_in c.args.sorts.now) c.args.is_argument _ _ _ _ _ _ _ _ _ _ _ _ _ _ c.in-If.is c.get.ensures c.get-in-If.ensures c.get-in-If-2.ensures c.get-in-If-3.ensures c.in_ok-left_is-in-If.ensures c.in_ok-name-in-If.ensures c.in_ok-name-in-If-2.ensures c.in_ok-name-in-If-3.ensures)
    c.add_if.ensures

pub name-returns-in_ok-name_all-in-Prim : goal.name-returns-in_ok-name_all-in-Prim
name-returns-in_ok-name_all-in-Prim t c = on_ok_weaker c.add_if-in-Prim.result
    (named-Prim-by (sorts_in c.args.sorts.now) c.args.is_argument _ _ _ _ _ _ _ _ _ _ _ _ c.in-Prim.is c.as_slice.ensures c.as_slice-in-Prim.ensures c.in_ok-args_are-in-Prim.ensures c.is_named.ensures c.in_ok-name_all-in-Prim.ensures)
    c.add_if-in-Prim.ensures

pub name_all-loop-term-preserved : goal.name_all-loop-term-preserved
name_all-loop-term-preserved t c =
    named-more (sorts_in c.args.sorts.now) c.args.are_arguments _ _ _ c.args.terms.now c.loop-term.term-index c.term-item.result c.loop-term-test.true c.loop-term.invariant
    (c.in_ok-name.ensures ∙ ap (λ t. firsts (map plain_term c.loop-term.names) (named_in (sorts_in c.args.sorts.now) c.args.are_arguments (plain_term t))) c.term-item.is)
