use Rattle.std.proofs.Common.{◌∙◌, map, ap}
use Rattle.std.proofs.lemmas.Result.{on_ok_weaker}
use Rattle.fst_terms.specs.Flats.{parts_of}
use Rattle.fst_terms.specs.Same.{firsts}
use Rattle.fst_terms.specs.Terms.{plain_term}
use Rattle.fst_terms.proofs.AtomLemmas.{parts-Prim, parts-If, parts-App, parts-more}
use Rattle.fst_flats.proofs.subterms.+parts.Goals as goal

pub add_all_parts-loop-term-preserved : goal.add_all_parts-loop-term-preserved
add_all_parts-loop-term-preserved t c =
    parts-more _ _ _ c.args.terms.now c.loop-term.term-index c.term-item.result c.loop-term-test.true c.loop-term.invariant
    (c.in_ok-add_parts.ensures ∙ ap (λ t. firsts (map plain_term c.loop-term.met) (parts_of (plain_term t))) c.term-item.is)

pub add_parts-returns-in-Prim : goal.add_parts-returns-in-Prim
add_parts-returns-in-Prim t c = on_ok_weaker c.add_all_parts.result (parts-Prim _ _ _ _ _ _ _ _ _ c.in-Prim.is c.as_slice.ensures c.in_ok-add.ensures) c.add_all_parts.ensures

pub add_parts-returns-in_ok-add_parts-in-If-2 : goal.add_parts-returns-in_ok-add_parts-in-If-2
add_parts-returns-in_ok-add_parts-in-If-2 t c = on_ok_weaker c.add_parts-in-If-2.result
    (parts-If _ _ _ _ _ _ _ _ _ _ _ _ c.in-If.is c.get.ensures c.get-in-If.ensures c.get-in-If-2.ensures c.in_ok-add.ensures c.in_ok-add_parts-in-If.ensures c.in_ok-add_parts-in-If-2.ensures)
    c.add_parts-in-If-2.ensures

pub add_parts-returns-in-App : goal.add_parts-returns-in-App
add_parts-returns-in-App t c = on_ok_weaker c.add_all_parts-in-App.result (parts-App _ _ _ _ _ _ _ _ c.in-App.is c.as_slice-in-App.ensures c.in_ok-add.ensures) c.add_all_parts-in-App.ensures
