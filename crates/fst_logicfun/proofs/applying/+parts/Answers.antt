use Rattle.std.proofs.Common.{◌∙◌, map, ap, filter}
use Rattle.std.proofs.lemmas.Result.{on_ok_weaker}
use Rattle.fst_program.specs.FunctionFacts.{is_application}
use Rattle.fst_terms.specs.Flats.{parts_of}
use Rattle.fst_terms.specs.Same.{firsts}
use Rattle.fst_terms.specs.Terms.{plain_term}
use Rattle.fst_logicfun.proofs.ApplicationLemmas.{applications-Prim, applications-If, applications-App, applications-each}
use Rattle.fst_logicfun.proofs.applying.+parts.Goals as goal

pub add_applications-loop-term-preserved : goal.add_applications-loop-term-preserved
add_applications-loop-term-preserved t c =
    applications-each _ _ _ c.args.terms.now c.loop-term.term-index c.term-item.result c.loop-term-test.true c.loop-term.invariant
    (c.in_ok-add_parts.ensures ∙ ap (λ t. firsts (map plain_term c.loop-term.met) (filter is_application (parts_of (plain_term t)))) c.term-item.is)

pub add_parts-returns-in-Prim : goal.add_parts-returns-in-Prim
add_parts-returns-in-Prim t c = on_ok_weaker c.add_applications.result (applications-Prim _ _ _ _ _ _ _ _ c.in-Prim.is c.as_slice.ensures) c.add_applications.ensures

pub add_parts-returns-in_ok-add_parts-in-If-2 : goal.add_parts-returns-in_ok-add_parts-in-If-2
add_parts-returns-in_ok-add_parts-in-If-2 t c = on_ok_weaker c.add_parts-in-If-2.result
    (applications-If _ _ _ _ _ _ _ _ _ _ _ c.in-If.is c.get.ensures c.get-in-If.ensures c.get-in-If-2.ensures c.in_ok-add_parts-in-If.ensures c.in_ok-add_parts-in-If-2.ensures)
    c.add_parts-in-If-2.ensures

pub add_parts-returns-in_ok-add-in-App : goal.add_parts-returns-in_ok-add-in-App
add_parts-returns-in_ok-add-in-App t c = on_ok_weaker c.add_applications-in-App.result (applications-App _ _ _ _ _ _ _ _ c.in-App.is c.as_slice-in-App.ensures c.in_ok-add-in-App.ensures) c.add_applications-in-App.ensures
