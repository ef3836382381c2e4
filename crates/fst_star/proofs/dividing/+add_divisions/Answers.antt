use Rattle.std.proofs.Common.{map}
use Rattle.std.proofs.lemmas.Result.{on_ok_weaker}
use Rattle.fst_terms.specs.Terms.{plain_term}
use Rattle.fst_star.specs.Divided.{plain_division}
use Rattle.fst_star.proofs.DividingLemmas.{Prim-divisions, If-divisions, App-divisions, divisions-none, divisions-more}
use Rattle.fst_star.proofs.dividing.+add_divisions.Goals as goal

pub add_divisions-returns-in_ok-add_all-in-Prim : goal.add_divisions-returns-in_ok-add_all-in-Prim
add_divisions-returns-in_ok-add_all-in-Prim t c = on_ok_weaker c.add_own.result
    (Prim-divisions (map plain_term c.args.conditions.now) (map plain_division c.args.found.now) _ _ _ _ _ _ _ _ _ c.in-Prim.is c.as_slice.ensures c.as_slice-in-Prim.ensures c.in_ok-add_all-in-Prim.ensures) c.add_own.ensures

pub add_divisions-returns-in_ok-add_side-in-If : goal.add_divisions-returns-in_ok-add_side-in-If
add_divisions-returns-in_ok-add_side-in-If t c = on_ok_weaker c.add_other.result
    (If-divisions (map plain_term c.args.conditions.now) (map plain_division c.args.found.now) _ _ _ _ _ _ _ _ _ _ _ _ c.in-If.is c.get.ensures c.get-in-If-2.ensures c.get-in-If-4.ensures c.get-in-If.ensures c.get-in-If-3.ensures
    c.in_ok-add_divisions-in-If.ensures c.in_ok-add_side-in-If.ensures) c.add_other.ensures

pub add_divisions-returns-in-App : goal.add_divisions-returns-in-App
add_divisions-returns-in-App t c = on_ok_weaker c.add_all-in-App.result
    (App-divisions (map plain_term c.args.conditions.now) (map plain_division c.args.found.now) _ _ _ _ _ _ c.in-App.is c.as_slice-in-App.ensures) c.add_all-in-App.ensures

pub add_all-loop-term-init : goal.add_all-loop-term-init
add_all-loop-term-init t c = divisions-none (map plain_term c.args.conditions.now) (map plain_division c.args.found.now)

pub add_all-loop-term-preserved : goal.add_all-loop-term-preserved
add_all-loop-term-preserved t c = divisions-more (map plain_term c.args.conditions.now) (map plain_division c.args.found.now) c.args.terms.now c.loop-term.term-index c.term-item.result _ _
    c.loop-term-test.true c.term-item.is c.loop-term.invariant c.in_ok-add_divisions.ensures
