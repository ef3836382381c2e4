use Rattle.std.proofs.Common.{reverse}
use Rattle.fst_erase.proofs.PartLemmas.{ok-of, prim-erased, app-erased}
use Rattle.fst_erase.proofs.terms.+erase.Goals as goal

pub erase_term-returns-in_ok-args-in-Prim-clause-erased : goal.erase_term-returns-in_ok-args-in-Prim-clause-erased
erase_term-returns-in_ok-args-in-Prim-clause-erased t c =
    let ok = c.in_ok-args-in-Prim.ensures.ok in
    prim-erased (reverse c.args.scope.now) c.args.term.now c.in-Prim.op _ _ c.in-Prim.args c.as_slice-in-Prim.result.now _ c.in-Prim.at c.in-Prim.is (ok-of c.copy.result _ _ ok.1 c.copy.ensures) c.as_slice-in-Prim.ensures
    (ok-of c.erase_terms-args.result _ _ ok.0 c.erase_terms-args.ensures.erased)

pub erase_term-returns-in_ok-args-in-App-clause-erased : goal.erase_term-returns-in_ok-args-in-App-clause-erased
erase_term-returns-in_ok-args-in-App-clause-erased t c =
    let ok = c.in_ok-args-in-App.ensures.ok in
    app-erased (reverse c.args.scope.now) c.args.term.now c.in-App.function _ _ c.in-App.args c.as_slice-in-App.result.now _ c.in-App.is (ok-of c.copy-in-App.result _ _ ok.1 c.copy-in-App.ensures) c.as_slice-in-App.ensures
    (ok-of c.erase_terms-args-in-App.result _ _ ok.0 c.erase_terms-args-in-App.ensures.erased)
