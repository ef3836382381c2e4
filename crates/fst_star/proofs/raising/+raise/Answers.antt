use Rattle.fst_terms.proofs.PartLemmas.{shift-Prim-by, shift-App-by}
use Rattle.fst_terms.proofs.PrepareLemmas.{given}
use Rattle.fst_star.proofs.raising.+raise.Goals as goal

pub raise-returns-in_ok-args-in-Prim : goal.raise-returns-in_ok-args-in-Prim
raise-returns-in_ok-args-in-Prim t c =
    let ok = c.in_ok-args-in-Prim.ensures.ok in
    shift-Prim-by _ _ _ _ _ _ _ _ _ _ c.in-Prim.is (given _ c.copy.result _ c.copy.ensures ok.1) c.as_slice.ensures (given _ c.raise_all.result _ c.raise_all.ensures ok.0)

pub raise-returns-in_ok-args-in-App : goal.raise-returns-in_ok-args-in-App
raise-returns-in_ok-args-in-App t c =
    let ok = c.in_ok-args-in-App.ensures.ok in
    shift-App-by _ _ _ _ _ _ _ _ _ c.in-App.is (given _ c.copy-in-App.result _ c.copy-in-App.ensures ok.1) c.as_slice-in-App.ensures (given _ c.raise_all-in-App.result _ c.raise_all-in-App.ensures ok.0)
