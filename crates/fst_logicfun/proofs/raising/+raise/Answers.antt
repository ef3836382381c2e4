use Rattle.fst_terms.proofs.PartLemmas.{shift-Prim-by, shift-App-by}
use Rattle.fst_logicfun.proofs.raising.+raise.Goals as goal

pub raise-returns-in_ok-copy-in-Prim : goal.raise-returns-in_ok-copy-in-Prim
raise-returns-in_ok-copy-in-Prim t c = shift-Prim-by _ _ _ _ _ _ _ _ _ _ c.in-Prim.is c.in_ok-copy-in-Prim.ensures c.as_slice.ensures c.in_ok-args-in-Prim.ensures

pub raise-returns-in_ok-copy-in-App : goal.raise-returns-in_ok-copy-in-App
raise-returns-in_ok-copy-in-App t c = shift-App-by _ _ _ _ _ _ _ _ _ c.in-App.is c.in_ok-copy-in-App.ensures c.as_slice-in-App.ensures c.in_ok-args-in-App.ensures
