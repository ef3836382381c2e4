use Rattle.fst_scopes.proofs.PuttingLemmas.{at-Prim-by, at-App-by}
use Rattle.fst_scopes.proofs.sort_putting.+term_at.Goals as goal

pub term_at-returns-in_ok-put_sorts-in-Prim : goal.term_at-returns-in_ok-put_sorts-in-Prim
term_at-returns-in_ok-put_sorts-in-Prim t c = at-Prim-by _ _ _ _ _ _ _ _ _ _ c.in-Prim.is c.as_slice.ensures c.in_ok-put_sorts-in-Prim.ensures c.in_ok-args-in-Prim.ensures

pub term_at-returns-in_ok-put_sorts-in-App : goal.term_at-returns-in_ok-put_sorts-in-App
term_at-returns-in_ok-put_sorts-in-App t c = at-App-by _ _ _ _ _ _ _ _ _ c.in-App.is c.as_slice-in-App.ensures c.in_ok-put_sorts-in-App.ensures c.in_ok-args-in-App.ensures
