use Rattle.fst_code.proofs.ListLemmas.{prim-by, app-by, below}
use Rattle.fst_code.proofs.term.+within.Goals as goal

pub term_within-returns-in-Prim : goal.term_within-returns-in-Prim
term_within-returns-in-Prim t c = λ n s. prim-by n c.args.funs _ _ _ _ _ _ _ c.in-Prim.is c.as_slice.ensures (c.terms_within.ensures n s)

pub term_within-returns-then-function-funs : goal.term_within-returns-then-function-funs
term_within-returns-then-function-funs t c = λ n s. app-by n c.args.funs _ _ _ _ _ _ c.in-App.is c.as_slice-then-function-funs.ensures (below _ _ c.if-function-funs.true) (c.terms_within-then-function-funs.ensures n s)
