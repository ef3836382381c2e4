use Rattle.std.proofs.lemmas.Result.{IfOk-weaker}
use Rattle.fst_terms.specs.Formulas.{vars_from}
use Rattle.fst_logicfun.proofs.RoundLemmas.{all-by, cleared-by}
use Rattle.fst_logicfun.proofs.rounds.formulas.Goals as goal

pub returns : goal.returns
returns c =
    IfOk-weaker c.clear_all.result _ _
    (λ made e. cleared-by (vars_from 0 c.args.n) _ _ _ _ _ c.in_ok-scope.ensures c.as_slice-2.ensures (all-by c.args.sequent.now _ _ c.in_ok-all.ensures c.as_slice.ensures) e)
    c.clear_all.ensures.made
