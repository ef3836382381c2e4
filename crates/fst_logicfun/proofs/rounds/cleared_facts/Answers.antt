use Rattle.std.proofs.lemmas.Result.{IfOk-weaker}
use Rattle.fst_terms.specs.Formulas.{vars_from}
use Rattle.fst_logicfun.proofs.RoundLemmas.{cleared-by}
use Rattle.fst_logicfun.proofs.rounds.cleared_facts.Goals as goal

pub returns : goal.returns
returns c =
    IfOk-weaker c.clear_all.result _ _ (λ made e. cleared-by (vars_from 0 c.args.n) _ _ _ _ _ c.in_ok-scope.ensures c.as_slice.ensures c.in_ok-facts.ensures e) c.clear_all.ensures.made
