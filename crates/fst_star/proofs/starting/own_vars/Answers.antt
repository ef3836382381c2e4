use Rattle.std.proofs.Common.{◌∙◌}
use Rattle.std.proofs.lemmas.Result.{IfOk-weaker}
use Rattle.fst_star.proofs.StartingLemmas.{own-vars-by}
use Rattle.fst_star.proofs.starting.own_vars.Goals as goal

pub returns : goal.returns
returns c = IfOk-weaker c.vars_from.result _ _ (λ made e. e ∙ own-vars-by c.args.fun.now _ _ _ c.first_own.ensures c.in_ok-count.ensures c.len.ensures) c.vars_from.ensures
