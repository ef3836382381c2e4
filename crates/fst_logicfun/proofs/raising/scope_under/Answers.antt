use Rattle.fst_terms.proofs.PlainLemmas.{plain-term-Var}
use Rattle.fst_logicfun.proofs.PutLemmas.{scope-under}
use Rattle.fst_logicfun.proofs.raising.scope_under.Goals as goal

pub returns : goal.returns
returns c = scope-under c.args.scope.now _ c.push.new.self _ c.in_ok-inner.ensures c.in_ok-push.ensures.ok (plain-term-Var 0)
