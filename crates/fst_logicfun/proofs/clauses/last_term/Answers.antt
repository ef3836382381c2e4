use Rattle.std.proofs.Common.{◌≡◌, ap, ◌∙◌, arith}
use Rattle.std.proofs.lemmas.Result.{IfOk-weaker, IfOk-at_ok}
use Rattle.fst_terms.specs.Terms.{plain_term}
use Rattle.fst_logicfun.proofs.ClauseLemmas.{last-term}
use Rattle.fst_logicfun.proofs.clauses.last_term.Goals as goal

pub returns : goal.returns
returns c =
    IfOk-weaker c.boxed.result _ _
    (λ made e. ap plain_term (IfOk-at_ok (λ t. t ≡ c.index-args-end.result) e c.copy.ensures ∙ c.index-args-end.is) ∙ last-term c.args.args.now _ _ (omega arith) (omega arith))
    c.boxed.ensures
