use Rattle.fst_inequalities.proofs.FormLemmas.{past-of, negation-made, negation-wide, wide-result}
use Rattle.fst_inequalities.proofs.forms.negation.Goals as goal

pub returns-in_err-arg : goal.returns-in_err-arg
returns-in_err-arg c = λ f t S at g. wide-result f _ c.from_residual.result _ c.from_residual.ensures.1 (λ q. negation-wide f t S at (past-of f t c.args.arg _ c.in_err-arg.was g q))

pub returns : goal.returns
returns c = negation-made c.args.arg c.scaled.result _ c.in_ok-arg.was c.scaled.ensures.ok c.scaled.ensures.ordered c.scaled.ensures.narrow c.scaled.ensures.past
