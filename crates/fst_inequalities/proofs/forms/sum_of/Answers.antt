use Rattle.fst_inequalities.proofs.FormLemmas.{past-of, sum-made, sum-wide-left, sum-wide-right, wide-result}
use Rattle.fst_inequalities.proofs.forms.sum_of.Goals as goal

pub returns-in_err-left : goal.returns-in_err-left
returns-in_err-left c = λ f t u S at g h. wide-result f _ c.from_residual.result _ c.from_residual.ensures.1 (λ q. sum-wide-left f t u S at c.args.minus (past-of f t c.args.left _ c.in_err-left.was g q))

pub returns-in_err-right : goal.returns-in_err-right
returns-in_err-right c = λ f t u S at g h. wide-result f _ c.from_residual-in_err-right.result _ c.from_residual-in_err-right.ensures.1 (λ q. sum-wide-right f t u S at c.args.minus (past-of f u c.args.right _ c.in_err-right.was h q))

pub returns : goal.returns
returns c = sum-made c.args.left c.args.right c.plus.result _ _ c.in_ok-left.was c.in_ok-right.was c.args.minus c.plus.ensures.ok c.plus.ensures.ordered c.plus.ensures.narrow c.plus.ensures.past
