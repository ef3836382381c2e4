use Rattle.std.proofs.Common.{◌≡◌, Ok}
use Rattle.std.proofs.lemmas.Result.{IfOk-at_ok}
use Rattle.fst_shapes.proofs.ShapeLemmas.{shapes-residual, agreement-is}
use Rattle.fst_shapes.proofs.shapes.agreement.Goals as goal

pub returns-in_err-left : goal.returns-in_err-left
returns-in_err-left c = λ n p q h i. shapes-residual _ n c.from_residual.result _ c.from_residual.ensures.1

pub returns : goal.returns
returns c = λ n.
    agreement-is n c.args.left c.args.right _ _
    (IfOk-at_ok (λ made. c.args.left ≡ Ok made) c.in_ok-left.ensures.ok.0 c.boxed.ensures) (IfOk-at_ok (λ made. c.args.right ≡ Ok made) c.in_ok-left.ensures.ok.1 c.boxed-2.ensures)
