use Rattle.std.proofs.Common.{◌≡◌, Ok}
use Rattle.std.proofs.lemmas.Result.{IfOk-at_ok}
use Rattle.fst_logicfun.proofs.BuildingLemmas.{makes-residual, choice-by}
use Rattle.fst_logicfun.proofs.building.choice.Goals as goal

pub returns-in_err-test : goal.returns-in_err-test
returns-in_err-test c = λ d e f g h i. makes-residual _ c.from_residual.result _ c.from_residual.ensures.1

pub returns : goal.returns
returns c =
    let front = IfOk-at_ok (λ p. (c.boxed.result ≡ Ok p.0) × (c.boxed-2.result ≡ Ok p.1)) c.in_ok-test.ensures.ok.0 c.pair-front.ensures.ok in
    choice-by c.args.test c.args.left c.args.right _ _ _
    (IfOk-at_ok (λ made. c.args.test ≡ Ok made) front.0 c.boxed.ensures) (IfOk-at_ok (λ made. c.args.left ≡ Ok made) front.1 c.boxed-2.ensures)
    (IfOk-at_ok (λ made. c.args.right ≡ Ok made) c.in_ok-test.ensures.ok.1 c.boxed-3.ensures)
