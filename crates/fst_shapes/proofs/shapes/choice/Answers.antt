use Rattle.std.proofs.Common.{◌≡◌, Ok, refl}
use Rattle.std.proofs.lemmas.Result.{IfOk-at_ok}
use Rattle.fst_shapes.proofs.ShapeLemmas.{shapes-residual, choice-is}
use Rattle.fst_shapes.proofs.shapes.choice.Goals as goal

pub returns-in_err-test-clause-shapes : goal.returns-in_err-test-clause-shapes
returns-in_err-test-clause-shapes c = λ n k p q h i j. shapes-residual _ n c.from_residual.result _ c.from_residual.ensures.1

pub returns-clause-shapes : goal.returns-clause-shapes
returns-clause-shapes c = λ n.
    let front = IfOk-at_ok (λ p. (c.boxed.result ≡ Ok p.0) × (c.boxed-2.result ≡ Ok p.1)) c.in_ok-test.ensures.ok.0 c.pair-front.ensures.ok in
    choice-is n c.args.test c.args.left c.args.right _ _ _
    (IfOk-at_ok (λ made. c.args.test ≡ Ok made) front.0 c.boxed.ensures) (IfOk-at_ok (λ made. c.args.left ≡ Ok made) front.1 c.boxed-2.ensures)
    (IfOk-at_ok (λ made. c.args.right ≡ Ok made) c.in_ok-test.ensures.ok.1 c.boxed-3.ensures)

pub returns-clause-made : goal.returns-clause-made
returns-clause-made c =
    let front = IfOk-at_ok (λ p. (c.boxed.result ≡ Ok p.0) × (c.boxed-2.result ≡ Ok p.1)) c.in_ok-test.ensures.ok.0 c.pair-front.ensures.ok in
    record {
      first = _;
      second = _;
      third = _;
      test_is = IfOk-at_ok (λ made. c.args.test ≡ Ok made) front.0 c.boxed.ensures;
      left_is = IfOk-at_ok (λ made. c.args.left ≡ Ok made) front.1 c.boxed-2.ensures;
      right_is = IfOk-at_ok (λ made. c.args.right ≡ Ok made) c.in_ok-test.ensures.ok.1 c.boxed-3.ensures;
      is = refl;
    }
