use Rattle.std.proofs.Common.{◌≡◌, [], FitsSigned, rules}
use Rattle.std.proofs.lemmas.Int.{to_z-of_z}
use mir.Syntax.{w128}
use Rattle.fst_inequalities.proofs.FormLemmas.{past-of, left-made, right-made, opaque-made, product-wide-left, product-wide-right, wide-result}
use Rattle.fst_inequalities.proofs.forms.product.Goals as goal

pub returns-in_err-left : goal.returns-in_err-left
returns-in_err-left c = λ f t u S at g h o. wide-result f _ c.from_residual.result _ c.from_residual.ensures.1 (λ q. product-wide-left f t u S at (past-of f t c.args.left _ c.in_err-left.was g q))

pub returns-in_err-right : goal.returns-in_err-right
returns-in_err-right c = λ f t u S at g h o. wide-result f _ c.from_residual-in_err-right.result _ c.from_residual-in_err-right.ensures.1 (λ q. product-wide-right f t u S at (past-of f u c.args.right _ c.in_err-right.was h q))

pub returns-then-is_empty : goal.returns-then-is_empty
returns-then-is_empty c =
    let fits : FitsSigned w128 c.in_ok-left.left.constant = search rules in
    let none : c.in_ok-left.left.coefs ≡ [] = search rules in
    let ok = simp to_z-of_z at c.scaled.ensures.ok in
    let narrow = simp to_z-of_z at c.scaled.ensures.narrow in
    let past = simp to_z-of_z at c.scaled.ensures.past in
    λ f t u S at g h o. left-made c.args.left c.args.right c.scaled.result _ _ c.in_ok-left.was c.in_ok-right.was none ok c.scaled.ensures.ordered narrow past f t u S at g h

pub returns-then-is_empty-2 : goal.returns-then-is_empty-2
returns-then-is_empty-2 c =
    let some : c.in_ok-left.left.coefs ≡ [] → ⊥ = search rules in
    let none : c.in_ok-right.right.coefs ≡ [] = search rules in
    let fits : FitsSigned w128 c.in_ok-right.right.constant = search rules in
    let ok = simp to_z-of_z at c.scaled-then-is_empty-2.ensures.ok in
    let narrow = simp to_z-of_z at c.scaled-then-is_empty-2.ensures.narrow in
    let past = simp to_z-of_z at c.scaled-then-is_empty-2.ensures.past in
    λ f t u S at g h o.
    right-made c.args.left c.args.right c.scaled-then-is_empty-2.result _ _ c.in_ok-left.was c.in_ok-right.was some none ok c.scaled-then-is_empty-2.ensures.ordered narrow past f t u S at g h

pub returns : goal.returns
returns c =
    let some : c.in_ok-left.left.coefs ≡ [] → ⊥ = search rules in
    let more : c.in_ok-right.right.coefs ≡ [] → ⊥ = search rules in
    opaque-made c.args.left c.args.right c.args.opaque _ _ c.in_ok-left.was c.in_ok-right.was some more
