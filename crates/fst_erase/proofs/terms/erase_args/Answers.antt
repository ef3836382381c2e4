use Rattle.std.proofs.Common.{◌∙◌, ◌++◌, ◌+◌, map, reverse, sym, ap, arith}
use Rattle.fst_terms.specs.Terms.{plain_term}
use Rattle.fst_program.specs.Erasure.{erased_term}
use Rattle.fst_program.specs.Plain.{plain_param}
use Rattle.fst_erase.proofs.PartLemmas.{skipped, left-next, made-next, all-made, left_from}
use Rattle.fst_erase.proofs.terms.erase_args.Goals as goal

pub loop-at-preserved-then-is_hidden : goal.loop-at-preserved-then-is_hidden
loop-at-preserved-then-is_hidden c =
    let ps = map plain_param c.args.params.now in
    (c.loop-at.invariant.0, ap (λ r. map plain_term c.loop-at.made ++ r) (sym (skipped (reverse c.args.scope.now) ps c.args.args.now c.loop-at.at (omega (arith, c.loop-at-test.true)) (sym c.is_hidden.ensures ∙ c.if-is_hidden.true))) ∙ c.loop-at.invariant.1)

pub loop-at-preserved : goal.loop-at-preserved
loop-at-preserved c =
    let s = reverse c.args.scope.now in
    let ps = map plain_param c.args.params.now in
    let i = c.loop-at.at in
    let t = c.index-args-at.result in (
      c.erase_term.ensures.scope ∙ c.loop-at.invariant.0,
      made-next c.loop-at.made c.push.new.self c.in_ok-erase_term.field-0 (erased_term s (plain_term t)) (left_from s ps c.args.args.now i) (left_from s ps c.args.args.now (i + 1)) _ c.in_ok-push.ensures.ok
          (c.in_ok-erase_term.ensures.erased ∙ ap (λ xs. erased_term (reverse xs) (plain_term t)) c.loop-at.invariant.0)
          (left-next s ps c.args.args.now i t (omega (arith, c.loop-at-test.true)) c.index-args-at.is (sym c.is_hidden.ensures ∙ c.if-is_hidden.false)) c.loop-at.invariant.1,
    )

pub returns-clause-erased : goal.returns-clause-erased
returns-clause-erased c = all-made (reverse c.args.scope.now) (map plain_param c.args.params.now) c.args.args.now c.loop-at.made c.loop-at.at (omega (arith, c.loop-at-test.false)) c.loop-at.invariant.1
