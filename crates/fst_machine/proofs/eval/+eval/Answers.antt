use Rattle.std.proofs.Common.{◌∙◌, sym, ap, subst, true, Ok}
use Rattle.fst_terms.specs.Terms.{plain_term}
use Rattle.fst_terms.proofs.PlainLemmas.{plain-term-If}
use Rattle.fst_program.specs.Evaluation.{Got, eval}
use Rattle.fst_terms.specs.declared.term.Term.{Term}
use Rattle.fst_machine.specs.Stops.{Gives}
use Rattle.fst_machine.proofs.MemoryLemmas.{chain-kept, kept-then}
use Rattle.std.proofs.Common.{◌+◌, drop, Err}
use Rattle.std.proofs.lemmas.Result.{err_from_is_err_and}
use Rattle.fst_machine.proofs.ArgumentLemmas.{drop-item}
use Rattle.fst_machine.proofs.OperandLemmas.{Given, given-next, given-stop}
use Rattle.fst_machine.proofs.EvalLemmas.{gives-true, gives-false}
use Rattle.fst_machine.proofs.eval.+eval.Goals as goal

pub eval-returns-then-is_true-clause-value : goal.eval-returns-then-is_true-clause-value
eval-returns-then-is_true-clause-value t c = λ e k.
    let m' = c.eval-then-is_true.new.memory in
    let r = c.eval-then-is_true.result in
    let ev : Term → Got = λ u. eval true (plain_term u) e in
    let test : Gives c.eval.new.memory (Ok c.in_ok-test-in-If.test) (ev c.in-If.test) = subst (λ u. Gives c.eval.new.memory (Ok c.in_ok-test-in-If.test) (ev u)) c.get.ensures (c.in_ok-test-in-If.ensures.value e k) in
    let side : Gives m' r (ev c.in-If.left) = subst (λ u. Gives m' r (ev u)) c.get-then-is_true.ensures (c.eval-then-is_true.ensures.value e (chain-kept c.args.memory.now c.eval.new.memory c.args.env e c.in_ok-test-in-If.ensures.kept k)) in
    subst (λ u. Gives m' r (eval true u e)) (sym (ap plain_term c.in-If.is ∙ plain-term-If c.in-If.test c.in-If.left c.in-If.right))
    (gives-true c.eval.new.memory m' c.in_ok-test-in-If.test (ev c.in-If.test) (ev c.in-If.left) (ev c.in-If.right) r test (λ v h. sym c.if-is_true.true ∙ c.is_true.ensures v h) side)

pub eval-returns-else-is_true-clause-value : goal.eval-returns-else-is_true-clause-value
eval-returns-else-is_true-clause-value t c = λ e k.
    let m' = c.eval-else-is_true.new.memory in
    let r = c.eval-else-is_true.result in
    let ev : Term → Got = λ u. eval true (plain_term u) e in
    let test : Gives c.eval.new.memory (Ok c.in_ok-test-in-If.test) (ev c.in-If.test) = subst (λ u. Gives c.eval.new.memory (Ok c.in_ok-test-in-If.test) (ev u)) c.get.ensures (c.in_ok-test-in-If.ensures.value e k) in
    let side : Gives m' r (ev c.in-If.right) = subst (λ u. Gives m' r (ev u)) c.get-else-is_true.ensures (c.eval-else-is_true.ensures.value e (chain-kept c.args.memory.now c.eval.new.memory c.args.env e c.in_ok-test-in-If.ensures.kept k)) in
    subst (λ u. Gives m' r (eval true u e)) (sym (ap plain_term c.in-If.is ∙ plain-term-If c.in-If.test c.in-If.left c.in-If.right))
    (gives-false c.eval.new.memory m' c.in_ok-test-in-If.test (ev c.in-If.test) (ev c.in-If.left) (ev c.in-If.right) r test (λ v h. sym c.if-is_true.false ∙ c.is_true.ensures v h) side)

pub operands-returns-in_err-cell-clause-value : goal.operands-returns-in_err-cell-clause-value
operands-returns-in_err-cell-clause-value t c = λ e k.
    let ts = c.args.args.now in
    let i = c.loop-arg.arg-index in
    let q = drop-item ts i c.arg-item.result c.loop-arg-test.true c.arg-item.is in
    let p = err_from_is_err_and c.from_residual.result c.from_residual.ensures.1 in
    given-stop c.loop-arg.memory c.eval.new.memory c.loop-arg.operands e ts (drop (i + 1) ts) c.arg-item.result c.from_residual.result c.in_err-cell.field-0.0 (p.1 ∙ ap Err p.2)
    (subst (Given c.loop-arg.memory c.loop-arg.operands e ts) q (c.loop-arg.invariant.1 e k)) (c.in_err-cell.ensures.value e (chain-kept c.args.memory.now c.loop-arg.memory c.args.env e c.loop-arg.invariant.0 k))

pub operands-loop-arg-preserved : goal.operands-loop-arg-preserved
operands-loop-arg-preserved t c =
    let ts = c.args.args.now in
    let i = c.loop-arg.arg-index in
    let m = c.loop-arg.memory in
    let m1 = c.eval.new.memory in
    let q = drop-item ts i c.arg-item.result c.loop-arg-test.true c.arg-item.is in
    let n = c.in_ok-cell.ensures.kept in (
      kept-then c.args.memory.now m m1 c.loop-arg.invariant.0 n,
      λ e k. given-next m m1 c.loop-arg.operands c.with-operands.result c.in_ok-cell.cell e ts (drop (i + 1) ts) c.arg-item.result (subst (Given m c.loop-arg.operands e ts) q (c.loop-arg.invariant.1 e k)) n
          (c.in_ok-cell.ensures.value e (chain-kept c.args.memory.now m c.args.env e c.loop-arg.invariant.0 k)) (λ v vs h j. c.with-operands.ensures m1.store v vs h j),
    )
