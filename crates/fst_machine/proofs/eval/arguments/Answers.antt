use Rattle.std.proofs.Common.{◌∙◌, ◌+◌, drop, ap, subst, Err}
use Rattle.std.proofs.lemmas.Result.{err_from_is_err_and}
use Rattle.fst_machine.proofs.MemoryLemmas.{chain-kept, kept-then}
use Rattle.fst_machine.proofs.ArgumentLemmas.{Given, given-next, given-stop, drop-item}
use Rattle.fst_machine.proofs.eval.arguments.Goals as goal

pub returns-in_err-cell-clause-chain : goal.returns-in_err-cell-clause-chain
returns-in_err-cell-clause-chain c = λ e k.
    let ts = c.args.args.now in
    let i = c.loop-arg.arg-index in
    let q = drop-item ts i c.arg-item.result c.loop-arg-test.true c.arg-item.is in
    let p = err_from_is_err_and c.from_residual.result c.from_residual.ensures.1 in
    given-stop c.loop-arg.memory c.eval.new.memory c.loop-arg.inner e ts (drop (i + 1) ts) c.arg-item.result c.from_residual.result c.in_err-cell.field-0.0 (p.1 ∙ ap Err p.2)
    (subst (Given c.loop-arg.memory c.loop-arg.inner e ts) q (c.loop-arg.invariant.1 e k)) (c.in_err-cell.ensures.value e (chain-kept c.args.memory.now c.loop-arg.memory c.args.env e c.loop-arg.invariant.0 k))

pub loop-arg-preserved : goal.loop-arg-preserved
loop-arg-preserved c =
    let ts = c.args.args.now in
    let i = c.loop-arg.arg-index in
    let m = c.loop-arg.memory in
    let m1 = c.eval.new.memory in
    let m2 = c.link.new.self in
    let q = drop-item ts i c.arg-item.result c.loop-arg-test.true c.arg-item.is in
    let n = c.in_ok-cell.ensures.kept in (
      kept-then c.args.memory.now m m2 c.loop-arg.invariant.0 (kept-then m m1 m2 n c.in_ok-inner.ensures.kept),
      λ e k. given-next m m1 m2 c.loop-arg.inner c.in_ok-inner.inner c.in_ok-cell.cell e ts (drop (i + 1) ts) c.arg-item.result (subst (Given m c.loop-arg.inner e ts) q (c.loop-arg.invariant.1 e k)) n
          (c.in_ok-cell.ensures.value e (chain-kept c.args.memory.now m c.args.env e c.loop-arg.invariant.0 k)) c.in_ok-inner.ensures.chain,
    )
