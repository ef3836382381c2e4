use Rattle.std.proofs.Common.{◌+◌, drop, subst}
use Rattle.fst_machine.proofs.ArgumentLemmas.{drop-item}
use Rattle.fst_machine.proofs.MemoryLemmas.{kept-then}
use Rattle.fst_machine.proofs.MachineLemmas.{Linked, linked-next}
use Rattle.fst_machine.proofs.machine.put_arguments.Goals as goal

pub loop-arg-preserved : goal.loop-arg-preserved
loop-arg-preserved c =
    let xs = c.args.args.now in
    let i = c.loop-arg.arg-index in
    let m = c.loop-arg.memory in
    let m1 = c.put.new.self in
    let m2 = c.link.new.self in
    let q = drop-item xs i c.arg-item.result c.loop-arg-test.true c.arg-item.is in
    let n = c.in_ok-cell.ensures.kept in (
      kept-then c.args.memory.now m m2 c.loop-arg.invariant.0 (kept-then m m1 m2 n c.in_ok-env.ensures.kept),
      linked-next m m1 m2 c.loop-arg.env c.in_ok-env.env c.in_ok-cell.cell xs (drop (i + 1) xs) c.arg-item.result (subst (Linked m c.loop-arg.env xs) q c.loop-arg.invariant.1) n c.in_ok-cell.ensures.cell c.in_ok-env.ensures.chain,
    )
