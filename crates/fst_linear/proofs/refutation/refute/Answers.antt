use Rattle.std.proofs.Common.{arith}
use Rattle.fst_linear.specs.Values.{values_of}
use Rattle.fst_linear.proofs.StartLemmas.{witnessed}
use Rattle.fst_linear.proofs.refutation.refute.Goals as goal

pub returns-then-solves-clause-answered : goal.returns-then-solves-clause-answered
returns-then-solves-clause-answered c =
    let h = rw (c.as_slice-given.ensures) at (c.solves.ensures c.if-solves.true) in
    witnessed c.args.rows.now c.in-Values.scale (values_of c.as_slice-then-scale-gt0.result.now) (omega arith) h
