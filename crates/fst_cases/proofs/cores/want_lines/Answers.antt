use Rattle.std.proofs.Common.{arith}
use Rattle.fst_cases.proofs.CitedLemmas.{lines-more}
use Rattle.fst_cases.proofs.cores.want_lines.Goals as goal

pub loop-line-preserved : goal.loop-line-preserved
loop-line-preserved c = record {
  kept = λ b. let x = c.loop-line.invariant.kept b in let y = c.want_line.ensures.kept b in omega (arith, x, y);
  read = lines-more c.loop-line.wants c.want_line.new.wants c.want_line.ensures.kept c.args.lines.now c.loop-line.line-index c.line-item.result c.loop-line-test.true c.line-item.is c.loop-line.invariant.read c.want_line.ensures.read;
}
