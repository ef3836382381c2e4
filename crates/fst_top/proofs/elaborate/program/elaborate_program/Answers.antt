use Rattle.std.proofs.Common.{arith}
use Rattle.fst_top.proofs.FunctionLemmas.{program-of}
use Rattle.fst_top.proofs.elaborate.program.elaborate_program.Goals as goal

pub returns : goal.returns
returns c = rw (c.new.ensures, c.new-2.ensures) (program-of c.args.decls.now c.in_ok-funs.funs (omega (arith, c.if-decls-gt-MOST_FUNS.false)) c.in_ok-funs.ensures)
