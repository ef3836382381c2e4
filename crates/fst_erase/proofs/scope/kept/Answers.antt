use Rattle.std.proofs.Common.{reverse, take, arith}
use Rattle.fst_erase.proofs.ScopeLemmas.{kept-here}
use Rattle.fst_erase.proofs.scope.kept.Goals as goal

pub returns : goal.returns
returns c = kept-here (reverse (take c.variables.at c.args.scope.now)) c.variables.left c.variables.shown _ (omega (arith, c.variables-test.false)) c.variables.invariant.2
