use Rattle.std.proofs.Common.{rules}
use Rattle.fst_cells.proofs.OperandLemmas.{filled-second}
use Rattle.fst_cells.proofs.operands.Operands.with.Goals as goal

pub returns-then-is_none-2 : goal.returns-then-is_none-2
returns-then-is_none-2 c = λ m v vs h k. filled-second m c.args.self.first c.args.self.second c.args.cell v vs (search rules) (search rules) h k
