use Rattle.std.proofs.Common.{arith}
use Rattle.fst_text.proofs.ScanLemmas.{tokens_from-in_order}
use Rattle.fst_text.proofs.scanner.Scanner.new.Goals as goal

pub returns-clause-order : goal.returns-clause-order
returns-clause-order c = tokens_from-in_order c.args.bytes.now 0 (omega arith)
