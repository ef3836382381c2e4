use Rattle.std.proofs.Common.{arith, drop}
use Rattle.fst_rows.proofs.DivisorLemmas.{cons-of}
use Rattle.fst_rows.proofs.MergeLemmas.{Before-none}
use Rattle.fst_rows.proofs.turn.next.Goals as goal

pub returns-in-len1-up-b : goal.returns-in-len1-up-b
returns-in-len1-up-b c = (drop 1 c.args.b.now, cons-of c.args.b.now _ (omega arith), Before-none _ c.args.a.now (omega arith))

pub returns-in-empty-b-2 : goal.returns-in-empty-b-2
returns-in-empty-b-2 c = (drop 1 c.args.a.now, cons-of c.args.a.now _ (omega arith), Before-none _ c.args.b.now (omega arith))
