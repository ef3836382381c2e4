use Rattle.fst_cells.proofs.MakeLemmas.{both-pairs, both-conses, both-justs, both-lefts, both-rights}
use Rattle.fst_cells.proofs.cell.Node.compare.Goals as goal

pub returns-in-Pair-other-clause-is : goal.returns-in-Pair-other-clause-is
returns-in-Pair-other-clause-is c = λ m v w k l. both-pairs m c.in-Pair.a c.in-Pair.b c.in-Pair-other.c c.in-Pair-other.d c.args.self c.args.other v w c.in-Pair.is c.in-Pair-other.is k l

pub returns-in-Cons-other-clause-is : goal.returns-in-Cons-other-clause-is
returns-in-Cons-other-clause-is c = λ m v w k l. both-conses m c.in-Cons.a c.in-Cons.b c.in-Cons-other.c c.in-Cons-other.d c.args.self c.args.other v w c.in-Cons.is c.in-Cons-other.is k l

pub returns-in-Just-other-clause-is : goal.returns-in-Just-other-clause-is
returns-in-Just-other-clause-is c = λ m v w k l. both-justs m c.in-Just.a c.in-Just-other.b c.args.self c.args.other v w c.in-Just.is c.in-Just-other.is k l

pub returns-in-Left-other-clause-is : goal.returns-in-Left-other-clause-is
returns-in-Left-other-clause-is c = λ m v w k l. both-lefts m c.in-Left.a c.in-Left-other.b c.args.self c.args.other v w c.in-Left.is c.in-Left-other.is k l

pub returns-in-Right-other-clause-is : goal.returns-in-Right-other-clause-is
returns-in-Right-other-clause-is c = λ m v w k l. both-rights m c.in-Right.a c.in-Right-other.b c.args.self c.args.other v w c.in-Right.is c.in-Right-other.is k l
