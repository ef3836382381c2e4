use Rattle.fst_cells.proofs.TreeLemmas.{one-tree}
use Rattle.fst_cells.proofs.laws.one_tree.Goals as goal

pub returns : goal.returns
returns c = λ v w k l. one-tree c.args.store.now c.args.cell v w k l
