use Rattle.fst_base.specs.Values.{v_pair}
use Rattle.fst_cells.proofs.MakeLemmas.{pair-node}
use Rattle.fst_cells.proofs.store.Store.pair.Goals as goal

pub returns-clause-cell : goal.returns-clause-cell
returns-clause-cell c = λ v w k l. c.add.ensures.cell (v_pair v w) (pair-node c.args.self.now c.args.first c.args.second v w k l)
