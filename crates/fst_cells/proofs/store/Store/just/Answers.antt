use Rattle.fst_base.specs.Values.{v_some}
use Rattle.fst_cells.proofs.MakeLemmas.{just-node}
use Rattle.fst_cells.proofs.store.Store.just.Goals as goal

pub returns-clause-cell : goal.returns-clause-cell
returns-clause-cell c = λ v k. c.add.ensures.cell (v_some v) (just-node c.args.self.now c.args.part v k)
