use Rattle.fst_base.specs.Values.{v_inl}
use Rattle.fst_cells.proofs.MakeLemmas.{left-node}
use Rattle.fst_cells.proofs.store.Store.left.Goals as goal

pub returns-clause-cell : goal.returns-clause-cell
returns-clause-cell c = λ v k. c.add.ensures.cell (v_inl v) (left-node c.args.self.now c.args.part v k)
